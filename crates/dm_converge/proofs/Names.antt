-- The names of what a split puts in front, and what a context names.
use Rattle.std.proofs.Common.{◌≡◌, ◌⊎◌, List, [], ◌∷◌, ◌++◌, inl, inr, refl, sym, ap₂, ◌∙◌}
use Rattle.std.specs.List.{Contains}
use Rattle.std.proofs.lemmas.List.Elements.{Contains-append_left, Contains-append_right, Contains-append_cases}
use Rattle.dm_info.specs.PatchInfo.{PatchInfo}
use Rattle.dm_prim.specs.Rectangles.{CellRow, none, next}
use Rattle.dm_prim.specs.InTurn.{step}
use Rattle.dm_named.specs.Patches.{Patch}
use Rattle.dm_bundle.specs.Patches.{infos_of, Distinct}
use Rattle.dm_repo.specs.Staircases.{Split, nothing, stays, yields}
use Rattle.dm_repo.specs.Squares.{Placed, patches, PlacedCommutes}
use Rattle.dm_repo.specs.Repositories.{Holds}
use Rattle.dm_repo.specs.CommonSets.{Closed, given, needed}
use Rattle.dm_repo.proofs.Members.{here, more, one_of, none_of}
use Rattle.dm_facts.specs.Nodes.{NodeMap}
use Rattle.dm_converge.specs.Meanings.{Meaning, Runs}

strip_infos : {x x' : Placed} {ys ys' : List Placed} → CellRow PlacedCommutes x ys ys' x' → infos_of (patches ys') ≡ infos_of (patches ys)
strip_infos none = refl
strip_infos (next c s) = ap₂ (λ a b. a ∷ b) c.commutes.y_stays.info (strip_infos s)

strip_name : {x x' : Placed} {ys ys' : List Placed} → CellRow PlacedCommutes x ys ys' x' → x'.1.info ≡ x.1.info
strip_name none = refl
strip_name (next c s) = strip_name s ∙ c.commutes.x_stays.info

-- where the set is one of names
module _ (Q : PatchInfo → Type 0) where
  abbrev pub IsNamed : Placed → Type 0
  IsNamed x = Q x.1.info

  pub front_among : {xs front rest : List Placed} → Split PlacedCommutes IsNamed xs front rest → (i : PatchInfo) → Contains (infos_of (patches front)) i →
      Contains (infos_of (patches xs)) i × Q i
  front_among nothing i k = absurd (none_of k)
  front_among (stays {h} {xs} {front} q s) i k = elim (one_of h.1.info (infos_of (patches front)) k) [
    | inl e ↦ rw (← e) (here h.1.info (infos_of (patches xs)), q)
    | inr c ↦ let a = front_among s i c in (more h.1.info (infos_of (patches xs)) a.0, a.1)
  ]
  front_among (yields {r} {xs} o s t) i k = let a = front_among s i (rw (strip_infos t) at k) in (more r.1.info (infos_of (patches xs)) a.0, a.1)

  pub front_has : {xs front rest : List Placed} → Split PlacedCommutes IsNamed xs front rest → (i : PatchInfo) → Contains (infos_of (patches xs)) i → Q i →
      Contains (infos_of (patches front)) i
  front_has nothing i k q = k
  front_has (stays {h} {xs} {front} p s) i k q = elim (one_of h.1.info (infos_of (patches xs)) k) [
    | inl e ↦ rw (← e) (here h.1.info (infos_of (patches front)))
    | inr c ↦ more h.1.info (infos_of (patches front)) (front_has s i c q)
  ]
  front_has (yields {r} {xs} o s t) i k q = rw (strip_infos t) (elim (one_of r.1.info (infos_of (patches xs)) k) [
    | inl e ↦ absurd (o (rw e q))
    | inr c ↦ front_has s i c q
  ])

  pub front_distinct : {xs front rest : List Placed} → Split PlacedCommutes IsNamed xs front rest → Distinct (infos_of (patches xs)) → Distinct (infos_of (patches front))
  front_distinct nothing d = d
  front_distinct (stays {h} q s) d = (λ k. d.0 (front_among s h.1.info k).0, front_distinct s d.1)
  front_distinct (yields o s t) d = rw (strip_infos t) (front_distinct s d.1)

  pub rest_among : {xs front rest : List Placed} → Split PlacedCommutes IsNamed xs front rest → (i : PatchInfo) → Contains (infos_of (patches rest)) i → Contains (infos_of (patches xs)) i
  rest_among nothing i k = k
  rest_among (stays {h} {xs} q s) i k = more h.1.info (infos_of (patches xs)) (rest_among s i k)
  rest_among (yields {r} {r'} {xs} {rest} o s t) i k = elim (one_of r'.1.info (infos_of (patches rest)) k) [
    | inl e ↦ rw (← e, strip_name t) (here r.1.info (infos_of (patches xs)))
    | inr c ↦ more r.1.info (infos_of (patches xs)) (rest_among s i c)
  ]

  pub rest_has : {xs front rest : List Placed} → Split PlacedCommutes IsNamed xs front rest → (i : PatchInfo) → Contains (infos_of (patches xs)) i → (Q i → ⊥) →
      Contains (infos_of (patches rest)) i
  rest_has nothing i k n = k
  rest_has (stays {h} {xs} q s) i k n = elim (one_of h.1.info (infos_of (patches xs)) k) [ inl e ↦ absurd (n (rw (← e) q)) | inr c ↦ rest_has s i c n ]
  rest_has (yields {r} {r'} {xs} {rest} o s t) i k n = elim (one_of r.1.info (infos_of (patches xs)) k) [
    | inl e ↦ rw (← e, ← strip_name t) (here r'.1.info (infos_of (patches rest)))
    | inr c ↦ more r'.1.info (infos_of (patches rest)) (rest_has s i c n)
  ]

-- lists of distinct names
pub distinct_right : (xs ys : List PatchInfo) → Distinct (xs ++ ys) → Distinct ys
distinct_right [] ys d = d
distinct_right (x ∷ xs) ys d = distinct_right xs ys d.1

pub distinct_left : (xs ys : List PatchInfo) → Distinct (xs ++ ys) → Distinct xs
distinct_left [] ys d = tt
distinct_left (x ∷ xs) ys d = (λ k. d.0 (Contains-append_left xs ys x k), distinct_left xs ys d.1)

pub distinct_apart : (xs ys : List PatchInfo) → Distinct (xs ++ ys) → (i : PatchInfo) → Contains xs i → Contains ys i → ⊥
distinct_apart [] ys d i c k = absurd (none_of c)
distinct_apart (x ∷ xs) ys d i c k = elim (one_of x xs c) [ inl e ↦ d.0 (Contains-append_right xs ys x (rw e k)) | inr h ↦ distinct_apart xs ys d.1 i h k ]

pub distinct_part : (xs ys zs : List PatchInfo) → Distinct (xs ++ ys) → Distinct zs → ((i : PatchInfo) → Contains zs i → Contains ys i) → Distinct (xs ++ zs)
distinct_part [] ys zs d e f = e
distinct_part (x ∷ xs) ys zs d e f = (
  λ k. d.0 (elim (Contains-append_cases xs zs x k) [ inl c ↦ Contains-append_left xs ys x c | inr c ↦ Contains-append_right xs ys x (f x c) ]),
  distinct_part xs ys zs d.1 e f,
)

-- of two beginnings of a list one is within the other
within_more : (x y : PatchInfo) (xs ys : List PatchInfo) → x ≡ y → ((i : PatchInfo) → Contains xs i → Contains ys i) → (i : PatchInfo) → Contains (x ∷ xs) i → Contains (y ∷ ys) i
within_more x y xs ys e f i c = elim (one_of x xs c) [ inl k ↦ let h : y ≡ i = cc in rw h (here i ys) | inr k ↦ more y ys (f i k) ]

pub beginnings : (xs rest ys others : List PatchInfo) → xs ++ rest ≡ ys ++ others → ((i : PatchInfo) → Contains xs i → Contains ys i) ⊎ ((i : PatchInfo) → Contains ys i → Contains xs i)
beginnings [] rest ys others e = inl (λ i c. absurd (none_of c))
beginnings (x ∷ xs) rest [] others e = inr (λ i c. absurd (none_of c))
beginnings (x ∷ xs) rest (y ∷ ys) others e =
    let h : x ≡ y = cc in
    let t : xs ++ rest ≡ ys ++ others = cc in
    elim (beginnings xs rest ys others t) [ inl f ↦ inl (within_more x y xs ys h f) | inr f ↦ inr (within_more y x ys xs (sym h) f) ]

-- a name that is held is that of a member
pub member : (xs : List Patch) (i : PatchInfo) → Holds xs i → (x : Patch) × Contains xs x × (x.info ≡ i)
member [] i k = absurd (none_of k)
member (x ∷ xs) i k = elim (one_of x.info (infos_of xs) k) [
  | inl e ↦ (x, here x xs, e)
  | inr c ↦ let a = member xs i c in (a.0, more x xs a.1, a.2)
]

-- what a context is closed to is what it is closed to with more names
pub closed_more : (xs : List Patch) (context others : List PatchInfo) → ((i : PatchInfo) → Contains context i → Contains others i) → (i : PatchInfo) → Closed xs context i → Closed xs others i
closed_more xs context others f i (given k) = given (f i k)
closed_more xs context others f i (needed {x} k c d) = needed k (closed_more xs context others f x.info c) d

module _ (I : Type 0) (m : Meaning I) where
  -- each names as dependencies what its name means
  pub deps_as : (xs : List Patch) {s t : NodeMap I} {x : Patch} → Runs m xs s t → Contains xs x → x.deps ≡ m.deps x.info
  deps_as [] r k = absurd (none_of k)
  deps_as (y ∷ ys) {x} (step h r) k = elim (one_of y ys k) [ inl e ↦ rw e at h.deps | inr c ↦ deps_as ys r c ]

  -- so a context is closed to the same names among patches of two mirrors
  pub closed_same : (context : List PatchInfo) (xs ys : List Patch) {s t u v : NodeMap I} → Runs m xs s t → Runs m ys u v →
      ((i : PatchInfo) → Closed ys context i → Holds ys i) → (i : PatchInfo) → Closed xs context i → Closed ys context i
  closed_same context xs ys r q f i (given k) = given k
  closed_same context xs ys r q f i (needed {x} k c d) =
      let a = closed_same context xs ys r q f x.info c in
      let y = member ys x.info (f x.info a) in
      needed y.1 (rw y.2 a) (rw (deps_as ys q y.1, y.2, ← deps_as xs r k) d)
