-- What stays where no patch of the base is chosen.
use Rattle.std.proofs.Common.{◌≡◌, inl, inr, ◌<◌, ◌≤◌, ◌+◌, ℕ, List, [], ◌∷◌, ◌++◌, length, take, refl, sym, subst, ap, ◌∙◌, arith}
use Rattle.std.specs.List.{Contains}
use Rattle.std.proofs.lemmas.Bool.{cases_lt}
use Rattle.std.proofs.lemmas.List.{length-append, length-take-le, take_all, take-append-le}
use Rattle.std.proofs.lemmas.List.Elements.{Contains-append_left, Contains-append_right}
use Rattle.dm_info.specs.PatchInfo.{PatchInfo}
use Rattle.dm_prim.specs.Rectangles.{empty, row}
use Rattle.dm_named.specs.Commuting.{NamedCommutes}
use Rattle.dm_named.specs.Patches.{Patch}
use Rattle.dm_bundle.specs.Patches.{infos_of}
use Rattle.dm_repo.specs.Staircases.{Passes, PassStops}
use Rattle.dm_repo.proofs.Members.{here, infos_of-append}
use Rattle.dm_send.specs.Leaving.{Leaves, nothing, goes, stays, follows}
use Rattle.dm_commands.specs.Obliterating.{NamesBase}

-- none of these patches is chosen
abbrev pub Unchosen : List PatchInfo → List Patch → Type 0
Unchosen chosen xs = (i : PatchInfo) → Contains chosen i → Contains (infos_of xs) i → ⊥

-- of n patches none goes, and none is changed
pub record Kept (n : ℕ) (xs stay go : List Patch) : Type 0 where
  pub early : length xs ≤ n → (stay ≡ xs) × (go ≡ [])
  pub first : take n stay ≡ take n xs

passes_none : {go go' : List Patch} {x x' : Patch} → go ≡ [] → Passes NamedCommutes go x x' go' → (x' ≡ x) × (go' ≡ [])
passes_none e empty = (refl, refl)
passes_none e (row r c) = absurd (cc)

stops_none : {go : List Patch} {x r : Patch} → go ≡ [] → PassStops NamedCommutes go x r → ⊥
stops_none {go} {x} {r} e s = never s.far s.near r (sym s.at ∙ e)
  where
    never : (far near : List Patch) (y : Patch) → far ++ y ∷ near ≡ [] → ⊥
    never [] near y q = absurd (cc)
    never (z ∷ far) near y q = absurd (cc)

module _ (n : ℕ) (xs : List Patch) (x : Patch) where
  one_longer : length (xs ++ x ∷ []) ≡ length xs + 1
  one_longer = length-append xs (x ∷ [])

  -- the last one is among the first n
  in_first : length xs < n → Contains (infos_of (take n (xs ++ x ∷ []))) x.info
  in_first l =
      let e = one_longer in
      rw (take_all n (xs ++ x ∷ []) (omega (arith, e, l)), infos_of-append xs (x ∷ [])) (Contains-append_right (infos_of xs) (x.info ∷ []) x.info (here x.info []))

  -- the last one isn't among the first n
  same_first : n ≤ length xs → take n (xs ++ x ∷ []) ≡ take n xs
  same_first l = take-append-le n xs (x ∷ []) l

  fewer_chosen : (chosen : List PatchInfo) → Unchosen chosen (take n (xs ++ x ∷ [])) → Unchosen chosen (take n xs)
  fewer_chosen chosen u = elim (cases_lt (length xs) n) [
    | inl l ↦ λ i c m.
        let e = one_longer in
        let k : Contains (infos_of xs) i = subst (λ (ys : List Patch). Contains (infos_of ys) i) (take_all n xs (omega (arith, l))) m in
        u i c (rw (take_all n (xs ++ x ∷ []) (omega (arith, e, l)), infos_of-append xs (x ∷ [])) (Contains-append_left (infos_of xs) (x.info ∷ []) i k))
    | inr l ↦ subst (Unchosen chosen) (same_first l) u
  ]

  -- one that isn't among the first n goes or stays
  goes_behind : {stay go go' : List Patch} → n ≤ length xs → Kept n xs stay go → Kept n (xs ++ x ∷ []) stay go'
  goes_behind l k = record {
    early = λ m. let e = one_longer in absurd (omega (arith, e, l, m));
    first = k.first ∙ sym (same_first l);
  }

pub long_enough : (n : ℕ) (xs stay : List Patch) → n ≤ length xs → take n stay ≡ take n xs → n ≤ length stay
long_enough n xs stay l e = elim (cases_lt (length stay) n) [
  | inl s ↦
      let a = length-take-le n xs l in
      let b : length (take n stay) ≡ length stay = ap length (take_all n stay (omega (arith, s))) in
      let c : length (take n stay) ≡ length (take n xs) = ap length e in
      omega (arith, a, b, c)
  | inr g ↦ g
]

module _ (chosen : List PatchInfo) (n : ℕ) where
  pub kept : {xs stay go : List Patch} {bound : List (PatchInfo × PatchInfo)} → Leaves chosen xs stay go bound → Unchosen chosen (take n xs) → Kept n xs stay go
  kept nothing u = record { early = λ l. (refl, refl); first = refl }
  kept (goes x xs stay go bound l named) u = elim (cases_lt (length xs) n) [
    | inl s ↦ absurd (u x.info named (in_first n xs x s))
    | inr g ↦ goes_behind n xs x g (kept l (fewer_chosen n xs x chosen u))
  ]
  kept (stays x x' xs stay go go' bound l unnamed p) u = elim (cases_lt (length xs) n) [
    | inl s ↦
        let e = (kept l (fewer_chosen n xs x chosen u)).early (omega (arith, s)) in
        let q = passes_none e.1 p in
        let same : stay ++ x' ∷ [] ≡ xs ++ x ∷ [] = ap (λ ys. ys ++ x' ∷ []) e.0 ∙ ap (λ y. xs ++ y ∷ []) q.0 in
        record { early = λ m. (same, q.1); first = ap (take n) same }
    | inr g ↦
        let k = kept l (fewer_chosen n xs x chosen u) in
        record {
          early = λ m. let e = one_longer n xs x in absurd (omega (arith, e, g, m));
          first = take-append-le n stay (x' ∷ []) (long_enough n xs stay g k.first) ∙ k.first ∙ sym (same_first n xs x g);
        }
  ]
  kept (follows x r xs stay go bound l unnamed s) u = elim (cases_lt (length xs) n) [
    | inl o ↦ absurd (stops_none ((kept l (fewer_chosen n xs x chosen u)).early (omega (arith, o))).1 s)
    | inr g ↦ goes_behind n xs x g (kept l (fewer_chosen n xs x chosen u))
  ]

-- the base stays where none of its patches is chosen
pub keeps_base : (chosen : List PatchInfo) (repo stay go : List Patch) (bound : List (PatchInfo × PatchInfo)) (n : ℕ) → (NamesBase repo n chosen → ⊥) → Leaves chosen repo stay go bound → take n stay ≡ take n repo
keeps_base chosen repo stay go bound n never l = (kept chosen n l (λ i c m. never (record { name = i; is_named = c; is_of_base = m }))).first
