-- Marks beside the patch infos of a repository.
use Rattle.std.proofs.Common.{◌≡◌, ◌↔◌, ℕ, zero, suc, ◌+◌, ◌-◌, ◌<◌, ◌≤◌, Bool, true, false, List, [], ◌∷◌, ◌++◌, length, take, drop, get_or, set, replicate, slice_get, Some, ◌⊎◌, inl, inr, refl, sym, ap, subst, ◌∙◌, arith}
use Rattle.std.specs.List.{Contains}
use Rattle.std.proofs.lemmas.List.{take_more, drop_more, length-append}
use Rattle.std.proofs.lemmas.List.Elements.{Contains-append_left, Contains-append_right, Contains-append_cases}
use Rattle.dm_info.specs.PatchInfo.{PatchInfo}
use Rattle.dm_named.specs.Patches.{Patch}
use Rattle.dm_bundle.specs.Patches.{infos_of, Distinct}
use Rattle.dm_repo.specs.Repositories.{Holds, NamesEarlier, IsRepo}
use Rattle.dm_repo.specs.CommonSets.{Closed, given, needed, HoldsAll, LacksAt, First}
use Rattle.dm_repo.specs.MarkLists.{AreMarksOf, AddsMarks}
use Rattle.dm_repo.proofs.Members.{here, more, one_of, none_of, from_at, dep_held, info_at, infos_of-append}
use Rattle.dm_repo.proofs.ClosedLemmas.{closed_after}
use Rattle.dm_repo.proofs.RowSteps.{around}

pub at_place : {X : Type 0} (xs : List X) (k : ℕ) (x : X) → k < length xs → x ≡ get_or xs k x → slice_get xs k ≡ Some x
at_place [] k x l e = absurd (omega arith)
at_place (y ∷ ys) zero x l e = ap Some (sym e)
at_place (y ∷ ys) (suc k) x l e = at_place ys k x (omega arith) e

-- distinct patch infos stand at one place each
pub one_place : (is : List PatchInfo) (j k : ℕ) {x : PatchInfo} → Distinct is → slice_get is j ≡ Some x → slice_get is k ≡ Some x → j ≡ k
one_place [] j k d e f = absurd (cc)
one_place (i ∷ is) zero zero d e f = refl
one_place (i ∷ is) zero (suc k) {x} d e f = let g : i ≡ x = cc in absurd (d.0 (rw g (from_at is k f)))
one_place (i ∷ is) (suc j) zero {x} d e f = let g : i ≡ x = cc in absurd (d.0 (rw g (from_at is j e)))
one_place (i ∷ is) (suc j) (suc k) d e f = ap suc (one_place is j k d.1 e f)

-- marks after one is set
pub set_here : (marks : List Bool) (k : ℕ) → k < length marks → slice_get (set marks k true) k ≡ Some true
set_here [] k l = absurd (omega arith)
set_here (m ∷ marks) zero l = refl
set_here (m ∷ marks) (suc k) l = set_here marks k (omega arith)

pub set_there : (marks : List Bool) (j k : ℕ) → (j ≡ k → ⊥) → slice_get (set marks k true) j ≡ slice_get marks j
set_there [] j k n = refl
set_there (m ∷ marks) zero zero n = absurd (n refl)
set_there (m ∷ marks) zero (suc k) n = refl
set_there (m ∷ marks) (suc j) zero n = refl
set_there (m ∷ marks) (suc j) (suc k) n = set_there marks j k (λ e. n (ap suc e))

pub length_set : (marks : List Bool) (k : ℕ) → length (set marks k true) ≡ length marks
length_set [] k = refl
length_set (m ∷ marks) zero = refl
length_set (m ∷ marks) (suc k) = ap suc (length_set marks k)

-- a place within
pub within : {X : Type 0} (xs : List X) (k : ℕ) {x : X} → slice_get xs k ≡ Some x → k < length xs
within [] k e = absurd (cc)
within (y ∷ ys) zero e = omega arith
within (y ∷ ys) (suc k) e = let l = within ys k e in omega (arith, l)

pub some_same : {X : Type 0} {x y : X} → Some x ≡ Some y → x ≡ y
some_same e = cc

same_or : (j k : ℕ) → (j ≡ k) ⊎ (j ≡ k → ⊥)
same_or zero zero = inl refl
same_or zero (suc k) = inr (λ e. omega (arith, e))
same_or (suc j) zero = inr (λ e. omega (arith, e))
same_or (suc j) (suc k) = elim (same_or j k) [ inl e ↦ inl (ap suc e) | inr n ↦ inr (λ e. n (omega (arith, e))) ]

set_alike : (infos : List PatchInfo) (marks : List Bool) (k : ℕ) (x : PatchInfo) → Distinct infos → slice_get infos k ≡ Some x → length marks ≡ length infos → (j : ℕ) (i : PatchInfo) → slice_get infos j ≡ Some i →
    (slice_get (set marks k true) j ≡ Some true) ↔ ((slice_get marks j ≡ Some true) ⊎ (x ≡ i))
set_alike infos marks k x d e n j i f = elim (same_or j k) [
  | inl s ↦
      let g : x ≡ i = some_same (sym e ∙ ap (slice_get infos) (sym s) ∙ f) in
      let l = within infos k e in
      ((λ _. inr g), λ _. rw s (set_here marks k (omega (arith, l, n))))
  | inr s ↦
      let t = set_there marks j k s in
      ((λ h. inl (sym t ∙ h)), λ h. elim h [ inl a ↦ t ∙ a | inr b ↦ absurd (s (one_place infos j k d f (e ∙ ap Some b))) ])
]

-- one more is marked
pub also_more : (infos : List PatchInfo) (old marks : List Bool) (list : List PatchInfo) (c k : ℕ) (x : PatchInfo) → Distinct infos → length old ≡ length infos → c < length list → x ≡ get_or list c x → slice_get infos k ≡ Some x →
    AddsMarks old marks infos (take c list) → AddsMarks old (set marks k true) infos (take (c + 1) list)
also_more infos old marks list c k x d n l e f m = record {
  length_is = length_set marks k ∙ m.length_is;
  at = λ j i g.
      let s = set_alike infos marks k x d f (m.length_is ∙ n) j i g in
      let h = m.at j i g in
      let t : take (c + 1) list ≡ take c list ++ x ∷ [] = take_more list c x l ∙ ap (λ z. take c list ++ z ∷ []) (sym e) in (
        λ a. elim (s.0 a) [
          | inl b ↦ elim (h.0 b) [ inl o ↦ inl o | inr o ↦ inr (rw t (Contains-append_left (take c list) (x ∷ []) i o)) ]
          | inr b ↦ inr (rw (t, ← b) (Contains-append_right (take c list) (x ∷ []) x (here x [])))
        ],
        λ a. s.1 (elim a [
          | inl o ↦ inl (h.1 (inl o))
          | inr o ↦ elim (Contains-append_cases (take c list) (x ∷ []) i (rw t at o)) [ inl b ↦ inl (h.1 (inr b)) | inr b ↦ elim (one_of x [] b) [ inl q ↦ inr q | inr q ↦ absurd (none_of q) ] ]
        ]),
      );
}

pub also_none : (infos : List PatchInfo) (old : List Bool) → AddsMarks old old infos []
also_none infos old = record { length_is = refl; at = λ k i e. ((λ h. inl h), λ h. elim h [ inl a ↦ a | inr a ↦ absurd (none_of a) ]) }

pub held_more : (repo : List Patch) (list : List PatchInfo) (c k : ℕ) (x : PatchInfo) → c < length list → x ≡ get_or list c x → slice_get (infos_of repo) k ≡ Some x → HoldsAll repo (take c list) → HoldsAll repo (take (c + 1) list)
held_more repo list c k x l e f h i m =
    let t : take (c + 1) list ≡ take c list ++ x ∷ [] = take_more list c x l ∙ ap (λ z. take c list ++ z ∷ []) (sym e) in
    elim (Contains-append_cases (take c list) (x ∷ []) i (rw t at m)) [ inl b ↦ h i b | inr b ↦ elim (one_of x [] b) [ inl q ↦ rw q at (from_at (infos_of repo) k f) | inr q ↦ absurd (none_of q) ] ]

pub in_take_at : (xs : List PatchInfo) (c k : ℕ) {y : PatchInfo} → k < c → slice_get xs k ≡ Some y → Contains (take c xs) y
in_take_at [] c k j e = absurd (cc)
in_take_at (z ∷ xs) zero k j e = absurd (omega (arith, j))
in_take_at (z ∷ xs) (suc c) zero {y} j e = let g : z ≡ y = some_same e in subst (λ (w : PatchInfo). Contains (z ∷ take c xs) w) g (here z (take c xs))
in_take_at (z ∷ xs) (suc c) (suc k) j e = more z (take c xs) (in_take_at xs c k (omega (arith, j)) e)

-- the first of a list that isn't held
pub first_lack : (repo : List Patch) (list : List PatchInfo) (c : ℕ) (x : PatchInfo) → c < length list → x ≡ get_or list c x → (Holds repo x → ⊥) → HoldsAll repo (take c list) → First (LacksAt repo list) c
first_lack repo list c x l e n h = ((x, at_place list c x l e, n), λ k j q. q.2 (h q.0 (in_take_at list c k j q.1)))

-- all that is listed at the places before one more, and what is there
pub all_more : (list : List PatchInfo) (c : ℕ) (x : PatchInfo) (Q : PatchInfo → Type 0) → c < length list → x ≡ get_or list c x → Q x → ((i : PatchInfo) → Contains (take c list) i → Q i) → (i : PatchInfo) → Contains (take (c + 1) list) i → Q i
all_more list c x Q l e h f i m =
    let t : take (c + 1) list ≡ take c list ++ x ∷ [] = take_more list c x l ∙ ap (λ z. take c list ++ z ∷ []) (sym e) in
    elim (Contains-append_cases (take c list) (x ∷ []) i (rw t at m)) [ inl b ↦ f i b | inr b ↦ elim (one_of x [] b) [ inl q ↦ subst Q q h | inr q ↦ absurd (none_of q) ] ]

-- marks of one set, and marks also of a list
pub marks_also : (infos : List PatchInfo) (old new : List Bool) (list : List PatchInfo) (Q R : PatchInfo → Type 0) → AreMarksOf old infos Q → AddsMarks old new infos list → ((i : PatchInfo) → R i ↔ (Q i ⊎ Contains list i)) → AreMarksOf new infos R
marks_also infos old new list Q R m a f = record {
  length_is = a.length_is ∙ m.length_is;
  at = λ k i e. (
    λ h. (f i).1 (elim ((a.at k i e).0 h) [ inl o ↦ inl ((m.at k i e).0 o) | inr o ↦ inr o ]),
    λ h. (a.at k i e).1 (elim ((f i).0 h) [ inl o ↦ inl ((m.at k i e).1 o) | inr o ↦ inr o ]),
  );
}

-- marks of one set are those of an equal one
pub marks_alike : (infos : List PatchInfo) (marks : List Bool) (Q R : PatchInfo → Type 0) → AreMarksOf marks infos Q → ((i : PatchInfo) → R i ↔ Q i) → AreMarksOf marks infos R
marks_alike infos marks Q R m f = record { length_is = m.length_is; at = λ k i e. ((λ h. (f i).1 ((m.at k i e).0 h)), λ h. (m.at k i e).1 ((f i).0 h)) }

-- no marks
pub no_marks : (infos : List PatchInfo) (n : ℕ) → n ≡ length infos → AreMarksOf (replicate n false) infos (λ i. ⊥)
no_marks infos n e = record { length_is = length-replicate n ∙ e; at = λ k i f. ((λ h. absurd (none n k h)), λ h. absurd h) }
  where
    length-replicate : (n : ℕ) → length (replicate n false) ≡ n
    length-replicate zero = refl
    length-replicate (suc n) = ap suc (length-replicate n)

    none : (n k : ℕ) → slice_get (replicate n false) k ≡ Some true → ⊥
    none zero k h = absurd (cc)
    none (suc n) zero h = let g : false ≡ true = some_same h in absurd (cc)
    none (suc n) (suc k) h = none n k h

-- what is in the context, or named by a patch of the closed set from a place on
abbrev pub ClosedFrom : List Patch → List PatchInfo → ℕ → PatchInfo → Type 0
ClosedFrom repo context k i = Contains context i ⊎ ((y : Patch) × Contains (drop k repo) y × Closed repo context y.info × Contains y.deps i)

closed_split : (repo before : List Patch) (x : Patch) (after : List Patch) (context : List PatchInfo) → repo ≡ before ++ x ∷ after → Distinct (infos_of repo) → NamesEarlier [] repo →
    Closed repo context x.info ↔ (Contains context x.info ⊎ ((y : Patch) × Contains after y × Closed repo context y.info × Contains y.deps x.info))
closed_split repo before x after context e d n = rw e (closed_after before x after context (rw e at d) (rw e at n))

-- a patch is in the closed set by what stands after it
pub closed_at : (repo : List Patch) (context : List PatchInfo) (k : ℕ) (x : Patch) → k < length repo → x ≡ get_or repo k x → IsRepo repo → Closed repo context x.info ↔ ClosedFrom repo context (k + 1) x.info
closed_at repo context k x l e r = closed_split repo (take k repo) x (drop (k + 1) repo) context (around repo k x l e) r.distinct r.earlier

named_at : {repo : List Patch} {context : List PatchInfo} {x y : Patch} {i : PatchInfo} → y ≡ x → Closed repo context y.info → Contains y.deps i → Closed repo context x.info × Contains x.deps i
named_at e c m = (rw e at c, rw e at m)

from_more : (repo : List Patch) (context : List PatchInfo) (k : ℕ) (x : Patch) → k < length repo → x ≡ get_or repo k x → (i : PatchInfo) →
    ClosedFrom repo context k i ↔ (ClosedFrom repo context (k + 1) i ⊎ (Closed repo context x.info × Contains x.deps i))
from_more repo context k x l e i =
    let d : drop k repo ≡ x ∷ drop (k + 1) repo = drop_more repo k x l ∙ ap (λ z. z ∷ drop (k + 1) repo) (sym e) in (
      λ h. elim h [
        | inl c ↦ inl (inl c)
        | inr y ↦ elim (one_of x (drop (k + 1) repo) (rw d at y.1)) [ inl q ↦ inr (named_at (sym q) y.2 y.3) | inr m ↦ inl (inr (y.0, m, y.2, y.3)) ]
      ],
      λ h. elim h [
        | inl c ↦ elim c [ inl a ↦ inl a | inr y ↦ inr (y.0, rw d (more x (drop (k + 1) repo) y.1), y.2, y.3) ]
        | inr c ↦ inr (x, rw d (here x (drop (k + 1) repo)), c.0, c.1)
      ],
    )

-- one patch less: it is closed and marks what it names, or it isn't
pub from_marked : (repo : List Patch) (context : List PatchInfo) (k : ℕ) (x : Patch) → k < length repo → x ≡ get_or repo k x → Closed repo context x.info → (i : PatchInfo) →
    ClosedFrom repo context k i ↔ (ClosedFrom repo context (k + 1) i ⊎ Contains x.deps i)
from_marked repo context k x l e c i = let f = from_more repo context k x l e i in (
  λ h. elim (f.0 h) [ inl a ↦ inl a | inr a ↦ inr a.1 ],
  λ h. f.1 (elim h [ inl a ↦ inl a | inr a ↦ inr (c, a) ]),
)

pub from_unmarked : (repo : List Patch) (context : List PatchInfo) (k : ℕ) (x : Patch) → k < length repo → x ≡ get_or repo k x → (Closed repo context x.info → ⊥) → (i : PatchInfo) →
    ClosedFrom repo context k i ↔ ClosedFrom repo context (k + 1) i
from_unmarked repo context k x l e c i = let f = from_more repo context k x l e i in (
  λ h. elim (f.0 h) [ inl a ↦ a | inr a ↦ absurd (c a.0) ],
  λ h. f.1 (inl h),
)

-- from after the last patch only the context is closed, and from the first on all is
pub from_last : (repo : List Patch) (context : List PatchInfo) (n : ℕ) → drop n repo ≡ [] → (i : PatchInfo) → ClosedFrom repo context n i ↔ Contains context i
from_last repo context n e i = ((λ h. elim h [ inl c ↦ c | inr y ↦ absurd (none_of (rw e at y.1)) ]), λ h. inl h)

pub from_first : (repo : List Patch) (context : List PatchInfo) (i : PatchInfo) → Closed repo context i ↔ ClosedFrom repo context 0 i
from_first repo context i = (there, back)
  where
    there : Closed repo context i → ClosedFrom repo context 0 i
    there (given c) = inl c
    there (needed {x} m c d) = inr (x, m, c, d)

    back : ClosedFrom repo context 0 i → Closed repo context i
    back (inl c) = given c
    back (inr (y, m, c, d)) = needed m c d

-- a place that is read
pub read_at : {X : Type 0} (xs : List X) (k : ℕ) (x : X) → slice_get xs k ≡ Some x → x ≡ get_or xs k x
read_at [] k x e = absurd (cc)
read_at (y ∷ ys) zero x e = sym (some_same e)
read_at (y ∷ ys) (suc k) x e = read_at ys k x e

pub read_true : (marks : List Bool) (k : ℕ) (d : Bool) → slice_get marks k ≡ Some true → true ≡ get_or marks k d
read_true [] k d e = absurd (cc)
read_true (m ∷ marks) zero d e = sym (some_same e)
read_true (m ∷ marks) (suc k) d e = read_true marks k d e

pub some_at : {X : Type 0} (xs : List X) (k : ℕ) → k < length xs → (x : X) × (slice_get xs k ≡ Some x)
some_at [] k l = absurd (omega arith)
some_at (y ∷ ys) zero l = (y, refl)
some_at (y ∷ ys) (suc k) l = some_at ys k (omega (arith, l))

-- one more patch, seen from after, whose mark was read
pub close_in : (repo : List Patch) (context : List PatchInfo) (marks new : List Bool) (j : ℕ) (x : Patch) → 0 < j → IsRepo repo → slice_get repo (j - 1) ≡ Some x →
    AreMarksOf marks (infos_of repo) (ClosedFrom repo context j) → slice_get marks (j - 1) ≡ Some true → AddsMarks marks new (infos_of repo) x.deps → AreMarksOf new (infos_of repo) (ClosedFrom repo context (j - 1))
close_in repo context marks new j x o r f m marked a =
    let l = within repo (j - 1) f in
    let e = read_at repo (j - 1) x f in
    let k : j ≡ (j - 1) + 1 = omega (arith, o) in
    let q : AreMarksOf marks (infos_of repo) (ClosedFrom repo context ((j - 1) + 1)) = subst (λ (n : ℕ). AreMarksOf marks (infos_of repo) (ClosedFrom repo context n)) k m in
    let c = (closed_at repo context (j - 1) x l e r).1 ((q.at (j - 1) x.info (info_at repo (j - 1) x l e)).0 marked) in
    marks_also (infos_of repo) marks new x.deps (ClosedFrom repo context ((j - 1) + 1)) (ClosedFrom repo context (j - 1)) q a (from_marked repo context (j - 1) x l e c)

pub close_out : (repo : List Patch) (context : List PatchInfo) (marks : List Bool) (j : ℕ) → 0 < j → j ≤ length repo → IsRepo repo →
    AreMarksOf marks (infos_of repo) (ClosedFrom repo context j) → slice_get marks (j - 1) ≡ Some false → AreMarksOf marks (infos_of repo) (ClosedFrom repo context (j - 1))
close_out repo context marks j o b r m marked =
    let z = some_at repo (j - 1) (omega (arith, o, b)) in
    let l = within repo (j - 1) z.1 in
    let e = read_at repo (j - 1) z.0 z.1 in
    let k : j ≡ (j - 1) + 1 = omega (arith, o) in
    let q : AreMarksOf marks (infos_of repo) (ClosedFrom repo context ((j - 1) + 1)) = subst (λ (n : ℕ). AreMarksOf marks (infos_of repo) (ClosedFrom repo context n)) k m in
    let n : Closed repo context z.0.info → ⊥ = λ c. not_both marked ((q.at (j - 1) z.0.info (info_at repo (j - 1) z.0 l e)).1 ((closed_at repo context (j - 1) z.0 l e r).0 c)) in
    marks_alike (infos_of repo) marks (ClosedFrom repo context ((j - 1) + 1)) (ClosedFrom repo context (j - 1)) q (from_unmarked repo context (j - 1) z.0 l e n)
  where
    not_both : slice_get marks (j - 1) ≡ Some false → slice_get marks (j - 1) ≡ Some true → ⊥
    not_both f t = let g : false ≡ true = some_same (sym f ∙ t) in absurd (cc)

-- a dependency of a held patch is held
pub no_lack : (repo : List Patch) (k c : ℕ) (x : Patch) → IsRepo repo → slice_get repo k ≡ Some x → First (LacksAt repo x.deps) c → ⊥
no_lack repo k c x r e f = f.0.2 (dep_held [] repo r.earlier (from_at repo k e) (from_at x.deps c f.0.1))

-- a mark is set
pub marks_set : (infos : List PatchInfo) (marks : List Bool) (k : ℕ) (x : PatchInfo) (Q R : PatchInfo → Type 0) → Distinct infos → slice_get infos k ≡ Some x → AreMarksOf marks infos Q → ((i : PatchInfo) → R i ↔ (Q i ⊎ (x ≡ i))) →
    AreMarksOf (set marks k true) infos R
marks_set infos marks k x Q R d e m f = record {
  length_is = length_set marks k ∙ m.length_is;
  at = λ j i g.
      let s = set_alike infos marks k x d e m.length_is j i g in (
        λ h. (f i).1 (elim (s.0 h) [ inl a ↦ inl ((m.at j i g).0 a) | inr a ↦ inr a ]),
        λ h. s.1 (elim ((f i).0 h) [ inl a ↦ inl ((m.at j i g).1 a) | inr a ↦ inr a ]),
      );
}

-- one more mark
push_at : {X : Type 0} (xs : List X) (y : X) (k : ℕ) {x : X} → slice_get (xs ++ y ∷ []) k ≡ Some x → (slice_get xs k ≡ Some x) ⊎ ((k ≡ length xs) × (y ≡ x))
push_at [] y zero e = inr (refl, some_same e)
push_at [] y (suc k) e = absurd (cc)
push_at (z ∷ xs) y zero e = inl e
push_at (z ∷ xs) y (suc k) e = elim (push_at xs y k e) [ inl a ↦ inl a | inr a ↦ inr (ap suc a.0, a.1) ]

front_at : {X : Type 0} (xs : List X) (y : X) (k : ℕ) → k < length xs → slice_get (xs ++ y ∷ []) k ≡ slice_get xs k
front_at [] y k l = absurd (omega arith)
front_at (z ∷ xs) y zero l = refl
front_at (z ∷ xs) y (suc k) l = front_at xs y k (omega (arith, l))

last_at : {X : Type 0} (xs : List X) (y : X) → slice_get (xs ++ y ∷ []) (length xs) ≡ Some y
last_at [] y = refl
last_at (z ∷ xs) y = last_at xs y

pub marks_push : (infos : List PatchInfo) (marks : List Bool) (x : PatchInfo) (b : Bool) (Q : PatchInfo → Type 0) → AreMarksOf marks infos Q → ((b ≡ true) ↔ Q x) → AreMarksOf (marks ++ b ∷ []) (infos ++ x ∷ []) Q
marks_push infos marks x b Q m f = record {
  length_is = length-append marks (b ∷ []) ∙ ap (λ n. n + 1) m.length_is ∙ sym (length-append infos (x ∷ []));
  at = λ k i e. elim (push_at infos x k e) [
    | inl a ↦ let l = within infos k a in let t = front_at marks b k (omega (arith, l, m.length_is)) in ((λ h. (m.at k i a).0 (sym t ∙ h)), λ h. t ∙ (m.at k i a).1 h)
    | inr a ↦
        let t : slice_get (marks ++ b ∷ []) k ≡ Some b = ap (slice_get (marks ++ b ∷ [])) (a.0 ∙ sym m.length_is) ∙ last_at marks b in
        ((λ h. subst Q a.1 (f.0 (some_same (sym t ∙ h)))), λ h. t ∙ ap Some (f.1 (subst Q (sym a.1) h)))
  ];
}

-- the common set, as far as the new patches were looked up
abbrev pub CommonUpTo : List Patch → List PatchInfo → List Patch → PatchInfo → Type 0
CommonUpTo repo context new i = Closed repo context i ⊎ (Holds new i × Holds repo i)

more_infos : (new : List Patch) (x : Patch) (i : PatchInfo) → Holds (new ++ x ∷ []) i ↔ (Holds new i ⊎ (x.info ≡ i))
more_infos new x i = (
  λ h. elim (Contains-append_cases (infos_of new) (x.info ∷ []) i (rw (infos_of-append new (x ∷ [])) at h)) [ inl a ↦ inl a | inr a ↦ elim (one_of x.info [] a) [ inl e ↦ inr e | inr n ↦ absurd (none_of n) ] ],
  λ h. rw (infos_of-append new (x ∷ [])) (elim h [ inl a ↦ Contains-append_left (infos_of new) (x.info ∷ []) i a | inr e ↦ subst (Contains (infos_of new ++ x.info ∷ [])) e (Contains-append_right (infos_of new) (x.info ∷ []) x.info (here x.info [])) ]),
)

common_out : (repo : List Patch) (context : List PatchInfo) (new : List Patch) (x : Patch) → (Holds repo x.info → ⊥) → (i : PatchInfo) → CommonUpTo repo context (new ++ x ∷ []) i ↔ CommonUpTo repo context new i
common_out repo context new x n i = let f = more_infos new x i in (
  λ h. elim h [ inl a ↦ inl a | inr a ↦ elim (f.0 a.0) [ inl b ↦ inr (b, a.1) | inr e ↦ absurd (n (subst (Holds repo) (sym e) a.1)) ] ],
  λ h. elim h [ inl a ↦ inl a | inr a ↦ inr (f.1 (inl a.0), a.1) ],
)

common_in : (repo : List Patch) (context : List PatchInfo) (new : List Patch) (x : Patch) → Holds repo x.info → (i : PatchInfo) → CommonUpTo repo context (new ++ x ∷ []) i ↔ (CommonUpTo repo context new i ⊎ (x.info ≡ i))
common_in repo context new x n i = let f = more_infos new x i in (
  λ h. elim h [ inl a ↦ inl (inl a) | inr a ↦ elim (f.0 a.0) [ inl b ↦ inl (inr (b, a.1)) | inr e ↦ inr e ] ],
  λ h. elim h [ inl c ↦ elim c [ inl a ↦ inl a | inr a ↦ inr (f.1 (inl a.0), a.1) ] | inr e ↦ inr (f.1 (inr e), subst (Holds repo) e n) ],
)

-- what is marked so far, and what one more new patch adds
pub record UpTo (repo : List Patch) (context : List PatchInfo) (new : List Patch) (common held : List Bool) : Type 0 where
  pub common_is : AreMarksOf common (infos_of repo) (CommonUpTo repo context new)
  pub held_is : AreMarksOf held (infos_of new) (Holds repo)

pub up_to_out : (repo : List Patch) (context : List PatchInfo) (new : List Patch) (k : ℕ) (x : Patch) {common held held' : List Bool} → k < length new → x ≡ get_or new k x → (Holds repo x.info → ⊥) → held' ≡ held ++ false ∷ [] →
    UpTo repo context (take k new) common held → UpTo repo context (take (k + 1) new) common held'
up_to_out repo context new k x {common} {held} l e n p u =
    let t : take (k + 1) new ≡ take k new ++ x ∷ [] = take_more new k x l ∙ ap (λ z. take k new ++ z ∷ []) (sym e) in
    rw (t, p) (record {
      common_is = marks_alike (infos_of repo) common (CommonUpTo repo context (take k new)) (CommonUpTo repo context (take k new ++ x ∷ [])) u.common_is (common_out repo context (take k new) x n);
      held_is = rw (infos_of-append (take k new) (x ∷ [])) (marks_push (infos_of (take k new)) held x.info false (Holds repo) u.held_is ((λ h. absurd (no h)), λ h. absurd (n h)));
    })
  where
    no : false ≡ true → ⊥
    no h = absurd (cc)

pub up_to_in : (repo : List Patch) (context : List PatchInfo) (new : List Patch) (k j : ℕ) (x : Patch) {common held held' : List Bool} → IsRepo repo → k < length new → x ≡ get_or new k x → slice_get (infos_of repo) j ≡ Some x.info → held' ≡ held ++ true ∷ [] →
    UpTo repo context (take k new) common held → UpTo repo context (take (k + 1) new) (set common j true) held'
up_to_in repo context new k j x {common} {held} r l e f p u =
    let t : take (k + 1) new ≡ take k new ++ x ∷ [] = take_more new k x l ∙ ap (λ z. take k new ++ z ∷ []) (sym e) in
    let h : Holds repo x.info = from_at (infos_of repo) j f in
    rw (t, p) (record {
      common_is = marks_set (infos_of repo) common j x.info (CommonUpTo repo context (take k new)) (CommonUpTo repo context (take k new ++ x ∷ [])) r.distinct f u.common_is (common_in repo context (take k new) x h);
      held_is = rw (infos_of-append (take k new) (x ∷ [])) (marks_push (infos_of (take k new)) held x.info true (Holds repo) u.held_is ((λ q. h), λ q. refl));
    })

pub up_to_none : (repo : List Patch) (context : List PatchInfo) {common held : List Bool} → AreMarksOf common (infos_of repo) (Closed repo context) → held ≡ [] → UpTo repo context [] common held
up_to_none repo context {common} m e = record {
  common_is = marks_alike (infos_of repo) common (Closed repo context) (CommonUpTo repo context []) m (λ i. ((λ h. elim h [ inl a ↦ a | inr a ↦ absurd (none_of a.0) ]), λ h. inl h));
  held_is = record { length_is = ap length e; at = λ k i f. absurd (nothing k f) };
}
  where
    nothing : (k : ℕ) {i : PatchInfo} → slice_get (infos_of []) k ≡ Some i → ⊥
    nothing k f = absurd (cc)
