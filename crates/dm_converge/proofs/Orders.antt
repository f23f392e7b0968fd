-- Patches of the same names have the same effects, in some order.
use Rattle.std.proofs.Common.{◌≡◌, ◌≢◌, ◌⊎◌, inl, inr, List, [], ◌∷◌, ◌++◌, Some, None, refl, sym, ap, ◌∙◌, append_assoc}
use Rattle.std.specs.List.{Contains}
use Rattle.std.specs.List.Sorted.{IsPermutation}
use Rattle.std.proofs.lemmas.List.Sorted.{IsPermutation-refl, IsPermutation-trans, IsPermutation-append_left, IsPermutation-append_right, IsPermutation-append_comm}
use Rattle.std.proofs.lemmas.List.Elements.{Contains-append_left, Contains-append_right, Contains-append_cases}
use Rattle.dm_tree.specs.Paths.{Name, Path}
use Rattle.dm_info.specs.PatchInfo.{PatchInfo}
use Rattle.dm_prim.specs.Primitives.{Prim}
use Rattle.dm_prim.specs.InTurn.{done, step}
use Rattle.dm_named.specs.Patches.{Patch}
use Rattle.dm_bundle.specs.Patches.{infos_of, Distinct, SameMembers}
use Rattle.dm_repo.proofs.Members.{here, more, one_of, none_of}
use Rattle.dm_chain.specs.Chains.{Token}
use Rattle.dm_facts.specs.Heaps.{Heap}
use Rattle.dm_facts.specs.Nodes.{Node, FileWith, NodeMap, IsTree}
use Rattle.dm_facts.specs.Facts.{Effect}
use Rattle.dm_facts.specs.Sums.{AreFacts}
use Rattle.dm_facts.specs.Runs.{StepsAll, SharesNone, AllAddNew}
use Rattle.dm_facts.proofs.LawProofs as facts
use Rattle.dm_converge.specs.Meanings.{Meaning, Runs, root_of, MakesOnce}
use Rattle.dm_converge.specs.Laws as laws
use Rattle.dm_facts.proofs.ListSteps.{steps_on}

-- where a name stands among others
split_at : (ys : List PatchInfo) (i : PatchInfo) → Contains ys i → (a : List PatchInfo) × (b : List PatchInfo) × (ys ≡ a ++ i ∷ b)
split_at [] i k = absurd (none_of k)
split_at (y ∷ ys) i k = elim (one_of y ys k) [
  | inl e ↦ ([], ys, ap (λ z. z ∷ ys) e)
  | inr c ↦ let r = split_at ys i c in (y ∷ r.0, r.1, ap (λ l. y ∷ l) r.2)
]

distinct_middle : (a : List PatchInfo) (i : PatchInfo) (b : List PatchInfo) → Distinct (a ++ i ∷ b) → Distinct (a ++ b) × (Contains (a ++ b) i → ⊥)
distinct_middle [] i b d = (d.1, d.0)
distinct_middle (x ∷ a) i b d =
    let r = distinct_middle a i b d.1 in (
      (λ k. d.0 (elim (Contains-append_cases a b x k) [ inl c ↦ Contains-append_left a (i ∷ b) x c | inr c ↦ Contains-append_right a (i ∷ b) x (more i b c) ]), r.0),
      λ k. elim (one_of x (a ++ b) k) [ inl e ↦ d.0 (rw (← e) (Contains-append_right a (x ∷ b) x (here x b))) | inr c ↦ r.1 c ],
    )

middle_cases : (a : List PatchInfo) (i : PatchInfo) (b : List PatchInfo) (j : PatchInfo) → Contains (a ++ i ∷ b) j → (i ≡ j) ⊎ Contains (a ++ b) j
middle_cases a i b j k = elim (Contains-append_cases a (i ∷ b) j k) [
  | inl c ↦ inr (Contains-append_left a b j c)
  | inr c ↦ elim (one_of i b c) [ inl e ↦ inl e | inr h ↦ inr (Contains-append_right a b j h) ]
]

middle_more : (a : List PatchInfo) (i : PatchInfo) (b : List PatchInfo) (j : PatchInfo) → Contains (a ++ b) j → Contains (a ++ i ∷ b) j
middle_more a i b j k = elim (Contains-append_cases a b j k) [ inl c ↦ Contains-append_left a (i ∷ b) j c | inr c ↦ Contains-append_right a (i ∷ b) j (more i b c) ]

-- the others are the same too
others : (x : PatchInfo) (xs a b : List PatchInfo) → Distinct (x ∷ xs) → Distinct (a ++ x ∷ b) → SameMembers (x ∷ xs) (a ++ x ∷ b) → SameMembers xs (a ++ b)
others x xs a b d e same j = (
  λ k. elim (middle_cases a x b j ((same j).0 (more x xs k))) [ inl h ↦ absurd (d.0 (rw (← h) at k)) | inr c ↦ c ],
  λ k. elim (one_of x xs ((same j).1 (middle_more a x b j k))) [ inl h ↦ absurd ((distinct_middle a x b e).1 (rw (← h) at k)) | inr c ↦ c ],
)

module _ (I : Type 0) (m : Meaning I) where
  -- the effects of patches of these names, one after the other
  abbrev pub effects_of : List PatchInfo → List (Effect I)
  effects_of [] = []
  effects_of (i ∷ is) = m.effects i ++ effects_of is

  effects-append : (a b : List PatchInfo) → effects_of (a ++ b) ≡ effects_of a ++ effects_of b
  effects-append [] b = refl
  effects-append (i ∷ a) b = ap (λ l. m.effects i ++ l) (effects-append a b) ∙ sym (append_assoc (m.effects i) (effects_of a) (effects_of b))

  -- the effects of one name first
  middle_first : (a : List PatchInfo) (i : PatchInfo) (b : List PatchInfo) → IsPermutation (m.effects i ++ effects_of (a ++ b)) (effects_of (a ++ i ∷ b))
  middle_first a i b =
      let e = m.effects i in let p = effects_of a in let q = effects_of b in
      rw (effects-append a b, effects-append a (i ∷ b), ← append_assoc e p q, ← append_assoc p e q)
      (IsPermutation-append_left q (e ++ p) (p ++ e) (IsPermutation-append_comm e p))

  effects_permuted : (xs ys : List PatchInfo) → Distinct xs → Distinct ys → SameMembers xs ys → IsPermutation (effects_of xs) (effects_of ys)
  effects_permuted [] [] d e same = IsPermutation-refl []
  effects_permuted [] (y ∷ ys) d e same = absurd (none_of ((same y).1 (here y ys)))
  effects_permuted (x ∷ xs) ys d e same =
      let w = split_at ys x ((same x).0 (here x xs)) in
      let a = w.0 in let b = w.1 in
      let h : Distinct (a ++ x ∷ b) = rw w.2 at e in
      let k : SameMembers (x ∷ xs) (a ++ x ∷ b) = rw w.2 at same in
      let r = effects_permuted xs (a ++ b) d.1 (distinct_middle a x b h).0 (others x xs a b d h k) in
      rw w.2 (IsPermutation-trans (effects_of (x ∷ xs)) (m.effects x ++ effects_of (a ++ b)) (effects_of (a ++ x ∷ b))
      (IsPermutation-append_right (m.effects x) (effects_of xs) (effects_of (a ++ b)) r) (middle_first a x b))

  -- all primitives of patches
  abbrev pub prims_of : List Patch → List Prim
  prims_of [] = []
  prims_of (x ∷ xs) = x.prims ++ prims_of xs

  pub runs_all : (xs : List Patch) {s t : NodeMap I} → Runs m xs s t → StepsAll (prims_of xs) (effects_of (infos_of xs)) s t
  runs_all [] done = refl
  runs_all (x ∷ xs) {s} {t} (step {u} h r) = steps_on I x.prims (prims_of xs) (m.effects x.info) (effects_of (infos_of xs)) s u t h.steps (runs_all xs r)

  -- all add what is new
  new_on : (s : NodeMap I) (es ds : List (Effect I)) → AllAddNew es s → AllAddNew ds s → ((e : Effect I) → Contains es e → SharesNone e ds) → AllAddNew (es ++ ds) s
  new_on s [] ds h k apart = k
  new_on s (e ∷ es) ds h k apart = (
    h.0,
    λ d c. elim (Contains-append_cases es ds d c) [ inl a ↦ h.1 d a | inr a ↦ apart e (here e es) d a ],
    new_on s es ds h.2 k (λ d c. apart d (more e es c)),
  )

  module _ (once : MakesOnce m) where
    shares_none : (i : PatchInfo) (is : List PatchInfo) → (Contains is i → ⊥) → (e : Effect I) → Contains (m.effects i) e → SharesNone e (effects_of is)
    shares_none i [] n e c d k = absurd (none_of k)
    shares_none i (j ∷ is) n e c d k = elim (Contains-append_cases (m.effects j) (effects_of is) d k) [
      | inl a ↦ once.between i j (λ h. n (rw h (here j is))) e c d a
      | inr a ↦ shares_none i is (λ h. n (more j is h)) e c d a
    ]

    pub all_new : (is : List PatchInfo) → Distinct is → AllAddNew (effects_of is) (root_of m.root)
    all_new [] d = tt
    all_new (i ∷ is) d = new_on (root_of m.root) (m.effects i) (effects_of is) (once.within i) (all_new is d.1) (λ e c. shares_none i is d.0 e c)

-- the root alone is a tree with no facts
module _ (I : Type 0) (r : I) where
  root_none : (p : Path) (n : Name) → root_of r (p ++ n ∷ []) ≡ None
  root_none [] n = refl
  root_none (x ∷ p) n = refl

  root_file : (p : Path) (x : I) (h : Heap) (c : List (Token I)) → root_of r p ≡ Some (FileWith x h c) → ⊥
  root_file [] x h c e = absurd (cc)
  root_file (n ∷ p) x h c e = absurd (cc)

  only_root : (p q : Path) (x y : Node I) → root_of r p ≡ Some x → root_of r q ≡ Some y → p ≡ q
  only_root [] [] x y e f = refl
  only_root (n ∷ p) q x y e f = absurd (cc)
  only_root [] (n ∷ q) x y e f = absurd (cc)

  pub root_tree : IsTree (root_of r)
  root_tree = record {
    root = (r, refl);
    parents = λ p n h. absurd (h (root_none p n));
    files = λ p x h c e. absurd (root_file p x h c e);
    unique = λ p q x y e f g. only_root p q x y e f;
  }

  root_all : (p : Path) → p ≢ [] → root_of r p ≢ None → Contains [] p
  root_all [] h k = absurd (h refl)
  root_all (n ∷ p) h k = absurd (k refl)

  pub root_facts : AreFacts (root_of r) []
  root_facts = record { paths = []; distinct = tt; all = root_all; listed = refl }

module _ (I : Type 0) where
  pub names_make_the_tree : laws.NamesMakeTheTree I
  names_make_the_tree m once xs ys s t d e same h k =
      facts.effects_determine_the_end I (prims_of I m xs) (prims_of I m ys) (effects_of I m (infos_of xs)) (effects_of I m (infos_of ys)) (root_of m.root) s t []
      (root_tree I m.root) (root_facts I m.root) (all_new I m once (infos_of xs) d) (effects_permuted I m (infos_of xs) (infos_of ys) d e same)
      (runs_all I m xs h) (runs_all I m ys k)
