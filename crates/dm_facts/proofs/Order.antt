-- Runs with the same effects, in any order, end in one tree.
use Rattle.std.proofs.Common.{◌≡◌, ◌≢◌, inl, inr, List, [], ◌∷◌, ◌++◌, map, Some, None, Contains, refl, sym, ap, subst, ◌∙◌}
use Rattle.std.specs.List.Sorted.{IsPermutation}
use Rattle.std.proofs.lemmas.List.Sorted.{IsPermutation-refl, IsPermutation-sym, Contains-permutation}
use Rattle.dm_chain.specs.Sums.{ComesTo, all_added, all_taken}
use Rattle.dm_chain.proofs.Permuted.{Found, permuted_found, found_permuted}
use Rattle.dm_chain.proofs.Adding.{joined, sums_forget_order}
use Rattle.std.proofs.lemmas.List.Elements.{Contains-append_left, Contains-append_right, Contains-append_cases}
use Rattle.dm_tree.specs.Paths.{Name, Path, Under}
use Rattle.dm_prim.specs.Primitives.{Prim, At, Move, ChangePref}
use Rattle.dm_chain.specs.Chains.{Token}
use Rattle.dm_chain.proofs.Members.{none_in_nil, head_is_in, next_is_in, in_cases, map_is_in}
use Rattle.dm_facts.specs.Heaps.{HeapEntry, Heap}
use Rattle.dm_facts.specs.Nodes.{Node, Folder, FileWith, NodeMap, IsNameIn, IsTree}
use Rattle.dm_facts.specs.Facts.{Fact, FolderIn, FileIn, TokenOf, Turned, facts_of, Effect, IsFactOf}
use Rattle.dm_facts.specs.Steps.{Steps}
use Rattle.dm_facts.specs.Sums.{FactsAt, AreFacts}
use Rattle.dm_facts.specs.Runs.{StepsAll, SharesNone, AllAddNew}
use Rattle.dm_facts.specs.Identities.{Introduces, AddsNew}
use Rattle.dm_facts.specs.Laws.{EffectsDetermineTheEnd}
use Rattle.dm_facts.proofs.Kept.{off_root, steps_keep_trees}
use Rattle.dm_facts.proofs.Newness.{new_after}
use Rattle.dm_facts.proofs.Sums.{name_one, same_facts, steps_keep_the_sum}
use Rattle.dm_facts.proofs.Determined.{facts_determine}

module _ (I : Type 0) where
  -- a run leads from a tree to a tree, and its facts are a sum; the root stays
  pub record Ends (es : List (Effect I)) (s t : NodeMap I) (fs : List (Fact I)) : Type 0 where
    pub tree : IsTree t
    pub facts : List (Fact I)
    pub are_facts : AreFacts t facts
    pub sum : ComesTo fs es facts
    pub root : t [] ≡ s []

  root_stays : (p : Prim) (e : Effect I) (s t : NodeMap I) → Steps p e s t → t [] ≡ s []
  root_stays (At p w) e s t h = h.elsewhere [] (λ i. off_root I (At p w) e s t h (sym i))
  root_stays (Move a b) e s t h = h.elsewhere [] (λ u. top a b u.0 u.1 h.apart.right) (λ u. top b a u.0 u.1 h.apart.left)
    where
      top : (a b r : Path) → [] ≡ a ++ r → (Under b a → ⊥) → ⊥
      top [] b r i h = h (b, refl)
      top (x ∷ a) b r i h = cc
  root_stays (ChangePref name old new) e s t h = ap (λ z. z []) (sym h.0)

  pub run_ends : (ps : List Prim) (es : List (Effect I)) (s t : NodeMap I) (fs : List (Fact I)) → IsTree s → AreFacts s fs → AllAddNew es s → StepsAll ps es s t → Ends es s t fs
  run_ends [] [] s t fs tree all new h = subst (λ z. Ends [] s z fs) h (record { tree = tree; facts = fs; are_facts = all; sum = IsPermutation-refl (fs ++ []); root = refl })
  run_ends [] (e ∷ es) s t fs tree all new h = absurd h
  run_ends (p ∷ ps) [] s t fs tree all new h = absurd h
  run_ends (p ∷ ps) (e ∷ es) s t fs tree all (here, apart, later) (u, step, rest) =
      let first = steps_keep_the_sum I p e s u fs all step in
      let r = run_ends ps es u t first.0 (steps_keep_trees I p e s u tree step here) first.1 (new_after I p e s u step es apart later) rest in
      record { tree = r.tree; facts = r.facts; are_facts = r.are_facts; sum = joined fs first.0 r.facts e.added e.taken (all_added es) (all_taken es) first.2 r.sum; root = r.root ∙ root_stays p e s u step }

  -- a fact holds where it is one of all facts

  holds_next : (s : NodeMap I) (p : Path) (x : Node I) (d : I) (n : Name) (a : Fact I) → s p ≡ Some x → IsNameIn p d n s → Contains (facts_of x d n) a → IsFactOf a s
  holds_next s p (Folder x) d n a i k c = elim (in_cases (FolderIn x d n) a [] c) [ inl e ↦ subst (λ z. IsFactOf z s) e (p, i, k) | inr e ↦ absurd (none_in_nil a e) ]
  holds_next s p (FileWith x hp ts) d n a i k c = elim (in_cases (FileIn x d n) a (map (TokenOf x) ts ++ map (Turned x) hp) c) [
    | inl e ↦ subst (λ z. IsFactOf z s) e (p, hp, ts, i, k)
    | inr e ↦ elim (Contains-append_cases (map (TokenOf x) ts) (map (Turned x) hp) a e) [ inl f ↦ token ts (λ t m. m) f | inr f ↦ replace hp (λ t m. m) f ]
  ]
    where
      replace : (us : Heap) → ((r : HeapEntry) → Contains us r → Contains hp r) → Contains (map (Turned x) us) a → IsFactOf a s
      replace [] inside e = absurd (none_in_nil a e)
      replace (u ∷ us) inside e = elim (in_cases (Turned x u) a (map (Turned x) us) e) [
        | inl f ↦ subst (λ z. IsFactOf z s) f (p, hp, ts, i, inside u (head_is_in u us))
        | inr f ↦ replace us (λ t m. inside t (next_is_in u t us m)) f
      ]

      token : (us : List (Token I)) → ((t : Token I) → Contains us t → Contains ts t) → Contains (map (TokenOf x) us) a → IsFactOf a s
      token [] inside e = absurd (none_in_nil a e)
      token (u ∷ us) inside e = elim (in_cases (TokenOf x u) a (map (TokenOf x) us) e) [
        | inl f ↦ subst (λ z. IsFactOf z s) f (p, hp, ts, i, inside u (head_is_in u us))
        | inr f ↦ token us (λ t m. inside t (next_is_in u t us m)) f
      ]

  holds_in : (s : NodeMap I) (ps : List Path) (fs : List (Fact I)) → FactsAt s ps fs → (a : Fact I) → Contains fs a → IsFactOf a s
  holds_in s [] fs h a c = absurd (none_in_nil a (subst (λ z. Contains z a) h c))
  holds_in s (p ∷ ps) fs (x, d, n, rest, i, k, e, h) a c = elim (Contains-append_cases (facts_of x d n) rest a (subst (λ z. Contains z a) e c)) [
    | inl m ↦ holds_next s p x d n a i k m
    | inr m ↦ holds_in s ps rest h a m
  ]

  -- all facts of what stands at a listed path are listed
  listed_facts : (s : NodeMap I) (ps : List Path) (fs : List (Fact I)) → FactsAt s ps fs → (p : Path) → Contains ps p → (x : Node I) × (d : I) × (n : Name) × (s p ≡ Some x) × IsNameIn p d n s × ((a : Fact I) → Contains (facts_of x d n) a → Contains fs a)
  listed_facts s [] fs h p c = absurd (none_in_nil p c)
  listed_facts s (q ∷ ps) fs (x, d, n, rest, i, k, e, h) p c = elim (in_cases q p ps c) [
    | inl j ↦ (x, d, n, ap s (sym j) ∙ i, subst (λ z. IsNameIn z d n s) j k, λ a m. subst (λ z. Contains z a) (sym e) (Contains-append_left (facts_of x d n) rest a m))
    | inr j ↦ let r = listed_facts s ps rest h p j in (r.0, r.1, r.2, r.3, r.4, λ a m. subst (λ z. Contains z a) (sym e) (Contains-append_right (facts_of x d n) rest a (r.5 a m)))
  ]

  -- a path that is a name is listed
  at_name : (s : NodeMap I) (fs : List (Fact I)) → AreFacts s fs → (p : Path) (x : Node I) (d : I) (n : Name) → s p ≡ Some x → IsNameIn p d n s → (a : Fact I) → Contains (facts_of x d n) a → Contains fs a
  at_name s fs all p x d n i k a c = go (listed_facts s all.paths fs all.listed p (all.all p (no_top p n k.parent k.is) (λ z. let y : Some x ≡ None = sym i ∙ z in cc)))
    where
      go : (x : Node I) × (d : I) × (n : Name) × (s p ≡ Some x) × IsNameIn p d n s × ((a : Fact I) → Contains (facts_of x d n) a → Contains fs a) → Contains fs a
      go (y, e, m, j, l, has) = let same = name_one I p d e n m s k l in has a (subst (λ z. Contains z a) (same_facts I x y d e n m (cc (i, j)) same.0 same.1) c)

      no_top : (p : Path) (n : Name) (q : Path) → p ≡ q ++ n ∷ [] → p ≢ []
      no_top p n [] i j = cc
      no_top p n (x ∷ q) i j = cc

  -- so is each fact that a file has besides where it stands
  of_file : (s : NodeMap I) (fs : List (Fact I)) → IsTree s → AreFacts s fs → (p : Path) (x : I) (h : Heap) (c : List (Token I)) → s p ≡ Some (FileWith x h c) → (a : Fact I) →
      Contains (map (TokenOf x) c ++ map (Turned x) h) a → Contains fs a
  of_file s fs tree all p x h c i a m =
      let r = listed_facts s all.paths fs all.listed p (all.all p off (λ z. let y : Some (FileWith x h c) ≡ None = sym i ∙ z in cc)) in
      let node : FileWith x h c ≡ r.0 = cc (i, r.3) in
      r.5 a (rw (← node) (next_is_in (FileIn x r.1 r.2) a (map (TokenOf x) c ++ map (Turned x) h) m))
    where
      off : p ≢ []
      off j = let y : Some (Folder tree.root.0) ≡ Some (FileWith x h c) = sym tree.root.1 ∙ ap s (sym j) ∙ i in cc

  is_listed : (s : NodeMap I) (fs : List (Fact I)) → IsTree s → AreFacts s fs → (a : Fact I) → IsFactOf a s → Contains fs a
  is_listed s fs tree all (FolderIn x d n) (p, i, k) = at_name s fs all p (Folder x) d n i k (FolderIn x d n) (head_is_in (FolderIn x d n) [])
  is_listed s fs tree all (FileIn x d n) (p, h, c, i, k) = at_name s fs all p (FileWith x h c) d n i k (FileIn x d n) (head_is_in (FileIn x d n) (map (TokenOf x) c ++ map (Turned x) h))
  is_listed s fs tree all (TokenOf x t) (p, h, c, i, m) =
      of_file s fs tree all p x h c i (TokenOf x t) (Contains-append_left (map (TokenOf x) c) (map (Turned x) h) (TokenOf x t) (map_is_in (TokenOf x) t c m))
  is_listed s fs tree all (Turned x r) (p, h, c, i, m) =
      of_file s fs tree all p x h c i (Turned x r) (Contains-append_right (map (TokenOf x) c) (map (Turned x) h) (Turned x r) (map_is_in (Turned x) r h m))

  -- what is new in one order is new in any

  shares_back : (e d : Effect I) (es : List (Effect I)) → SharesNone e es → Contains es d → SharesNone d (e ∷ [])
  shares_back e d es h c f k x i j = elim (in_cases e f [] k) [ inl a ↦ h d c x (subst (λ z. Introduces z x) (sym a) j) i | inr a ↦ absurd (none_in_nil f a) ]

  insert_new : (e : Effect I) (a b : List (Effect I)) (s : NodeMap I) → AllAddNew (a ++ b) s → AddsNew e s → SharesNone e (a ++ b) → AllAddNew (a ++ e ∷ b) s
  insert_new e [] b s all here share = (here, share, all)
  insert_new e (d ∷ a) b s (first, apart, all) here share = (
    first,
    λ f c x i j. elim (Contains-append_cases a (e ∷ b) f c) [
      | inl k ↦ apart f (Contains-append_left a b f k) x i j
      | inr k ↦ elim (in_cases e f b k) [
        | inl l ↦ share d (head_is_in d (a ++ b)) x (subst (λ z. Introduces z x) (sym l) j) i
        | inr l ↦ apart f (Contains-append_right a b f l) x i j
      ]
    ],
    insert_new e a b s all here (λ f c. share f (next_is_in d f (a ++ b) c)),
  )

  new_found : (es ds : List (Effect I)) (s : NodeMap I) → Found es ds → AllAddNew es s → AllAddNew ds s
  new_found [] ds s h all = subst (λ z. AllAddNew z s) (sym h) tt
  new_found (e ∷ es) ds s (a, b, i, h) (here, share, all) = subst (λ z. AllAddNew z s) (sym i) (insert_new e a b s (new_found es (a ++ b) s h all) here
      (λ f c. share f (Contains-permutation (a ++ b) es f (IsPermutation-sym es (a ++ b) (found_permuted es (a ++ b) h)) c)))

  pub effects_determine_the_end : EffectsDetermineTheEnd I
  effects_determine_the_end ps qs es ds s t u fs tree all new perm h k =
      let a = run_ends ps es s t fs tree all new h in
      let b = run_ends qs ds s u fs tree all (new_found es ds s (permuted_found es ds perm) new) k in
      let same : IsPermutation a.facts b.facts = sums_forget_order (Fact I) fs a.facts b.facts es ds perm a.sum b.sum in
      facts_determine I t u a.tree b.tree (a.root ∙ sym b.root) (λ x. (
        λ m. holds_in u b.are_facts.paths b.facts b.are_facts.listed x (Contains-permutation a.facts b.facts x same (is_listed t a.facts a.tree a.are_facts x m)),
        λ m. holds_in t a.are_facts.paths a.facts a.are_facts.listed x (Contains-permutation b.facts a.facts x (IsPermutation-sym a.facts b.facts same) (is_listed u b.facts b.tree b.are_facts x m)),
      ))
