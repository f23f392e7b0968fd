-- The facts that hold in a tree determine it.
use Rattle.std.proofs.Common.{◌≡◌, ◌↔◌, List, [], ◌∷◌, ◌++◌, Option, Some, None, Contains, refl, sym, ap, ap₂, subst, ◌∙◌, append_assoc, append-nil}
use Rattle.dm_tree.specs.Paths.{Name, Path}
use Rattle.dm_chain.specs.Chains.{Token}
use Rattle.dm_chain.proofs.Determined.{tokens_determine}
use Rattle.dm_facts.specs.Heaps.{HeapEntry, Heap}
use Rattle.dm_facts.specs.Nodes.{Node, Folder, FileWith, NodeMap, IsNameIn, IsTree}
use Rattle.dm_facts.specs.Facts.{Fact, FolderIn, FileIn, TokenOf, Turned, IsFactOf}
use Rattle.dm_facts.specs.Laws.{FactsDetermineTheTree}
use Rattle.dm_facts.proofs.HeapLemmas.{same_heap}

-- a path, name after name
pub data Built : Path → Type 0 where
  top : Built []
  name : (q : Path) (n : Name) → Built q → Built (q ++ n ∷ [])

built_from : (q : Path) → Built q → (r : Path) → Built (q ++ r)
built_from q b [] = rw (append-nil q) b
built_from q b (n ∷ r) = rw (append_assoc q (n ∷ []) r) at (built_from (q ++ n ∷ []) (name q n b) r)

built : (p : Path) → Built p
built p = built_from [] top p

module _ (I : Type 0) where
  one_file : (o : Option (Node I)) (x : I) (h k : Heap) (c d : List (Token I)) → o ≡ Some (FileWith x h c) → o ≡ Some (FileWith x k d) → (h ≡ k) × (c ≡ d)
  one_file o x h k c d i j = (cc (i, j), cc (i, j))

  module _ (s t : NodeMap I) (is : IsTree s) (it : IsTree t) (root : s [] ≡ t []) (same : (a : Fact I) → IsFactOf a s → IsFactOf a t) where
    name_there : (d : I) (q r : Path) (n : Name) → t q ≡ Some (Folder d) → IsNameIn r d n t → r ≡ q ++ n ∷ []
    name_there d q r n i h = h.is ∙ ap (λ z. z ++ n ∷ []) (it.unique h.parent q (Folder d) (Folder d) h.folder i refl)

    folder_there : {p : Path} → Built p → (x : I) → s p ≡ Some (Folder x) → t p ≡ Some (Folder x)
    folder_there top x i = sym root ∙ i
    folder_there (name q n b) x i =
        let up = is.parents q n (λ k. let z : Some (Folder x) ≡ None = sym i ∙ k in cc) in
        let there = same (FolderIn x up.0 n) (q ++ n ∷ [], i, record { parent = q; is = refl; folder = up.1 }) in
        ap t (sym (name_there up.0 q there.0 n (folder_there b up.0 up.1) there.2)) ∙ there.1

    file_there : {p : Path} → Built p → (x : I) (h : Heap) (c : List (Token I)) → s p ≡ Some (FileWith x h c) → (k : Heap) × (d : List (Token I)) × (t p ≡ Some (FileWith x k d))
    file_there top x h c i = let z : Some (Folder is.root.0) ≡ Some (FileWith x h c) = sym is.root.1 ∙ i in absurd (cc)
    file_there (name q n b) x h c i = above (is.parents q n (λ k. let z : Some (FileWith x h c) ≡ None = sym i ∙ k in cc))
      where
        found : (d : I) → s q ≡ Some (Folder d) → IsFactOf (FileIn x d n) t → (k : Heap) × (e : List (Token I)) × (t (q ++ n ∷ []) ≡ Some (FileWith x k e))
        found d up (r, k, e, there, placed) = (k, e, ap t (sym (name_there d q r n (folder_there b d up) placed)) ∙ there)

        above : (d : I) × (s q ≡ Some (Folder d)) → (k : Heap) × (e : List (Token I)) × (t (q ++ n ∷ []) ≡ Some (FileWith x k e))
        above (d, up) = found d up (same (FileIn x d n) (q ++ n ∷ [], h, c, i, record { parent = q; is = refl; folder = up }))

    module _ (p : Path) (x : I) (h k : Heap) (c d : List (Token I)) (i : s p ≡ Some (FileWith x h c)) (j : t p ≡ Some (FileWith x k d)) where
      token_there : (u : Token I) → Contains c u → Contains d u
      token_there u m =
          let there = same (TokenOf x u) (p, h, c, i, m) in
          let at : there.0 ≡ p = it.unique there.0 p (FileWith x there.1 there.2) (FileWith x k d) there.3 j refl in
          subst (λ z. Contains z u) (one_file (t p) x there.1 k there.2 d (ap t (sym at) ∙ there.3) j).1 there.4

      replace_there : (r : HeapEntry) → Contains h r → Contains k r
      replace_there r m =
          let there = same (Turned x r) (p, h, c, i, m) in
          let at : there.0 ≡ p = it.unique there.0 p (FileWith x there.1 there.2) (FileWith x k d) there.3 j refl in
          subst (λ z. Contains z r) (one_file (t p) x there.1 k there.2 d (ap t (sym at) ∙ there.3) j).0 there.4

    some_there : (p : Path) → t p ≡ None → s p ≡ None
    some_there p h = go (s p) refl
      where
        go : (o : Option (Node I)) → s p ≡ o → s p ≡ None
        go None i = i
        go (Some (Folder x)) i = let z : Some (Folder x) ≡ None = sym (folder_there (built p) x i) ∙ h in absurd (cc)
        go (Some (FileWith x k c)) i = let f = file_there (built p) x k c i in let z : Some (FileWith x f.0 f.1) ≡ None = sym f.2 ∙ h in absurd (cc)

  module _ (s t : NodeMap I) (is : IsTree s) (it : IsTree t) (root : s [] ≡ t []) (same : (a : Fact I) → IsFactOf a s ↔ IsFactOf a t) where
    at_path : (p : Path) → s p ≡ t p
    at_path p = go (s p) refl
      where
        go : (o : Option (Node I)) → s p ≡ o → s p ≡ t p
        go None i = i ∙ sym (some_there t s it is (sym root) (λ a. (same a).1) p i)
        go (Some (Folder x)) i = i ∙ sym (folder_there s t is it root (λ a. (same a).0) (built p) x i)
        go (Some (FileWith x h c)) i =
            let f = file_there s t is it root (λ a. (same a).0) (built p) x h c i in
            let fs = is.files p x h c i in
            let ft = it.files p x f.0 f.1 f.2 in
            let one : c ≡ f.1 = tokens_determine I x fs.0.0 ft.0.0 c f.1 fs.0.1 ft.0.1 fs.1 ft.1
            (λ u. (token_there s t is it root (λ a. (same a).0) p x h f.0 c f.1 i f.2 u, token_there t s it is (sym root) (λ a. (same a).1) p x f.0 h f.1 c f.2 i u)) in
            let heap : h ≡ f.0 = same_heap h f.0 fs.0.2 ft.0.2 (replace_there s t is it root (λ a. (same a).0) p x h f.0 c f.1 i f.2) (replace_there t s it is (sym root) (λ a. (same a).1) p x f.0 h f.1 c f.2 i) in
            i ∙ ap₂ (λ y z. Some (FileWith x y z)) heap one ∙ sym f.2

  pub facts_determine : FactsDetermineTheTree I
  facts_determine s t is it root same = λ i p. at_path s t is it root same p i
