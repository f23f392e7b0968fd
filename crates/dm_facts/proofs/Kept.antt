-- A step that adds what is new leads from a tree to a tree.
use Rattle.std.proofs.Common.{◌≡◌, ◌≢◌, ◌⊎◌, inl, inr, ℕ, List, [], ◌∷◌, ◌++◌, map, Some, None, Contains, refl, sym, ap, subst, ◌∙◌}
use Rattle.std.proofs.lemmas.List.{map-append}
use Rattle.std.proofs.lemmas.List.Elements.{Contains-append_left, Contains-append_right, Contains-append_cases}
use Rattle.dm_tree.specs.Paths.{Name, Path}
use Rattle.dm_tree.specs.Trees.{Lines, IsLawful}
use Rattle.dm_tree.proofs.Paths.{swap, swap_inj}
use Rattle.dm_prim.specs.Primitives.{Work, AddFile, RmFile, AddDir, RmDir, Hunk, Binary, Replace, Prim, At, Move, ChangePref}
use Rattle.dm_prim.proofs.Maps.{path_dec}
use Rattle.dm_prim.proofs.Undoing.{OffRoot, kept}
use Rattle.dm_chain.specs.Chains.{Token, HunkSteps, lefts, Distinct, HasOnePortEach}
use Rattle.dm_chain.proofs.Members.{none_in_nil, head_is_in, distinct-left, distinct-right, distinct-apart, distinct-append}
use Rattle.dm_chain.proofs.Stepping.{steps_keep_chains}
use Rattle.dm_facts.specs.Heaps.{Heap}
use Rattle.dm_facts.specs.Nodes.{Node, Folder, FileWith, NodeMap, identity, plain, IsFile, IsFolder, IsEmptyFile, IsTree}
use Rattle.dm_facts.specs.Facts.{TokenOf, Turned, facts_of, Effect}
use Rattle.dm_facts.specs.Steps.{Creates, Edits, Rewrites, TurnsFile, Makes, StepsAt, StepsMove, Steps}
use Rattle.dm_facts.specs.Identities.{subjects_of, IsOf, ports_of, AddsNew}
use Rattle.dm_facts.specs.Laws.{StepsKeepTrees}
use Rattle.dm_facts.proofs.TreeLemmas.{folder_of, none_of, tree_lawful}
use Rattle.dm_facts.proofs.StepLemmas.{applies}
use Rattle.dm_facts.proofs.SquareLemmas.{swaps_from}
use Rattle.dm_facts.proofs.Made.{subjects, ports, file_ports}

module _ (I : Type 0) where
  -- a name is no root
  pub off_root : (p : Prim) (e : Effect I) (s t : NodeMap I) → Steps p e s t → OffRoot p
  off_root (At p w) e s t h = λ i. never h.placed.parent h.name (sym i ∙ h.placed.is)
    where
      never : (q : Path) (n : Name) → [] ≡ q ++ n ∷ [] → ⊥
      never [] n i = cc
      never (x ∷ q) n i = cc
  off_root (Move a b) e s t h = tt
  off_root (ChangePref name old new) e s t h = tt

  lawful_after : (p : Prim) (e : Effect I) (s t : NodeMap I) → IsTree s → Steps p e s t → IsLawful (plain t)
  lawful_after p e s t tree h = kept p (plain s) (plain t) (off_root p e s t h) (tree_lawful I s tree) (applies I p e s t h)

  -- a node's own identity is one of it
  pub own : (x : Node I) → IsOf (identity x) x
  own (Folder x) = refl
  own (FileWith x h c) = inl refl

  -- the first fact of a node is about it
  about : (x : Node I) (d : I) (n : Name) → Contains (subjects_of (facts_of x d n)) (identity x)
  about (Folder x) d n = head_is_in x []
  about (FileWith x h c) d n = head_is_in x (subjects_of (map (TokenOf x) c ++ map (Turned x) h))

  -- gaps and lines replaced by others whose ports are new, or those of some replaced
  ports_apart : (f i j b : List I) → Distinct (f ++ (i ++ b)) → Distinct j → ((y : I) → Contains j y → (Contains i y → ⊥) → Contains (f ++ (i ++ b)) y → ⊥) → Distinct (f ++ (j ++ b))
  ports_apart f i j b h k new =
      distinct-append f (j ++ b) (distinct-left f (i ++ b) h)
      (distinct-append j b k (distinct-right i b rest) (λ y c d. new y c (λ e. distinct-apart i b rest y e d) (Contains-append_right f (i ++ b) y (Contains-append_right i b y d))))
      (λ y c d. elim (Contains-append_cases j b y d) [
        | inl e ↦ new y e (λ g. distinct-apart f (i ++ b) h y c (Contains-append_left i b y g)) (Contains-append_left f (i ++ b) y c)
        | inr e ↦ distinct-apart f (i ++ b) h y c (Contains-append_right i b y e)
      ])
    where
      rest : Distinct (i ++ b)
      rest = distinct-right f (i ++ b) h

  module _ (p : Path) (e : Effect I) (s t : NodeMap I) (tree : IsTree s) (new : AddsNew e s) where
    -- a node that is added has an identity of its own
    created : (Is : Node I → Type 0) (d : I) (n : Name) → Creates Is d n (s p) (t p) e → (x y : Node I) (q : Path) → t p ≡ Some x → s q ≡ Some y → identity x ≡ identity y → p ≡ q
    created Is d n c x y q i j k =
        let same : c.node ≡ x = cc (c.there, i) in
        absurd (new.new (identity y) (rw c.effect ((rw (← k, ← same) (about c.node d n)), none_in_nil (identity y))) (q, y, j, own y))

    hunk_apart : (l : ℕ) (old more : Lines) → Edits l old more (s p) (t p) e → (x : I) (k : Heap) (c : List (Token I)) → t p ≡ Some (FileWith x k c) → IsFile x k c × HasOnePortEach c
    hunk_apart l old more h x k c i = go h.replaced
      where
        go : HunkSteps l h.was h.is h.taken h.added h.tokens h.tokens' → IsFile x k c × HasOnePortEach c
        go r =
            let file : h.file ≡ x = cc (h.there, i) in
            let heap : h.heap ≡ k = cc (h.there, i) in
            let same : h.tokens' ≡ c = cc (h.there, i) in
            let was = tree.files p h.file h.heap h.tokens h.stood in
            let before : Distinct (lefts r.front ++ (lefts h.taken ++ lefts r.back)) = rw (r.before, map-append (λ z. z.left) r.front (h.taken ++ r.back), map-append (λ z. z.left) h.taken r.back) at was.1 in
            let added : Distinct (lefts h.added) = rw (h.effect, ports I h.file h.added) at new.apart in
            let after : Distinct (lefts r.front ++ (lefts h.added ++ lefts r.back)) = ports_apart (lefts r.front) (lefts h.taken) (lefts h.added) (lefts r.back) before added
            (λ y k n m. new.new y (rw (h.effect, subjects I h.file h.added, subjects I h.file h.taken) (k, n))
            (p, FileWith h.file h.heap h.tokens, h.stood, inr (rw (r.before, map-append (λ z. z.left) r.front (h.taken ++ r.back), map-append (λ z. z.left) h.taken r.back) m))) in
            let all : HasOnePortEach h.tokens' = rw (r.after, map-append (λ z. z.left) r.front (h.added ++ r.back), map-append (λ z. z.left) h.added r.back) after in
            (rw (← file, ← heap, ← same) (was.0.0, steps_keep_chains I h.file was.0.0 l h.was h.is h.taken h.added h.tokens h.tokens' was.0.1 r, was.0.2), rw (← same) all)

    rewritten_apart : (old more : Lines) → Rewrites old more (s p) (t p) e → (x : I) (k : Heap) (c : List (Token I)) → t p ≡ Some (FileWith x k c) → IsFile x k c × HasOnePortEach c
    rewritten_apart old more h x k c i =
        let file : h.file ≡ x = cc (h.there, i) in
        let heap : h.heap ≡ k = cc (h.there, i) in
        let same : h.tokens' ≡ c = cc (h.there, i) in
        let all : HasOnePortEach h.tokens' = rw (h.effect, ports I h.file h.tokens') at new.apart in
        (rw (← file, ← heap, ← same) h.is_file, rw (← same) all)

    turned_apart : (set old more : List ℕ) → TurnsFile set old more (s p) (t p) e → (x : I) (k : Heap) (c : List (Token I)) → t p ≡ Some (FileWith x k c) → IsFile x k c × HasOnePortEach c
    turned_apart set old more h x k c i =
        let file : h.file ≡ x = cc (h.there, i) in
        let heap : h.heap' ≡ k = cc (h.there, i) in
        let same : h.tokens ≡ c = cc (h.there, i) in
        (rw (← file, ← heap, ← same) h.is_file, rw (← same) (tree.files p h.file h.heap h.tokens h.stood).1)

    file_after : (w : Work) (d : I) (n : Name) → Makes w d n (s p) (t p) e → (x : I) (k : Heap) (c : List (Token I)) → t p ≡ Some (FileWith x k c) → IsFile x k c × HasOnePortEach c
    file_after AddFile d n h x k c i =
        let same : h.node ≡ FileWith x k c = cc (h.there, i) in
        let is : IsEmptyFile (FileWith x k c) = rw same at h.is in
        let all : Distinct (ports_of (map (TokenOf x) c ++ map (Turned x) k)) = rw (h.effect, same) at new.apart in
        (is.0, rw (file_ports I x k c) at all)
    file_after RmFile d n h x k c i = let z : t p ≡ None = h.nothing in absurd (cc)
    file_after AddDir d n h x k c i = let same : h.node ≡ FileWith x k c = cc (h.there, i) in absurd (rw same at h.is)
    file_after RmDir d n h x k c i = let z : t p ≡ None = h.nothing in absurd (cc)
    file_after (Hunk l old more) d n h x k c i = hunk_apart l old more h x k c i
    file_after (Binary old more) d n h x k c i = rewritten_apart old more h x k c i
    file_after (Replace set old more) d n h x k c i = turned_apart set old more h x k c i

    -- a file that keeps its identity
    only_file : (f : I) (h h' : Heap) (c c' : List (Token I)) → s p ≡ Some (FileWith f h c) → t p ≡ Some (FileWith f h' c') → (x y : Node I) (q : Path) → t p ≡ Some x → s q ≡ Some y → identity x ≡ identity y → p ≡ q
    only_file f h h' c c' stood there x y q i j k =
        let same : FileWith f h' c' ≡ x = cc (there, i) in
        tree.unique p q (FileWith f h c) y stood j (ap identity same ∙ k)

    only_one : (w : Work) (d : I) (n : Name) → Makes w d n (s p) (t p) e → (x y : Node I) (q : Path) → t p ≡ Some x → s q ≡ Some y → identity x ≡ identity y → p ≡ q
    only_one AddFile d n h x y q i j k = created IsEmptyFile d n h x y q i j k
    only_one RmFile d n h x y q i j k = let z : t p ≡ None = h.nothing in absurd (cc)
    only_one AddDir d n h x y q i j k = created IsFolder d n h x y q i j k
    only_one RmDir d n h x y q i j k = let z : t p ≡ None = h.nothing in absurd (cc)
    only_one (Hunk l old more) d n h x y q i j k = only_file h.file h.heap h.heap h.tokens h.tokens' h.stood h.there x y q i j k
    only_one (Binary old more) d n h x y q i j k = only_file h.file h.heap h.heap h.tokens h.tokens' h.stood h.there x y q i j k
    only_one (Replace set old more) d n h x y q i j k = only_file h.file h.heap h.heap' h.tokens h.tokens h.stood h.there x y q i j k

    work_keeps : (w : Work) → StepsAt p w e s t → IsTree t
    work_keeps w h = record {
      root = folder_of I (t []) l.root;
      parents = λ q n k. folder_of I (t q) (l.parents q n (λ z. k (none_of I (t (q ++ n ∷ [])) z)));
      files = λ q x k c i. file q x k c i (path_dec q p);
      unique = λ q r x y i j k. one q r x y i j k (path_dec q p) (path_dec r p);
    }
      where
        l : IsLawful (plain t)
        l = lawful_after (At p w) e s t tree h

        file : (q : Path) (x : I) (k : Heap) (c : List (Token I)) → t q ≡ Some (FileWith x k c) → (q ≡ p) ⊎ (q ≢ p) → IsFile x k c × HasOnePortEach c
        file q x k c i (inl j) = file_after w h.directory h.name h.here x k c (ap t (sym j) ∙ i)
        file q x k c i (inr j) = tree.files q x k c (sym (h.elsewhere q j) ∙ i)

        one : (q r : Path) (x y : Node I) → t q ≡ Some x → t r ≡ Some y → identity x ≡ identity y → (q ≡ p) ⊎ (q ≢ p) → (r ≡ p) ⊎ (r ≢ p) → q ≡ r
        one q r x y i j k (inl a) (inl b) = a ∙ sym b
        one q r x y i j k (inl a) (inr b) = a ∙ only_one w h.directory h.name h.here x y r (ap t (sym a) ∙ i) (sym (h.elsewhere r b) ∙ j) k
        one q r x y i j k (inr a) (inl b) = sym (only_one w h.directory h.name h.here y x q (ap t (sym b) ∙ j) (sym (h.elsewhere q a) ∙ i) (sym k)) ∙ sym b
        one q r x y i j k (inr a) (inr b) = tree.unique q r x y (sym (h.elsewhere q a) ∙ i) (sym (h.elsewhere r b) ∙ j) k

  move_keeps : (a b : Path) (e : Effect I) (s t : NodeMap I) → IsTree s → StepsMove a b e s t → IsTree t
  move_keeps a b e s t tree h =
      let sw = swaps_from I a b e s t h in
      let l : IsLawful (plain t) = lawful_after (Move a b) e s t tree h in
      record {
        root = folder_of I (t []) l.root;
        parents = λ q n k. folder_of I (t q) (l.parents q n (λ z. k (none_of I (t (q ++ n ∷ [])) z)));
        files = λ q x k c i. tree.files (swap a b q) x k c (sym (sw.is q) ∙ i);
        unique = λ q r x y i j k. swap_inj a b q r h.apart (tree.unique (swap a b q) (swap a b r) x y (sym (sw.is q) ∙ i) (sym (sw.is r) ∙ j) k);
      }

  pub steps_keep_trees : StepsKeepTrees I
  steps_keep_trees (At p w) e s t tree h new = work_keeps p e s t tree new w h
  steps_keep_trees (Move a b) e s t tree h new = move_keeps a b e s t tree h
  steps_keep_trees (ChangePref name old more) e s t tree h new = subst IsTree h.0 tree
