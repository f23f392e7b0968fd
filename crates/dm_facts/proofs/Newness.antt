-- Which identities are in a tree after a step, and that what is new to all stays new along a run.
use Rattle.std.proofs.Common.{◌≡◌, ◌≢◌, ◌⊎◌, inl, inr, ℕ, List, [], ◌∷◌, ◌++◌, map, Some, None, Contains, sym, ap, subst, ◌∙◌}
use Rattle.std.proofs.lemmas.List.{map-append}
use Rattle.std.proofs.lemmas.List.Elements.{Contains-append_left, Contains-append_right, Contains-append_cases}
use Rattle.dm_tree.specs.Paths.{Name, Path}
use Rattle.dm_tree.specs.Trees.{Lines}
use Rattle.dm_tree.proofs.Paths.{swap}
use Rattle.dm_prim.specs.Primitives.{Work, AddFile, RmFile, AddDir, RmDir, Hunk, Binary, Replace, Prim, At, Move, ChangePref}
use Rattle.dm_prim.proofs.Maps.{path_dec}
use Rattle.dm_chain.specs.Chains.{Token, HunkSteps, lefts}
use Rattle.dm_chain.proofs.Members.{none_in_nil, head_is_in, it_is_in, next_is_in, in_cases}
use Rattle.dm_facts.specs.Nodes.{Node, Folder, FileWith, NodeMap, IsFolder, IsEmptyFile}
use Rattle.dm_facts.specs.Facts.{TokenOf, Turned, stands, facts_of, Effect, inverse}
use Rattle.dm_facts.specs.Steps.{Creates, Edits, Rewrites, TurnsFile, Makes, Steps}
use Rattle.dm_facts.specs.Identities.{subjects_of, IsOf, IsIn}
use Rattle.dm_facts.specs.Runs.{SharesNone, AllAddNew}
use Rattle.dm_facts.proofs.SquareLemmas.{swaps_from}
use Rattle.dm_facts.proofs.Made.{subjects, file_subjects}

module _ (I : Type 0) where
  -- what the facts of a node are about is of the node, and the other way
  of_node : (x : I) (y : Node I) (d : I) (n : Name) → IsOf x y → Contains (subjects_of (facts_of y d n)) x
  of_node x (Folder y) d n i = it_is_in y x [] i
  of_node x (FileWith y h c) d n (inl i) = it_is_in y x (subjects_of (map (TokenOf y) c ++ map (Turned y) h)) i
  of_node x (FileWith y h c) d n (inr i) = next_is_in y x (subjects_of (map (TokenOf y) c ++ map (Turned y) h)) (rw (file_subjects I y h c) i)

  is_of : (x : I) (y : Node I) (d : I) (n : Name) → Contains (subjects_of (facts_of y d n)) x → IsOf x y
  is_of x (Folder y) d n c = elim (in_cases y x [] c) [ inl i ↦ i | inr i ↦ absurd (none_in_nil x i) ]
  is_of x (FileWith y h c) d n k = elim (in_cases y x (subjects_of (map (TokenOf y) c ++ map (Turned y) h)) k) [ inl i ↦ inl i | inr i ↦ inr (rw (file_subjects I y h c) at i) ]

  stands_of : (x : I) (y : Node I) (d : I) (n : Name) → Contains (subjects_of (stands y d n ∷ [])) x → IsOf x y
  stands_of x (Folder y) d n c = elim (in_cases y x [] c) [ inl i ↦ i | inr i ↦ absurd (none_in_nil x i) ]
  stands_of x (FileWith y h c) d n k = elim (in_cases y x [] k) [ inl i ↦ inl i | inr i ↦ absurd (none_in_nil x i) ]

  -- the ports of three parts
  parts : (front mid back : List (Token I)) → lefts (front ++ (mid ++ back)) ≡ lefts front ++ (lefts mid ++ lefts back)
  parts front mid back = map-append (λ z. z.left) front (mid ++ back) ∙ ap (λ z. lefts front ++ z) (map-append (λ z. z.left) mid back)

  module _ (p : Path) (e : Effect I) (s t : NodeMap I) (x : I) where
    created : (Is : Node I → Type 0) (d : I) (n : Name) (y : Node I) → Creates Is d n (s p) (t p) e → t p ≡ Some y → IsOf x y → IsIn x s ⊎ Contains (subjects_of e.added) x
    created Is d n y c i k =
        let same : c.node ≡ y = cc (c.there, i) in
        let all : Contains (subjects_of (facts_of c.node d n)) x = rw same (of_node x y d n k) in
        inr (rw c.effect all)

    edited : (l : ℕ) (old new : Lines) (y : Node I) → Edits l old new (s p) (t p) e → t p ≡ Some y → IsOf x y → IsIn x s ⊎ Contains (subjects_of e.added) x
    edited l old new y h i k = go h.replaced (rw (← same) at k)
      where
        same : FileWith h.file h.heap h.tokens' ≡ y
        same = cc (h.there, i)

        go : HunkSteps l h.was h.is h.taken h.added h.tokens h.tokens' → (h.file ≡ x) ⊎ Contains (lefts h.tokens') x → IsIn x s ⊎ Contains (subjects_of e.added) x
        go r (inl j) = inl (p, FileWith h.file h.heap h.tokens, h.stood, inl j)
        go r (inr j) = elim (Contains-append_cases (lefts r.front) (lefts h.added ++ lefts r.back) x (rw (r.after, parts r.front h.added r.back) at j)) [
          | inl a ↦ inl (p, FileWith h.file h.heap h.tokens, h.stood, inr (rw (r.before, parts r.front h.taken r.back) (Contains-append_left (lefts r.front) (lefts h.taken ++ lefts r.back) x a)))
          | inr a ↦ elim (Contains-append_cases (lefts h.added) (lefts r.back) x a) [
            | inl b ↦ inr (rw (h.effect, subjects I h.file h.added) b)
            | inr b ↦ inl (
              p,
              FileWith h.file h.heap h.tokens,
              h.stood,
              inr (rw (r.before, parts r.front h.taken r.back)
                  (Contains-append_right (lefts r.front) (lefts h.taken ++ lefts r.back) x (Contains-append_right (lefts h.taken) (lefts r.back) x b))),
            )
          ]
        ]

    rewritten : (old new : Lines) (y : Node I) → Rewrites old new (s p) (t p) e → t p ≡ Some y → IsOf x y → IsIn x s ⊎ Contains (subjects_of e.added) x
    rewritten old new y h i k = go (rw (← same) at k)
      where
        same : FileWith h.file h.heap h.tokens' ≡ y
        same = cc (h.there, i)

        go : (h.file ≡ x) ⊎ Contains (lefts h.tokens') x → IsIn x s ⊎ Contains (subjects_of e.added) x
        go (inl j) = inl (p, FileWith h.file h.heap h.tokens, h.stood, inl j)
        go (inr j) = inr (rw (h.effect, subjects I h.file h.tokens') j)

    turned : (set old new : List ℕ) (y : Node I) → TurnsFile set old new (s p) (t p) e → t p ≡ Some y → IsOf x y → IsIn x s
    turned set old new y h i k = (p, FileWith h.file h.heap h.tokens, h.stood, was (rw (← same) at k))
      where
        same : FileWith h.file h.heap' h.tokens ≡ y
        same = cc (h.there, i)

        was : IsOf x (FileWith h.file h.heap' h.tokens) → IsOf x (FileWith h.file h.heap h.tokens)
        was j = j

    made : (w : Work) (d : I) (n : Name) (y : Node I) → Makes w d n (s p) (t p) e → t p ≡ Some y → IsOf x y → IsIn x s ⊎ Contains (subjects_of e.added) x
    made AddFile d n y h i k = created IsEmptyFile d n y h i k
    made RmFile d n y h i k = let z : t p ≡ None = h.nothing in absurd (cc)
    made AddDir d n y h i k = created IsFolder d n y h i k
    made RmDir d n y h i k = let z : t p ≡ None = h.nothing in absurd (cc)
    made (Hunk l old new) d n y h i k = edited l old new y h i k
    made (Binary old new) d n y h i k = rewritten old new y h i k
    made (Replace set old new) d n y h i k = inl (turned set old new y h i k)

    removed : (Is : Node I → Type 0) (d : I) (n : Name) → Creates Is d n (t p) (s p) (inverse e) → Contains (subjects_of e.taken) x → IsIn x s
    removed Is d n c k = (p, c.node, c.there, is_of x c.node d n (rw (ap (λ z. z.added) c.effect) at k))

    gave_way : (old new : Lines) → Rewrites old new (s p) (t p) e → Contains (subjects_of e.taken) x → IsIn x s
    gave_way old new h k = (p, FileWith h.file h.heap h.tokens, h.stood, inr (rw (ap (λ z. z.taken) h.effect, subjects I h.file h.tokens) at k))

    -- no fact about an identity is taken away where lines turn
    took_none : (set old new : List ℕ) → TurnsFile set old new (s p) (t p) e → subjects_of e.taken ≡ []
    took_none set old new h = elim h.change [ inl k ↦ ap (λ z. subjects_of z.taken) k.effect | inr k ↦ ap (λ z. subjects_of z.added) k.effect ]

    took : (w : Work) (d : I) (n : Name) → Makes w d n (s p) (t p) e → Contains (subjects_of e.taken) x → IsIn x s
    took AddFile d n h k = absurd (none_in_nil x (rw (ap (λ z. z.taken) h.effect) at k))
    took RmFile d n h k = removed IsEmptyFile d n h k
    took AddDir d n h k = absurd (none_in_nil x (rw (ap (λ z. z.taken) h.effect) at k))
    took RmDir d n h k = removed IsFolder d n h k
    took (Hunk l old new) d n h k = go h.replaced
      where
        go : HunkSteps l h.was h.is h.taken h.added h.tokens h.tokens' → IsIn x s
        go r = (
          p,
          FileWith h.file h.heap h.tokens,
          h.stood,
          inr (rw (r.before, parts r.front h.taken r.back)
              (Contains-append_right (lefts r.front) (lefts h.taken ++ lefts r.back) x (Contains-append_left (lefts h.taken) (lefts r.back) x (rw (ap (λ z. z.taken) h.effect, subjects I h.file h.taken) at k)))),
        )
    took (Binary old new) d n h k = gave_way old new h k
    took (Replace set old new) d n h k = absurd (none_in_nil x (subst (λ z. Contains z x) (took_none set old new h) k))

  -- what is in the tree after a step was there before, or is added
  pub in_after : (p : Prim) (e : Effect I) (s t : NodeMap I) → Steps p e s t → (x : I) → IsIn x t → IsIn x s ⊎ Contains (subjects_of e.added) x
  in_after (At p w) e s t h x (q, y, i, k) = go (path_dec q p)
    where
      go : (q ≡ p) ⊎ (q ≢ p) → IsIn x s ⊎ Contains (subjects_of e.added) x
      go (inl j) = made p e s t x w h.directory h.name y h.here (ap t (sym j) ∙ i) k
      go (inr j) = inl (q, y, sym (h.elsewhere q j) ∙ i, k)
  in_after (Move a b) e s t h x (q, y, i, k) = let sw = swaps_from I a b e s t h in inl (swap a b q, y, sym (sw.is q) ∙ i, k)
  in_after (ChangePref name old new) e s t h x k = inl (subst (λ z. IsIn x z) (sym h.0) k)

  -- what a fact is about that is taken was there
  pub in_before : (p : Prim) (e : Effect I) (s t : NodeMap I) → Steps p e s t → (x : I) → Contains (subjects_of e.taken) x → IsIn x s
  in_before (At p w) e s t h x k = took p e s t x w h.directory h.name h.here k
  in_before (Move a b) e s t h x k = (a, h.node, h.stood, stands_of x h.node h.from h.old_name (rw (ap (λ z. z.taken) h.effect) at k))
  in_before (ChangePref name old new) e s t h x k = absurd (none_in_nil x (rw (ap (λ z. z.taken) h.1) at k))

  -- what is new to all, and introduced by no two, is new to the rest after a step
  pub new_after : (p : Prim) (e : Effect I) (s t : NodeMap I) → Steps p e s t → (es : List (Effect I)) → SharesNone e es → AllAddNew es s → AllAddNew es t
  new_after p e s t h [] none all = tt
  new_after p e s t h (d ∷ es) none (here, apart, all) = (
    record {
      new = λ x i k. elim (in_after p e s t h x k) [
        | inl j ↦ here.new x i j
        | inr j ↦ none d (head_is_in d es) x (j, λ m. here.new x i (in_before p e s t h x m)) i
      ];
      apart = here.apart;
    },
    apart,
    new_after p e s t h es (λ f c. none f (next_is_in d f es c)) all,
  )
