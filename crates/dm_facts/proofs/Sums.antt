-- A step is a sum.
use Rattle.std.proofs.Common.{◌≡◌, ◌≢◌, ◌⊎◌, inl, inr, List, [], ◌∷◌, ◌++◌, map, Some, None, Contains, refl, sym, ap, subst, ◌∙◌, append-nil, append_assoc}
use Rattle.std.specs.List.Sorted.{IsPermutation}
use Rattle.std.proofs.lemmas.List.{map-append}
use Rattle.std.proofs.lemmas.List.Sorted.{IsPermutation-refl, IsPermutation-sym, IsPermutation-trans, IsPermutation-cons, IsPermutation-map, IsPermutation-append_comm, IsPermutation-append_left, IsPermutation-append_right}
use Rattle.dm_tree.specs.Paths.{Name, Path}
use Rattle.dm_tree.proofs.Paths.{swap, swap-swap, swap-other, swap_inj}
use Rattle.dm_tree.proofs.Trees.{snoc_inj}
use Rattle.dm_prim.specs.Primitives.{Work, AddFile, RmFile, AddDir, RmDir, Hunk, Binary, Replace, Prim, At, Move, ChangePref}
use Rattle.dm_prim.proofs.Maps.{path_dec, child_differs}
use Rattle.dm_prim.proofs.Undoing.{swap_left}
use Rattle.dm_chain.specs.Chains.{Token, Distinct}
use Rattle.dm_chain.proofs.Members.{none_in_nil, head_is_in, it_is_in, next_is_in, in_cases, map_is_in}
use Rattle.dm_chain.proofs.Determined.{keep_the_sum}
use Rattle.dm_chain.proofs.Adding.{last_exchanged}
use Rattle.dm_tokens.specs.Validity.{TokenWords}
use Rattle.dm_facts.specs.Heaps.{Heap, entry_on, put_on}
use Rattle.dm_facts.specs.Nodes.{Node, Folder, FileWith, NodeMap, IsFolder, IsEmptyFile, IsNameIn}
use Rattle.dm_facts.specs.Facts.{Fact, FileIn, TokenOf, Turned, stands, facts_of, Effect, inverse}
use Rattle.dm_facts.specs.Steps.{Creates, PutsOn, StepsAt, StepsMove}
use Rattle.dm_facts.specs.Sums.{FactsAt, AreFacts}
use Rattle.dm_facts.specs.Laws.{StepsKeepTheSum}
use Rattle.dm_facts.proofs.Undoing.{name_kept, moved_node, moved_name}
use Rattle.dm_facts.proofs.SquareLemmas.{Swaps, swaps_from, name_swapped}
use Rattle.dm_facts.proofs.Kept.{off_root}
use Rattle.dm_facts.proofs.HeapLemmas.{put_permutes}

module _ {X : Type 0} where
  -- x put in between two parts of what is a permutation
  put_between : (x y a b : List X) → IsPermutation y (a ++ b) → IsPermutation (x ++ y) (a ++ (x ++ b))
  put_between x y a b h =
      IsPermutation-trans (x ++ y) (x ++ (a ++ b)) (a ++ (x ++ b)) (IsPermutation-append_right x y (a ++ b) h)
      (rw (← append_assoc x a b, ← append_assoc a x b) (IsPermutation-append_left b (x ++ a) (a ++ x) (IsPermutation-append_comm x a)))

  -- a part that changes, beside a rest that stays
  beside_rest : (fs u v rest a t : List X) → IsPermutation fs (u ++ rest) → IsPermutation (u ++ a) (v ++ t) → IsPermutation (fs ++ a) ((v ++ rest) ++ t)
  beside_rest fs u v rest a t h k =
      IsPermutation-trans (fs ++ a) ((u ++ rest) ++ a) ((v ++ rest) ++ t) (IsPermutation-append_left a fs (u ++ rest) h)
      (IsPermutation-trans ((u ++ rest) ++ a) ((u ++ a) ++ rest) ((v ++ rest) ++ t) (last_exchanged u rest a)
      (IsPermutation-trans ((u ++ a) ++ rest) ((v ++ t) ++ rest) ((v ++ rest) ++ t) (IsPermutation-append_left rest (u ++ a) (v ++ t) k) (last_exchanged v t rest)))

module _ (I : Type 0) where
  -- a path has one directory and one name
  pub name_one : (p : Path) (d d' : I) (n n' : Name) (s : NodeMap I) → IsNameIn p d n s → IsNameIn p d' n' s → (d ≡ d') × (n ≡ n')
  name_one p d d' n n' s h k =
      let e = snoc_inj h.parent k.parent n n' (sym h.is ∙ k.is) in
      let same : s k.parent ≡ Some (Folder d) = ap s (sym e.0) ∙ h.folder in
      let there : s k.parent ≡ Some (Folder d') = k.folder in
      (cc (same, there), e.1)

  pub same_facts : (x y : Node I) (d e : I) (n m : Name) → x ≡ y → d ≡ e → n ≡ m → facts_of x d n ≡ facts_of y e m
  same_facts x y d e n m p q r = λ i. facts_of (p i) (q i) (r i)

  -- what stands at the listed paths
  pub listed_there : (s : NodeMap I) (ps : List Path) (fs : List (Fact I)) → FactsAt s ps fs → (p : Path) → Contains ps p → (x : Node I) × (d : I) × (n : Name) × (s p ≡ Some x) × IsNameIn p d n s
  listed_there s [] fs h p c = absurd (none_in_nil p c)
  listed_there s (q ∷ ps) fs (x, d, n, rest, i, k, e, h) p c = elim (in_cases q p ps c) [
    | inl j ↦ (x, d, n, ap s (sym j) ∙ i, subst (λ z. IsNameIn z d n s) j k)
    | inr j ↦ listed_there s ps rest h p j
  ]

  -- what stands at other paths, seen as these are, has the same facts
  pub listed_alike : (s t : NodeMap I) (g : Path → Path) (ps : List Path) (fs : List (Fact I)) → FactsAt s ps fs →
      ((q : Path) (x : Node I) (d : I) (n : Name) → Contains ps q → s q ≡ Some x → IsNameIn q d n s → (t (g q) ≡ s q) × IsNameIn (g q) d n t) → FactsAt t (map g ps) fs
  listed_alike s t g [] fs h same = h
  listed_alike s t g (q ∷ ps) fs (x, d, n, rest, i, k, e, h) same =
      let here = same q x d n (head_is_in q ps) i k in
      (x, d, n, rest, here.0 ∙ i, here.1, e, listed_alike s t g ps rest h (λ r y c m j. same r y c m (next_is_in q r ps j)))

  -- the facts of one path apart from those of the others
  pub record Split (s : NodeMap I) (p : Path) (ps : List Path) (fs : List (Fact I)) : Type 0 where
    pub node : Node I
    pub directory : I
    pub name : Name
    pub others : List Path
    pub rest : List (Fact I)
    pub there : s p ≡ Some node
    pub placed : IsNameIn p directory name s
    pub listed : FactsAt s others rest
    pub parts : IsPermutation fs (facts_of node directory name ++ rest)
    pub cases : (q : Path) → Contains ps q → (q ≡ p) ⊎ Contains others q
    pub back : (q : Path) → Contains others q → Contains ps q
    pub apart : Distinct ps → Distinct others × (Contains others p → ⊥)

  pub split : (s : NodeMap I) (p : Path) (ps : List Path) (fs : List (Fact I)) → FactsAt s ps fs → Contains ps p → Split s p ps fs
  split s p [] fs h c = absurd (none_in_nil p c)
  split s p (q ∷ ps) fs (x, d, n, rest, i, k, e, h) c = elim (in_cases q p ps c) [
    | inl j ↦ record {
      node = x;
      directory = d;
      name = n;
      others = ps;
      rest = rest;
      there = ap s (sym j) ∙ i;
      placed = subst (λ z. IsNameIn z d n s) j k;
      listed = h;
      parts = subst (λ z. IsPermutation fs z) e (IsPermutation-refl fs);
      cases = λ r m. elim (in_cases q r ps m) [ inl a ↦ inl (sym a ∙ j) | inr a ↦ inr a ];
      back = λ r m. next_is_in q r ps m;
      apart = λ a. (a.1, λ m. a.0 (subst (λ z. Contains ps z) (sym j) m));
    }
    | inr j ↦ later j (split s p ps rest h j)
  ]
    where
      later : Contains ps p → Split s p ps rest → Split s p (q ∷ ps) fs
      later j r = record {
        node = r.node;
        directory = r.directory;
        name = r.name;
        others = q ∷ r.others;
        rest = facts_of x d n ++ r.rest;
        there = r.there;
        placed = r.placed;
        listed = (x, d, n, r.rest, i, k, refl, r.listed);
        parts = subst (λ z. IsPermutation z (facts_of r.node r.directory r.name ++ (facts_of x d n ++ r.rest))) (sym e) (put_between (facts_of x d n) rest (facts_of r.node r.directory r.name) r.rest r.parts);
        cases = λ z m. elim (in_cases q z ps m) [
          | inl a ↦ inr (it_is_in q z r.others a)
          | inr a ↦ elim (r.cases z a) [ inl b ↦ inl b | inr b ↦ inr (next_is_in q z r.others b) ]
        ];
        back = λ z m. elim (in_cases q z r.others m) [ inl a ↦ it_is_in q z ps a | inr a ↦ next_is_in q z ps (r.back z a) ];
        apart = λ a. ((λ m. a.0 (r.back q m), (r.apart a.1).0), λ m. elim (in_cases q p r.others m) [ inl b ↦ a.0 (subst (λ z. Contains ps z) (sym b) j) | inr b ↦ (r.apart a.1).1 b ]);
      }

  -- all facts, where those of p come first
  abbrev pub Result : NodeMap I → Effect I → List (Fact I) → Type 0
  Result t e fs = (gs : List (Fact I)) × AreFacts t gs × IsPermutation (fs ++ e.added) (gs ++ e.taken)

  -- a name elsewhere stays
  name_stays : (p q : Path) (d : I) (n : Name) (s t : NodeMap I) → ((r : Path) → r ≢ p → t r ≡ s r) → (h : IsNameIn q d n s) → h.parent ≢ p → IsNameIn q d n t
  name_stays p q d n s t same h off = name_kept I q d n s t h (same h.parent off)

  map-same : (ps : List Path) → map (λ q. q) ps ≡ ps
  map-same [] = refl
  map-same (p ∷ ps) = ap (λ z. p ∷ z) (map-same ps)

  edited_facts : (x d : I) (n : Name) (h : Heap) (c c' taken added : List (Token I)) → IsPermutation (c ++ added) (c' ++ taken) →
      IsPermutation (facts_of (FileWith x h c) d n ++ map (TokenOf x) added) (facts_of (FileWith x h c') d n ++ map (TokenOf x) taken)
  edited_facts x d n h c c' taken added sum =
      let m = map (TokenOf x) in
      IsPermutation-cons (FileIn x d n) ((m c ++ map (Turned x) h) ++ m added) ((m c' ++ map (Turned x) h) ++ m taken)
      (beside_rest (m c ++ map (Turned x) h) (m c) (m c') (map (Turned x) h) (m added) (m taken) (IsPermutation-refl (m c ++ map (Turned x) h))
      (rw (map-append (TokenOf x) c added, map-append (TokenOf x) c' taken) at (IsPermutation-map (TokenOf x) (c ++ added) (c' ++ taken) sum)))

  -- a replace that is put on the heap is one fact more
  turned_facts : (x d : I) (n : Name) (w : TokenWords) (h : Heap) (c : List (Token I)) →
      IsPermutation (facts_of (FileWith x h c) d n ++ Turned x (entry_on w h) ∷ []) (facts_of (FileWith x (put_on w h) c) d n ++ [])
  turned_facts x d n w h c =
      let m = map (TokenOf x) c in
      let r = Turned x (entry_on w h) in
      let on : IsPermutation (map (Turned x) h ++ r ∷ []) (map (Turned x) (put_on w h)) =
      IsPermutation-trans (map (Turned x) h ++ r ∷ []) (r ∷ map (Turned x) h) (map (Turned x) (put_on w h)) (IsPermutation-append_comm (map (Turned x) h) (r ∷ []))
      (IsPermutation-map (Turned x) (entry_on w h ∷ h) (put_on w h) (put_permutes (entry_on w h) h)) in
      IsPermutation-cons (FileIn x d n) ((m ++ map (Turned x) h) ++ r ∷ []) ((m ++ map (Turned x) (put_on w h)) ++ [])
      (rw (append-nil (m ++ map (Turned x) (put_on w h)), append_assoc m (map (Turned x) h) (r ∷ [])) (IsPermutation-append_right m (map (Turned x) h ++ r ∷ []) (map (Turned x) (put_on w h)) on))

  put_facts : (x d : I) (n : Name) (w : TokenWords) (h h' : Heap) (c : List (Token I)) (e : Effect I) → PutsOn x w h h' e →
      IsPermutation (facts_of (FileWith x h c) d n ++ e.added) (facts_of (FileWith x h' c) d n ++ e.taken)
  put_facts x d n w h h' c e k = rw (k.on, ap (λ z. z.taken) k.effect, ap (λ z. z.added) k.effect) (turned_facts x d n w h c)

  module _ (p : Path) (s t : NodeMap I) (elsewhere : (q : Path) → q ≢ p → t q ≡ s q) (fs : List (Fact I)) (all : AreFacts s fs) where
    -- where p isn't a directory that holds something, the facts of other paths stay
    others_stay : (ps : List Path) (gs : List (Fact I)) → FactsAt s ps gs → (Contains ps p → ⊥) → ((d : I) (q : Path) (n : Name) → Contains ps q → s p ≡ Some (Folder d) → q ≢ p ++ n ∷ []) → FactsAt t ps gs
    others_stay ps gs h off bare = rw (map-same ps) at (listed_alike s t (λ q. q) ps gs h (λ q x d n c i k. (
      elsewhere q (λ j. off (subst (λ z. Contains ps z) j c)),
      name_stays p q d n s t elsewhere k (λ j. bare d q n c (ap s (sym j) ∙ k.folder) (k.is ∙ ap (λ z. z ++ n ∷ []) j)),
    )))

    -- a node that is added
    adds : (Is : Node I → Type 0) (d : I) (n : Name) (e : Effect I) → Creates Is d n (s p) (t p) e → IsNameIn p d n s → Result t e fs
    adds Is d n e c placed = (
      facts_of c.node d n ++ fs,
      record {
        paths = p ∷ all.paths;
        distinct = (off, all.distinct);
        all = λ q nr k. found q nr k (path_dec q p);
        listed = (
          c.node,
          d,
          n,
          fs,
          c.there,
          name_stays p p d n s t elsewhere placed (λ j. child_differs p n (sym (rw j at placed.is))),
          refl,
          others_stay all.paths fs all.listed off (λ d q n m i. let z : None ≡ Some (Folder d) = sym c.nothing ∙ i in absurd (cc)),
        );
      },
      rw (c.effect, append-nil (facts_of c.node d n ++ fs)) (IsPermutation-append_comm fs (facts_of c.node d n)),
    )
      where
        off : Contains all.paths p → ⊥
        off m = let r = listed_there s all.paths fs all.listed p m in let z : None ≡ Some r.0 = sym c.nothing ∙ r.3 in cc

        found : (q : Path) → q ≢ [] → t q ≢ None → (q ≡ p) ⊎ (q ≢ p) → Contains (p ∷ all.paths) q
        found q nr k (inl j) = it_is_in p q all.paths (sym j)
        found q nr k (inr j) = next_is_in p q all.paths (all.all q nr (λ i. k (elsewhere q j ∙ i)))

    there : (x : Node I) → s p ≡ Some x → p ≢ [] → Split s p all.paths fs
    there x i nr = split s p all.paths fs all.listed (all.all p nr (λ k. let z : Some x ≡ None = sym i ∙ k in cc))

    -- a node that is removed
    removes : (Is : Node I → Type 0) (d : I) (n : Name) (e : Effect I) → Creates Is d n (t p) (s p) (inverse e) → IsNameIn p d n s → p ≢ [] →
        ((d : I) → s p ≡ Some (Folder d) → (n : Name) (r : Path) → s (p ++ n ∷ r) ≡ None) → Result t e fs
    removes Is d n e c placed nr bare = go (there c.node c.there nr)
      where
        go : Split s p all.paths fs → Result t e fs
        go r =
            let apart = r.apart all.distinct in
            let same = name_one p r.directory d r.name n s r.placed placed in
            let node : r.node ≡ c.node = cc (r.there, c.there) in (
              r.rest,
              record {
                paths = r.others;
                distinct = apart.0;
                all = λ q nr k. found q nr k (path_dec q p);
                listed = others_stay r.others r.rest r.listed apart.1 (λ d q n m i j.
                    let x = listed_there s all.paths fs all.listed q (r.back q m) in let z : None ≡ Some x.0 = sym (bare d i n []) ∙ ap s (sym j) ∙ x.3 in cc);
              },
              rw (ap (λ z. z.taken) c.effect, ap (λ z. z.added) c.effect, append-nil fs)
                  (IsPermutation-trans fs (facts_of c.node d n ++ r.rest) (r.rest ++ facts_of c.node d n)
                  (subst (λ z. IsPermutation fs (z ++ r.rest)) (same_facts r.node c.node r.directory d r.name n node same.0 same.1) r.parts) (IsPermutation-append_comm (facts_of c.node d n) r.rest)),
            )
          where
            found : (q : Path) → q ≢ [] → t q ≢ None → (q ≡ p) ⊎ (q ≢ p) → Contains r.others q
            found q nr k (inl j) = absurd (k (ap t j ∙ c.nothing))
            found q nr k (inr j) = elim (r.cases q (all.all q nr (λ i. k (elsewhere q j ∙ i)))) [ inl a ↦ absurd (j a) | inr a ↦ a ]

    -- a file that keeps its identity, as a sum
    changes : (x : I) (h h' : Heap) (c c' : List (Token I)) (e : Effect I) → s p ≡ Some (FileWith x h c) → t p ≡ Some (FileWith x h' c') →
        ((d : I) (n : Name) → IsPermutation (facts_of (FileWith x h c) d n ++ e.added) (facts_of (FileWith x h' c') d n ++ e.taken)) → p ≢ [] → Result t e fs
    changes x h h' c c' e stood after sum nr = go (there (FileWith x h c) stood nr)
      where
        go : Split s p all.paths fs → Result t e fs
        go r =
            let apart = r.apart all.distinct in
            let node : r.node ≡ FileWith x h c = cc (r.there, stood) in (
              facts_of (FileWith x h' c') r.directory r.name ++ r.rest,
              record {
                paths = p ∷ r.others;
                distinct = (apart.1, apart.0);
                all = λ q nr k. found q nr k (path_dec q p);
                listed = (
                  FileWith x h' c',
                  r.directory,
                  r.name,
                  r.rest,
                  after,
                  name_stays p p r.directory r.name s t elsewhere r.placed (λ j. child_differs p r.name (sym (rw j at r.placed.is))),
                  refl,
                  others_stay r.others r.rest r.listed apart.1 (λ d q n m i. let z : Some (FileWith x h c) ≡ Some (Folder d) = sym stood ∙ i in absurd (cc)),
                );
              },
              beside_rest fs (facts_of (FileWith x h c) r.directory r.name) (facts_of (FileWith x h' c') r.directory r.name) r.rest e.added e.taken
                  (subst (λ z. IsPermutation fs (facts_of z r.directory r.name ++ r.rest)) node r.parts) (sum r.directory r.name),
            )
          where
            found : (q : Path) → q ≢ [] → t q ≢ None → (q ≡ p) ⊎ (q ≢ p) → Contains (p ∷ r.others) q
            found q nr k (inl j) = it_is_in p q r.others (sym j)
            found q nr k (inr j) = elim (r.cases q (all.all q nr (λ i. k (elsewhere q j ∙ i)))) [ inl a ↦ absurd (j a) | inr a ↦ next_is_in p q r.others a ]

  -- where a node stands is one of its facts
  stands_exchanged : (x : Node I) (d d' : I) (n n' : Name) → IsPermutation (facts_of x d n ++ stands x d' n' ∷ []) (facts_of x d' n' ++ stands x d n ∷ [])
  stands_exchanged (Folder x) d d' n n' = IsPermutation-append_comm (facts_of (Folder x) d n) (stands (Folder x) d' n' ∷ [])
  stands_exchanged (FileWith x h c) d d' n n' =
      let a = FileIn x d n in let b = FileIn x d' n' in let m = map (TokenOf x) c ++ map (Turned x) h in
      IsPermutation-trans ((a ∷ m) ++ b ∷ []) ((b ∷ []) ++ (a ∷ m)) ((b ∷ m) ++ a ∷ []) (IsPermutation-append_comm (a ∷ m) (b ∷ []))
      (IsPermutation-cons b (a ∷ m) (m ++ a ∷ []) (IsPermutation-append_comm (a ∷ []) m))

  in_map : (g : Path → Path) → ((q r : Path) → g q ≡ g r → q ≡ r) → (p : Path) (ps : List Path) → Contains (map g ps) (g p) → Contains ps p
  in_map g one p [] c = absurd (none_in_nil (g p) c)
  in_map g one p (q ∷ ps) c = elim (in_cases (g q) (g p) (map g ps) c) [ inl i ↦ it_is_in q p ps (one q p i) | inr i ↦ next_is_in q p ps (in_map g one p ps i) ]

  distinct_map : (g : Path → Path) → ((q r : Path) → g q ≡ g r → q ≡ r) → (ps : List Path) → Distinct ps → Distinct (map g ps)
  distinct_map g one [] h = tt
  distinct_map g one (p ∷ ps) h = (λ c. h.0 (in_map g one p ps c), distinct_map g one ps h.1)

  nil_end : (a r : Path) → [] ≡ a ++ r → a ≡ []
  nil_end [] r e = refl
  nil_end (x ∷ a) r e = cc

  moves : (a b : Path) (e : Effect I) (s t : NodeMap I) (fs : List (Fact I)) → AreFacts s fs → StepsMove a b e s t → Result t e fs
  moves a b e s t fs all h = go (split s a all.paths fs all.listed (all.all a off_a (λ k. let z : Some h.node ≡ None = sym h.stood ∙ k in cc)))
    where
      off_a : a ≢ []
      off_a i = h.apart.right (b, ap (λ z. z ++ b) (sym i))

      off_b : b ≢ []
      off_b i = h.apart.left (a, ap (λ z. z ++ a) (sym i))

      sw : Swaps I a b e s t
      sw = swaps_from I a b e s t h

      one : (q r : Path) → swap a b q ≡ swap a b r → q ≡ r
      one q r i = swap_inj a b q r h.apart i

      off_top : (q : Path) → q ≢ [] → swap a b q ≢ []
      off_top q nr i = nr (one q [] (i ∙ sym (swap-other a b [] (λ u. off_a (nil_end a u.0 u.1)) (λ u. off_b (nil_end b u.0 u.1)))))

      go : Split s a all.paths fs → Result t e fs
      go r =
          let apart = r.apart all.distinct in
          let same = name_one a r.directory h.from r.name h.old_name s r.placed h.placed in
          let node : r.node ≡ h.node = cc (r.there, h.stood) in
          let is : facts_of r.node r.directory r.name ≡ facts_of h.node h.from h.old_name = same_facts r.node h.node r.directory h.from r.name h.old_name node same.0 same.1 in (
            facts_of h.node h.to h.new_name ++ r.rest,
            record {
              paths = b ∷ map (swap a b) r.others;
              distinct = (λ c. apart.1 (in_map (swap a b) one a r.others (subst (λ z. Contains (map (swap a b) r.others) z) (sym (swap_left a b)) c)), distinct_map (swap a b) one r.others apart.0);
              all = λ q nr k. found q (r.cases (swap a b q) (all.all (swap a b q) (off_top q nr) (λ i. k (sw.is q ∙ i))));
              listed = (
                h.node,
                h.to,
                h.new_name,
                r.rest,
                moved_node I a b e s t h,
                moved_name I a b e s t h,
                refl,
                listed_alike s t (swap a b) r.others r.rest r.listed (λ q x d n m i k. (
                  sw.is (swap a b q) ∙ ap s (swap-swap a b q h.apart),
                  name_swapped I a b q d n s t h.apart (λ j. apart.1 (subst (λ z. Contains r.others z) j m)) (λ j. bare q x i j) sw.is k,
                )),
              );
            },
            rw h.effect (beside_rest fs (facts_of h.node h.from h.old_name) (facts_of h.node h.to h.new_name) r.rest (stands h.node h.to h.new_name ∷ []) (stands h.node h.from h.old_name ∷ [])
                (subst (λ z. IsPermutation fs (z ++ r.rest)) is r.parts) (stands_exchanged h.node h.from h.to h.old_name h.new_name)),
          )
        where
          found : (q : Path) → (swap a b q ≡ a) ⊎ Contains r.others (swap a b q) → Contains (b ∷ map (swap a b) r.others) q
          found q (inl i) = it_is_in b q (map (swap a b) r.others) (sym (swap_left a b) ∙ ap (swap a b) (sym i) ∙ swap-swap a b q h.apart)
          found q (inr i) = next_is_in b q (map (swap a b) r.others) (subst (λ z. Contains (map (swap a b) r.others) z) (swap-swap a b q h.apart) (map_is_in (swap a b) (swap a b q) r.others i))

          bare : (q : Path) (x : Node I) → s q ≡ Some x → q ≢ b
          bare q x i j = let z : Some x ≡ None = sym i ∙ ap s (j ∙ sym (append-nil b)) ∙ h.free [] in cc

  works : (p : Path) (w : Work) (e : Effect I) (s t : NodeMap I) (fs : List (Fact I)) → AreFacts s fs → StepsAt p w e s t → p ≢ [] → Result t e fs
  works p AddFile e s t fs all h nr = adds p s t h.elsewhere fs all IsEmptyFile h.directory h.name e h.here h.placed
  works p RmFile e s t fs all h nr = removes p s t h.elsewhere fs all IsEmptyFile h.directory h.name e h.here h.placed nr (λ d i n r. absurd (no_folder h.here d i))
    where
      no_folder : Creates IsEmptyFile h.directory h.name (t p) (s p) (inverse e) → (d : I) → s p ≡ Some (Folder d) → ⊥
      no_folder c d i = let same : c.node ≡ Folder d = cc (c.there, i) in rw same at c.is
  works p AddDir e s t fs all h nr = adds p s t h.elsewhere fs all IsFolder h.directory h.name e h.here h.placed
  works p RmDir e s t fs all h nr = removes p s t h.elsewhere fs all IsFolder h.directory h.name e h.here h.placed nr (λ d i n r. h.empty tt n r)
  works p (Hunk l old new) e s t fs all h nr =
      let k = h.here in
      changes p s t h.elsewhere fs all k.file k.heap k.heap k.tokens k.tokens' e k.stood k.there
      (λ d n. rw k.effect (edited_facts k.file d n k.heap k.tokens k.tokens' k.taken k.added (keep_the_sum I l k.was k.is k.taken k.added k.tokens k.tokens' k.replaced))) nr
  works p (Binary old new) e s t fs all h nr =
      let k = h.here in
      changes p s t h.elsewhere fs all k.file k.heap k.heap k.tokens k.tokens' e k.stood k.there
      (λ d n. rw k.effect (edited_facts k.file d n k.heap k.tokens k.tokens' k.tokens k.tokens' (IsPermutation-append_comm k.tokens k.tokens'))) nr
  works p (Replace set old new) e s t fs all h nr =
      let k = h.here in
      changes p s t h.elsewhere fs all k.file k.heap k.heap' k.tokens k.tokens e k.stood k.there
      (λ d n. elim k.change [
        | inl m ↦ put_facts k.file d n (record { set = set; old = old; new = new }) k.heap k.heap' k.tokens e m
        | inr m ↦ IsPermutation-sym (facts_of (FileWith k.file k.heap' k.tokens) d n ++ e.taken) (facts_of (FileWith k.file k.heap k.tokens) d n ++ e.added)
            (put_facts k.file d n (record { set = set; old = new; new = old }) k.heap' k.heap k.tokens (inverse e) m)
      ]) nr

  pub steps_keep_the_sum : StepsKeepTheSum I
  steps_keep_the_sum (At p w) e s t fs all h = works p w e s t fs all h (off_root I (At p w) e s t h)
  steps_keep_the_sum (Move a b) e s t fs all h = moves a b e s t fs all h
  steps_keep_the_sum (ChangePref name old new) e s t fs all h = (fs, subst (λ z. AreFacts z fs) h.0 all, rw h.1 (IsPermutation-refl (fs ++ [])))
