-- Work and moves that change places: the same tree and the same effects in both orders.
use Rattle.std.proofs.Common.{◌≡◌, ◌≢◌, ℕ, List, [], ◌∷◌, ◌++◌, length, Option, Some, None, option_map, ◌⊎◌, inl, inr, refl, sym, ap, subst, ◌∙◌}
use Rattle.dm_tree.specs.Paths.{Name, Path, Inside, Apart}
use Rattle.dm_tree.specs.Trees.{Lines, Dir}
use Rattle.dm_tree.proofs.Paths.{Place, in_left, in_right, outside, place, apart_sym, swap, swap-left, swap-right, swap-other, swap-swap, swap_inj, swap_turn, Clear, swap-append}
use Rattle.dm_prim.specs.Primitives.{Work, AddFile, RmFile, AddDir, RmDir, Hunk, Binary, Replace, Prim, At, Move, inv_work}
use Rattle.dm_prim.specs.Table.{KeepsFile, WorkAndWork, TableRow}
use Rattle.dm_prim.proofs.Maps.{path_dec, child_differs, swap_child}
use Rattle.dm_prim.proofs.Undoing.{swap_left, swap_right}
use Rattle.dm_prim.proofs.Squares.{Beside, Passing, beside_clear, beside_moved, beside_inv, passing_turn, passing_clear, passing_moved, same_under}
use Rattle.dm_prim.proofs.Ends.{dir_before, dir_after, passing_cross, inv_twice}
use Rattle.dm_chain.specs.Chains.{Token, HunkSteps}
use Rattle.dm_chain.proofs.Stepping.{steps_keep_chains}
use Rattle.dm_chain.proofs.Commuted.{commuted_alike}
use Rattle.dm_facts.specs.Heaps.{Heap, spelled}
use Rattle.dm_facts.specs.Nodes.{Node, FileWith, NodeMap, entry_of, IsNameIn}
use Rattle.dm_facts.specs.Facts.{Effect, inverse, stands}
use Rattle.dm_facts.specs.Steps.{Edits, Makes, StepsAt, StepsMove, Steps}
use Rattle.dm_facts.proofs.StepLemmas.{changes}
use Rattle.dm_facts.proofs.TextLemmas.{as_many}
use Rattle.dm_facts.proofs.Undoing.{parent_off, name_under, name_kept, works_back, moves_back}

-- t with e at p
unfoldable pub put : {X : Type 0} → (Path → X) → Path → X → Path → X
put t p e q = elim (path_dec q p) [ inl h ↦ e | inr h ↦ t q ]

pub put_same : {X : Type 0} (t : Path → X) (p : Path) (e : X) → put t p e p ≡ e
unfolding put
put_same t p e = go (path_dec p p) refl
  where
    go : (d : (p ≡ p) ⊎ (p ≢ p)) → path_dec p p ≡ d → put t p e p ≡ e
    go (inl h) k = rw (k, put)
    go (inr h) k = absurd (h refl)

pub put_other : {X : Type 0} (t : Path → X) (p : Path) (e : X) (q : Path) → q ≢ p → put t p e q ≡ t q
unfolding put
put_other t p e q n = go (path_dec q p) refl
  where
    go : (d : (q ≡ p) ⊎ (q ≢ p)) → path_dec q p ≡ d → put t p e q ≡ t q
    go (inl h) k = absurd (n h)
    go (inr h) k = rw (k, put)

module _ (I : Type 0) where
  -- q' then p' make u of s, with these effects
  abbrev pub BothStep : Prim → Prim → Effect I → Effect I → NodeMap I → NodeMap I → Type 0
  BothStep q' p' f e s u = (m : NodeMap I) × Steps q' f s m × Steps p' e m u

  -- a move, seen as a swap
  pub record Swaps (a b : Path) (e : Effect I) (s t : NodeMap I) : Type 0 where
    pub apart : Apart a b
    pub node : Node I
    pub stood : s a ≡ Some node
    pub from : I
    pub old_name : Name
    pub placed : IsNameIn a from old_name s
    pub to : I
    pub new_name : Name
    pub place : IsNameIn b to new_name s
    pub free : (r : Path) → s (b ++ r) ≡ None
    pub is : (p : Path) → t p ≡ s (swap a b p)
    pub effect : e ≡ record { taken = stands node from old_name ∷ []; added = stands node to new_name ∷ [] }

  pub swaps_from : (a b : Path) (e : Effect I) (s t : NodeMap I) → StepsMove a b e s t → Swaps a b e s t
  swaps_from a b e s t h = record {
    apart = h.apart;
    node = h.node;
    stood = h.stood;
    from = h.from;
    old_name = h.old_name;
    placed = h.placed;
    to = h.to;
    new_name = h.new_name;
    place = h.place;
    free = h.free;
    is = λ p. go p (place a b p);
    effect = h.effect;
  }
    where
      go : (p : Path) → Place a b p → t p ≡ s (swap a b p)
      go p (in_left r i) = rw (i, swap-left a b r) (h.gone r ∙ sym (h.free r))
      go p (in_right r i) = rw (i, swap-right a b r h.apart) (h.there r)
      go p (outside x y) = rw (swap-other a b p x y) (h.elsewhere p x y)

  pub moves_from : (a b : Path) (e : Effect I) (s t : NodeMap I) → Swaps a b e s t → StepsMove a b e s t
  moves_from a b e s t h = record {
    apart = h.apart;
    node = h.node;
    stood = h.stood;
    from = h.from;
    old_name = h.old_name;
    placed = h.placed;
    to = h.to;
    new_name = h.new_name;
    place = h.place;
    free = h.free;
    there = λ r. h.is (b ++ r) ∙ ap s (swap-right a b r h.apart);
    gone = λ r. h.is (a ++ r) ∙ ap s (swap-left a b r) ∙ h.free r;
    elsewhere = λ q x y. h.is q ∙ ap s (swap-other a b q x y);
    effect = h.effect;
  }

  -- a name seen through a swap
  pub name_swapped : (a b f : Path) (d : I) (n : Name) (s t : NodeMap I) → Apart a b → f ≢ a → f ≢ b → ((p : Path) → t p ≡ s (swap a b p)) → IsNameIn f d n s → IsNameIn (swap a b f) d n t
  name_swapped a b f d n s t ab na nb is h = record {
    parent = swap a b h.parent;
    is = rw h.is (swap_child a b h.parent n ab (λ k. na (h.is ∙ k)) (λ k. nb (h.is ∙ k)));
    folder = is (swap a b h.parent) ∙ rw (swap-swap a b h.parent ab) h.folder;
  }

  -- what is at and inside a path that contains neither end, through a swap
  free_swapped : (a b p : Path) (s t : NodeMap I) → Apart a b → Clear a b p → ((q : Path) → t q ≡ s (swap a b q)) → ((r : Path) → s (p ++ r) ≡ None) → (r : Path) → t (swap a b p ++ r) ≡ None
  free_swapped a b p s t ab c is bare r = is (swap a b p ++ r) ∙ rw (← swap-append a b p r ab c, swap-swap a b (p ++ r) ab) (bare r)

  -- two moves
  pub moves_step : (a b c d : Path) → Passing a b c d → (e f : Effect I) (s t u : NodeMap I) → StepsMove a b e s t → StepsMove (swap a b c) (swap a b d) f t u →
      BothStep (Move c d) (Move (swap c d a) (swap c d b)) f e s u
  moves_step a b c d p e f s t u h k = (m, moves_from c d f s m first, moves_from (swap c d a) (swap c d b) e m u second)
    where
      x : Swaps a b e s t
      x = swaps_from a b e s t h

      y : Swaps (swap a b c) (swap a b d) f t u
      y = swaps_from (swap a b c) (swap a b d) f t u k

      m : NodeMap I
      m = λ q. s (swap c d q)

      back : (q : Path) → t (swap a b q) ≡ s q
      back q = x.is (swap a b q) ∙ ap s (swap-swap a b q p.left)

      again : (q : Path) → m (swap c d q) ≡ s q
      again q = ap s (swap-swap c d q p.right)

      first : Swaps c d f s m
      first = record {
        apart = p.right;
        node = y.node;
        stood = sym (back c) ∙ y.stood;
        from = y.from;
        old_name = y.old_name;
        placed = rw (swap-swap a b c p.left) at (name_swapped a b (swap a b c) y.from y.old_name t s p.left
            (λ i. p.c_off_b (same_under c b (swap_inj a b c b p.left (i ∙ sym (swap_right a b p.left)))))
            (λ i. p.sources (sym (swap_inj a b c a p.left (i ∙ sym (swap_left a b)))))
            (λ q. sym (back q)) y.placed);
        to = y.to;
        new_name = y.new_name;
        place = rw (swap-swap a b d p.left) at (name_swapped a b (swap a b d) y.to y.new_name t s p.left
            (λ i. p.targets.right (same_under d b (swap_inj a b d b p.left (i ∙ sym (swap_right a b p.left)))))
            (λ i. p.a_off_d (same_under a d (sym (swap_inj a b d a p.left (i ∙ sym (swap_left a b))))))
            (λ q. sym (back q)) y.place);
        free = λ r. sym (back (d ++ r)) ∙ rw (swap-append a b d r p.left (passing_clear a b c d p)) (y.free r);
        is = λ q. refl;
        effect = y.effect;
      }

      second : Swaps (swap c d a) (swap c d b) e m u
      second = record {
        apart = (passing_moved c d a b (passing_turn a b c d p)).right;
        node = x.node;
        stood = again a ∙ x.stood;
        from = x.from;
        old_name = x.old_name;
        placed = name_swapped c d a x.from x.old_name s m p.right p.sources (λ i. p.a_off_d (same_under a d i)) (λ q. refl) x.placed;
        to = x.to;
        new_name = x.new_name;
        place = name_swapped c d b x.to x.new_name s m p.right (λ i. p.c_off_b (same_under c b (sym i))) (λ i. p.targets.left (same_under b d i)) (λ q. refl) x.place;
        free = free_swapped c d b s m p.right (passing_clear c d a b (passing_turn a b c d p)) (λ q. refl) x.free;
        is = λ q. y.is q ∙ x.is (swap (swap a b c) (swap a b d) q) ∙ ap s (passing_cross a b c d p q);
        effect = x.effect;
      }

  -- work on two paths

  -- a change at g leaves the name f where it is
  name_carried : (f : Path) (d : I) (n : Name) (g : Path) (s t : NodeMap I) → ((q : Path) → q ≢ g → t q ≡ s q) → (option_map entry_of (s g) ≡ Some Dir → Apart f g) → IsNameIn f d n s → IsNameIn f d n t
  name_carried f d n g s t same dir h = name_kept I f d n s t h (at (path_dec h.parent g))
    where
      at : (h.parent ≡ g) ⊎ (h.parent ≢ g) → t h.parent ≡ s h.parent
      at (inl i) = absurd ((dir (ap (option_map entry_of) (rw i at h.folder))).left (n ∷ [], rw (← i) h.is))
      at (inr i) = same h.parent i

  makes_at : (w : Work) (d : I) (n : Name) (x x' y y' : Option (Node I)) (e : Effect I) → Makes w d n x x' e → y ≡ x → y' ≡ x' → Makes w d n y y' e
  makes_at w d n x x' y y' e h i j = rw (i, j) h

  pub works_step : (f : Path) (w : Work) (g : Path) (v : Work) → WorkAndWork f w g v → (x y : Effect I) (s t u : NodeMap I) → StepsAt f w x s t → StepsAt g v y t u → BothStep (At g v) (At f w) y x s u
  works_step f w g v c x y s t u h k = (m, first, second)
    where
      m : NodeMap I
      m = put s g (u g)

      en : g ≢ f
      en i = c.differ (sym i)

      first : StepsAt g v y s m
      first = record {
        directory = k.directory;
        name = k.name;
        placed = name_carried g k.directory k.name f t s (λ q n. sym (h.elsewhere q n))
            (λ i. apart_sym (c.apart (inl (dir_after w (option_map entry_of (s f)) (option_map entry_of (t f)) (changes I w h.directory h.name (s f) (t f) x h.here) i)))) k.placed;
        empty = λ i n r. sym (h.elsewhere (g ++ n ∷ r) (λ j. (c.apart (inr i)).left (n ∷ r, sym j))) ∙ k.empty i n r;
        here = makes_at v k.directory k.name (t g) (u g) (s g) (m g) y k.here (sym (h.elsewhere g en)) (put_same s g (u g));
        elsewhere = λ q n. put_other s g (u g) q n;
      }

      second : StepsAt f w x m u
      second = record {
        directory = h.directory;
        name = h.name;
        placed = name_carried f h.directory h.name g s m (λ q n. put_other s g (u g) q n)
            (λ i. c.apart (inr (dir_before v (option_map entry_of (t g)) (option_map entry_of (u g)) (changes I v k.directory k.name (t g) (u g) y k.here) (ap (option_map entry_of) (h.elsewhere g en) ∙ i)))) h.placed;
        empty = λ i n r. put_other s g (u g) (f ++ n ∷ r) (λ j. (c.apart (inl i)).right (n ∷ r, sym j)) ∙ h.empty i n r;
        here = makes_at w h.directory h.name (s f) (t f) (m f) (u f) x h.here (put_other s g (u g) f c.differ) (k.elsewhere f c.differ);
        elsewhere = λ q n. at q n (path_dec q g);
      }
        where
          at : (q : Path) → q ≢ f → (q ≡ g) ⊎ (q ≢ g) → u q ≡ m q
          at q n (inl i) = rw i (sym (put_same s g (u g)))
          at q n (inr i) = k.elsewhere q i ∙ h.elsewhere q n ∙ sym (put_other s g (u g) q i)

  -- hunks of one file

  module _ (f : Path) (l1 l2 m k : ℕ) (o1 n1 o2 n2 : Lines) (x y : Effect I) (s t u : NodeMap I) (h : StepsAt f (Hunk l1 o1 n1) x s t) (j : StepsAt f (Hunk l2 o2 n2) y t u) where
    -- the file with these gaps and lines between
    abbrev pub between : I → Heap → List (Token I) → NodeMap I
    between file heap via = put s f (Some (FileWith file heap via))

    hunks_via : (p : Edits l1 o1 n1 (s f) (t f) x) (q : Edits l2 o2 n2 (t f) (u f) y) → q.file ≡ p.file → q.heap ≡ p.heap → (via : List (Token I)) →
        HunkSteps m q.was q.is q.taken q.added p.tokens via → HunkSteps k p.was p.is p.taken p.added via q.tokens' → BothStep (At f (Hunk m o2 n2)) (At f (Hunk k o1 n1)) y x s u
    hunks_via p q one same via left right = (
      between p.file p.heap via,
      record {
        directory = h.directory;
        name = h.name;
        placed = h.placed;
        empty = λ i. absurd i;
        here = record {
          file = p.file;
          heap = p.heap;
          tokens = p.tokens;
          tokens' = via;
          taken = q.taken;
          added = q.added;
          was = q.was;
          is = q.is;
          stood = p.stood;
          there = put_same s f (Some (FileWith p.file p.heap via));
          is_file = p.is_file;
          old_is = rw (← same) q.old_is;
          new_is = rw (← same) q.new_is;
          replaced = left;
          effect = rw (← one) q.effect;
        };
        elsewhere = λ z n. put_other s f (Some (FileWith p.file p.heap via)) z n;
      },
      record {
        directory = h.directory;
        name = h.name;
        placed = name_kept I f h.directory h.name s (between p.file p.heap via) h.placed (put_other s f (Some (FileWith p.file p.heap via)) h.placed.parent (λ i. child_differs f h.name (sym (rw i at h.placed.is))));
        empty = λ i. absurd i;
        here = record {
          file = p.file;
          heap = p.heap;
          tokens = via;
          tokens' = q.tokens';
          taken = p.taken;
          added = p.added;
          was = p.was;
          is = p.is;
          stood = put_same s f (Some (FileWith p.file p.heap via));
          there = q.there ∙ ap (λ z. Some (FileWith z q.heap q.tokens')) one ∙ ap (λ z. Some (FileWith p.file z q.tokens')) same;
          is_file = (p.is_file.0, steps_keep_chains I p.file p.is_file.0 m q.was q.is q.taken q.added p.tokens via p.is_file.1 left, p.is_file.2);
          old_is = p.old_is;
          new_is = p.new_is;
          replaced = right;
          effect = p.effect;
        };
        elsewhere = λ z n. j.elsewhere z n ∙ h.elsewhere z n ∙ sym (put_other s f (Some (FileWith p.file p.heap via)) z n);
      },
    )

    -- the row holds of the symbols too, as of all lines of these counts
    pub hunks_step : ((w1 i1 w2 i2 : Lines) → length w1 ≡ length o1 → length i1 ≡ length n1 → length w2 ≡ length o2 → length i2 ≡ length n2 →
        TableRow (At f (Hunk l1 w1 i1)) (At f (Hunk l2 w2 i2)) (At f (Hunk m w2 i2)) (At f (Hunk k w1 i1))) → BothStep (At f (Hunk m o2 n2)) (At f (Hunk k o1 n1)) y x s u
    hunks_step row = go h.here j.here
      where
        go : Edits l1 o1 n1 (s f) (t f) x → Edits l2 o2 n2 (t f) (u f) y → BothStep (At f (Hunk m o2 n2)) (At f (Hunk k o1 n1)) y x s u
        go p q =
            let one : q.file ≡ p.file = cc (p.there, q.stood) in
            let heap : q.heap ≡ p.heap = cc (p.there, q.stood) in
            let same : q.tokens ≡ p.tokens' = cc (p.there, q.stood) in
            let of_symbols = row p.was p.is q.was q.is
            (as_many (spelled p.heap) p.was o1 p.old_is) (as_many (spelled p.heap) p.is n1 p.new_is) (as_many (spelled q.heap) q.was o2 q.old_is) (as_many (spelled q.heap) q.is n2 q.new_is) in
            let r = commuted_alike I p.file p.is_file.0 f l1 l2 m k p.was p.is q.was q.is p.was p.is q.was q.is p.taken p.added q.taken q.added p.tokens p.tokens' q.tokens' of_symbols p.is_file.1 p.replaced (rw same at q.replaced) in
            hunks_via p q one heap r.0 r.1 r.2

  -- work, then a move

  any_name : (w : Work) (d d' : I) (n n' : Name) (o o' : Option (Node I)) (e : Effect I) → KeepsFile w → Makes w d n o o' e → Makes w d' n' o o' e
  any_name AddFile d d' n n' o o' e i h = absurd i
  any_name RmFile d d' n n' o o' e i h = absurd i
  any_name AddDir d d' n n' o o' e i h = absurd i
  any_name RmDir d d' n n' o o' e i h = absurd i
  any_name (Hunk l old new) d d' n n' o o' e i h = h
  any_name (Binary old new) d d' n n' o o' e i h = h
  any_name (Replace set old new) d d' n n' o o' e i h = h

  file_alike : (f : I) (h h' : Heap) (c c' : List (Token I)) (o o' : Option (Node I)) (x : Node I) → o ≡ Some (FileWith f h c) → o' ≡ Some (FileWith f h' c') → o' ≡ Some x →
      (y : Node I) × (o ≡ Some y) × ((d : I) (n : Name) → stands y d n ≡ stands x d n)
  file_alike f h h' c c' o o' x stood there j = let z : FileWith f h' c' ≡ x = (cc (there, j)) in (FileWith f h c, stood, λ d n. rw (← z))

  -- what work finds that keeps the file stands where what it leaves does
  stands_alike : (w : Work) (d : I) (n : Name) (o o' : Option (Node I)) (e : Effect I) (x : Node I) → KeepsFile w → Makes w d n o o' e → o' ≡ Some x →
      (y : Node I) × (o ≡ Some y) × ((d : I) (n : Name) → stands y d n ≡ stands x d n)
  stands_alike AddFile d n o o' e x i h j = absurd i
  stands_alike RmFile d n o o' e x i h j = absurd i
  stands_alike AddDir d n o o' e x i h j = absurd i
  stands_alike RmDir d n o o' e x i h j = absurd i
  stands_alike (Hunk l old new) d n o o' e x i h j = file_alike h.file h.heap h.heap h.tokens h.tokens' o o' x h.stood h.there j
  stands_alike (Binary old new) d n o o' e x i h j = file_alike h.file h.heap h.heap h.tokens h.tokens' o o' x h.stood h.there j
  stands_alike (Replace set old new) d n o o' e x i h j = file_alike h.file h.heap h.heap' h.tokens h.tokens o o' x h.stood h.there j

  pub work_then_move : (f : Path) (w : Work) (a b : Path) → Beside f w a b → (x y : Effect I) (s t u : NodeMap I) → StepsAt f w x s t → StepsMove a b y t u → BothStep (Move a b) (At (swap a b f) w) y x s u
  work_then_move f w a b c x y s t u h k = (m, moves_from a b y s m first, second (path_dec f a))
    where
      d : Apart a b
      d = c.move_apart

      sw : Swaps a b y t u
      sw = swaps_from a b y t u k

      m : NodeMap I
      m = λ p. s (swap a b p)

      -- no name of f's own ends above f
      off : (p q : Path) (n : Name) → p ≡ q ++ n ∷ [] → (Inside p f → ⊥) → q ≢ f
      off p q n i out j = out (n, [], rw (← j) i)

      node : (a ≡ f) ⊎ (a ≢ f) → (z : Node I) × (s a ≡ Some z) × ((d : I) (n : Name) → stands z d n ≡ stands sw.node d n)
      node (inl i) = let r = stands_alike w h.directory h.name (s f) (t f) x sw.node (c.keeps_at_a (sym i)) h.here (ap t (sym i) ∙ sw.stood) in (r.0, ap s i ∙ r.1, r.2)
      node (inr i) = (sw.node, sym (h.elsewhere a i) ∙ sw.stood, λ d n. refl)

      z : (z : Node I) × (s a ≡ Some z) × ((d : I) (n : Name) → stands z d n ≡ stands sw.node d n)
      z = node (path_dec a f)

      into : Inside b f → ⊥
      into i = c.target.right (i.0 ∷ i.1, i.2)

      goal_place : IsNameIn b sw.to sw.new_name s
      goal_place = name_kept I b sw.to sw.new_name t s sw.place (sym (h.elsewhere sw.place.parent (off b sw.place.parent sw.new_name sw.place.is into)))

      first : Swaps a b y s m
      first = record {
        apart = d;
        node = z.0;
        stood = z.1;
        from = sw.from;
        old_name = sw.old_name;
        placed = name_kept I a sw.from sw.old_name t s sw.placed (sym (h.elsewhere sw.placed.parent (off a sw.placed.parent sw.old_name sw.placed.is c.source)));
        to = sw.to;
        new_name = sw.new_name;
        place = goal_place;
        free = λ r. sym (h.elsewhere (b ++ r) (λ i. c.target.left (r, sym i))) ∙ sw.free r;
        is = λ p. refl;
        effect = rw (z.2 sw.from sw.old_name, z.2 sw.to sw.new_name) sw.effect;
      }

      here : Makes w h.directory h.name (m (swap a b f)) (u (swap a b f)) x
      here = makes_at w h.directory h.name (s f) (t f) (m (swap a b f)) (u (swap a b f)) x h.here (ap s (swap-swap a b f d)) (sw.is (swap a b f) ∙ ap t (swap-swap a b f d))

      works : (directory : I) (name : Name) → IsNameIn (swap a b f) directory name m → Makes w directory name (m (swap a b f)) (u (swap a b f)) x → StepsAt (swap a b f) w x m u
      works directory name placed makes = record {
        directory = directory;
        name = name;
        placed = placed;
        empty = λ i n r. ap s (ap (swap a b) (sym (swap-append a b f (n ∷ r) d (beside_clear f w a b c))) ∙ swap-swap a b (f ++ n ∷ r) d) ∙ h.empty i n r;
        here = makes;
        elsewhere = λ q n. sw.is q ∙ h.elsewhere (swap a b q) (λ i. n (sym (swap-swap a b q d) ∙ ap (swap a b) i));
      }

      there : IsNameIn b sw.to sw.new_name m
      there = name_kept I b sw.to sw.new_name s m goal_place (ap s (swap-other a b goal_place.parent
          (λ v. d.right (name_under b goal_place.parent a sw.new_name goal_place.is v))
          (parent_off b goal_place.parent sw.new_name goal_place.is)))

      second : (f ≡ a) ⊎ (f ≢ a) → StepsAt (swap a b f) w x m u
      second (inl i) = works sw.to sw.new_name (subst (λ p. IsNameIn p sw.to sw.new_name m) (sym (ap (swap a b) i ∙ swap_left a b)) there)
          (any_name w h.directory sw.to h.name sw.new_name (m (swap a b f)) (u (swap a b f)) x (c.keeps_at_a i) here)
      second (inr i) = works h.directory h.name (name_swapped a b f h.directory h.name s m d i (λ j. c.target.left (same_under f b j)) (λ p. refl) h.placed) here

  -- a move, then work: what leads from u to s, undone
  pub move_then_work : (f : Path) (w : Work) (a b : Path) → Beside f w a b → (x y : Effect I) (s t u : NodeMap I) → StepsMove a b x s t → StepsAt (swap a b f) w y t u → BothStep (At f w) (Move a b) y x s u
  move_then_work f w a b c x y s t u h k =
      let d : Apart a b = c.move_apart in
      let near : Beside (swap a b f) (inv_work w) b a = beside_inv (swap a b f) w b a (beside_moved f w a b c) in
      let r = work_then_move (swap a b f) (inv_work w) b a near (inverse y) (inverse x) u t s (works_back I (swap a b f) w y t u k) (moves_back I a b x s t h) in
      let v = works_back I (swap b a (swap a b f)) (inv_work w) (inverse y) r.0 s r.2 in
      (r.0, rw (swap_turn b a (swap a b f) (apart_sym d), swap-swap a b f d, inv_twice w) at v, moves_back I b a (inverse x) u r.0 r.1)
