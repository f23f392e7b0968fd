-- Staircases: one answer, the same end, and the steps of a loop.
use Rattle.std.proofs.Common.{◌≡◌, List, [], ◌∷◌, ◌++◌, refl, ap, ap₂}
use Rattle.dm_prim.specs.Rectangles.{CellRow, none, next, empty, row}
use Rattle.dm_repo.specs.Merging.{MergeRectangle, bare, over, MergesPast, MergePastStops, Merge, MergeStops}
use Rattle.dm_prim.specs.InTurn.{InTurn, done, step}
use Rattle.dm_repo.specs.Staircases.{Passes, PassStops, Split, nothing, stays, yields, SplitStops}
use Rattle.dm_prim.proofs.RectangleLemmas.{rectangle_one}

module _ (P : Type 0) (Square : P → P → P → P → Type 0) where
  -- strips one after the other
  strip_on : {x x1 x' : P} {ys zs ys' zs' : List P} → CellRow Square x ys ys' x1 → CellRow Square x1 zs zs' x' → CellRow Square x (ys ++ zs) (ys' ++ zs') x'
  strip_on none t = t
  strip_on (next c s) t = next c (strip_on s t)

  module _ (In : P → Type 0) where
    -- one more patch outside the set
    pub split_out : {xs front rest : List P} {r : P} → Split Square In xs front rest → (In r → ⊥) → Split Square In (xs ++ r ∷ []) front (rest ++ r ∷ [])
    split_out nothing n = yields n nothing none
    split_out (stays i s) n = stays i (split_out s n)
    split_out (yields o s t) n = yields o (split_out s n) t

    -- one more of the set, which passes the rest
    pub split_in : {xs front rest rest' : List P} {h h' : P} → Split Square In xs front rest → In h → Passes Square rest h h' rest' → Split Square In (xs ++ h ∷ []) (front ++ h' ∷ []) rest'
    split_in nothing i empty = stays i nothing
    split_in (stays j s) i g = stays j (split_in s i g)
    split_in (yields o s t) i (row g (next c none)) = yields o (split_in s i g) (strip_on t (next c none))

  -- at most one answer
  module _ (square_one : (p q q1 p1 q2 p2 : P) → Square p q q1 p1 → Square p q q2 p2 → (q1 ≡ q2) × (p1 ≡ p2)) where
    pub strip_one : {x x1 z z1 : P} {ys zs ys1 zs1 : List P} → x ≡ z → ys ≡ zs → CellRow Square x ys ys1 x1 → CellRow Square z zs zs1 z1 → (ys1 ≡ zs1) × (x1 ≡ z1)
    strip_one e f none none = (refl, e)
    strip_one e f none (next c s) = absurd (cc)
    strip_one e f (next c s) none = absurd (cc)
    strip_one e f (next {x} {y} {y'} {x1 = v} {ys = l} c s) (next {x = z} {y = b} {y' = w} {x1 = u} {ys = m} d t) =
        let i : b ≡ y = cc in let j : l ≡ m = cc in
        let k : (y' ≡ w) × (v ≡ u) = square_one x y y' v w u c (rw (← e, i) at d) in
        let g = strip_one k.1 j s t in (ap₂ (λ a b. a ∷ b) k.0 g.0, g.1)

    pub split_one : (In : P → Type 0) {xs ys front rest front1 rest1 : List P} → xs ≡ ys → Split Square In xs front rest → Split Square In ys front1 rest1 → (front ≡ front1) × (rest ≡ rest1)
    split_one In e nothing nothing = (refl, refl)
    split_one In e nothing (stays i s) = absurd (cc)
    split_one In e nothing (yields o s t) = absurd (cc)
    split_one In e (stays i s) nothing = absurd (cc)
    split_one In e (yields o s t) nothing = absurd (cc)
    split_one In e (stays {h} {xs = l} i s) (stays {h = k} {xs = m} j t) =
        let a : h ≡ k = cc in let b : l ≡ m = cc in let g = split_one In b s t in (ap₂ (λ a b. a ∷ b) a g.0, g.1)
    split_one In e (stays {h} i s) (yields {r} o t u) = let a : h ≡ r = cc in absurd (o (rw (← a) i))
    split_one In e (yields {r} o t u) (stays {h} i s) = let a : r ≡ h = cc in absurd (o (rw a i))
    split_one In e (yields {r} {xs = l} o s t) (yields {r = q} {xs = m} p u v) =
        let a : r ≡ q = cc in let b : l ≡ m = cc in let g = split_one In b s u in
        let h = strip_one a g.0 t v in (h.0, ap₂ (λ a b. a ∷ b) h.1 g.1)

-- lists in turn
module _ {P S : Type 0} {Step : P → S → S → Type 0} where
  pub runs_on : {xs ys : List P} {s u z : S} → InTurn Step xs s u → InTurn Step ys u z → InTurn Step (xs ++ ys) s z
  runs_on done r = r
  runs_on (step h t) r = step h (runs_on t r)

  pub runs_part : (xs : List P) {ys : List P} {s z : S} → InTurn Step (xs ++ ys) s z → (u : S) × InTurn Step xs s u × InTurn Step ys u z
  runs_part [] r = (_, done, r)
  runs_part (x ∷ xs) (step h t) = let a = runs_part xs t in (a.0, step h a.1, a.2)

-- the same end
module _ (P S : Type 0) (Square : P → P → P → P → Type 0) (Step : P → S → S → Type 0)
    (square_runs : (p q q' p' : P) → Square p q q' p' → (s u z : S) → Step p s u → Step q u z → (m : S) × Step q' s m × Step p' m z) where
  strip_runs : {x x' : P} {ys ys' : List P} {s u z : S} → CellRow Square x ys ys' x' → Step x s u → InTurn Step ys u z → (m : S) × InTurn Step ys' s m × Step x' m z
  strip_runs none h done = (_, done, h)
  strip_runs {s = s} (next {x} {y} {y'} {x1} c t) h (step {u = u} {z = z} k r) =
      let w : (m : S) × Step y' s m × Step x1 m _ = square_runs x y y' x1 c s _ _ h k in
      let a = strip_runs t w.2 r in (a.0, step w.1 a.1, a.2)

  pub split_runs : (In : P → Type 0) {xs front rest : List P} {s z : S} → Split Square In xs front rest → InTurn Step xs s z →
      (u : S) × InTurn Step front s u × InTurn Step rest u z
  split_runs In nothing done = (_, done, done)
  split_runs In (stays i s) (step h r) = let a = split_runs In s r in (a.0, step h a.1, a.2)
  split_runs In (yields o s t) (step h r) =
      let a = split_runs In s r in let b = strip_runs t h a.1 in (b.0, b.1, step b.2 a.2)

  module _ (square_back : (p q q' p' : P) → Square p q q' p' → Square q' p' p q) where
    strip_back : {x x' : P} {ys ys' : List P} {s m z : S} → CellRow Square x ys ys' x' → InTurn Step ys' s m → Step x' m z → (u : S) × Step x s u × InTurn Step ys u z
    strip_back none done h = (_, h, done)
    strip_back (next {x} {y} {y'} {x1} c t) (step k r) h =
        let a = strip_back t r h in
        let w = square_runs y' x1 x y (square_back x y y' x1 c) _ _ _ k a.1 in (w.0, w.1, step w.2 a.2)

    pub split_back : (In : P → Type 0) {xs front rest : List P} {s u z : S} → Split Square In xs front rest → InTurn Step front s u → InTurn Step rest u z → InTurn Step xs s z
    split_back In nothing done done = done
    split_back In (stays i s) (step h r) q = step h (split_back In s r q)
    split_back In (yields o s t) f (step h q) = let a = strip_back t f h in step a.1 (split_back In s a.2 q)

-- a merge always applies
module _ (P S : Type 0) (Square : P → P → P → P → Type 0) (Step : P → S → S → Type 0)
    (square_runs : (r n n' r' : P) → Square r n n' r' → (s b a : S) → Step r s b → Step n s a → (z : S) × Step n' b z × Step r' a z) where
  strip_joins : {x x' : P} {ys ys' : List P} {s u a : S} → CellRow Square x ys ys' x' → Step x s u → InTurn Step ys s a → (v : S) × InTurn Step ys' u v × Step x' a v
  strip_joins none h done = (_, done, h)
  strip_joins (next {x} {y} {y'} {x1} c t) h (step k r) =
      let w = square_runs x y y' x1 c _ _ _ h k in let a = strip_joins t w.2 r in (a.0, step w.1 a.1, a.2)

  pub rect_runs : {rest new new' rest' : List P} {s b a : S} → MergeRectangle Square rest new new' rest' → InTurn Step rest s b → InTurn Step new s a →
      (z : S) × InTurn Step new' b z × InTurn Step rest' a z
  rect_runs bare done r = (_, r, done)
  rect_runs (over t g) (step h r) n = let v = strip_joins t h n in let z = rect_runs g r v.1 in (z.0, z.1, step v.2 z.2)

-- refusals
module _ (P : Type 0) (Square : P → P → P → P → Type 0) where
  -- a strip past two lists
  pub strip_part : (ys : List P) {x x' : P} {zs ws : List P} → CellRow Square x (ys ++ zs) ws x' →
      (x1 : P) × (ys' : List P) × (zs' : List P) × CellRow Square x ys ys' x1 × CellRow Square x1 zs zs' x' × (ws ≡ ys' ++ zs')
  strip_part [] {x} {ws} s = (x, [], ws, none, s, refl)
  strip_part (y ∷ ys) (next {y'} c s) = let a = strip_part ys s in (a.0, y' ∷ a.1, a.2, next c a.3, a.4, ap (λ l. y' ∷ l) a.5)

  -- what passes a list passes its end
  pub pass_part : (far : List P) {r h h' : P} {near out : List P} → Passes Square (far ++ r ∷ near) h h' out →
      (h1 : P) × (near' : List P) × (h2 : P) × (r' : P) × Passes Square near h h1 near' × Square r h1 h2 r'
  pass_part [] (row g (next c none)) = (_, _, _, _, g, c)
  pass_part (f ∷ far) (row g (next c none)) = pass_part far g

  module _ (In : P → Type 0) where
    -- what h did before the end of the list
    abbrev pub Passed : List P → P → List P → Type 0
    Passed xs h front = (f : List P) × (r : List P) × (h' : P) × (r' : List P) × (more : List P) × Split Square In xs f r × Passes Square r h h' r' × (front ≡ f ++ h' ∷ more)

    yield : {x x1 x' h h' : P} {xs f f' r r' more zs out : List P} → (In x → ⊥) → Split Square In xs f r → Passes Square r h h' r' →
        CellRow Square x f f' x1 → CellRow Square x1 (h' ∷ more) zs x' → out ≡ f' ++ zs → Passed (x ∷ xs) h out
    yield o s g t (next c u) e = (_, _, _, _, _, yields o s t, row g (next c none), e)

    -- where the whole is split, h has passed what stands before it
    pub split_part : (xs : List P) {h : P} (ys : List P) {front rest : List P} → In h → Split Square In (xs ++ h ∷ ys) front rest → Passed xs h front
    split_part [] ys i (stays j s) = ([], [], _, [], _, nothing, empty, refl)
    split_part [] ys i (yields o s t) = absurd (o i)
    split_part (x ∷ xs) ys i (stays j s) =
        let a = split_part xs ys i s in (x ∷ a.0, a.1, a.2, a.3, a.4, stays j a.5, a.6, ap (λ l. x ∷ l) a.7)
    split_part (x ∷ xs) {h} ys {front = out} i (yields {r' = v} {front = f} o s t) = go (split_part xs ys i s)
      where
        go : Passed xs h f → Passed (x ∷ xs) h out
        go (f1, r1, h1, r2, more, s1, g, e) = let w : CellRow Square x (f1 ++ h1 ∷ more) out v = rw e at t in let b = strip_part f1 w in yield o s1 g b.3 b.4 b.5

  module _ (square_one : (p q q1 p1 q2 p2 : P) → Square p q q1 p1 → Square p q q2 p2 → (q1 ≡ q2) × (p1 ≡ p2)) where
    -- one that is stopped doesn't pass
    pub pass_stops : {xs xs' : List P} {h h' r : P} → PassStops Square xs h r → Passes Square xs h h' xs' → ⊥
    pass_stops {h} {r} s g =
        let a = pass_part s.far (rw s.at at g) in
        let e = rectangle_one P Square square_one s.passed a.4 in
        let f : s.h1 ≡ a.0 = square_inj s.h1 a.0 (e.0) in
        s.stuck a.2 a.3 (rw (← f) at a.5)
      where
        square_inj : (x y : P) → x ∷ [] ≡ y ∷ [] → x ≡ y
        square_inj x y e = cc

    -- a list that is split isn't refused
    pub split_stops : (In : P → Type 0) {xs front rest : List P} {h r : P} → SplitStops Square In xs h r → Split Square In xs front rest → ⊥
    split_stops In s g =
        let a = split_part In s.before s.after s.in_set (rw s.at at g) in
        let e = split_one P Square square_one In refl s.so_far a.5 in
        pass_stops s.stops (rw (← e.1) at a.6)

-- the merge
module _ (P : Type 0) (Square : P → P → P → P → Type 0) where
  -- one more of the rest
  pub join_more : {near near' : List P} {r r' n n1 n2 : P} → MergesPast Square near n n1 near' → Square r n1 n2 r' → MergesPast Square (near ++ r ∷ []) n n2 (near' ++ r' ∷ [])
  join_more bare c = over (next c none) bare
  join_more (over (next d none) g) c = over (next d none) (join_more g c)

  pub join_part : (near : List P) {r n n' : P} (far : List P) {out : List P} → MergesPast Square (near ++ r ∷ far) n n' out →
      (n1 : P) × (near' : List P) × (n2 : P) × (r' : P) × MergesPast Square near n n1 near' × Square r n1 n2 r'
  join_part [] far (over (next c none) g) = (_, [], _, _, bare, c)
  join_part (x ∷ near) far (over {r' = v} (next d none) g) = let a = join_part near far g in (a.0, v ∷ a.1, a.2, a.3, over (next d none) a.4, a.5)

  pub single : {n : P} {xs xs' out : List P} → MergeRectangle Square xs (n ∷ []) out xs' → (n' : P) × (out ≡ n' ∷ [])
  single bare = (_, refl)
  single (over (next c none) g) = single g

  -- a rectangle past two lists
  pub rect_part : (ys : List P) (zs : List P) {ls xs xs' ws : List P} → ls ≡ ys ++ zs → MergeRectangle Square xs ls ws xs' →
      (xs1 : List P) × (ys' : List P) × (zs' : List P) × MergeRectangle Square xs ys ys' xs1 × MergeRectangle Square xs1 zs zs' xs' × (ws ≡ ys' ++ zs')
  rect_part ys zs e bare = ([], ys, zs, bare, bare, e)
  rect_part ys zs e (over t g) =
      let a = strip_part P Square ys (rw e at t) in let b = rect_part a.1 a.2 a.5 g in
      (_, b.1, b.2, over a.3 b.3, over a.4 b.4, b.5)

  module _ (square_one : (r n n1 r1 n2 r2 : P) → Square r n n1 r1 → Square r n n2 r2 → (n1 ≡ n2) × (r1 ≡ r2)) where
    pub rect_one : {rest ys new new1 new2 rest1 rest2 : List P} → new ≡ ys → MergeRectangle Square rest new new1 rest1 → MergeRectangle Square rest ys new2 rest2 → (new1 ≡ new2) × (rest1 ≡ rest2)
    rect_one e bare bare = (e, refl)
    rect_one e (over t g) (over u h) =
        let a = strip_one P Square square_one refl e t u in let b = rect_one a.0 g h in (b.0, ap₂ (λ a b. a ∷ b) a.1 b.1)

    pub join_stops : {rest rest' : List P} {n n' r : P} → MergePastStops Square rest n r → MergesPast Square rest n n' rest' → ⊥
    join_stops s g =
        let a = join_part s.near s.far (rw s.at at g) in
        let e = rect_one refl s.joined a.4 in
        let f : s.n1 ≡ a.0 = inj s.n1 a.0 e.0 in
        s.stuck a.2 a.3 (rw (← f) at a.5)
      where
        inj : (x y : P) → x ∷ [] ≡ y ∷ [] → x ≡ y
        inj x y e = cc

    alone_stops : {rest out rest' : List P} {n n' r : P} → MergePastStops Square rest n r → MergeRectangle Square rest (n ∷ []) out rest' → out ≡ n' ∷ [] → ⊥
    alone_stops s g e = join_stops s (rw e at g)

    clash : {rest1 rest2 after out rest' : List P} {n r : P} → rest1 ≡ rest2 → MergePastStops Square rest1 n r → MergeRectangle Square rest2 (n ∷ after) out rest' → ⊥
    clash {after} {n} e s g =
        let b = rect_part (n ∷ []) after refl (rw (← e) at g) in
        let c = single b.3 in
        alone_stops s b.3 c.1

    pub merge_stops : {rest new new' : List P} {n r : P} → MergeStops Square rest new n r → Merge Square rest new new' → ⊥
    merge_stops {n} s (rest', g) =
        let a = rect_part s.before (n ∷ s.after) s.at g in
        let e = rect_one refl s.so_far a.3 in clash e.1 s.stops a.4

-- nothing to merge, and one list after the other
module _ (P : Type 0) (Square : P → P → P → P → Type 0) where
  pub merge_narrow : (xs : List P) → MergeRectangle Square xs [] [] xs
  merge_narrow [] = bare
  merge_narrow (x ∷ xs) = over none (merge_narrow xs)

  pub merge_along : {xs xs1 xs' ys zs ys' zs' : List P} → MergeRectangle Square xs ys ys' xs1 → MergeRectangle Square xs1 zs zs' xs' → MergeRectangle Square xs (ys ++ zs) (ys' ++ zs') xs'
  merge_along bare bare = bare
  merge_along (over s g) (over t h) = over (strip_on P Square s t) (merge_along g h)
