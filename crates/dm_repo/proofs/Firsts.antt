-- The patch that stops a split, a fit or a merge is determined.
use Rattle.std.proofs.Common.{◌≡◌, List, [], ◌∷◌, ◌++◌, refl, sym, ap, ◌∙◌}
use Rattle.dm_repo.specs.Staircases.{PassStops, SplitStops}
use Rattle.dm_repo.specs.Merging.{MergePastStops, MergeStops}
use Rattle.dm_prim.specs.Primitives.{LawfulMap}
use Rattle.dm_repo.specs.Folds.{IsStopped}
use Rattle.dm_repo.specs.Squares.{Placed}
use Rattle.dm_repo.specs.Weighing.{FitStops}
use Rattle.dm_repo.proofs.Staircases.{split_one, pass_stops, split_stops, rect_one, join_stops, merge_stops}
use Rattle.dm_repo.proofs.Making.{fit_stops_all}

-- two places in one list
data Meet {P : Type 0} (a : List P) (x : P) (b c : List P) (y : P) (d : List P) : Type 0 where
  same : a ≡ c → x ≡ y → b ≡ d → Meet a x b c y d
  before : (m : List P) → c ≡ a ++ x ∷ m → b ≡ m ++ y ∷ d → Meet a x b c y d
  behind : (m : List P) → a ≡ c ++ y ∷ m → d ≡ m ++ x ∷ b → Meet a x b c y d

meet : {P : Type 0} (a : List P) (x : P) (b c : List P) (y : P) (d : List P) → a ++ x ∷ b ≡ c ++ y ∷ d → Meet a x b c y d
meet [] x b [] y d e = let f : x ≡ y = cc in let g : b ≡ d = cc in same refl f g
meet [] x b (z ∷ c) y d e = let f : z ≡ x = cc in let g : b ≡ c ++ y ∷ d = cc in before c (ap (λ w. w ∷ c) f) g
meet (z ∷ a) x b [] y d e = let f : z ≡ y = cc in let g : d ≡ a ++ x ∷ b = cc in behind a (ap (λ w. w ∷ a) f) g
meet (z ∷ a) x b (w ∷ c) y d e = go (meet a x b c y d (cc)) (cc)
  where
    go : Meet a x b c y d → z ≡ w → Meet (z ∷ a) x b (w ∷ c) y d
    go (same p q r) f = let g : z ∷ a ≡ w ∷ c = cc in same g q r
    go (before m p q) f = let g : w ∷ c ≡ z ∷ (a ++ x ∷ m) = cc in before m g q
    go (behind m p q) f = let g : z ∷ a ≡ w ∷ (c ++ y ∷ m) = cc in behind m g q

module _ (P : Type 0) (Square : P → P → P → P → Type 0) (square_one : (p q q1 p1 q2 p2 : P) → Square p q q1 p1 → Square p q q2 p2 → (q1 ≡ q2) × (p1 ≡ p2)) where
  pub pass_stops_one : {xs : List P} {h r q : P} → PassStops Square xs h r → PassStops Square xs h q → r ≡ q
  pass_stops_one {xs} {h} {r} {q} s t = go (meet s.far r s.near t.far q t.near (sym s.at ∙ t.at))
    where
      go : Meet s.far r s.near t.far q t.near → r ≡ q
      go (same e f g) = f
      go (before m e f) = absurd (pass_stops P Square square_one (record { far = m; near = t.near; near' = t.near'; h1 = t.h1; at = f; passed = t.passed; stuck = t.stuck }) s.passed)
      go (behind m e f) = absurd (pass_stops P Square square_one (record { far = m; near = s.near; near' = s.near'; h1 = s.h1; at = f; passed = s.passed; stuck = s.stuck }) t.passed)

  stops_at : {rest1 rest2 : List P} {h k r q : P} → rest1 ≡ rest2 → h ≡ k → PassStops Square rest1 h r → PassStops Square rest2 k q → r ≡ q
  stops_at e f s t = pass_stops_one s (rw (← e, ← f) at t)

  pub split_stops_one : (In : P → Type 0) {xs : List P} {h r k q : P} → SplitStops Square In xs h r → SplitStops Square In xs k q → (h ≡ k) × (r ≡ q)
  split_stops_one In {xs} {h} {r} {k} {q} s t = go (meet s.before h s.after t.before k t.after (sym s.at ∙ t.at))
    where
      go : Meet s.before h s.after t.before k t.after → (h ≡ k) × (r ≡ q)
      go (same e f g) = (f, stops_at (split_one P Square square_one In e s.so_far t.so_far).1 f s.stops t.stops)
      go (before m e f) = absurd (split_stops P Square square_one In (record { before = s.before; after = m; front = s.front; rest = s.rest; at = e; so_far = s.so_far; in_set = s.in_set; stops = s.stops }) t.so_far)
      go (behind m e f) = absurd (split_stops P Square square_one In (record { before = t.before; after = m; front = t.front; rest = t.rest; at = e; so_far = t.so_far; in_set = t.in_set; stops = t.stops }) s.so_far)

  pub join_stops_one : {xs : List P} {h r q : P} → MergePastStops Square xs h r → MergePastStops Square xs h q → r ≡ q
  join_stops_one {xs} {h} {r} {q} s t = go (meet s.near r s.far t.near q t.far (sym s.at ∙ t.at))
    where
      go : Meet s.near r s.far t.near q t.far → r ≡ q
      go (same e f g) = f
      go (before m e f) = absurd (join_stops P Square square_one (record { near = s.near; near' = s.near'; far = m; n1 = s.n1; at = e; joined = s.joined; stuck = s.stuck }) t.joined)
      go (behind m e f) = absurd (join_stops P Square square_one (record { near = t.near; near' = t.near'; far = m; n1 = t.n1; at = e; joined = t.joined; stuck = t.stuck }) s.joined)

  joins_at : {rest1 rest2 : List P} {h k r q : P} → rest1 ≡ rest2 → h ≡ k → MergePastStops Square rest1 h r → MergePastStops Square rest2 k q → r ≡ q
  joins_at e f s t = join_stops_one s (rw (← e, ← f) at t)

  pub merge_stops_one : {rest xs : List P} {h r k q : P} → MergeStops Square rest xs h r → MergeStops Square rest xs k q → (h ≡ k) × (r ≡ q)
  merge_stops_one {rest} {xs} {h} {r} {k} {q} s t = go (meet s.before h s.after t.before k t.after (sym s.at ∙ t.at))
    where
      go : Meet s.before h s.after t.before k t.after → (h ≡ k) × (r ≡ q)
      go (same e f g) = (f, joins_at (rect_one P Square square_one e s.so_far t.so_far).1 f s.stops t.stops)
      go (before m e f) = absurd (merge_stops P Square square_one (record { before = s.before; after = m; before' = s.before'; rest1 = s.rest1; at = e; so_far = s.so_far; stops = s.stops }) (_, t.so_far))
      go (behind m e f) = absurd (merge_stops P Square square_one (record { before = t.before; after = m; before' = t.before'; rest1 = t.rest1; at = e; so_far = t.so_far; stops = t.stops }) (_, s.so_far))

pub fit_stops_one : {s : LawfulMap} {xs : List Placed} {x y : Placed} → FitStops IsStopped s xs x → FitStops IsStopped s xs y → x ≡ y
fit_stops_one {s} {xs} {x} {y} f g = go (meet f.before x f.after g.before y g.after (sym f.at ∙ g.at))
  where
    go : Meet f.before x f.after g.before y g.after → x ≡ y
    go (same e h i) = h
    go (before m e h) = absurd (fit_stops_all {xs = g.before} {x = x} (record { before = f.before; after = m; tree = f.tree; at = e; leads = f.leads; stops = f.stops }) g.leads)
    go (behind m e h) = absurd (fit_stops_all {xs = f.before} {x = y} (record { before = g.before; after = m; tree = g.tree; at = e; leads = g.leads; stops = g.stops }) f.leads)
