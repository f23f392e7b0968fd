-- A list whose first part is in the set: where it is split or stopped, and where it is applied.
use Rattle.std.proofs.Common.{◌≡◌, List, [], ◌∷◌, ◌++◌, refl, sym, ap, ◌∙◌, append_assoc}
use Rattle.std.specs.List.{AllByRecursion}
use Rattle.dm_prim.specs.InTurn.{InTurn, done, step}
use Rattle.dm_prim.specs.Primitives.{Prim, LawfulMap}
use Rattle.dm_named.specs.Patches.{Patch}
use Rattle.dm_repo.specs.Staircases.{Split, nothing, stays, yields, PassStops, SplitStops}
use Rattle.dm_repo.specs.Squares.{Placed, patches}
use Rattle.dm_repo.specs.Folds.{PatchLeadsShallowly, GoesPastLimits, IsStopped, PatchStops}
use Rattle.dm_repo.specs.Weighing.{FitStops}
use Rattle.dm_repo.proofs.Applying.{patch_stops_all}
use Rattle.dm_repo.proofs.OneAnswer.{past_stopped}
use Rattle.dm_repo.proofs.Trees.{goes_all_one}

module _ {P : Type 0} (Square : P → P → P → P → Type 0) where
  -- in two sets with the same members a list is split alike, or stopped alike
  module _ {In Also : P → Type 0} (there : (x : P) → In x → Also x) (back : (x : P) → Also x → In x) where
    pub split_also : {xs front rest : List P} → Split Square In xs front rest → Split Square Also xs front rest
    split_also nothing = nothing
    split_also (stays {h} i s) = stays (there h i) (split_also s)
    split_also (yields {r} o s t) = yields (λ i. o (back r i)) (split_also s) t

    pub stops_also : {xs : List P} {h r : P} → SplitStops Square In xs h r → SplitStops Square Also xs h r
    stops_also {h} s = record { before = s.before; after = s.after; front = s.front; rest = s.rest; at = s.at; so_far = split_also s.so_far; in_set = there h s.in_set; stops = s.stops }

  module _ (In : P → Type 0) where
    -- what is in the set stays in front
    pub split_first : (ps : List P) {xs front rest : List P} → AllByRecursion In ps → Split Square In xs front rest → Split Square In (ps ++ xs) (ps ++ front) rest
    split_first [] a s = s
    split_first (p ∷ ps) a s = stays a.0 (split_first ps a.1 s)

    pub split_after : (ps : List P) {xs front rest : List P} → AllByRecursion In ps → Split Square In (ps ++ xs) front rest → (later : List P) × (front ≡ ps ++ later) × Split Square In xs later rest
    split_after [] {front = front} a s = (front, refl, s)
    split_after (p ∷ ps) a (stays i s) = let r = split_after ps a.1 s in (r.0, ap (λ l. p ∷ l) r.1, r.2)
    split_after (p ∷ ps) a (yields o s t) = absurd (o a.0)

    -- so what stops the split stands behind
    pub stops_first : (ps : List P) {xs : List P} {h r : P} → AllByRecursion In ps → SplitStops Square In xs h r → SplitStops Square In (ps ++ xs) h r
    stops_first ps {h = h} a s = record {
      before = ps ++ s.before;
      after = s.after;
      front = ps ++ s.front;
      rest = s.rest;
      at = ap (λ l. ps ++ l) s.at ∙ sym (append_assoc ps s.before (h ∷ s.after));
      so_far = split_first ps a s.so_far;
      in_set = s.in_set;
      stops = s.stops;
    }

    none_stops : {h r : P} → PassStops Square [] h r → ⊥
    none_stops {r} s = no s.far s.near s.at
      where
        no : (far near : List P) → [] ≡ far ++ r ∷ near → ⊥
        no [] near e = absurd (cc)
        no (x ∷ far) near e = absurd (cc)

    stops_behind : (p : P) {xs : List P} {h r : P} → In p → (before after : List P) {front rest : List P} → p ∷ xs ≡ before ++ h ∷ after → Split Square In before front rest → In h → PassStops Square rest h r → SplitStops Square In xs h r
    stops_behind p i [] after e nothing j s = absurd (none_stops s)
    stops_behind p {xs} {h} i (b ∷ before) after e (stays {front} {rest} k s) j t =
        let f : b ∷ (before ++ h ∷ after) ≡ p ∷ xs = sym e in
        let same : xs ≡ before ++ h ∷ after = cc in
        record { before = before; after = after; front = front; rest = rest; at = same; so_far = s; in_set = j; stops = t }
    stops_behind p {xs} {h} i (b ∷ before) after e (yields o s t) j u =
        let f : b ∷ (before ++ h ∷ after) ≡ p ∷ xs = sym e in
        let same : b ≡ p = cc in
        absurd (o (rw same i))

    pub stops_after : (ps : List P) {xs : List P} {h r : P} → AllByRecursion In ps → SplitStops Square In (ps ++ xs) h r → SplitStops Square In xs h r
    stops_after [] a s = s
    stops_after (p ∷ ps) a s = stops_after ps a.1 (stops_behind p a.0 s.before s.after s.at s.so_far s.in_set s.stops)

-- patches that lead on are applied, and what goes past a limit stands behind them
pub past_first : (ps xs : List Placed) {s t : LawfulMap} {x : Placed} → InTurn PatchLeadsShallowly (patches ps) s t → FitStops GoesPastLimits t xs x → FitStops GoesPastLimits s (ps ++ xs) x
past_first [] xs done f = f
past_first (p ∷ ps) xs (step h r) f =
    let g = past_first ps xs r f in
    record { before = p ∷ g.before; after = g.after; tree = g.tree; at = ap (λ l. p ∷ l) g.at; leads = step h g.leads; stops = g.stops }

past_stops : {x : Patch} {s : LawfulMap} → PatchStops GoesPastLimits x s → PatchStops IsStopped x s
past_stops q = record { before = q.before; prim = q.prim; after = q.after; tree = q.tree; at = q.at; leads = q.leads; stops = past_stopped q.prim q.tree q.stops }

past_behind : (p : Placed) (xs : List Placed) {s u : LawfulMap} {x : Placed} → PatchLeadsShallowly p.1 s u → (before after : List Placed) {tree : LawfulMap} →
    p ∷ xs ≡ before ++ x ∷ after → InTurn PatchLeadsShallowly (patches before) s tree → PatchStops GoesPastLimits x.1 tree → FitStops GoesPastLimits u xs x
past_behind p xs {u = u} {x = x} h [] after e done q =
    let f : x ∷ after ≡ p ∷ xs = sym e in
    let same : x ≡ p = cc in
    absurd (patch_stops_all {t = u} (past_stops q) (rw same h))
past_behind p xs {s} {u} {x} h (b ∷ before) after {tree} e (step {u = w} k r) q =
    let f : b ∷ (before ++ x ∷ after) ≡ p ∷ xs = sym e in
    let same : b ≡ p = cc in
    let rest : xs ≡ before ++ x ∷ after = cc in
    let one : w ≡ u = goes_all_one p.1 s w u (rw same at k) h in
    record { before = before; after = after; tree = tree; at = rest; leads = rw one at r; stops = q }

pub past_after : (ps xs : List Placed) {s t : LawfulMap} {x : Placed} → InTurn PatchLeadsShallowly (patches ps) s t → FitStops GoesPastLimits s (ps ++ xs) x → FitStops GoesPastLimits t xs x
past_after [] xs done f = f
past_after (p ∷ ps) xs (step h r) f = past_after ps xs r (past_behind p (ps ++ xs) h f.before f.after f.at f.leads f.stops)
