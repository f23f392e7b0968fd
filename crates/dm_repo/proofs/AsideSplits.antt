-- A list that is split, and the same list with patches that stand aside.
use Rattle.std.proofs.Common.{◌≡◌, List, [], ◌∷◌, ◌++◌, refl, sym, ap, ◌∙◌, arith}
use Rattle.std.specs.List.{All, Contains}
use Rattle.std.proofs.lemmas.List.Elements.{All-nil, All-cons, All-weaker, Contains-append_left, Contains-append_right}
use Rattle.dm_tree.specs.Paths.{Path}
use Rattle.dm_prim.specs.Rectangles.{CellRow, none, next, empty, row}
use Rattle.dm_named.specs.Patches.{Patch}
use Rattle.dm_repo.specs.Aside.{StandsAside, StandsNear, LeavesAside}
use Rattle.dm_repo.specs.Aside as asides
use Rattle.dm_repo.specs.Staircases.{Passes, PassStops, Split, nothing, stays, yields, SplitStops}
use Rattle.dm_repo.specs.Squares.{Placed, PlacedCommutes}
use Rattle.dm_repo.proofs.Members.{here, more}
use Rattle.dm_repo.proofs.NearSquares.{cells_keep, Near, near_square}
use Rattle.dm_repo.proofs.AsideSquares.{row_unchanged, AreStrangers, Far, aside_commutes}

-- the second list has the patches of the first but for some that stand aside, and S holds of each of these and of those that remain behind it
pub data Leaves (ps : List Path) (S : Placed → List Placed → Type 0) : List Placed → List Placed → Type 0 where
  ended : Leaves ps S [] []
  kept : {x : Placed} {all some : List Placed} → StandsNear ps x.1 → Leaves ps S all some → Leaves ps S (x ∷ all) (x ∷ some)
  left : {x : Placed} {all some : List Placed} → StandsAside ps x.1 → S x some → Leaves ps S all some → Leaves ps S (x ∷ all) some

abbrev pub Any : Placed → List Placed → Type 0
Any x l = Unit {0}

pub leaves_weaker : {ps : List Path} {S T : Placed → List Placed → Type 0} {all some : List Placed} → ((x : Placed) (l : List Placed) → S x l → T x l) → Leaves ps S all some → Leaves ps T all some
leaves_weaker f ended = ended
leaves_weaker f (kept n g) = kept n (leaves_weaker f g)
leaves_weaker f (left {x} {all} {some} a s g) = left a (f x some s) (leaves_weaker f g)

pub to_aside : {ps : List Path} {S : Placed → List Placed → Type 0} {all some : List Placed} → Leaves ps S all some → LeavesAside ps all some
to_aside ended = asides.none
to_aside (kept n g) = asides.near n (to_aside g)
to_aside (left a s g) = asides.aside a (to_aside g)

pub from_aside : {ps : List Path} {all some : List Placed} → LeavesAside ps all some → Leaves ps Any all some
from_aside asides.none = ended
from_aside (asides.near n g) = kept n (from_aside g)
from_aside (asides.aside a g) = left a tt (from_aside g)

-- one that remains is found in the whole list
pub record Cut (ps : List Path) (S : Placed → List Placed → Type 0) (all far : List Placed) (r : Placed) (near : List Placed) : Type 0 where
  pub before : List Placed
  pub after : List Placed
  pub at : all ≡ before ++ r ∷ after
  pub far_leaves : Leaves ps (λ x l. S x (l ++ r ∷ near)) before far
  pub near_leaves : Leaves ps S after near
  pub stands_near : StandsNear ps r.1

pub cut : {ps : List Path} {S : Placed → List Placed → Type 0} (far : List Placed) {r : Placed} {near all some : List Placed} → some ≡ far ++ r ∷ near → Leaves ps S all some → Cut ps S all far r near
cut [] e ended = absurd (cc)
cut [] {r} {near} e (kept {x} {all} {some} n g) =
    let a : x ≡ r = cc in let b : some ≡ near = cc in
    record { before = []; after = all; at = ap (λ y. y ∷ all) a; far_leaves = ended; near_leaves = rw b at g; stands_near = rw a at n }
cut [] {r} {near} e (left {x} {all} {some} a s g) =
    let c = cut [] e g in
    record { before = x ∷ c.before; after = c.after; at = ap (λ l. x ∷ l) c.at; far_leaves = left a (rw e at s) c.far_leaves; near_leaves = c.near_leaves; stands_near = c.stands_near }
cut (y ∷ far) e ended = absurd (cc)
cut (y ∷ far) {r} {near} e (kept {x} {all} {some} n g) =
    let a : x ≡ y = cc in let b : some ≡ far ++ r ∷ near = cc in
    let c = cut far b g in
    record { before = y ∷ c.before; after = c.after; at = ap (λ u. u ∷ all) a ∙ ap (λ l. y ∷ l) c.at; far_leaves = kept (rw a at n) c.far_leaves; near_leaves = c.near_leaves; stands_near = c.stands_near }
cut (y ∷ far) {r} {near} e (left {x} {all} {some} a s g) =
    let c = cut (y ∷ far) e g in
    record { before = x ∷ c.before; after = c.after; at = ap (λ l. x ∷ l) c.at; far_leaves = left a (rw e at s) c.far_leaves; near_leaves = c.near_leaves; stands_near = c.stands_near }

-- a patch of which only the primitives changed
pub strangers_alike : (x y z : Patch) → z.info ≡ y.info → z.deps ≡ y.deps → AreStrangers x y → AreStrangers x z
strangers_alike x y z e f s = record { x_named = λ c. s.x_named (rw f at c); y_named = λ c. s.y_named (rw e at c) }

-- a patch of the front stands near, and is one of the set of these but for its primitives
pub record IsFront (ps : List Path) (In : Placed → Type 0) (some : List Placed) (f : Placed) : Type 0 where
  pub near : StandsNear ps f.1
  pub was : Placed
  pub among : Contains some was
  pub in_set : In was
  pub info : f.1.info ≡ was.1.info
  pub deps : f.1.deps ≡ was.1.deps

-- x isn't of the set, and is a stranger to each of the set that stands behind it
abbrev pub IsFree : (Placed → Type 0) → (Placed → Type 0) → Placed → List Placed → Type 0
IsFree In T x l = (In x → ⊥) × ((h : Placed) → Contains l h → In h → AreStrangers x.1 h.1) × T x

pub record SplitsAll (ps : List Path) (In T : Placed → Type 0) (all some front rest : List Placed) : Type 0 where
  pub full : List Placed
  pub split : Split PlacedCommutes In all front full
  pub leaves : Leaves ps (λ x l. T x) full rest
  pub fronts : All (IsFront ps In some) front

module _ (ps : List Path) (In T : Placed → Type 0) where
  front_keeps : (some : List Placed) (x y y' x' : Placed) → PlacedCommutes x y y' x' → Near ps x → IsFront ps In some y → IsFront ps In some y' × Near ps x'
  front_keeps some x y y' x' c h k =
      let a = near_square ps x y y' x' c h k.near in
      (record { near = a.0; was = k.was; among = k.among; in_set = k.in_set; info = c.commutes.y_stays.info ∙ k.info; deps = c.commutes.y_stays.deps ∙ k.deps }, a.1)

  wider : (x : Placed) (some : List Placed) (f : Placed) → IsFront ps In some f → IsFront ps In (x ∷ some) f
  wider x some f k = record { near = k.near; was = k.was; among = more x some k.among; in_set = k.in_set; info = k.info; deps = k.deps }

  -- x stands aside, and is a stranger to each of the set
  abbrev Passing : List Placed → Placed → Type 0
  Passing some x = Far ps x × ((h : Placed) → Contains some h → In h → AreStrangers x.1 h.1)

  passing : (some : List Placed) (x y : Placed) → Passing some x → IsFront ps In some y → PlacedCommutes x y y x
  passing some x y q k = aside_commutes ps x y q.0 k.near (strangers_alike x.1 k.was.1 y.1 k.info k.deps (q.1 k.was k.among k.in_set))

  pub split_all : {all some front rest : List Placed} → Leaves ps (IsFree In T) all some → Split PlacedCommutes In some front rest → SplitsAll ps In T all some front rest
  split_all ended nothing = record { full = []; split = nothing; leaves = ended; fronts = All-nil (IsFront ps In []) }
  split_all (kept {x} {all} {some} n g) (stays {front} i s) =
      let a = split_all g s in
      let first : IsFront ps In (x ∷ some) x = record { near = n; was = x; among = here x some; in_set = i; info = refl; deps = refl } in
      record {
        full = a.full;
        split = stays i a.split;
        leaves = a.leaves;
        fronts = All-cons (IsFront ps In (x ∷ some)) x front first (All-weaker (IsFront ps In some) (IsFront ps In (x ∷ some)) (wider x some) front a.fronts);
      }
  split_all (kept {x} {all} {some} n g) (yields {r'} {front'} o s t) =
      let a = split_all g s in
      let b = cells_keep Placed PlacedCommutes (Near ps) (IsFront ps In some) (front_keeps some) t n a.fronts in
      record {
        full = r' ∷ a.full;
        split = yields o a.split t;
        leaves = kept b.1 a.leaves;
        fronts = All-weaker (IsFront ps In some) (IsFront ps In (x ∷ some)) (wider x some) front' b.0;
      }
  split_all {front} (left {x} {all} {some} d (o, u, v) g) s =
      let a = split_all g s in
      record {
        full = x ∷ a.full;
        split = yields o a.split (row_unchanged Placed PlacedCommutes (Passing some) (IsFront ps In some) (passing some) x front (d, u) a.fronts);
        leaves = left d v a.leaves;
        fronts = a.fronts;
      }

  pub fronts_near : (some front : List Placed) → All (IsFront ps In some) front → All (Near ps) front
  fronts_near some front h = All-weaker (IsFront ps In some) (Near ps) (λ f k. k.near) front h

-- h passes also those that stand aside
pub record PassesAll (ps : List Path) (all : List Placed) (h h1 : Placed) : Type 0 where
  pub after : List Placed
  pub passes : Passes PlacedCommutes all h h1 after
  pub near : StandsNear ps h1.1
  pub info : h1.1.info ≡ h.1.info
  pub deps : h1.1.deps ≡ h.1.deps

-- none of them names h, nor does h name one
abbrev pub IsStranger : Placed → Placed → Type 0
IsStranger h x = AreStrangers x.1 h.1

module _ (ps : List Path) where
  pass_all : {h h1 : Placed} {all some some' : List Placed} → Leaves ps (λ x l. IsStranger h x) all some → Near ps h → Passes PlacedCommutes some h h1 some' → PassesAll ps all h h1
  pass_all ended k empty = record { after = []; passes = empty; near = k; info = refl; deps = refl }
  pass_all (kept {x} n g) k (row {x'} p (next {y} {y'} c none)) =
      let a = pass_all g k p in
      let b = near_square ps x y y' x' c n a.near in
      record { after = x' ∷ a.after; passes = row a.passes (next c none); near = b.0; info = c.commutes.y_stays.info ∙ a.info; deps = c.commutes.y_stays.deps ∙ a.deps }
  pass_all {h} {h1} (left {x} d s g) k p =
      let a = pass_all g k p in
      let c = aside_commutes ps x h1 d a.near (strangers_alike x.1 h.1 h1.1 a.info a.deps s) in
      record { after = x ∷ a.after; passes = row a.passes (next c none); near = a.near; info = a.info; deps = a.deps }

  pass_stops_all : {h r : Placed} {full rest : List Placed} → Leaves ps (λ x l. IsStranger h x) full rest → Near ps h → PassStops PlacedCommutes rest h r → PassStops PlacedCommutes full h r
  pass_stops_all g k s =
      let c = cut s.far s.at g in
      let a = pass_all c.near_leaves k s.passed in
      record { far = c.before; near = c.after; near' = a.after; h1 = s.h1; at = c.at; passed = a.passes; stuck = s.stuck }

  free_of : {In : Placed → Type 0} (h : Placed) (after : List Placed) → In h → (x : Placed) (l : List Placed) → IsFree In (λ y. Unit {0}) x (l ++ h ∷ after) → IsFree In (IsStranger h) x l
  free_of h after i x l (o, u, v) = (o, λ k c. u k (Contains-append_left l (h ∷ after) k c), u h (Contains-append_right l (h ∷ after) h (here h after)) i)

  pub split_stops_all : {In : Placed → Type 0} {h r : Placed} {all some : List Placed} → Leaves ps (IsFree In (λ y. Unit {0})) all some → SplitStops PlacedCommutes In some h r → SplitStops PlacedCommutes In all h r
  split_stops_all {In} {h} g s =
      let c = cut s.before s.at g in
      let a = split_all ps In (IsStranger h) (leaves_weaker (free_of h s.after s.in_set) c.far_leaves) s.so_far in
      record { before = c.before; after = c.after; front = s.front; rest = a.full; at = c.at; so_far = a.split; in_set = s.in_set; stops = pass_stops_all a.leaves c.stands_near s.stops }
