-- A front of which the first patches stayed where they are, and the others were copied: applied one part after the other.
use Rattle.std.proofs.Common.{◌≡◌, ℕ, ◌+◌, ◌<◌, List, ◌∷◌, ◌++◌, length, take, drop, get_or, sym, ap, ◌∙◌, append_assoc}
use Rattle.std.proofs.lemmas.List.{take_more, map-append}
use Rattle.dm_prim.specs.InTurn.{InTurn, done, step}
use Rattle.dm_prim.specs.Primitives.{LawfulMap}
use Rattle.dm_named.specs.Patches.{Patch}
use Rattle.dm_repo.specs.Folds.{PatchLeadsShallowly, IsStopped, PatchStops}
use Rattle.dm_repo.specs.Squares.{Placed, patches, placed, placed_from}
use Rattle.dm_repo.specs.Stops.{StopsAt}
use Rattle.dm_repo.specs.Weighing.{FitStops}
use Rattle.dm_repo.specs.declared.stop.Stop.{Stop}
use Rattle.dm_repo.specs.declared.stop.Stop.TheVariants.{At, NoMemory}
use Rattle.dm_repo.proofs.Placed.{patches_placed}
use Rattle.dm_repo.proofs.Splits.{placed_around}
use Rattle.dm_repo.proofs.Staircases.{runs_on}

-- the patches up to a place lead shallowly, and so does the one there
pub leads_more : (xs : List Patch) (k : ℕ) (x : Patch) {s t u : LawfulMap} → k < length xs → x ≡ get_or xs k x → InTurn PatchLeadsShallowly (take k xs) s t → PatchLeadsShallowly x t u → InTurn PatchLeadsShallowly (take (k + 1) xs) s u
leads_more xs k x l e r h = rw (take_more xs k x l, ← e) (runs_on r (step h done))

-- or it is stopped
pub stops_there : (xs : List Patch) (k : ℕ) (x : Patch) {s t : LawfulMap} → k < length xs → x ≡ get_or xs k x → InTurn PatchLeadsShallowly (take k xs) s t → PatchStops IsStopped x t → FitStops IsStopped s (placed xs) (k, x)
stops_there xs k x {t = t} l e r h = record {
  before = placed (take k xs);
  after = placed_from (k + 1) (drop (k + 1) xs);
  tree = t;
  at = placed_around xs k x l e;
  leads = rw (patches_placed 0 (take k xs)) r;
  stops = h;
}

-- both parts in turn
pub leads_both : (xs : List Patch) (ys : List Placed) {s t u : LawfulMap} → InTurn PatchLeadsShallowly xs s t → InTurn PatchLeadsShallowly (patches ys) t u → InTurn PatchLeadsShallowly (patches (placed xs ++ ys)) s u
leads_both xs ys r q = rw (map-append (λ (x : Placed). x.1) (placed xs) ys, patches_placed 0 xs) (runs_on r q)

-- what is stopped in the first part, or in the second after the first, is stopped in both together
pub stops_first : (xs ys : List Placed) {s : LawfulMap} {x : Placed} → FitStops IsStopped s xs x → FitStops IsStopped s (xs ++ ys) x
stops_first xs ys {x = x} f =
    record { before = f.before; after = f.after ++ ys; tree = f.tree; at = ap (λ l. l ++ ys) f.at ∙ append_assoc f.before (x ∷ f.after) ys; leads = f.leads; stops = f.stops }

pub stops_second : (xs : List Patch) (ys : List Placed) {s t : LawfulMap} {x : Placed} → InTurn PatchLeadsShallowly xs s t → FitStops IsStopped t ys x → FitStops IsStopped s (placed xs ++ ys) x
stops_second xs ys {x = x} r f = record {
  before = placed xs ++ f.before;
  after = f.after;
  tree = f.tree;
  at = ap (λ l. placed xs ++ l) f.at ∙ sym (append_assoc (placed xs) f.before (x ∷ f.after));
  leads = leads_both xs f.before r f.leads;
  stops = f.stops;
}

pub stops_map : {Q R : Placed → Type 0} (stop : Stop) → ((x : Placed) → Q x → R x) → StopsAt stop Q → StopsAt stop R
stops_map (At k) f (x, e, q) = (x, e, f x q)
stops_map NoMemory f q = tt
