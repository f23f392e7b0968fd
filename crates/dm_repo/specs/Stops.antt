-- Where rows of squares end early.
use Rattle.std.specs.Prelude.{◌≡◌, ◌<◌, ℕ, Bool, true, List, slice_get, Some}
use Rattle.dm_repo.specs.Squares.{Placed}
use Rattle.dm_repo.specs.declared.refusal.Refusal.{Refusal}
use Rattle.dm_repo.specs.declared.refusal.Refusal.TheVariants as refusals
use Rattle.dm_repo.specs.declared.stop.Stop.{Stop}
use Rattle.dm_repo.specs.declared.stop.Stop.TheVariants.{At, NoMemory}
use Rattle.dm_repo.specs.declared.stop.Blocked.{Blocked}
use Rattle.dm_repo.specs.declared.stop.Blocked.TheVariants as blocks

-- Q holds of two patches, and these are their places
abbrev pub AtPlaces : (Placed → Placed → Type 0) → ℕ → ℕ → Type 0
AtPlaces Q j k = (x : Placed) × (y : Placed) × (j ≡ x.0) × (k ≡ y.0) × Q x y

-- Q holds of the patch that stops a row
abbrev pub StopsAt : Stop → (Placed → Type 0) → Type 0
StopsAt (At k) Q = (r : Placed) × (k ≡ r.0) × Q r
StopsAt NoMemory Q = Unit {0}

-- Q holds of the places of the patch that is stopped and of the one that stops it
abbrev pub BlockedBy : Blocked → (ℕ → ℕ → Type 0) → Type 0
BlockedBy (blocks.By j k) Q = Q j k
BlockedBy blocks.NoMemory Q = Unit {0}

-- the row of the patch at this place is stopped
abbrev pub blocked_at : ℕ → Stop → Blocked
blocked_at j (At k) = blocks.By j k
blocked_at j NoMemory = blocks.NoMemory

-- the refusal that a stop becomes
abbrev pub refusal_of : (ℕ → Refusal) → Stop → Refusal
refusal_of why (At k) = why k
refusal_of why NoMemory = refusals.NoMemory

-- the refusal that a block becomes
abbrev pub refusal_between : (ℕ → ℕ → Refusal) → Blocked → Refusal
refusal_between why (blocks.By j k) = why j k
refusal_between why blocks.NoMemory = refusals.NoMemory

-- the mark at the patch's place is set
abbrev pub IsMarked : List Bool → Placed → Type 0
IsMarked marks x = slice_get marks x.0 ≡ Some true

-- the marks at the first n places are set
abbrev pub AreMarkedUpTo : List Bool → ℕ → Type 0
AreMarkedUpTo marks n = (k : ℕ) → k < n → slice_get marks k ≡ Some true
