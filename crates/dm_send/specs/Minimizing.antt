-- What new patches need of those before them (`darcs send --minimize`). `Square x y y' x'` says that x then y are y' then x'.
use Rattle.std.specs.Prelude.{◌≡◌, ℕ, List, [], ◌∷◌, ◌++◌, take, drop}
use Rattle.dm_prim.specs.Rectangles.{CellRow}

-- x passes what is needed, and then what is sent: so it stands behind both
pub record Yields {P : Type 0} (Square : P → P → P → P → Type 0) (x : P) (needed sent needed' sent' : List P) (x' : P) : Type 0 where
  pub between : P
  pub past_needed : CellRow Square x needed needed' between
  pub past_sent : CellRow Square between sent sent' x'

-- it can't
abbrev pub IsNeeded : {P : Type 0} → (P → P → P → P → Type 0) → P → List P → List P → Type 0
IsNeeded {P} Square x needed sent = (needed' sent' : List P) (x' : P) → Yields Square x needed sent needed' sent' x' → ⊥

-- `Minimizes Square shared new needed sent gone`: shared then new are needed, then sent, then gone. Of the shared ones, the last first, each is needed
-- that can't pass those needed behind it and the new ones; any other goes
pub data Minimizes {P : Type 0} (Square : P → P → P → P → Type 0) : List P → List P → List P → List P → List P → Type 0 where
  nothing : {new : List P} → Minimizes Square [] new [] new []
  stays : {x : P} {xs new needed sent gone : List P} → Minimizes Square xs new needed sent gone → IsNeeded Square x needed sent →
      Minimizes Square (x ∷ xs) new (x ∷ needed) sent gone
  goes : {x x' : P} {xs new needed needed' sent sent' gone : List P} → Minimizes Square xs new needed sent gone →
      Yields Square x needed sent needed' sent' x' → Minimizes Square (x ∷ xs) new needed' sent' (x' ∷ gone)

-- `MinimizesBehind Square base shared new kept sent gone`: the first `base` of the shared ones are kept, whatever they could pass, and then those of the
-- others that are needed
pub record MinimizesBehind {P : Type 0} (Square : P → P → P → P → Type 0) (base : ℕ) (shared new kept sent gone : List P) : Type 0 where
  pub needed : List P
  pub minimizes : Minimizes Square (drop base shared) new needed sent gone
  pub is_kept : kept ≡ take base shared ++ needed
