-- A set as it is read. For the clauses of private functions alone.
use Rattle.std.specs.Prelude.{◌≡◌, ◌<◌, ℕ, Bool, false, not, cond, List, length, slice_index_or}
use Rattle.dm_tokens.specs.Sets.{Range, is_in}

-- a table of all bytes has those of the ranges; turned round, all others
pub record IsTableOf (round : Bool) (table : List Bool) (rs : List Range) : Type 0 where
  pub size : length table ≡ 256
  pub each : (b : ℕ) → b < 256 → slice_index_or table b false ≡ cond round (not (is_in rs b)) (is_in rs b)
