-- Steps in turn, each from where the one before it led to.
use Rattle.std.specs.Prelude.{List, [], ◌∷◌}

-- all of ps in turn lead from s to z
pub data InTurn {P S : Type 0} (Step : P → S → S → Type 0) : List P → S → S → Type 0 where
  done : {s : S} → InTurn Step [] s s
  step : {p : P} {ps : List P} {s u z : S} → Step p s u → InTurn Step ps u z → InTurn Step (p ∷ ps) s z
