-- Lines as one run of bytes, with the place where each line ends. For the clauses of private functions and the fields of private types alone.
use Rattle.std.specs.Prelude.{◌≡◌, ℕ, ◌+◌, ◌-◌, List, [], ◌∷◌, take, drop, length}
use Rattle.std.specs.List.{concat}
use Rattle.dm_tree.specs.Trees.{Lines}

-- where each of the lines ends, the first of which begins at n
abbrev pub ends_from : ℕ → Lines → List ℕ
ends_from n [] = []
ends_from n (l ∷ ls) = (n + length l) ∷ ends_from (n + length l) ls

-- the lines with these ends, of a run of bytes that begins at n
abbrev pub cut : ℕ → List ℕ → List ℕ → Lines
cut n [] run = []
cut n (e ∷ es) run = take (e - n) run ∷ cut e es (drop (e - n) run)

-- the run is the lines one after another, and the ends are theirs
pub record LaidOut (run ends : List ℕ) (ls : Lines) : Type 0 where
  pub whole : run ≡ concat ls
  pub placed : ends ≡ ends_from 0 ls

-- the run is the lines one after another, and the ends are theirs, the first of which begins at n
pub record LaidOutFrom (n : ℕ) (run ends : List ℕ) (ls : Lines) : Type 0 where
  pub whole : run ≡ concat ls
  pub placed : ends ≡ ends_from n ls

-- where the line at place i begins
abbrev pub begin_of : Lines → ℕ → ℕ
begin_of ls i = length (concat (take i ls))
