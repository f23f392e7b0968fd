use Rattle.std.proofs.Common.{◌≡◌, ℕ, List, take, map}
use Rattle.std.specs.BTreeSet.{contains_text}
use Rattle.dm_checkout.specs.Repositories.{has_inside}
use Rattle.dm_checkout.proofs.repositories.folders_with.Given as goal

abbrev pub invariant-loop-row : goal.invariant-loop-row
invariant-loop-row g l = (folder : List ℕ) → contains_text l.folders folder ≡ has_inside l.word (map (λ row. row.path) (take l.row-index l.rows)) folder
