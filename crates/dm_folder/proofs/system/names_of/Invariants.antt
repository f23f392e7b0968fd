use Rattle.std.proofs.Common.{◌≡◌, filter, map, take}
use Rattle.dm_folder.specs.Listed.{is_listed}
use Rattle.dm_folder.proofs.system.names_of.Given as goal

abbrev pub invariant-loop-piece : goal.invariant-loop-piece
invariant-loop-piece l = map (λ name. name.items) l.names.items ≡ filter is_listed (map (λ piece. piece.now) (take l.piece-index l.piece-items))
