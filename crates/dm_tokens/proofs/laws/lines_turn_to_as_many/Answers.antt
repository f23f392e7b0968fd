use Rattle.std.proofs.lemmas.Slice.Zip.{AllZip-long}
use Rattle.dm_tokens.specs.Turning.{Turns}
use Rattle.dm_tokens.proofs.laws.lines_turn_to_as_many.Goals as goal

pub returns : goal.returns
returns c = λ set old new ls ls' h. AllZip-long (Turns set old new) ls ls' h
