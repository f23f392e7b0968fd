use Rattle.dm_hex.proofs.DigitLemmas.{hex_bytes}
use Rattle.dm_hex.proofs.laws.digits_stand_for_bytes.Goals as goal

pub returns : goal.returns
returns c = hex_bytes
