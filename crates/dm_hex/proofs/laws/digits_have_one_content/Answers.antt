use Rattle.dm_hex.specs.Contents.{content}
use Rattle.std.specs.List.{concat}
use Rattle.dm_hex.proofs.ContentLemmas.{one_list}
use Rattle.dm_hex.proofs.DigitLemmas.{one_meaning}
use Rattle.dm_hex.proofs.laws.digits_have_one_content.Goals as goal

pub returns : goal.returns
returns c = λ digits one other h k. one_list one other h.0 k.0 (one_meaning (concat digits) (content one) (content other) h.1 k.1)
