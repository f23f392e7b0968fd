use Rattle.std.proofs.Common.{arith, ◌∙◌}
use Rattle.dm_mirror.proofs.ListLemmas.{none_left}
use Rattle.dm_mirror.proofs.PostingLemmas.{sent_all}
use Rattle.dm_mirror.proofs.posting.finish.Goals as goal

pub returns : goal.returns
returns g c =
    let inv = c.loop-text.invariant in
    let end = c.close.ensures.end in
    let left = c.loop-text.left.items in (
      (end.0 ∙ inv.same.0, end.1 ∙ inv.same.1),
      sent_all _ _ _ _ left c.args.line.texts.value.items (none_left left (omega (arith, c.in_default.ensures.cases))) inv.same.1 inv.sent c.close.ensures.sent,
    )
