use Rattle.std.proofs.Common.{sym, refl}
use Rattle.crossbeam_channel.specs.Claims.{view}
use Rattle.dm_mail.specs.Mails.{mail, mark}
use Rattle.dm_mail.proofs.EndLemmas.{accepted_closed, accepted_mark}
use Rattle.dm_mail.proofs.RuleLemmas.{closes}
use Rattle.dm_mail.proofs.ends.Outlet.close.Goals as goal

pub send_as-requires-clause-rule : goal.send_as-requires-clause-rule
send_as-requires-clause-rule g c =
    let o = c.args.self in
    (closes _ _ _ _ o.bound o.told o.is_poster o.unclosed (λ i. mail (sym o.named i) (sym o.counted i) mark), λ _ _ _ _. tt)

pub invariant_of-result-clause-marked : goal.invariant_of-result-clause-marked
invariant_of-result-clause-marked g c =
    let o = c.args.self in
    accepted_closed (view o.pass) _ (mail o.poster o.count mark) _ _ c.in-Ok.ensures.rule o.unclosed refl

pub invariant_of-result-clause-counted : goal.invariant_of-result-clause-counted
invariant_of-result-clause-counted g c =
    let o = c.args.self in
    accepted_mark (view o.pass) _ (mail o.poster o.count mark) _ c.in-Ok.ensures.rule refl o.unclosed o.counted
