use Rattle.std.proofs.Common.{arith, sym, refl, ◌≡◌, length}
use Rattle.crossbeam_channel.specs.Claims.{view}
use Rattle.dm_mail.specs.Mails.{mail, bundle}
use Rattle.dm_mail.proofs.EndLemmas.{accepted_closed}
use Rattle.dm_mail.proofs.RuleLemmas.{posts}
use Rattle.dm_mail.proofs.ends.Outlet.send.Goals as goal

pub send_as-requires-clause-rule : goal.send_as-requires-clause-rule
send_as-requires-clause-rule g c =
    let o = c.args.self.now in
    let counted : length (view o.pass).sent ≡ o.count = o.counted in
    (posts _ _ _ c.args.text _ o.bound o.told o.is_poster o.unclosed (omega arith) (λ i. mail (sym o.named i) (sym o.counted i) (bundle c.args.text)), λ _ _ _ _. tt)

pub invariant_of-self-clause-unclosed : goal.invariant_of-self-clause-unclosed
invariant_of-self-clause-unclosed g c =
    let o = c.args.self.now in
    accepted_closed (view o.pass) _ (mail o.poster o.count (bundle c.args.text)) _ _ c.in-Ok.ensures.rule o.unclosed refl
