use Rattle.std.proofs.lemmas.Result.{err_from_is_err_and}
use Rattle.dm_send.proofs.Sent.{sends, untaken}
use Rattle.dm_send.proofs.sending.send.Goals as goal

pub returns-in_err-accepted-clause-refusal : goal.returns-in_err-accepted-clause-refusal
returns-in_err-accepted-clause-refusal g c =
    let d = c.in_ok-divided.ensures in
    let refused = rw (c.without_doubles-bundle.ensures, d.names) at c.in_err-accepted.ensures.refusal in
    let p = err_from_is_err_and c.from_residual-in_err-accepted.result c.from_residual-in_err-accepted.ensures.1 in
    rw (p.1, p.2) (untaken c.args.repo.now.patches c.args.theirs.now c.args.most c.in_ok-divided.divided.shared.patches c.in_ok-divided.divided.new.items d.divided _ refused)

pub returns-clause-sent : goal.returns-clause-sent
returns-clause-sent g c =
    let d = c.in_ok-divided.ensures in
    let doubles = rw d.names at d.no_doubles in
    let accepted = rw (c.without_doubles-bundle.ensures, d.names) at c.in_ok-accepted.ensures.accepted in
    rw accepted.0 (sends c.args.repo.now.patches c.args.theirs.now c.args.most c.in_ok-divided.divided.shared.patches c.in_ok-divided.divided.new.items d.divided doubles accepted.1)
