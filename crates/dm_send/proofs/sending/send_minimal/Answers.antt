use Rattle.std.proofs.lemmas.Result.{err_from_is_err_and}
use Rattle.dm_send.proofs.Minimal.{sent_apart}
use Rattle.dm_send.proofs.Sent.{apart, sends_minimal, untaken_minimal}
use Rattle.dm_send.proofs.sending.send_minimal.Goals as goal

pub without_doubles-bundle-requires : goal.without_doubles-bundle-requires
without_doubles-bundle-requires g c =
    let d = c.in_ok-divided.ensures in
    let shared = c.in_ok-divided.divided.shared.patches in
    let new = c.in_ok-divided.divided.new.items in
    let sent = c.in_ok-minimal.minimal.sent.items in
    let w = c.in_ok-minimal.ensures in
    let doubles = rw d.names at d.no_doubles in
    rw w.2
    (sent_apart shared new d.divided.is_repo (apart c.args.repo.now.patches c.args.theirs.now c.args.most shared new d.divided doubles) w.0 sent w.1 w.3 doubles)

pub returns-in_err-accepted-clause-refusal : goal.returns-in_err-accepted-clause-refusal
returns-in_err-accepted-clause-refusal g c =
    let d = c.in_ok-divided.ensures in
    let sent = c.in_ok-minimal.minimal.sent.items in
    let w = c.in_ok-minimal.ensures in
    let refused = rw (c.without_doubles-bundle.ensures, w.2) at c.in_err-accepted.ensures.refusal in
    let p = err_from_is_err_and c.from_residual-in_err-accepted.result c.from_residual-in_err-accepted.ensures.1 in
    rw (p.1, p.2) (untaken_minimal c.args.repo.now.patches c.args.theirs.now c.args.most c.in_ok-divided.divided.shared.patches c.in_ok-divided.divided.new.items w.0 sent w.1 d.divided w.3 _ refused)

pub returns-clause-sent : goal.returns-clause-sent
returns-clause-sent g c =
    let d = c.in_ok-divided.ensures in
    let shared = c.in_ok-divided.divided.shared.patches in
    let new = c.in_ok-divided.divided.new.items in
    let sent = c.in_ok-minimal.minimal.sent.items in
    let w = c.in_ok-minimal.ensures in
    let doubles = rw d.names at d.no_doubles in
    let accepted = rw (c.without_doubles-bundle.ensures, w.2) at c.in_ok-accepted.ensures.accepted in
    rw accepted.0 (sends_minimal c.args.repo.now.patches c.args.theirs.now c.args.most shared new d.divided doubles w.0 sent w.1 w.3 accepted.1)
