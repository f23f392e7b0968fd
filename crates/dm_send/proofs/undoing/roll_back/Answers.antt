use Rattle.std.proofs.Common.{◌≡◌, false}
use Rattle.std.proofs.lemmas.Result.{err_from_is_err_and}
use Rattle.dm_send.proofs.Undone.{refuses_undoing, rolls_back, undo_apart}
use Rattle.dm_send.proofs.undoing.roll_back.Goals as goal

pub without_doubles-bundle-requires : goal.without_doubles-bundle-requires
without_doubles-bundle-requires g c =
    let no : c.is_held.result ≡ false = c.if-is_held.false in
    let sent = c.in_ok-minimal.minimal.sent.items in
    let w = c.in_ok-minimal.ensures in
    let m = rw c.in_ok-new.ensures at w.3 in
    rw w.2
    (undo_apart c.args.repo.now.patches c.args.chosen.now c.args.name c.in_ok-undo.undo c.is_lawful.ensures (rw no at c.is_held.ensures) c.in_ok-undo.ensures.undoes
    w.0 sent w.1 m)

pub returns-in_err-undo-clause-fault : goal.returns-in_err-undo-clause-fault
returns-in_err-undo-clause-fault g c =
    let p = err_from_is_err_and c.from_residual.result c.from_residual.ensures.1 in
    rw (p.1, p.2) (c.in_err-undo.ensures.fault c.args.base)

pub returns-in_err-accepted-clause-fault : goal.returns-in_err-accepted-clause-fault
returns-in_err-accepted-clause-fault g c =
    let no : c.is_held.result ≡ false = c.if-is_held.false in
    let sent = c.in_ok-minimal.minimal.sent.items in
    let w = c.in_ok-minimal.ensures in
    let m = rw c.in_ok-new.ensures at w.3 in
    let refused = rw (c.without_doubles-bundle.ensures, w.2) at c.in_err-accepted.ensures.refusal in
    let p = err_from_is_err_and c.from_residual-in_err-accepted.result c.from_residual-in_err-accepted.ensures.1 in
    rw (p.1, p.2)
    (refuses_undoing c.args.repo.now.patches c.args.chosen.now c.args.name c.in_ok-undo.undo c.is_lawful.ensures (rw no at c.is_held.ensures) c.in_ok-undo.ensures.undoes
    w.0 sent w.1 m _ refused)

pub returns-clause-rolls_back : goal.returns-clause-rolls_back
returns-clause-rolls_back g c =
    let no : c.is_held.result ≡ false = c.if-is_held.false in
    let sent = c.in_ok-minimal.minimal.sent.items in
    let w = c.in_ok-minimal.ensures in
    let m = rw c.in_ok-new.ensures at w.3 in
    let accepted = rw (c.without_doubles-bundle.ensures, w.2) at c.in_ok-accepted.ensures.accepted in
    rw accepted.0
    (rolls_back c.args.repo.now.patches c.args.chosen.now c.args.name c.in_ok-undo.undo c.is_lawful.ensures (rw no at c.is_held.ensures) c.in_ok-undo.ensures.undoes
    w.0 sent w.1 m accepted.1)
