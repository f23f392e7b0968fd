use Rattle.std.proofs.Common.{◌∙◌}
use Rattle.std.proofs.lemmas.Result.{err_from_is_err_and}
use Rattle.dm_send.proofs.Left.{obliterates, refuses_bundle, refuses_stay, sent_apart, stay_alone}
use Rattle.dm_send.proofs.obliterating.obliterate.Goals as goal

pub repo_of-requires : goal.repo_of-requires
repo_of-requires g c =
    let p = c.in_ok-parting.parting in
    rw c.in_ok-list.ensures (stay_alone c.args.repo.now.patches c.args.chosen.now p.stay.items p.go.items p.bound.items c.is_lawful.ensures.distinct c.in_ok-parting.ensures)

pub returns-in-Err-clause-refusal : goal.returns-in-Err-clause-refusal
returns-in-Err-clause-refusal g c =
    let p = c.in_ok-parting.parting in
    refuses_stay c.args.repo.now.patches c.args.chosen.now p.stay.items p.go.items p.bound.items c.is_lawful.ensures.distinct c.in_ok-parting.ensures
    c.in-Err.why c.refused_there.result c.refused_there.ensures.memory c.refused_there.ensures.full (rw c.in_ok-list.ensures at c.in-Err.ensures) c.args.base

pub without_doubles-requires : goal.without_doubles-requires
without_doubles-requires g c =
    let p = c.in_ok-parting.parting in
    let stays = c.in-Ok.ensures ∙ c.in_ok-list.ensures in
    let sent = c.in_ok-minimal.minimal.sent.items in
    let w = c.in_ok-minimal.ensures in
    let m = rw (stays, c.in_ok-gone.ensures) at w.3 in
    rw w.2
    (sent_apart c.args.repo.now.patches c.args.chosen.now p.stay.items p.go.items p.bound.items c.is_lawful.ensures.distinct c.in_ok-parting.ensures
    w.0 sent w.1 m (rw stays at c.is_lawful-2.ensures))

pub returns-in_err-bundle-clause-refusal : goal.returns-in_err-bundle-clause-refusal
returns-in_err-bundle-clause-refusal g c =
    let p = c.in_ok-parting.parting in
    let stays = c.in-Ok.ensures ∙ c.in_ok-list.ensures in
    let sent = c.in_ok-minimal.minimal.sent.items in
    let w = c.in_ok-minimal.ensures in
    let m = rw (stays, c.in_ok-gone.ensures) at w.3 in
    let refused = rw (c.without_doubles.ensures, w.2, stays) at c.in_err-bundle.ensures.refusal in
    let e = err_from_is_err_and c.from_residual-in_err-bundle.result c.from_residual-in_err-bundle.ensures.1 in
    rw (e.1, e.2) (refuses_bundle c.args.repo.now.patches c.args.chosen.now p.stay.items p.go.items p.bound.items c.is_lawful.ensures.distinct c.in_ok-parting.ensures
    w.0 sent w.1 m _ refused)

pub returns-clause-obliterates : goal.returns-clause-obliterates
returns-clause-obliterates g c =
    let p = c.in_ok-parting.parting in
    let stays = c.in-Ok.ensures ∙ c.in_ok-list.ensures in
    let sent = c.in_ok-minimal.minimal.sent.items in
    let w = c.in_ok-minimal.ensures in
    let m = rw (stays, c.in_ok-gone.ensures) at w.3 in
    let accepted = rw (c.without_doubles.ensures, w.2, stays) at c.in_ok-bundle.ensures.accepted in
    rw (accepted.0, stays)
    (obliterates c.args.repo.now.patches c.args.chosen.now p.stay.items p.go.items p.bound.items c.is_lawful.ensures.distinct c.in_ok-parting.ensures
    w.0 sent w.1 m (rw stays at c.is_lawful-2.ensures) accepted.1)
