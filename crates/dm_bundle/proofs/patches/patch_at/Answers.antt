use Rattle.std.proofs.Common.{drop, refl, ◌<◌, length, arith}
use Rattle.std.proofs.lemmas.Result.{err_from_is_err_and}
use Rattle.dm_bundle.specs.Patches.{infos_of}
use Rattle.dm_bundle.specs.Faults.{doubled, in_patch}
use Rattle.dm_bundle.proofs.PatchesLemmas.{info_due, not_doubled, same_more, one_front}
use Rattle.dm_bundle.proofs.patches.patch_at.Goals as goal

pub returns-in_err-info-clause-err : goal.returns-in_err-info-clause-err
returns-in_err-info-clause-err g c =
    let text = c.args.text.now in
    let p = err_from_is_err_and c.from_residual.result c.from_residual.ensures.1 in
    let room : length c.args.patches.now < c.args.limits.patches = omega arith in
    rw (p.1, p.2) (info_due c.args.limits c.in_err-info.field-0.0.kind c.args.patches.now (drop c.args.here text) (drop c.in_err-info.field-0.0.at text) c.requires.begins room c.in_err-info.ensures.err)

pub returns-then-not-is_new-clause-err : goal.returns-then-not-is_new-clause-err
returns-then-not-is_new-clause-err g c =
    let text = c.args.text.now in
    let room : length c.args.patches.now < c.args.limits.patches = omega arith in
    let is_known = rw c.if-not-is_new.true at c.in-Ok.ensures.is_new in
    doubled refl refl room (record { info = c.in_ok-info.info; rest = drop c.in_ok-info.field-0-1 text; stands = c.in_ok-info.ensures.ok; is_known = (c.requires.known c.in_ok-info.info).0 is_known })

pub returns-in_err-patch-clause-err : goal.returns-in_err-patch-clause-err
returns-in_err-patch-clause-err g c =
    let text = c.args.text.now in
    let p = err_from_is_err_and c.from_residual-in_err-patch.result c.from_residual-in_err-patch.ensures.1 in
    let room : length c.args.patches.now < c.args.limits.patches = omega arith in
    let is_new = rw c.if-not-is_new.false at c.in-Ok.ensures.is_new in
    let none = not_doubled (infos_of c.args.patches.now) (drop c.args.here text) c.in_ok-info.info (drop c.in_ok-info.field-0-1 text) c.in_ok-info.ensures.ok (λ h. is_new ((c.requires.known c.in_ok-info.info).1 h)) in
    rw (p.1, p.2) (in_patch c.requires.begins room none c.in_err-patch.ensures.err)

pub returns-clause-is_new : goal.returns-clause-is_new
returns-clause-is_new g c =
    let text = c.args.text.now in
    let is_new = rw c.if-not-is_new.false at c.in-Ok.ensures.is_new in
    let same = one_front c.args.limits.kinds (drop c.args.here text) c.in_ok-info.info (drop c.in_ok-info.field-0-1 text) c.in_ok-patch.patch (drop c.in_ok-patch.next text) c.in_ok-info.ensures.ok c.in_ok-patch.ensures.ok in
    λ h. is_new ((c.requires.known c.in_ok-info.info).1 (rw same h))

pub returns-clause-noted : goal.returns-clause-noted
returns-clause-noted g c =
    let text = c.args.text.now in
    let same = one_front c.args.limits.kinds (drop c.args.here text) c.in_ok-info.info (drop c.in_ok-info.field-0-1 text) c.in_ok-patch.patch (drop c.in_ok-patch.next text) c.in_ok-info.ensures.ok c.in_ok-patch.ensures.ok in
    rw (← same) (same_more c.args.known.now c.insert.new.self (infos_of c.args.patches.now) c.in_ok-info.info c.requires.known c.in-Ok.ensures.noted)
