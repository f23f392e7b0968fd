use Rattle.std.proofs.Common.{◌∙◌}
use Rattle.std.proofs.lemmas.Result.{err_from_is_err_and}
use Rattle.dm_repo.proofs.repo.Repo.append.Goals as goal

pub returns-in_err-part-clause-same : goal.returns-in_err-part-clause-same
returns-in_err-part-clause-same g c = let p = err_from_is_err_and c.from_residual-in_err-part.result c.from_residual-in_err-part.ensures.1 in rw p.1 c.make_room.ensures.same

pub put-requires-clause-room : goal.put-requires-clause-room
put-requires-clause-room g c =
    let count = c.len.ensures ∙ c.args.merged.now.patches.ok.0 in
    rw (c.in_ok-patches.ensures, c.deref.ensures.value, ← count) c.in_ok-make_room.ensures.room

pub returns-clause-patches : goal.returns-clause-patches
returns-clause-patches g c = rw (c.make_room.ensures.same, c.in_ok-patches.ensures, c.deref.ensures.value) at c.put.ensures.patches

pub returns-clause-count : goal.returns-clause-count
returns-clause-count g c = rw (c.in_ok-patches.ensures, c.deref.ensures.value) at c.put.ensures.count

pub returns-clause-same : goal.returns-clause-same
returns-clause-same g c = rw c.make_room.ensures.same at c.put.ensures.same

pub returns-in_err-names-clause-same : goal.returns-in_err-names-clause-same
returns-in_err-names-clause-same g c = let p = err_from_is_err_and c.from_residual-in_err-names.result c.from_residual-in_err-names.ensures.1 in rw p.1 c.make_room.ensures.same
