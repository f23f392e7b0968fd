use Rattle.std.proofs.Common.{ℕ}
use Rattle.std.proofs.lemmas.Result.{err_from_is_err_and}
use Rattle.dm_folder.proofs.BuildLemmas.{file_put, only_memory}
use Rattle.dm_folder.proofs.building.add_file.Goals as goal

pub returns-clause-ok : goal.returns-clause-ok
returns-clause-ok c = file_put c.args.tree.now c.add_file.new.self c.edit.new.self c.args.path.now c.in_ok-empty.empty c.args.lines.now c.in_ok-add_file.ensures.ok c.in_ok-empty.ensures c.in_ok-edit.ensures.ok

pub returns-in_err-edit-clause-fault : goal.returns-in_err-edit-clause-fault
returns-in_err-edit-clause-fault c =
    let p = err_from_is_err_and c.from_residual-in_err-edit.result c.from_residual-in_err-edit.ensures.1 in
    let memory = only_memory ℕ c.args.tree.now c.add_file.new.self c.args.path.now c.in_ok-empty.empty c.args.lines.now c.in_err-edit.field-0.0 c.in_ok-add_file.ensures.ok c.in_ok-empty.ensures c.requires c.in_err-edit.ensures.fault in
    rw (p.1, p.2, memory) c.in_ok-add_file.ensures.fault
