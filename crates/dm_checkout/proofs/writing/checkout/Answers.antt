use Rattle.std.proofs.Common.{◌≡◌, map, sym, ap, ◌∙◌}
use Rattle.std.proofs.lemmas.Result.{err_from_is_err_and}
use Rattle.dm_checkout.specs.Repositories.{refused}
use Rattle.dm_checkout.specs.Made.{rows}
use Rattle.dm_checkout.specs.Faults.{IsAllowed, refused_in}
use Rattle.dm_checkout.proofs.MadeLemmas.{allowed, folder_fault, names_fault, paths_listed, utf8_fault, write_fault}
use Rattle.dm_checkout.proofs.writing.checkout.Goals as goal

pub returns-in_err-require_names-clause-fault : goal.returns-in_err-require_names-clause-fault
returns-in_err-require_names-clause-fault g c =
    let p = err_from_is_err_and c.from_residual-in_err-require_names.result c.from_residual-in_err-require_names.ensures.1 in
    let t = c.args.tree.now in
    let same : refused (map (λ row. row.path) c.deref.result.now) ≡ refused_in t = rw (c.deref.ensures.value, c.in_ok-rows.ensures) (ap refused (paths_listed _ (rows t))) in
    rw (p.1, p.2) (names_fault c.args.names c.args.folder.now t (g.D.Disk.made c.args.disk.now) c.in_err-require_names.field-0.0 (rw same at c.in_err-require_names.ensures.err))

pub returns-in_err-require_all_utf8-clause-fault : goal.returns-in_err-require_all_utf8-clause-fault
returns-in_err-require_all_utf8-clause-fault g c =
    let p = err_from_is_err_and c.from_residual-in_err-require_all_utf8.result c.from_residual-in_err-require_all_utf8.ensures.1 in
    let t = c.args.tree.now in
    let same : refused (map (λ row. row.path) c.deref.result.now) ≡ refused_in t = rw (c.deref.ensures.value, c.in_ok-rows.ensures) (ap refused (paths_listed _ (rows t))) in
    let may : IsAllowed c.args.names t = allowed c.args.names t (λ safe. sym same ∙ c.in_ok-require_names.ensures.ok safe) in
    rw (p.1, p.2) (utf8_fault c.args.names c.args.folder.now t (g.D.Disk.made c.args.disk.now) c.in_err-require_all_utf8.field-0.0 may c.in_err-require_all_utf8.ensures)

pub returns-in_err-take-clause-fault : goal.returns-in_err-take-clause-fault
returns-in_err-take-clause-fault g c =
    let p = err_from_is_err_and c.from_residual-in_err-take.result c.from_residual-in_err-take.ensures.1 in
    let t = c.args.tree.now in
    let same : refused (map (λ row. row.path) c.deref.result.now) ≡ refused_in t = rw (c.deref.ensures.value, c.in_ok-rows.ensures) (ap refused (paths_listed _ (rows t))) in
    let may : IsAllowed c.args.names t = allowed c.args.names t (λ safe. sym same ∙ c.in_ok-require_names.ensures.ok safe) in
    rw (p.1, p.2) (folder_fault c.args.names c.args.folder.now t (g.D.Disk.made c.args.disk.now) (g.D.Disk.made c.take.new.disk) c.in_err-take.field-0.0 may c.in_err-take.ensures.err c.in_err-take.ensures.fault)

pub returns-in_err-write_rows-clause-fault : goal.returns-in_err-write_rows-clause-fault
returns-in_err-write_rows-clause-fault g c =
    let p = err_from_is_err_and c.from_residual-in_err-write_rows.result c.from_residual-in_err-write_rows.ensures.1 in
    let t = c.args.tree.now in
    let same : refused (map (λ row. row.path) c.deref.result.now) ≡ refused_in t = rw (c.deref.ensures.value, c.in_ok-rows.ensures) (ap refused (paths_listed _ (rows t))) in
    let may : IsAllowed c.args.names t = allowed c.args.names t (λ safe. sym same ∙ c.in_ok-require_names.ensures.ok safe) in
    rw (p.1, p.2) (write_fault c.args.names c.args.folder.now t (g.D.Disk.made c.args.disk.now) (g.D.Disk.made c.take.new.disk) (g.D.Disk.made c.write_rows.new.disk) c.in_err-write_rows.field-0.0 may c.in_ok-take.ensures.ok c.in_err-write_rows.ensures.err c.in_err-write_rows.ensures.fault)

pub returns-clause-allowed : goal.returns-clause-allowed
returns-clause-allowed g c =
    let t = c.args.tree.now in
    let same : refused (map (λ row. row.path) c.deref.result.now) ≡ refused_in t = rw (c.deref.ensures.value, c.in_ok-rows.ensures) (ap refused (paths_listed _ (rows t))) in
    allowed c.args.names t (λ safe. sym same ∙ c.in_ok-require_names.ensures.ok safe)
