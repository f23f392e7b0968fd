use Rattle.std.proofs.Common.{◌≡◌, drop, length, ap, ◌∙◌, ℕ, List, arith}
use Rattle.std.proofs.lemmas.Result.{err_from_is_err_and}
use Rattle.dm_prim.specs.Primitives.{Prim}
use Rattle.dm_prim.specs.Prims.{prim_of, prims_of}
use Rattle.dm_named.specs.Conflictors.{Original}
use Rattle.dm_named.specs.ConflictorFaults.{less, partners}
use Rattle.dm_named.proofs.PrimLemmas.{count_map}
use Rattle.dm_named.proofs.ConflictorParts.{undone_wrong, own_wrong, a_conflictor, within_limits}
use Rattle.dm_named.proofs.reading.conflictors.after_word.Goals as goal

pub returns-in_err-partners-clause-err : goal.returns-in_err-partners-clause-err
returns-in_err-partners-clause-err g c =
    let text = c.args.text.now in
    let p = err_from_is_err_and c.from_residual.result c.from_residual.ensures.1 in
    rw (p.1, p.2) (partners (drop c.args.at text) c.requires.word c.in_err-partners.ensures.err)

pub returns-in_err-undone-clause-err : goal.returns-in_err-undone-clause-err
returns-in_err-undone-clause-err g c =
    let text = c.args.text.now in
    let p = err_from_is_err_and c.from_residual-in_err-undone.result c.from_residual-in_err-undone.ensures.1 in
    let fault = c.in_err-undone.field-0.0 in
    let os : List Original = c.in_ok-partners.partners.items in
    rw (p.1, p.2) (undone_wrong c.args.limits c.in_ok-partners.left fault.kind (drop c.args.start text) (drop c.args.at text) (drop c.in_ok-partners.list text) (drop fault.at text) os c.requires.word c.in_ok-partners.ensures.ok c.in_ok-partners.ensures.few c.in_ok-partners.ensures.left c.in_err-undone.ensures.err)

pub returns-in_err-own-clause-err : goal.returns-in_err-own-clause-err
returns-in_err-own-clause-err g c =
    let text = c.args.text.now in
    let p = err_from_is_err_and c.from_residual-in_err-own.result c.from_residual-in_err-own.ensures.1 in
    let fault = c.in_err-own.field-0.0 in
    let left = c.in_ok-partners.left in
    let os : List Original = c.in_ok-partners.partners.items in
    let ps : List Prim = prims_of c.in_ok-undone.undone.items in
    let count : c.len.result ≡ length ps = omega (arith, count_map prim_of c.in_ok-undone.undone.items, c.in_ok-undone.undone.ok.0, c.len.ensures) in
    rw (p.1, p.2) (own_wrong c.args.limits left c.less-left.result fault.kind (drop c.args.start text) (drop c.args.at text) (drop c.in_ok-partners.list text) (drop c.in_ok-undone.last text) (drop fault.at text) os ps c.requires.word c.in_ok-partners.ensures.ok
    c.in_ok-undone.ensures.ok c.in_ok-partners.ensures.few c.in_ok-undone.ensures.few c.in_ok-partners.ensures.left (c.less-left.ensures ∙ ap (λ (n : ℕ). less left n) count) c.in_err-own.ensures.err)

pub returns-clause-ok : goal.returns-clause-ok
returns-clause-ok g c =
    let text = c.args.text.now in
    let left = c.in_ok-partners.left in
    let os : List Original = c.in_ok-partners.partners.items in
    let ps : List Prim = prims_of c.in_ok-undone.undone.items in
    let count : c.len.result ≡ length ps = omega (arith, count_map prim_of c.in_ok-undone.undone.items, c.in_ok-undone.undone.ok.0, c.len.ensures) in
    rw c.new.ensures (a_conflictor c.args.limits left c.less-left.result (drop c.args.start text) (drop c.args.at text) (drop c.in_ok-partners.list text) (drop c.in_ok-undone.last text) (drop c.in_ok-own.end text) os ps c.in_ok-own.own c.requires.word c.in_ok-partners.ensures.ok
    c.in_ok-undone.ensures.ok c.in_ok-partners.ensures.left (c.less-left.ensures ∙ ap (λ (n : ℕ). less left n) count) c.in_ok-own.ensures.ok)

pub returns-clause-few : goal.returns-clause-few
returns-clause-few g c =
    let left = c.in_ok-partners.left in
    let os : List Original = c.in_ok-partners.partners.items in
    let ps : List Prim = prims_of c.in_ok-undone.undone.items in
    let count : c.len.result ≡ length ps = omega (arith, count_map prim_of c.in_ok-undone.undone.items, c.in_ok-undone.undone.ok.0, c.len.ensures) in
    rw c.new.ensures (within_limits c.args.limits left c.less-left.result os ps c.in_ok-own.own c.in_ok-partners.ensures.few c.in_ok-undone.ensures.few c.in_ok-partners.ensures.left (c.less-left.ensures ∙ ap (λ (n : ℕ). less left n) count) c.in_ok-own.ensures.few)
