use Rattle.std.proofs.Common.{refl, ◌∙◌, arith}
use Rattle.std.proofs.lemmas.Result.{err_from_is_err_and}
use Rattle.std.proofs.lemmas.List.{length-map}
use Rattle.dm_repo.proofs.DependencyLemmas.{first_lacking, all_have, have_more}
use Rattle.dm_repo.proofs.dependencies.first_missing.Goals as goal

pub have_none-requires : goal.have_none-requires
have_none-requires g c = rw c.deref.ensures.value (c.requires.held_is.length_is ∙ length-map c.args.bundle.now.patches (λ p. p.info))

pub returns-then-have_none : goal.returns-then-have_none
returns-then-have_none g c = c.if-have_none.ensures c.args.repo.now.patches (rw c.deref.ensures.value c.requires.held_is) refl

pub loop-n-init : goal.loop-n-init
loop-n-init g c = λ m l. absurd (omega (arith, l))

pub loop-n-preserved : goal.loop-n-preserved
loop-n-preserved g c = have_more c.args.repo.now.patches c.args.bundle.now c.loop-n.n (rw c.in-None.is at c.in_ok-missing_dependency.ensures) c.loop-n.invariant

pub returns-in-Some : goal.returns-in-Some
returns-in-Some g c = first_lacking c.args.repo.now.patches c.args.bundle.now c.loop-n.n c.in-Some.d c.loop-n.invariant (rw c.in-Some.is at c.in_ok-missing_dependency.ensures)

pub returns : goal.returns
returns g c = all_have c.args.repo.now.patches c.args.bundle.now c.loop-n.n (rw c.new_patches-new.ensures.value at c.loop-n-test.false) c.loop-n.invariant

pub returns-in_err-names : goal.returns-in_err-names
returns-in_err-names g c = let p = err_from_is_err_and c.from_residual.result c.from_residual.ensures.1 in rw p.1 tt

pub returns-in_err-missing_dependency : goal.returns-in_err-missing_dependency
returns-in_err-missing_dependency g c = let p = err_from_is_err_and c.from_residual-in_err-missing_dependency.result c.from_residual-in_err-missing_dependency.ensures.1 in rw p.1 tt
