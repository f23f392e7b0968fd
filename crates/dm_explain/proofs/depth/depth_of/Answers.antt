use Rattle.std.proofs.lemmas.Bool.{false≢true}
use Rattle.dm_repo.specs.declared.refusal.Refusal.TheVariants.{Full}
use Rattle.dm_explain.proofs.AccountLemmas.{excluded, overflow_past}
use Rattle.dm_explain.proofs.PlaceLemmas.{overflow_named}
use Rattle.dm_explain.proofs.depth.depth_of.Goals as goal

pub unreachable-requires : goal.unreachable-requires
unreachable-requires c =
    let overflow = c.in-Ok-Some.overflow in
    overflow_named c.args.repo.now.patches c.args.bundle.now c.args.policy overflow (rw c.in-Ok-Some.field-0-is at c.in-Ok-Some.ensures.told) (rw c.in_default.is at c.name_of.ensures)

pub path_of-requires : goal.path_of-requires
path_of-requires c =
    let overflow = c.in-Ok-Some.overflow in
    rw c.misfit_in.ensures (overflow_past c.args.repo.now.patches c.args.bundle.now c.args.policy overflow (rw c.in-Ok-Some.field-0-is at c.in-Ok-Some.ensures.told))

pub returns-else-eq : goal.returns-else-eq
returns-else-eq c = λ full.
    absurd (excluded c.args.repo.now.patches c.args.bundle.now c.args.policy c.in-Err.why Full (λ e. false≢true (rw e at c.if-eq.ensures)) (λ e. cc) c.in-Err.ensures.before c.in-Err.ensures.refusal full)
