use Rattle.std.proofs.lemmas.Bool.{false≢true}
use Rattle.dm_repo.specs.declared.refusal.Refusal.TheVariants.{DoesNotFit}
use Rattle.dm_explain.proofs.AccountLemmas.{excluded, other_misfit}
use Rattle.dm_explain.proofs.account.misfit_at.Goals as goal

pub returns-then-found-n : goal.returns-then-found-n
returns-then-found-n c = λ policy. other_misfit c.args.repo.now.patches c.args.bundle.now policy c.if-found-n.true ((rw c.in-Ok-Some.field-0-is at c.in-Ok-Some.ensures.refuses) policy)

pub returns-in-Ok-None : goal.returns-in-Ok-None
returns-in-Ok-None c = λ policy. (rw c.in-Ok-None.field-0-is at c.in-Ok-None.ensures.fits) policy c.args.n

pub returns-else-eq : goal.returns-else-eq
returns-else-eq c = λ policy.
    excluded c.args.repo.now.patches c.args.bundle.now policy c.in-Err.why (DoesNotFit c.args.n) (λ e. false≢true (rw e at c.if-eq.ensures)) (λ e. cc) (λ e. rw e at c.in-Err.ensures.before) (c.in-Err.ensures.refusal policy)
