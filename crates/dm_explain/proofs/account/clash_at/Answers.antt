use Rattle.std.proofs.Common.{sym}
use Rattle.std.proofs.lemmas.Bool.{false≢true}
use Rattle.dm_repo.specs.declared.refusal.Refusal.TheVariants.{Conflicts}
use Rattle.dm_explain.proofs.AccountLemmas.{excluded}
use Rattle.dm_explain.proofs.account.clash_at.Goals as goal

pub returns-then-clash-n : goal.returns-then-clash-n
returns-then-clash-n c = λ policy refused. c.if-clash-n.true (sym ((rw c.in-Ok-Some.field-0-is at c.in-Ok-Some.ensures.only) policy c.args.n c.args.h refused).0)

pub returns-then-clash-h : goal.returns-then-clash-h
returns-then-clash-h c = λ policy refused. c.if-clash-h.true (sym ((rw c.in-Ok-Some.field-0-is at c.in-Ok-Some.ensures.only) policy c.args.n c.args.h refused).1)

pub returns-in-Ok-None : goal.returns-in-Ok-None
returns-in-Ok-None c = λ policy. (rw c.in-Ok-None.field-0-is at c.in-Ok-None.ensures.merges) policy c.args.n c.args.h

pub returns-else-eq : goal.returns-else-eq
returns-else-eq c = λ policy.
    excluded c.args.repo.now.patches c.args.bundle.now policy c.in-Err.why (Conflicts c.args.n c.args.h) (λ e. false≢true (rw e at c.if-eq.ensures)) (λ e. cc) (λ e. rw e at c.in-Err.ensures.before) (c.in-Err.ensures.refusal policy)
