use Rattle.dm_explain.proofs.account.refused.Goals as goal

pub returns-in-MissingDependency : goal.returns-in-MissingDependency
returns-in-MissingDependency c = rw c.in-MissingDependency.is (c.lacking.ensures c.args.policy)

pub returns-in-ContextDepends : goal.returns-in-ContextDepends
returns-in-ContextDepends c = rw c.in-ContextDepends.is (c.context_depends.ensures c.args.bundle.now c.args.policy)

pub returns-in-HeldDepends : goal.returns-in-HeldDepends
returns-in-HeldDepends c = rw c.in-HeldDepends.is (c.held_depends.ensures c.args.repo.now.patches c.args.policy)

pub returns-in-DoesNotFit : goal.returns-in-DoesNotFit
returns-in-DoesNotFit c = rw c.in-DoesNotFit.is (c.does_not_fit.ensures c.args.policy)

pub returns-in-Conflicts : goal.returns-in-Conflicts
returns-in-Conflicts c = rw c.in-Conflicts.is (c.conflicts.ensures c.args.policy)
