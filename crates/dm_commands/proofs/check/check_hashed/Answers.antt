use Rattle.std.proofs.Common.{List, ℕ, refl, subst}
use Rattle.dm_deliver.specs.declared.hash_rule.HashRule.TheVariants.{Right}
use Rattle.dm_deliver.specs.Hashes.{PassesRuleWithin}
use Rattle.dm_commands.specs.Checking.{ChecksHashWithin, passes, refused}
use Rattle.dm_commands.proofs.check.check_hashed.Goals as goal

pub returns-in_ok-line-in-Some : goal.returns-in_ok-line-in-Some
returns-in_ok-line-in-Some c =
    subst (λ (t : List ℕ). ChecksHashWithin c.args.limits c.args.output t c.in_ok-line-in-Some.line.items 1) c.deref.ensures.value
    (refused c.in-Some.fault (rw c.in-Some.is at c.in_ok-fault.ensures.some) c.in_ok-line-in-Some.ensures refl)

pub returns-in_ok-out-in-None : goal.returns-in_ok-out-in-None
returns-in_ok-out-in-None c =
    passes (subst (λ (t : List ℕ). PassesRuleWithin c.args.limits Right t) c.deref.ensures.value (rw c.in-None.is at c.in_ok-fault.ensures.none)) c.in_ok-out-in-None.ensures.checks
