use Rattle.std.proofs.Common.{List, ℕ, refl, subst}
use Rattle.dm_deliver.specs.Hashes.{PassesRuleWithin}
use Rattle.dm_commands.specs.Telling.{TellsByRule, passes, refused}
use Rattle.dm_commands.proofs.telling.tell_by_rule.Goals as goal

pub returns-in_ok-out-in-None : goal.returns-in_ok-out-in-None
returns-in_ok-out-in-None c =
    passes (subst (λ (t : List ℕ). PassesRuleWithin c.args.limits c.args.rule t) c.deref.ensures.value (rw c.in-None.is at c.in_ok-fault.ensures.none)) c.in_ok-out-in-None.ensures

pub returns-in_ok-line-in-Some : goal.returns-in_ok-line-in-Some
returns-in_ok-line-in-Some c =
    refused c.in-Some.fault (rw c.deref.ensures.value at (rw c.in-Some.is at c.in_ok-fault.ensures.some)) (rw c.deref-in-Some.ensures.value at c.in_ok-line-in-Some.ensures) refl
