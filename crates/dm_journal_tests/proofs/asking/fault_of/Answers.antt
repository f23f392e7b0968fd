use Rattle.std.proofs.Common.{rules, ◌≡◌, List, ℕ, ◌∙◌, subst}
use Rattle.dm_journal.specs.Faults.{HasFault}
use Rattle.dm_journal_tests.proofs.asking.fault_of.Goals as goal

pub returns-in-Err-File-default : goal.returns-in-Err-File-default
returns-in-Err-File-default c =
    let told = c.in-Err-File-default in
    let copied : c.in-Ok.bytes.items ≡ c.args.bytes.now = search rules in
    subst (λ (l : List ℕ). HasFault l told.fault) (c.new.ensures ∙ copied) (told.ensures.fault told.fault told.field-0-0-is)
