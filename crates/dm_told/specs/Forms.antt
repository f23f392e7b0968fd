-- In which form an answer is told.
use Rattle.std.specs.Prelude.{◌≡◌, ◌⊎◌, ℕ, List}
use Rattle.dm_named.specs.declared.limits.Limits.{Limits}
use Rattle.dm_named.specs.declared.fault.ReadFault.{ReadFault}
use Rattle.dm_named.specs.Patches.{Patch}
use Rattle.dm_bundle.specs.Bundles.{Contents}
use Rattle.dm_bundle.specs.Faults.{FaultWithin}
use Rattle.dm_scratch.specs.Taking.{ReadsWithin}
use Rattle.dm_deliver.specs.Answering.{answer_line}
use Rattle.dm_deliver.specs.declared.answers.Answer.{Answer}
use Rattle.dm_told.specs.declared.form.AnswerForm.{AnswerForm}
use Rattle.dm_told.specs.declared.form.AnswerForm.TheVariants.{Plain, Json}
use Rattle.dm_told.specs.Told.{TellsLine, TellsText}

-- the line of JSON of an answer to a text that is read within these limits: with the bundle that the text stands for, or where it stands for none
abbrev pub TellsAnswer : Limits → List Patch → List ℕ → Answer → List ℕ → Type 0
TellsAnswer limits left text answer line =
    ((b : Contents) × ReadsWithin limits text b × TellsLine left b text answer line) ⊎
    ((fault : ReadFault) × FaultWithin limits text fault.kind fault.at × TellsText text answer line)

-- the line of an answer, in this form
abbrev pub says : AnswerForm → List Patch → List ℕ → Answer → List ℕ → Type 0
says Plain left text answer line = line ≡ answer_line answer
says (Json limits) left text answer line = TellsAnswer limits left text answer line
