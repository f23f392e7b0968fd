-- What is told programs of a text that is checked, and of what is sent.
use Rattle.std.specs.Prelude.{◌≡◌, ◌⊎◌, ℕ, Bool, true, false, List, Option, None, Some, codes}
use Rattle.dm_named.specs.Laws.{with_kinds}
use Rattle.dm_named.specs.Limits.{standard}
use Rattle.dm_named.specs.Patches.{Patch}
use Rattle.dm_named.specs.declared.limits.Kinds.{Kinds}
use Rattle.dm_named.specs.declared.limits.Limits.{Limits}
use Rattle.dm_named.specs.declared.fault.ReadFault.{ReadFault}
use Rattle.dm_bundle.specs.Bundles.{Contents}
use Rattle.dm_bundle.specs.Faults.{FaultWithin}
use Rattle.dm_repo.specs.declared.refusal.Refusal.{Refusal}
use Rattle.dm_repo.specs.declared.refusal.Refusal.TheVariants.{NoMemory}
use Rattle.dm_scratch.specs.declared.verdict.Verdict.TheVariants.{Malformed, Refused}
use Rattle.dm_scratch.specs.Taking.{ReadsWithin}
use Rattle.dm_deliver.specs.declared.answers.Answer.TheVariants.{BeforeBase, Hash, Verdict}
use Rattle.dm_deliver.specs.declared.hash_rule.HashFault.{HashFault}
use Rattle.dm_deliver.specs.declared.hash_rule.HashRule.{HashRule}
use Rattle.dm_deliver.specs.Hashes.{HasHashFaultWithin, PassesRuleWithin}
use Rattle.dm_told.specs.Told.{IsMadeLine, IsSoundLine, TellsOwn, TellsText}
use Rattle.dm_commands.specs.Streams.{GivesWithin}

-- These bytes and this exit status: the line of the bundle that the text stands for, read within these limits; the line of the text's fault; or the line that
-- memory ran out.
pub data TellsWithin (limits : Limits) (text printed : List ℕ) (status : ℕ) : Type 0 where
  sound : (b : Contents) → ReadsWithin limits text b → IsSoundLine b printed → status ≡ 0 → TellsWithin limits text printed status
  malformed : (fault : ReadFault) → FaultWithin limits text fault.kind fault.at → TellsText text (Verdict (Malformed fault)) printed → status ≡ 1
      → TellsWithin limits text printed status
  no_memory : TellsText text (Verdict (Refused NoMemory)) printed → status ≡ 1 → TellsWithin limits text printed status

-- The same by a rule: nothing is refused of the text's hash, and these bytes and this exit status are those of the text; or they are the line of what is wrong with
-- its hash.
pub data TellsByRule (limits : Limits) (rule : HashRule) (text printed : List ℕ) (status : ℕ) : Type 0 where
  passes : PassesRuleWithin limits rule text → TellsWithin limits text printed status → TellsByRule limits rule text printed status
  refused : (fault : HashFault) → HasHashFaultWithin limits rule text fault → TellsText text (Hash fault) printed → status ≡ 1 → TellsByRule limits rule text printed status

-- so is the text that the reader gave
pub record TellsInputByRule (limits : Limits) (rule : HashRule) (before after : Option (List ℕ)) (out : List ℕ) (status : ℕ) : Type 0 where
  pub text : List ℕ
  pub gives : GivesWithin limits before after text
  pub tells : TellsByRule limits rule text out status

-- the text of a bundle, if it is to be shown
abbrev pub shown_if : Bool → List ℕ → Option (List ℕ)
shown_if true text = Some text
shown_if false text = None

-- the line of a bundle of these kinds that is sent, with its text if it is to be shown; or where the text stands for none, of its fault
abbrev pub TellsBundle : Kinds → List ℕ → Bool → List ℕ → Type 0
TellsBundle kinds text shows line =
    ((b : Contents) × ReadsWithin (with_kinds standard kinds) text b × IsMadeLine (codes "sent") b (shown_if shows text) line) ⊎
    ((fault : ReadFault) × FaultWithin (with_kinds standard kinds) text fault.kind fault.at × TellsText text (Verdict (Malformed fault)) line)

-- The line of what is sent from a repository: of so many new patches the bundle, whose text this is; else of why there is none, or that somebody hasn't the base.
abbrev pub TellsSent : Kinds → List Patch → Option ℕ → Option Refusal → List ℕ → Bool → List ℕ → Type 0
TellsSent kinds repo (Some new) why text shows line = TellsBundle kinds text shows line
TellsSent kinds repo None (Some why) text shows line = TellsOwn repo (Verdict (Refused why)) line
TellsSent kinds repo None None text shows line = TellsOwn repo BeforeBase line
