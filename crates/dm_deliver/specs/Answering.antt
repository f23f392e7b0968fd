-- How one text is answered.
use Rattle.std.specs.Prelude.{◌≡◌, ◌⊎◌, ℕ, List, [], ◌∷◌, ◌++◌, codes}
use Rattle.std.specs.Fmt.{decimal}
use Rattle.dm_named.specs.Laws.{with_kinds}
use Rattle.dm_named.specs.Limits.{standard}
use Rattle.dm_named.specs.declared.limits.Kinds.{Kinds}
use Rattle.dm_named.specs.Patches.{Patch}
use Rattle.dm_bundle.specs.Bundles.{Contents}
use Rattle.dm_repo.specs.declared.policy.Policy.{Policy}
use Rattle.dm_begin.specs.Bases.{IsBeforeBase}
use Rattle.dm_scratch.specs.Taking.{ReadsWithin, TakesIn, IsAccepted}
use Rattle.dm_scratch.specs.Words.{verdict_text}
use Rattle.dm_scratch.specs.Printing.{line_of}
use Rattle.dm_store.specs.Keeping.{KeepsRepo, KeepsWithOrWithout, Kept}
use Rattle.dm_deliver.specs.declared.answers.Answer.{Answer}
use Rattle.dm_deliver.specs.declared.answers.Answer.TheVariants.{Verdict, Hash, Date, BeforeBase}
use Rattle.dm_deliver.specs.declared.fault.AnswerError.{AnswerError}
use Rattle.dm_deliver.specs.declared.fault.AnswerError.TheVariants.{Store, NoMemory, Write}
use Rattle.dm_deliver.specs.declared.bundle_rule.BundleRule.{BundleRule}
use Rattle.dm_deliver.specs.declared.hash_rule.HashFault.{HashFault}
use Rattle.dm_deliver.specs.Hashes.{hash_word, HasHashFaultWithin, PassesRuleWithin}
use Rattle.dm_deliver.specs.Dates.{HasDateFaultWithin, PassesDatesWithin}
use Rattle.dm_deliver.specs.Outputs.{Output, Puts, Breaks}

-- the text of an answer: that of its verdict, or of a bundle whose hash or date is refused, or that doesn't rest on the whole base
abbrev pub answer_text : Answer → List ℕ
answer_text (Verdict verdict) = verdict_text verdict
answer_text (Hash fault) = codes "malformed " ++ (hash_word fault.kind ++ 32 ∷ decimal fault.at)
answer_text (Date at) = codes "malformed bad-date " ++ decimal at
answer_text BeforeBase = codes "refused before-base"

-- the line of an answer
abbrev pub answer_line : Answer → List ℕ
answer_line answer = line_of (answer_text answer)

-- the repository has all of the bundle's patches then
abbrev pub IsAcceptedAnswer : Answer → Type 0
IsAcceptedAnswer (Verdict verdict) = IsAccepted verdict
IsAcceptedAnswer (Hash fault) = ⊥
IsAcceptedAnswer (Date at) = ⊥
IsAcceptedAnswer BeforeBase = ⊥

-- within the standard limits, with these kinds of primitives, the rule refuses the hash of the text
abbrev pub HasHashFaultIn : Kinds → BundleRule → List ℕ → HashFault → Type 0
HasHashFaultIn kinds rule text fault = HasHashFaultWithin (with_kinds standard kinds) rule.hash text fault

-- or it refuses no hash of the text
abbrev pub PassesRuleIn : Kinds → BundleRule → List ℕ → Type 0
PassesRuleIn kinds rule text = PassesRuleWithin (with_kinds standard kinds) rule.hash text

-- it refuses a date of the text, told here
abbrev pub HasDateFaultIn : Kinds → BundleRule → List ℕ → ℕ → Type 0
HasDateFaultIn kinds rule text at = HasDateFaultWithin (with_kinds standard kinds) rule.date text at

-- or it refuses no date of the text
abbrev pub PassesDatesIn : Kinds → BundleRule → List ℕ → Type 0
PassesDatesIn kinds rule text = PassesDatesWithin (with_kinds standard kinds) rule.date text

-- within the standard limits, with these kinds of primitives, the text is a bundle that comes before the base of the repository
abbrev pub IsTextBeforeBase : Kinds → Kept → List ℕ → Type 0
IsTextBeforeBase kinds kept text = (b : Contents) × ReadsWithin (with_kinds standard kinds) text b × IsBeforeBase kept.patches kept.base b

-- no rule refuses the text: neither its hash, nor a date, nor that it comes before the base
abbrev pub PassesRules : Kinds → Kept → BundleRule → List ℕ → Type 0
PassesRules kinds kept rule text = PassesRuleIn kinds rule text × PassesDatesIn kinds rule text × (IsTextBeforeBase kinds kept text → ⊥)

-- What answering a text does that may have primitives of these kinds: where the rule refuses its hash, the repository stays as it was; else where
-- it refuses a date, or the text comes before the base, too; else it is taken, with this verdict. The base stays.
abbrev pub Answers : Kinds → Kept → List ℕ → Policy → BundleRule → Answer → Kept → Type 0
Answers kinds kept text policy rule (Verdict verdict) after = PassesRules kinds kept rule text × TakesIn kinds kept.patches text policy verdict after.patches × (after.base ≡ kept.base)
Answers kinds kept text policy rule (Hash fault) after = HasHashFaultIn kinds rule text fault × (after ≡ kept)
Answers kinds kept text policy rule (Date at) after = PassesRuleIn kinds rule text × HasDateFaultIn kinds rule text at × (after ≡ kept)
Answers kinds kept text policy rule BeforeBase after = PassesRuleIn kinds rule text × PassesDatesIn kinds rule text × IsTextBeforeBase kinds kept text × (after ≡ kept)

-- texts are answered under one policy and one rule, one after the other, each by the repository that the one before it left
abbrev pub AnswersEach : Kinds → Kept → List (List ℕ) → Policy → BundleRule → List Answer → Kept → Type 0
AnswersEach kinds kept [] policy rule [] after = after ≡ kept
AnswersEach kinds kept (text ∷ texts) policy rule (answer ∷ answers) after =
    (next : Kept) × Answers kinds kept text policy rule answer next × AnswersEach kinds next texts policy rule answers after
AnswersEach kinds kept texts policy rule answers after = ⊥

-- this text was answered so, and left this repository
abbrev pub WasAnswered : Kinds → List ℕ → Answer → Kept → Type 0
WasAnswered kinds text answer after = (kept : Kept) × (policy : Policy) × (rule : BundleRule) × Answers kinds kept text policy rule answer after

-- When a line says an answer: of the patches that the answer left, the text, the answer, and the line.
abbrev pub Saying : Type 1
Saying = List Patch → List ℕ → Answer → List ℕ → Type 0

-- a line that says the answer was written, and then flushed
abbrev pub IsTold : Saying → List Patch → List ℕ → Answer → Output → Output → Type 0
IsTold Says left text answer before now = (line : List ℕ) × Says left text answer line × Puts before now line

-- a part of a line that says the answer was written, and then a call of the writer failed
abbrev pub IsBegun : Saying → List Patch → List ℕ → Answer → Output → Output → Type 0
IsBegun Says left text answer before now = (line : List ℕ) × Says left text answer line × Breaks before now line

-- a line wasn't written: memory ran out, and no call of the writer was made; or a part of it was, and then a call failed
abbrev pub BreaksOff : Saying → AnswerError → List Patch → List ℕ → Answer → Output → Output → Type 0
BreaksOff Says (Store why) left text answer before now = ⊥
BreaksOff Says NoMemory left text answer before now = now ≡ before
BreaksOff Says Write left text answer before now = IsBegun Says left text answer before now

-- the error is the store's own
abbrev pub IsOfStore : AnswerError → Type 0
IsOfStore (Store why) = Unit {0}
IsOfStore NoMemory = ⊥
IsOfStore Write = ⊥

-- the text has some answer, and a part of its line was written before a call of the writer failed
abbrev pub AnswersAndBegins : Saying → Kinds → Kept → List ℕ → Policy → BundleRule → Kept → Output → Output → Type 0
AnswersAndBegins Says kinds kept text policy rule after before now =
    (answer : Answer) × Answers kinds kept text policy rule answer after × IsBegun Says after.patches text answer before now

-- the text wasn't read, or it has some answer; and no call of the writer was made
abbrev pub AnswersInSilence : Kinds → Kept → List ℕ → Policy → BundleRule → Kept → Output → Output → Type 0
AnswersInSilence kinds kept text policy rule after before now =
    ((after ≡ kept) ⊎ ((answer : Answer) × Answers kinds kept text policy rule answer after)) × (now ≡ before)

-- what was done where a text has no answer: by an error of the store no call of the writer was made, nor where memory ran out, before the text was
-- taken or after; and by an error of the writer a part of its line was written, and a call of the writer failed
abbrev pub LeavesUnanswered : Saying → AnswerError → Kinds → Kept → List ℕ → Policy → BundleRule → Kept → Output → Output → Type 0
LeavesUnanswered Says (Store why) kinds kept text policy rule after before now = now ≡ before
LeavesUnanswered Says NoMemory kinds kept text policy rule after before now = AnswersInSilence kinds kept text policy rule after before now
LeavesUnanswered Says Write kinds kept text policy rule after before now = AnswersAndBegins Says kinds kept text policy rule after before now

-- the file keeps one of two repositories
abbrev pub KeepsEither : Kinds → Kept → Kept → List ℕ → Type 0
KeepsEither kinds old new file = KeepsRepo kinds file old ⊎ KeepsRepo kinds file new

-- the file keeps this repository, or, where no rule refuses the text, the one that the text leaves when it is taken into it
abbrev pub KeepsAnswered : Kinds → Kept → List ℕ → Policy → BundleRule → List ℕ → Type 0
KeepsAnswered kinds kept text policy rule file =
    KeepsRepo kinds file kept ⊎ (PassesRules kinds kept rule text × KeepsWithOrWithout kinds kept text policy file)
