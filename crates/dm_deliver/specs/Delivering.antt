-- How texts that come one after the other are delivered.
use Rattle.std.specs.Prelude.{◌≡◌, ◌≢◌, ◌≤◌, ◌<◌, ◌^◌, ℕ, List, [], ◌∷◌, ◌++◌, length, take, drop}
use Rattle.std.specs.List.{concat}
use Rattle.std.specs.Io.KnownBytes.{Appends}
use Rattle.dm_named.specs.declared.limits.Kinds.{Kinds}
use Rattle.dm_repo.specs.declared.policy.Policy.{Policy}
use Rattle.dm_journal.specs.declared.device.DeviceError.TheVariants.{Failed}
use Rattle.dm_journal.specs.declared.fault.WriteError.TheVariants.{Device as WritingDevice, TooLong, Full}
use Rattle.dm_journal.specs.declared.fault.WriteError.{WriteError}
use Rattle.dm_journal.specs.Device.{LeavesOnly, Moment}
use Rattle.dm_journal.specs.Ready.{IsFailure}
use Rattle.dm_store.specs.declared.store.Store.{Store}
use Rattle.dm_store.specs.Kinds.{kinds_in}
use Rattle.dm_store.specs.Keeping.{KeepsRepo, Kept, kept_in}
use Rattle.dm_deliver.specs.declared.answers.Answer.{Answer as Reply}
use Rattle.dm_deliver.specs.declared.bundle_rule.BundleRule.{BundleRule}
use Rattle.dm_deliver.specs.declared.fault.AnswerError.{AnswerError}
use Rattle.dm_deliver.specs.declared.fault.AnswerError.TheVariants.{Store as OfStore}
use Rattle.dm_deliver.specs.declared.fault.DeliverError.{DeliverError}
use Rattle.dm_deliver.specs.declared.fault.DeliverError.TheVariants.{Source, Answer, Checkpoint}
use Rattle.dm_deliver.specs.Answering.{Answers, AnswersEach, IsOfStore, LeavesUnanswered, KeepsAnswered, Saying}
use Rattle.dm_deliver.specs.Outputs.{Output, PutsEach}

-- texts are answered under one policy and one rule, one after the other, each by the repository that the one before it left, and each line says its answer
abbrev pub SaysEach : Saying → Kinds → Kept → List (List ℕ) → Policy → BundleRule → List Reply → List (List ℕ) → Kept → Type 0
SaysEach Says kinds kept [] policy rule [] [] after = after ≡ kept
SaysEach Says kinds kept (text ∷ texts) policy rule (answer ∷ answers) (line ∷ lines) after =
    (next : Kept) × Answers kinds kept text policy rule answer next × Says next.patches text answer line × SaysEach Says kinds next texts policy rule answers lines after
SaysEach Says kinds kept texts policy rule answers lines after = ⊥

-- the file keeps the repository that the first of the texts leave, some of them or all, which have the first of the answers
pub record KeepsFirst (kinds : Kinds) (kept : Kept) (texts : List (List ℕ)) (policy : Policy) (rule : BundleRule) (answers : List Reply) (file : List ℕ) : Type 0 where
  pub first : List (List ℕ)
  pub others : List (List ℕ)
  pub made : List Reply
  pub to_make : List Reply
  pub after : Kept
  pub are_texts : texts ≡ first ++ others
  pub are_answers : answers ≡ made ++ to_make
  pub takes : AnswersEach kinds kept first policy rule made after
  pub keeps : KeepsRepo kinds file after

-- Behind the first so many lines: the store as it was when they were written, and what was written. Every crash since then left a file that keeps what
-- they say: the repository after their texts, or after more of the texts.
pub record KeepsBehind {D : Type 0} (moment : D → Moment) (left_since : D → ℕ → List ℕ → Type 0) (policy : Policy) (rule : BundleRule) (old new : Store D)
    (before now : Output) (texts : List (List ℕ)) (answers : List Reply) (lines : List (List ℕ)) (count : ℕ) : Type 0 where
  pub mid : Store D
  pub written : Output
  pub takes : AnswersEach (kinds_in old) (kept_in old) (take count texts) policy rule (take count answers) (kept_in mid)
  pub put : PutsEach before (take count lines) written
  pub rest : AnswersEach (kinds_in old) (kept_in mid) (drop count texts) policy rule (drop count answers) (kept_in new)
  pub to_put : PutsEach written (drop count lines) now
  pub any_moment : LeavesOnly moment left_since mid.journal.device new.journal.device
      (KeepsFirst (kinds_in old) (kept_in mid) (drop count texts) policy rule (drop count answers))

-- These texts came, each was answered by the repository that the one before it left, and a line that says so written, and flushed before the next
-- was begun. A crash at any moment of it left a file that keeps the repository after the first of them; behind each line, after its text at least.
pub record Delivers {D : Type 0} (moment : D → Moment) (left_since : D → ℕ → List ℕ → Type 0) (Says : Saying) (Gave : List (List ℕ) → Type 0) (policy : Policy)
    (rule : BundleRule) (old new : Store D) (before now : Output) : Type 0 where
  pub texts : List (List ℕ)
  pub answers : List Reply
  pub lines : List (List ℕ)
  pub came : Gave texts
  pub kinds : kinds_in new ≡ kinds_in old
  pub takes : AnswersEach (kinds_in old) (kept_in old) texts policy rule answers (kept_in new)
  pub says : SaysEach Says (kinds_in old) (kept_in old) texts policy rule answers lines (kept_in new)
  pub bytes : Appends before.contents now.contents (concat lines)
  pub flushed : PutsEach before lines now
  pub any_moment : LeavesOnly moment left_since old.journal.device new.journal.device (KeepsFirst (kinds_in old) (kept_in old) texts policy rule answers)
  pub behind : (count : ℕ) → count ≤ length texts → KeepsBehind moment left_since policy rule old new before now texts answers lines count

-- One text more came after those that were delivered, and isn't answered: what was done of it, and why, by the store as it was before it.
pub record DeliversButLast {D : Type 0} (seen : D → List ℕ) (moment : D → Moment) (left_since : D → ℕ → List ℕ → Type 0) (faults : D → ℕ) (Says : Saying) (Gave : List (List ℕ) → Type 0) (policy : Policy)
    (rule : BundleRule) (error : AnswerError) (old new : Store D) (before now : Output) : Type 0 where
  pub last : List ℕ
  pub mid : Store D
  pub written : Output
  pub delivered : Delivers moment left_since Says (λ texts. Gave (texts ++ last ∷ [])) policy rule old mid before written
  pub kinds : kinds_in new ≡ kinds_in mid
  pub unanswered : LeavesUnanswered Says error (kinds_in mid) (kept_in mid) last policy rule (kept_in new) written now
  pub any_moment : LeavesOnly moment left_since mid.journal.device new.journal.device (KeepsAnswered (kinds_in mid) (kept_in mid) last policy rule)
  pub failed : error ≡ OfStore (WritingDevice Failed) → faults mid.journal.device < faults new.journal.device
  pub not_too_long : error ≡ OfStore TooLong → ⊥
  pub full : error ≡ OfStore Full → 2 ^ 62 < length (seen mid.journal.device)

-- One text more came after those that were delivered, and isn't taken, since a checkpoint failed before it, which leaves the repository as it is: why, by
-- the store as it was before that.
pub record DeliversAllBut {D : Type 0} (moment : D → Moment) (left_since : D → ℕ → List ℕ → Type 0) (faults : D → ℕ) (Says : Saying) (Gave : List (List ℕ) → Type 0) (policy : Policy)
    (rule : BundleRule) (error : WriteError) (old new : Store D) (before now : Output) : Type 0 where
  pub last : List ℕ
  pub mid : Store D
  pub delivered : Delivers moment left_since Says (λ texts. Gave (texts ++ last ∷ [])) policy rule old mid before now
  pub same : new.repo ≡ mid.repo
  pub base : new.base ≡ mid.base
  pub kinds : kinds_in new ≡ kinds_in mid
  pub any_moment : LeavesOnly moment left_since mid.journal.device new.journal.device (λ file. KeepsRepo (kinds_in mid) file (kept_in mid))
  pub failed : IsFailure error → faults mid.journal.device < faults new.journal.device
  pub kind : (error ≢ TooLong) × (error ≢ Full)

-- what was delivered by an error: all texts that came, or all but the last
abbrev pub DeliversUntil : {E D : Type 0} → (D → List ℕ) → (D → Moment) → (D → ℕ → List ℕ → Type 0) → (D → ℕ) → Saying → (List (List ℕ) → Type 0) → Policy →
    BundleRule → DeliverError E → Store D → Store D → Output → Output → Type 0
DeliversUntil seen moment left_since faults Says Gave policy rule (Source why) old new before now = Delivers moment left_since Says Gave policy rule old new before now
DeliversUntil seen moment left_since faults Says Gave policy rule (Checkpoint why) old new before now = DeliversAllBut moment left_since faults Says Gave policy rule why old new before now
DeliversUntil seen moment left_since faults Says Gave policy rule (Answer why) old new before now = DeliversButLast seen moment left_since faults Says Gave policy rule why old new before now

-- the error is the store's own
abbrev pub EndsStore : {E : Type 0} → DeliverError E → Type 0
EndsStore (Source why) = ⊥
EndsStore (Checkpoint why) = Unit {0}
EndsStore (Answer why) = IsOfStore why

-- texts came, and the file keeps the repository that the first of them leave, some or all
abbrev pub KeepsSome : (List (List ℕ) → Type 0) → Kinds → Kept → Policy → BundleRule → List ℕ → Type 0
KeepsSome Gave kinds kept policy rule file = (texts : List (List ℕ)) × (answers : List Reply) × Gave texts × KeepsFirst kinds kept texts policy rule answers file
