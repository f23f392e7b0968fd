-- What becomes of bundles that are taken into a mirror.
use Rattle.std.specs.Prelude.{◌≡◌, ◌⊎◌, ℕ, List, [], All, Option, Some, true, false, IfOk, IfSome}
use Rattle.dm_disk.specs.Events.{Event}
use Rattle.dm_disk.specs.States.{seen, may_leave, moment, left_since, opened_by, read_first, left_since_opening, IsFresh}
use Rattle.dm_journal.specs.Device.{LeavesOnly, Moment}
use Rattle.dm_words.specs.declared.request.Apply.{Apply}
use Rattle.dm_words.specs.declared.request.BaseWords.{BaseWords}
use Rattle.dm_files.specs.Bases.{BeginsAs}
use Rattle.dm_files.specs.Named.{CameAsNamed, CameAtMost, any_rule, darcs_rule, kinds_for, policy_for, rule_for}
use Rattle.dm_named.specs.declared.limits.Kinds.{Kinds}
use Rattle.dm_repo.specs.declared.policy.Policy.{Policy}
use Rattle.dm_journal.specs.declared.fault.WriteError.{WriteError}
use Rattle.dm_named.specs.Patches.{Patch}
use Rattle.dm_store.specs.Keeping.{CrashesKeep, IsOrKeeps, Kept, kept_as, kept_in}
use Rattle.dm_store.specs.Kinds.{kinds_in}
use Rattle.dm_store.specs.declared.store.Store.{Store}
use Rattle.dm_deliver.specs.declared.answers.Answer.{Answer}
use Rattle.dm_deliver.specs.declared.fault.AnswerError.{AnswerError}
use Rattle.dm_deliver.specs.declared.fault.AnswerError.TheVariants.{Store as OfStore}
use Rattle.dm_deliver.specs.declared.bundle_rule.BundleRule.{BundleRule}
use Rattle.dm_deliver.specs.Answering.{AnswersEach, IsAcceptedAnswer, IsOfStore, Saying}
use Rattle.dm_deliver.specs.Delivering.{Delivers, DeliversAllBut, DeliversButLast, KeepsSome}
use Rattle.dm_deliver.specs.Outputs.{Output}
use Rattle.dm_commands.specs.Mirrors.{HasMirrorFault, IsInTheWay, IsMirrorOf}
use Rattle.dm_commands.specs.declared.mirror.MirrorFault.TheVariants.{Bad}
use Rattle.dm_commands.specs.declared.mirror.MirrorFault.TheVariants.{Hidden as Hiding}
use Rattle.dm_commands.specs.declared.mirror.Unbegun.TheVariants.{IsThere}
use Rattle.dm_files.specs.declared.outcome.Outcome.{Outcome}
use Rattle.dm_files.specs.declared.word_fault.WordFault.{WordFault}
use Rattle.dm_files.specs.declared.word_fault.WordFault.TheVariants.{BadMirror, Hidden, MirrorIsThere, Unwritten, Failed, Unsynced}
use Rattle.dm_files.specs.declared.delivering.Stop.{Stop}
use Rattle.dm_files.specs.declared.delivering.Stop.TheVariants.{Mirror, Beside}

-- these texts came, which may have primitives of these kinds, and were answered in turn, each by the repository that the one before it left, and the exit status says whether all were accepted
pub record AnswersAll (Gave : List (List ℕ) → Type 0) (kinds : Kinds) (policy : Policy) (rule : BundleRule) (old new : Kept) (status : ℕ) : Type 0 where
  pub texts : List (List ℕ)
  pub answers : List Answer
  pub came : Gave texts
  pub takes : AnswersEach kinds old texts policy rule answers new
  pub exit : (All IsAcceptedAnswer answers × (status ≡ 0)) ⊎ ((All IsAcceptedAnswer answers → ⊥) × (status ≡ 1))

-- some of the texts that came, the first, were answered in turn, each by the repository that the one before it left
pub record AnswersSome (Gave : List (List ℕ) → Type 0) (kinds : Kinds) (policy : Policy) (rule : BundleRule) (old new : Kept) : Type 0 where
  pub texts : List (List ℕ)
  pub answers : List Answer
  pub came : Gave texts
  pub takes : AnswersEach kinds old texts policy rule answers new

-- the file kept this repository of these kinds, and hid nothing; or it was empty, and the repository is that of the base which the words name
abbrev pub HadMirror : (List ℕ → List ℕ → Type 0) → BaseWords → Kinds → Kept → List ℕ → Type 0
HadMirror had words kinds held file = IsMirrorOf kinds file held ⊎ ((file ≡ []) × (held.base ≡ 0) × BeginsAs had words kinds held.patches)

-- The store's file was opened by this name, and what it had then has Had; a crash at any moment since leaves it as it was, or it keeps what the store has.
pub record IsOpenedAs (name : List ℕ) (Had : List ℕ → Type 0) (store : Store (List Event)) : Type 0 where
  pub first : List Event
  pub fresh : IsFresh name first
  pub had : Had (seen first)
  pub any_moment : LeavesOnly moment left_since first store.journal.device (IsOrKeeps (kinds_in store) (seen first) (kept_in store))

-- This was done to a file that was opened by this name. What it had then has Had, and a crash at any moment since leaves it as it was, or with P.
pub record IsDoneTo (name : List ℕ) (Had P : List ℕ → Type 0) (file : List Event) : Type 0 where
  pub named : opened_by file ≡ name
  pub had : Had (read_first file)
  pub any_moment : (c : List ℕ) → left_since_opening file c → (c ≡ read_first file) ⊎ P c

-- each of the texts that are named was answered in turn, by the repository that the one before it left, and unless nothing was to be written the file, as it is left,
-- keeps the last of these repositories
pub record IsAnsweredAndKept (had : List ℕ → List ℕ → Type 0) (asked : Apply) (kinds : Kinds) (held : Kept) (file : Option (List Event)) (status : ℕ) : Type 0 where
  pub new : Kept
  pub answers : AnswersAll (CameAsNamed had asked) kinds (policy_for asked.skip) (rule_for asked.hash darcs_rule) held new status
  pub kept : asked.dry_run ≡ false → (closed : List Event) × (file ≡ Some closed) × CrashesKeep kinds may_leave closed new

-- What comes of `dm apply --mirror`, with this file: where there is an answer, all that is named was taken into what the file had, and it keeps what came of that.
-- Where the file comes back, also with an error, a crash at any moment leaves what it had, or the repository after the first of the texts, some or all. With `--dry-run` nothing is done to it.
pub record IsApplied (had : List ℕ → List ℕ → Type 0) (asked : Apply) (name : List ℕ) (outcome : Outcome) : Type 0 where
  pub kinds : Kinds
  pub held : Kept
  pub answered : IfOk outcome.answer (IsAnsweredAndKept had asked kinds held outcome.file)
  pub done : IfSome outcome.file (IsDoneTo name (HadMirror had asked.base kinds held) (KeepsSome (CameAtMost had asked) kinds held (policy_for asked.skip) (rule_for asked.hash darcs_rule)))
  pub untouched : asked.dry_run ≡ true → IfSome outcome.file (IsFresh name)

-- `dm apply` took all that is named into a repository in memory, which began with these patches
pub record IsAppliedTo (had : List ℕ → List ℕ → Type 0) (asked : Apply) (start : List Patch) (status : ℕ) : Type 0 where
  pub new : Kept
  pub answers : AnswersAll (CameAsNamed had asked) (kinds_for asked.all_kinds) (policy_for asked.skip) (rule_for asked.hash any_rule) (kept_as 0 start) new status

-- whichever texts came
abbrev pub AnyTexts : List (List ℕ) → Type 0
AnyTexts texts = Unit {0}

-- what stopped the taking left the mirror as its file has it
abbrev pub MayGoOn : Stop → Type 0
MayGoOn (Mirror why) = ⊥
MayGoOn (Beside why) = Unit {0}

-- What was delivered by the time that the taking stopped: where the mirror can go on, all texts that came, or all but the last, which has no answer; where
-- the mirror failed, all but the last.
pub record DeliversBy {D : Type 0} (seen : D → List ℕ) (moment : D → Moment) (left_since : D → ℕ → List ℕ → Type 0) (faults : D → ℕ) (Says : Saying) (Gave : List (List ℕ) → Type 0)
    (policy : Policy) (rule : BundleRule) (stop : Stop) (old new : Store D) (before now : Output) : Type 0 where
  pub mirror : (why : WriteError) → stop ≡ Mirror why →
      DeliversButLast seen moment left_since faults Says Gave policy rule (OfStore why) old new before now ⊎ DeliversAllBut moment left_since faults Says Gave policy rule why old new before now
  pub beside : MayGoOn stop → Delivers moment left_since Says Gave policy rule old new before now
      ⊎ ((error : AnswerError) × (IsOfStore error → ⊥) × DeliversButLast seen moment left_since faults Says Gave policy rule error old new before now)

-- a crash now leaves a file that keeps the repository which some texts left, or all, and these have the answers of P
abbrev pub LeavesAnswered : {D : Type 0} → Kinds → (D → List ℕ → Type 0) → D → (Kept → Type 0) → Type 0
LeavesAnswered kinds may_leave device P = (new : Kept) × P new × CrashesKeep kinds may_leave device new

-- the fault tells why the file isn't opened as a mirror, and nothing else
abbrev pub TellsUnkept : List ℕ → WordFault → Type 0
TellsUnkept file (BadMirror name fault) = HasMirrorFault file (Bad fault)
TellsUnkept file (Hidden name at) = HasMirrorFault file (Hiding at)
TellsUnkept file other = ⊥

-- the fault tells what is in a mirror's file, or that it can't be written, and nothing else
abbrev pub TellsOf : List ℕ → WordFault → Type 0
TellsOf file (BadMirror name fault) = HasMirrorFault file (Bad fault)
TellsOf file (Hidden name at) = HasMirrorFault file (Hiding at)
TellsOf file (MirrorIsThere name) = IsInTheWay file IsThere
TellsOf file (Unwritten name error) = Unit {0}
TellsOf file (Failed name error) = Unit {0}
TellsOf file (Unsynced name error) = Unit {0}
TellsOf file other = ⊥
