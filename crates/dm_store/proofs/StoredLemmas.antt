-- What a store keeps before a call, in it and after it.
use Rattle.std.proofs.Common.{◌≡◌, arith, inl, inr, ⊎_elim, ℕ, List, [], ◌∷◌, ◌++◌, refl, sym, subst}
use Rattle.std.proofs.lemmas.Fn.{FoldsTo-push}
use Rattle.dm_named.specs.declared.limits.Kinds.{Kinds}
use Rattle.dm_named.specs.Patches.{Patch}
use Rattle.dm_repo.specs.declared.policy.Policy.{Policy}
use Rattle.dm_scratch.specs.declared.verdict.Verdict.{Verdict}
use Rattle.dm_scratch.specs.declared.verdict.Verdict.TheVariants.{Taken, TakenSome, NothingNew, Malformed, Refused}
use Rattle.dm_scratch.specs.Taking.{TakesIn, bundle, malformed, no_memory}
use Rattle.dm_journal.specs.Device.{LeavesOnly, Moment}
use Rattle.dm_journal.specs.Journal.{StandsIn}
use Rattle.dm_journal.specs.declared.format.Format.{Format}
use Rattle.dm_journal.specs.Ready.{HasTexts, StandsWithOrWithout}
use Rattle.dm_journal.specs.declared.journal.Journal.{Journal}
use Rattle.dm_store.specs.Entries.{entry_of}
use Rattle.dm_store.specs.Kinds.{kinds_of}
use Rattle.dm_store.specs.Keeping.{HasTaken, TakesText, TakesEntry, FoldTo, KeepsRepo, KeepsWithOrWithout, Kept, CrashesKeep, empty, kept_as}

-- a text that isn't taken leaves the repository as it was
pub untaken_keeps : (kinds : Kinds) (repo : List Patch) (text : List ℕ) (policy : Policy) (v : Verdict) (after : List Patch) → (HasTaken v → ⊥) → TakesIn kinds repo text policy v after → after ≡ repo
untaken_keeps kinds repo text policy (Taken count) after n t = absurd (n tt)
untaken_keeps kinds repo text policy (TakenSome count skipped) after n t = absurd (n tt)
untaken_keeps kinds repo text policy NothingNew after n (bundle b r t) = t.1
untaken_keeps kinds repo text policy NothingNew after n (malformed f at e same) = same
untaken_keeps kinds repo text policy NothingNew after n (no_memory e same) = same
untaken_keeps kinds repo text policy (Malformed fault) after n (bundle b r t) = absurd t
untaken_keeps kinds repo text policy (Malformed fault) after n (malformed f at e same) = same
untaken_keeps kinds repo text policy (Malformed fault) after n (no_memory e same) = same
untaken_keeps kinds repo text policy (Refused why) after n (bundle b r t) = t.1
untaken_keeps kinds repo text policy (Refused why) after n (malformed f at e same) = same
untaken_keeps kinds repo text policy (Refused why) after n (no_memory e same) = same

-- the entry of a text that was taken
pub entry_taken : (kinds : Kinds) (base : ℕ) (repo : List Patch) (entry : List ℕ) (policy : Policy) (text : List ℕ) (v : Verdict) (after : List Patch) → entry ≡ entry_of policy text → HasTaken v → TakesIn kinds repo text policy v after →
    TakesText kinds (kept_as base repo) entry (kept_as base after)
entry_taken kinds base repo entry policy text v after is taken takes = record { policy = policy; text = text; verdict = v; is = is; taken = taken; takes = takes; same = refl }

pub fold_push : (kinds : Kinds) (entries : List (List ℕ)) (entry : List ℕ) (kept after : Kept) → FoldTo kinds entries kept → TakesText kinds kept entry after → FoldTo kinds (entries ++ entry ∷ []) after
fold_push kinds entries entry kept after folds t = FoldsTo-push (TakesEntry kinds) empty entries kept entry after folds (inl t)

-- a file of a format that stands for entries keeps what they fold to
pub kept_by : (format : Format) (entries : List (List ℕ)) (kept : Kept) (c : List ℕ) → StandsIn format c entries → FoldTo (kinds_of format) entries kept → KeepsRepo (kinds_of format) c kept
kept_by format entries kept c stands folds = record { format = format; entries = entries; is_for = refl; stands = stands; folds = folds }

-- with the entry or without it, the file keeps the repository after it or the one before it
pub leaves : (format : Format) (entries : List (List ℕ)) (entry : List ℕ) (kept after : Kept) (text : List ℕ) (policy : Policy) → entry ≡ entry_of policy text → FoldTo (kinds_of format) entries kept → TakesText (kinds_of format) kept entry after →
    (c : List ℕ) → StandsWithOrWithout format entries entry c → KeepsWithOrWithout (kinds_of format) kept text policy c
leaves format entries entry kept after text policy is folds t c (inl s) = inl (kept_by format entries kept c s folds)
leaves format entries entry kept after text policy is folds t c (inr s) =
    inr (after, subst (λ (e : List ℕ). TakesText (kinds_of format) kept e after) is t, kept_by format (entries ++ entry ∷ []) after c s (fold_push (kinds_of format) entries entry kept after folds t))

module _ {D : Type 0} (seen : D → List ℕ) (may_leave file_may_leave : D → List ℕ → Type 0) (journal : Journal D) (entries : List (List ℕ)) (kept : Kept) (has : HasTexts seen may_leave file_may_leave journal entries) (folds : FoldTo (kinds_of journal.end.format) entries kept) where
  pub keeps : KeepsRepo (kinds_of journal.end.format) (seen journal.device) kept
  keeps = kept_by journal.end.format entries kept (seen journal.device) (has.rest, has.begins) folds

  pub crashes_keep : CrashesKeep (kinds_of journal.end.format) may_leave journal.device kept
  crashes_keep c may = subst (λ (f : List ℕ). KeepsRepo (kinds_of journal.end.format) f kept) (sym (has.durable.only c may)) keeps

module _ {D : Type 0} (moment : D → Moment) (left_since : D → ℕ → List ℕ → Type 0) where
  -- no call of the device
  pub at_rest : (device : D) (P : List ℕ → Type 0) → ((c : List ℕ) → left_since device (moment device).time c → P c) → LeavesOnly moment left_since device device P
  at_rest device P only = record { later = record { same = refl; later = omega arith }; each = only; before = λ t c le left. inl left }

  -- what has P has Q
  pub weakened : (old new : D) (P Q : List ℕ → Type 0) → ((c : List ℕ) → P c → Q c) → LeavesOnly moment left_since old new P → LeavesOnly moment left_since old new Q
  weakened old new P Q to run = record {
    later = run.later;
    each = λ c left. to c (run.each c left);
    before = λ t c le left. ⊎_elim (λ had. inl had) (λ now. inr (to c now)) (run.before t c le left);
  }
