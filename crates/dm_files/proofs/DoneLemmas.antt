-- What was done to a mirror's file since it was opened.
use Rattle.std.proofs.Common.{◌≡◌, ◌⊎◌, inl, inr, ⊎_elim, ℕ, List, [], Option, Some, None, Result, Ok, Err, IfOk, IfSome, true, false, not, length, refl, sym, subst, ap, ◌∙◌, true≢false}
use Rattle.dm_named.specs.declared.limits.Kinds.{Kinds}
use Rattle.dm_named.specs.declared.limits.Kinds.TheVariants.{Six}
use Rattle.dm_named.specs.Patches.{Patch}
use Rattle.dm_repo.specs.declared.policy.Policy.{Policy}
use Rattle.dm_journal.specs.Device.{LeavesOnly, Origin}
use Rattle.dm_journal.specs.Ready.{IsUntouched}
use Rattle.dm_disk.specs.Events.{Event}
use Rattle.dm_disk.specs.States.{seen, may_leave, file_may_leave, moment, left_since, left_only_now, opened_by, read_first, IsFresh}
use Rattle.dm_store.specs.declared.store.Store.{Store}
use Rattle.dm_store.specs.Keeping.{CrashesKeep, IsOrKeeps, IsStored, KeepsRepo, Kept, empty, kept_as, kept_in}
use Rattle.dm_store.specs.Kinds.{kinds_in}
use Rattle.dm_store.proofs.StoredLemmas.{at_rest, crashes_keep, weakened}
use Rattle.dm_commands.specs.Mirrors.{IsMirrorOf}
use Rattle.dm_deliver.specs.declared.bundle_rule.BundleRule.{BundleRule}
use Rattle.dm_deliver.specs.Delivering.{KeepsSome}
use Rattle.dm_deliver.proofs.Runs.{followed}
use Rattle.dm_words.specs.declared.request.Apply.{Apply}
use Rattle.dm_words.specs.declared.request.Init.{Init}
use Rattle.dm_words.specs.declared.request.Obliterate.{Obliterate}
use Rattle.dm_files.specs.declared.outcome.Outcome.{Outcome}
use Rattle.dm_files.specs.declared.delivering.Stop.{Stop}
use Rattle.dm_files.specs.declared.word_fault.WordFault.{WordFault}
use Rattle.dm_files.specs.Named.{CameAsNamed, CameAtMost, darcs_rule, kinds_for, policy_for, rule_for}
use Rattle.dm_files.specs.Bases.{BeginsAs}
use Rattle.dm_files.specs.Beginning.{IsBegun}
use Rattle.dm_files.specs.Mirrors.{AnswersAll, HadMirror, IsApplied, IsDoneTo, IsOpenedAs, LeavesAnswered}
use Rattle.dm_files.specs.Obliterating.{Goes, IsObliterated, IsSavedAsAsked, LetsGo, MayGo}
use Rattle.dm_files.proofs.LettingGoLemmas.{lets_keep, still_keeps}
use Rattle.dm_files.proofs.MirrorLemmas.{if_ok, keeps_answered}

-- what a file was opened by, and what it had then
fresh_name : (name : List ℕ) (file : List Event) → IsFresh name file → opened_by file ≡ name
fresh_name name file (bytes, is) = ap opened_by is

fresh_bytes : (name : List ℕ) (file : List Event) → IsFresh name file → read_first file ≡ seen file
fresh_bytes name file (bytes, is) = ap read_first is ∙ sym (ap seen is)

fresh_time : (name : List ℕ) (file : List Event) → IsFresh name file → length file ≡ 2
fresh_time name file (bytes, is) = ap length is

-- a crash leaves just that
fresh_only : (name : List ℕ) (file : List Event) → IsFresh name file → (c : List ℕ) → may_leave file c → c ≡ seen file
fresh_only name file (bytes, is) c may = ⊎_elim (λ now. now ∙ sym (ap seen is)) (λ other. absurd other) (subst (λ (h : List Event). may_leave h c) is may)

-- a file is the one that was opened
pub named_since : (name : List ℕ) (P : List ℕ → Type 0) (first file : List Event) → IsFresh name first → LeavesOnly moment left_since first file P → opened_by file ≡ name
named_since name P first file fresh run = ap (λ (o : Origin). o.name) run.later.same ∙ fresh_name name first fresh

-- what was done to a file since it was opened
pub done_since : (name : List ℕ) (Had P : List ℕ → Type 0) (first file : List Event) → IsFresh name first → Had (seen first) →
    LeavesOnly moment left_since first file (λ c. (c ≡ seen first) ⊎ P c) → IsDoneTo name Had P file
done_since name Had P first file fresh had run =
    let bytes : read_first file ≡ seen first = ap (λ (o : Origin). o.bytes) run.later.same ∙ fresh_bytes name first fresh in
    record {
      named = named_since name (λ c. (c ≡ seen first) ⊎ P c) first file fresh run;
      had = subst (λ (b : List ℕ). Had b) (sym bytes) had;
      any_moment = λ c left. subst (λ (b : List ℕ). (c ≡ b) ⊎ P c) (sym bytes) (run.each c (subst (λ (t : ℕ). left_since file t c) (sym (fresh_time name first fresh)) left));
    }

-- nothing was
pub untouched : (name : List ℕ) (Had P : List ℕ → Type 0) (file : List Event) → IsFresh name file → Had (seen file) → IsDoneTo name Had P file
untouched name Had P file fresh had =
    done_since name Had P file file fresh had (at_rest moment left_since file (λ c. (c ≡ seen file) ⊎ P c) (λ c left. inl (fresh_only name file fresh c (left_only_now file c left))))

-- a mirror was opened, or begun, and then this was done
pub opened_then : (name : List ℕ) (Had : List ℕ → Type 0) (store : Store (List Event)) (P : List ℕ → Type 0) (file : List Event) → IsOpenedAs name Had store → ((c : List ℕ) → KeepsRepo (kinds_in store) c (kept_in store) → P c) →
    LeavesOnly moment left_since store.journal.device file P → IsDoneTo name Had P file
opened_then name Had store P file o to run =
    done_since name Had P o.first file o.fresh o.had
    (followed moment left_since o.first store.journal.device file (λ c. (c ≡ seen o.first) ⊎ P c)
    (weakened moment left_since o.first store.journal.device (IsOrKeeps (kinds_in store) (seen o.first) (kept_in store)) (λ c. (c ≡ seen o.first) ⊎ P c) (λ c had. ⊎_elim (λ same. inl same) (λ keeps. inr (to c keeps)) had) o.any_moment)
    (weakened moment left_since store.journal.device file P (λ c. (c ≡ seen o.first) ⊎ P c) (λ c now. inr now) run))

-- or nothing
pub opened_only : (name : List ℕ) (Had : List ℕ → Type 0) (store : Store (List Event)) (P : List ℕ → Type 0) → IsOpenedAs name Had store → ((c : List ℕ) → KeepsRepo (kinds_in store) c (kept_in store) → P c) → IsStored seen may_leave file_may_leave store →
    IsDoneTo name Had P store.journal.device
opened_only name Had store P o to stored = opened_then name Had store P store.journal.device o to (still_keeps store P to stored)

-- a file that keeps what the mirror held keeps the repository after the first of the texts, none
none_yet : (had : List ℕ → List ℕ → Type 0) (asked : Apply) (kinds : Kinds) (held : Kept) (policy : Policy) (rule : BundleRule) (c : List ℕ) → KeepsRepo kinds c held → KeepsSome (CameAtMost had asked) kinds held policy rule c
none_yet had asked kinds held policy rule c keeps = keeps_answered (CameAtMost had asked) kinds held held policy rule [] [] (λ off. (_, refl)) refl c keeps

-- what holds of a value, where there is one
if_some : {T : Type 0} {P Q : T → Type 0} (found : Option T) → ((x : T) → P x → Q x) → IfSome found P → IfSome found Q
if_some None to p = tt
if_some (Some x) to p = to x p

-- what was told of a status holds of the same one
of_same : {E F : Type 0} (P : ℕ → Type 0) (taken : Result ℕ E) (answer : Result ℕ F) → IfOk answer (λ status. taken ≡ Ok status) → IfOk taken P → IfOk answer P
of_same P taken (Ok status) is told = subst (λ (r : Result ℕ _). IfOk r P) is told
of_same P taken (Err fault) is told = tt

-- there is no answer, or no file, or this one
no_answer : (P : ℕ → Type 0) (answer : Result ℕ WordFault) (fault : WordFault) → answer ≡ Err fault → IfOk answer P
no_answer P answer fault is = subst (λ (r : Result ℕ WordFault). IfOk r P) (sym is) tt

no_file : (P : List Event → Type 0) (file : Option (List Event)) → file ≡ None → IfSome file P
no_file P file none = subst (λ (f : Option (List Event)). IfSome f P) (sym none) tt

this_file : (P : List Event → Type 0) (file : Option (List Event)) (this : List Event) → file ≡ Some this → P this → IfSome file P
this_file P file this some p = subst (λ (f : Option (List Event)). IfSome f P) (sym some) p

-- no file was opened
pub not_opened : (had : List ℕ → List ℕ → Type 0) (asked : Apply) (name : List ℕ) (outcome : Outcome) (fault : WordFault) → outcome.answer ≡ Err fault → outcome.file ≡ None → IsApplied had asked name outcome
not_opened had asked name outcome fault is none = record {
  kinds = Six;
  held = empty;
  answered = no_answer _ outcome.answer fault is;
  done = no_file _ outcome.file none;
  untouched = λ dry. no_file _ outcome.file none;
}

-- what was only tried
pub tried : (had : List ℕ → List ℕ → Type 0) (asked : Apply) (name : List ℕ) (kinds : Kinds) (held new : Kept) (taken : Result ℕ Stop) (outcome : Outcome) →
    asked.dry_run ≡ true → IfOk outcome.answer (λ status. taken ≡ Ok status) →
    IfOk taken (AnswersAll (CameAsNamed had asked) kinds (policy_for asked.skip) (rule_for asked.hash darcs_rule) held new) →
    IfSome outcome.file (λ file. IsFresh name file × HadMirror had asked.base kinds held (seen file)) → IsApplied had asked name outcome
tried had asked name kinds held new taken outcome dry is told opened = record {
  kinds = kinds;
  held = held;
  answered = if_ok outcome.answer (λ status answers. record { new = new; answers = answers; kept = λ wet. absurd (true≢false (sym dry ∙ wet)) }) (of_same _ taken outcome.answer is told);
  done = if_some outcome.file (λ file o. untouched name _ _ file o.0 o.1) opened;
  untouched = λ d. if_some outcome.file (λ file o. o.0) opened;
}

module _ (had : List ℕ → List ℕ → Type 0) (asked : Apply) (name : List ℕ) (store : Store (List Event)) (outcome : Outcome) (wet : asked.dry_run ≡ false)
    (o : IsOpenedAs name (HadMirror had asked.base (kinds_in store) (kept_in store)) store) where
  abbrev First : List ℕ → Type 0
  First = KeepsSome (CameAtMost had asked) (kinds_in store) (kept_in store) (policy_for asked.skip) (rule_for asked.hash darcs_rule)

  none_of_them : (c : List ℕ) → KeepsRepo (kinds_in store) c (kept_in store) → First c
  none_of_them = none_yet had asked (kinds_in store) (kept_in store) (policy_for asked.skip) (rule_for asked.hash darcs_rule)

  -- what was written
  pub written : (file : List Event) (taken : Result ℕ Stop) → outcome.file ≡ Some file → IfOk outcome.answer (λ status. taken ≡ Ok status) →
      IfOk taken (λ status. LeavesAnswered (kinds_in store) may_leave file (λ new. AnswersAll (CameAsNamed had asked) (kinds_in store) (policy_for asked.skip) (rule_for asked.hash darcs_rule) (kept_in store) new status)) →
      LeavesOnly moment left_since store.journal.device file First → IsApplied had asked name outcome
  written file taken some is told run = record {
    kinds = kinds_in store;
    held = kept_in store;
    answered = if_ok outcome.answer (λ status left. record { new = left.0; answers = left.1; kept = λ w. (file, some, left.2) }) (of_same _ taken outcome.answer is told);
    done = this_file _ outcome.file file some (opened_then name _ store First file o none_of_them run);
    untouched = λ dry. absurd (true≢false (sym dry ∙ wet));
  }

  -- what was opened and refused
  pub refused : (fault : WordFault) → IsStored seen may_leave file_may_leave store → outcome.answer ≡ Err fault → outcome.file ≡ Some store.journal.device → IsApplied had asked name outcome
  refused fault stored is some = record {
    kinds = kinds_in store;
    held = kept_in store;
    answered = no_answer _ outcome.answer fault is;
    done = this_file _ outcome.file store.journal.device some (opened_only name _ store First o none_of_them stored);
    untouched = λ dry. absurd (true≢false (sym dry ∙ wet));
  }

-- the mirror that a file keeps was opened
pub opened_kept : (name : List ℕ) (Had : List ℕ → Type 0) (file : List Event) (store : Store (List Event)) → IsFresh name file → Had (seen file) →
    IsUntouched seen may_leave file_may_leave moment left_since file store.journal.device → IsOpenedAs name Had store
opened_kept name Had file store fresh had same = record {
  first = file;
  fresh = fresh;
  had = had;
  any_moment = weakened moment left_since file store.journal.device (λ c. c ≡ seen file) (IsOrKeeps (kinds_in store) (seen file) (kept_in store)) (λ c is. inl is) same.any_moment;
}

-- or one was begun, of so much
pub opened_new : (name : List ℕ) (file : List Event) (store : Store (List Event)) (kinds : Kinds) (base : ℕ) (patches : List Patch) → IsFresh name file → seen file ≡ [] → kinds_in store ≡ kinds → store.repo.patches ≡ patches → store.base ≡ base →
    LeavesOnly moment left_since file store.journal.device (IsOrKeeps kinds [] (kept_as base patches)) → IsOpenedAs name (λ f. f ≡ []) store
opened_new name file store kinds base patches fresh none for has begins run = record {
  first = file;
  fresh = fresh;
  had = none;
  any_moment = weakened moment left_since file store.journal.device (IsOrKeeps kinds [] (kept_as base patches)) (IsOrKeeps (kinds_in store) (seen file) (kept_in store))
      (λ c left. ⊎_elim (λ is. inl (is ∙ sym none)) (λ keeps. inr (rw (for, has, begins) keeps)) left) run;
}

-- nothing was begun
pub not_begun : (had : List ℕ → List ℕ → Type 0) (asked : Init) (outcome : Outcome) (fault : WordFault) → outcome.answer ≡ Err fault → outcome.file ≡ None → IsBegun had asked outcome
not_begun had asked outcome fault is none = record {
  start = empty;
  begun = no_answer _ outcome.answer fault is;
  done = no_file _ outcome.file none;
}

always : {T E P : Type 0} (answer : Result T E) → P → IfOk answer (λ x. P)
always (Ok x) p = p
always (Err e) p = tt

-- or this was
pub begun : (had : List ℕ → List ℕ → Type 0) (asked : Init) (store : Store (List Event)) (outcome : Outcome) → kinds_in store ≡ kinds_for (not asked.six_kinds) → IsOpenedAs asked.mirror.now (λ f. f ≡ []) store →
    (asked.names ≡ None → (store.base ≡ 0) × BeginsAs had asked.base (kinds_in store) store.repo.patches) → IsStored seen may_leave file_may_leave store → outcome.file ≡ Some store.journal.device → IsBegun had asked outcome
begun had asked store outcome for o begins stored some =
    let keeps = crashes_keep seen may_leave file_may_leave store.journal stored.entries (kept_in store) stored.has stored.folds in
    let done = opened_only asked.mirror.now _ store (λ c. KeepsRepo (kinds_in store) c (kept_in store)) o (λ c keeps. keeps) stored in
    record {
      start = kept_in store;
      begun = always outcome.answer (store.journal.device, some, rw for at keeps, λ none. rw for at (begins none));
      done = this_file _ outcome.file store.journal.device some (rw for at done);
    }

-- no patch went
pub not_obliterated : (asked : Obliterate) (outcome : Outcome) (fault : WordFault) → outcome.answer ≡ Err fault → outcome.file ≡ None → IsObliterated asked outcome
not_obliterated asked outcome fault is none = record {
  kinds = Six;
  held = empty;
  gone = no_answer _ outcome.answer fault is;
  stays = [];
  may = inl refl;
  done = no_file _ outcome.file none;
}

-- patches went, or none
pub obliterated : (asked : Obliterate) (store : Store (List Event)) (file : List Event) (saved : Option (List Event)) (taken : Result ℕ WordFault) (outcome : Outcome) →
    IsOpenedAs asked.mirror.now (λ f. IsMirrorOf (kinds_in store) f (kept_in store)) store → outcome.file ≡ Some file → outcome.saved ≡ saved → IfOk outcome.answer (λ status. taken ≡ Ok status) →
    IfOk taken (λ status. status ≡ 0 → asked.dry_run ≡ false → (stays : List Patch) × Goes asked (kept_in store) stays × CrashesKeep (kinds_in store) may_leave file (kept_as store.base stays)
    × IsSavedAsAsked asked (kinds_in store) store.repo.patches stays saved) →
    ((stays : List Patch) × MayGo asked (kept_in store) stays × LeavesOnly moment left_since store.journal.device file (LetsGo (kinds_in store) (kept_in store) (kept_as store.base stays) saved)) → IsObliterated asked outcome
obliterated asked store file saved taken outcome o some beside is told run = record {
  kinds = kinds_in store;
  held = kept_in store;
  gone = if_ok outcome.answer (λ status goes zero wet. let gone = goes zero wet in record {
    stays = gone.0;
    goes = gone.1;
    closed = file;
    is = some;
    keeps = gone.2;
    saved = subst (λ (s : Option (List Event)). IsSavedAsAsked asked (kinds_in store) store.repo.patches gone.0 s) (sym beside) gone.3;
  }) (of_same _ taken outcome.answer is told);
  stays = run.0;
  may = run.1;
  done = this_file _ outcome.file file some
      (subst (λ (s : Option (List Event)). IsDoneTo asked.mirror.now (λ f. IsMirrorOf (kinds_in store) f (kept_in store)) (LetsGo (kinds_in store) (kept_in store) (kept_as store.base run.0) s) file) (sym beside)
      (opened_then asked.mirror.now _ store _ file o (λ c keeps. lets_keep (kinds_in store) (kept_in store) (kept_as store.base run.0) saved c keeps) run.2));
}
