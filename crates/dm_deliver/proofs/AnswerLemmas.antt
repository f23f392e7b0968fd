-- What a text leaves that was taken.
use Rattle.std.proofs.Common.{◌≡◌, ◌≢◌, ◌⊎◌, inl, inr, ⊎_elim, ℕ, List, refl, sym, subst, ap₂, ◌∙◌}
use Rattle.dm_named.specs.Laws.{with_kinds}
use Rattle.dm_named.specs.Limits.{standard}
use Rattle.dm_named.specs.declared.limits.Kinds.{Kinds}
use Rattle.dm_repo.specs.declared.policy.Policy.{Policy}
use Rattle.dm_repo.specs.declared.refusal.Refusal.TheVariants.{NoMemory}
use Rattle.dm_scratch.specs.declared.verdict.Verdict.{Verdict}
use Rattle.dm_scratch.specs.declared.verdict.Verdict.TheVariants.{Taken, TakenSome, NothingNew, Malformed, Refused}
use Rattle.dm_scratch.specs.Taking.{TakesIn}
use Rattle.dm_scratch.proofs.OneOutcome.{taking_one}
use Rattle.dm_journal.specs.Device.{LeavesOnly, Moment}
use Rattle.dm_journal.specs.declared.journal.Journal.{Journal}
use Rattle.dm_store.proofs.StoredLemmas.{at_rest, weakened}
use Rattle.dm_store.specs.Entries.{entry_of}
use Rattle.dm_store.specs.Keeping.{HasTaken, TakesText, KeepsRepo, KeepsWithOrWithout, Kept, CrashesKeep, kept_as}
use Rattle.dm_store.proofs.EntryLemmas.{one_entry}
use Rattle.dm_deliver.specs.declared.bundle_rule.BundleRule.{BundleRule}
use Rattle.dm_deliver.specs.Answering.{PassesRules, Answers, KeepsEither, KeepsAnswered}

has_memory : (v : Verdict) → HasTaken v → v ≢ Refused NoMemory
has_memory v taken e = absurd (subst (λ (w : Verdict). HasTaken w) e taken)

taken_or_not : (v : Verdict) → HasTaken v ⊎ (HasTaken v → ⊥)
taken_or_not (Taken count) = inl tt
taken_or_not (TakenSome count skipped) = inl tt
taken_or_not NothingNew = inr (λ taken. taken)
taken_or_not (Malformed fault) = inr (λ taken. taken)
taken_or_not (Refused why) = inr (λ taken. taken)

-- the entry of a policy and a text is taken as the text is
pub takes_of_entry : (kinds : Kinds) (kept : Kept) (text : List ℕ) (policy : Policy) (after : Kept) → (t : TakesText kinds kept (entry_of policy text) after) → TakesIn kinds kept.patches text policy t.verdict after.patches
takes_of_entry kinds kept text policy after t =
    let e = one_entry t.policy policy t.text text (sym t.is) in
    subst (λ (x : List ℕ). TakesIn kinds kept.patches x policy t.verdict after.patches) e.1 (subst (λ (p : Policy). TakesIn kinds kept.patches t.text p t.verdict after.patches) e.0 t.takes)

-- a text that is taken leaves one repository
one_after : (kinds : Kinds) (kept : Kept) (text : List ℕ) (policy : Policy) (v : Verdict) (after later : Kept) → HasTaken v → TakesIn kinds kept.patches text policy v after.patches → after.base ≡ kept.base → TakesText kinds kept (entry_of policy text) later → later ≡ after
one_after kinds kept text policy v after later taken takes same t =
    ap₂ kept_as (t.same ∙ sym same)
    (sym (taking_one (with_kinds standard kinds) kept.patches text policy v t.verdict after.patches later.patches (has_memory v taken) (has_memory t.verdict t.taken) takes (takes_of_entry kinds kept text policy later t)).1)

either_of : (kinds : Kinds) (kept : Kept) (text : List ℕ) (policy : Policy) (v : Verdict) (after : Kept) → HasTaken v → TakesIn kinds kept.patches text policy v after.patches → after.base ≡ kept.base →
    (c : List ℕ) → KeepsWithOrWithout kinds kept text policy c → KeepsEither kinds kept after c
either_of kinds kept text policy v after taken takes same c (inl k) = inl k
either_of kinds kept text policy v after taken takes same c (inr k) = inr (subst (λ (r : Kept). KeepsRepo kinds c r) (one_after kinds kept text policy v after k.0 taken takes same k.1) k.2)

module _ {D : Type 0} (moment : D → Moment) (left_since : D → ℕ → List ℕ → Type 0) (may_leave : D → List ℕ → Type 0)
    (only_now : (device : D) (c : List ℕ) → left_since device (moment device).time c → may_leave device c) where
  -- nothing was done
  pub untaken : (kinds : Kinds) (journal : Journal D) (kept after : Kept) → CrashesKeep kinds may_leave journal.device kept → LeavesOnly moment left_since journal.device journal.device (KeepsEither kinds kept after)
  untaken kinds journal kept after keeps = at_rest moment left_since journal.device (KeepsEither kinds kept after) (λ c left. inl (keeps c (only_now journal.device c left)))

  pub unread : (kinds : Kinds) (journal : Journal D) (kept : Kept) (text : List ℕ) (policy : Policy) (rule : BundleRule) → CrashesKeep kinds may_leave journal.device kept →
      LeavesOnly moment left_since journal.device journal.device (KeepsAnswered kinds kept text policy rule)
  unread kinds journal kept text policy rule keeps = at_rest moment left_since journal.device (KeepsAnswered kinds kept text policy rule) (λ c left. inl (keeps c (only_now journal.device c left)))

  -- the text was taken, since no rule refuses it
  pub passed : (kinds : Kinds) (old new : D) (kept : Kept) (text : List ℕ) (policy : Policy) (rule : BundleRule) → PassesRules kinds kept rule text →
      LeavesOnly moment left_since old new (KeepsWithOrWithout kinds kept text policy) → LeavesOnly moment left_since old new (KeepsAnswered kinds kept text policy rule)
  passed kinds old new kept text policy rule passes run = weakened moment left_since old new (KeepsWithOrWithout kinds kept text policy) (KeepsAnswered kinds kept text policy rule) (λ c k. inr (passes, k)) run

  -- a crash leaves the repository from before it, or the one after it
  pub leaves_either : (kinds : Kinds) (old new : Journal D) (kept : Kept) (text : List ℕ) (policy : Policy) (v : Verdict) (after : Kept) → TakesIn kinds kept.patches text policy v after.patches → after.base ≡ kept.base →
      CrashesKeep kinds may_leave old.device kept → ((HasTaken v → ⊥) → new ≡ old) → LeavesOnly moment left_since old.device new.device (KeepsWithOrWithout kinds kept text policy) →
      LeavesOnly moment left_since old.device new.device (KeepsEither kinds kept after)
  leaves_either kinds old new kept text policy v after takes same keeps unwritten run =
      ⊎_elim (λ taken. weakened moment left_since old.device new.device _ _ (either_of kinds kept text policy v after taken takes same) run)
      (λ not. subst (λ (j : Journal D). LeavesOnly moment left_since old.device j.device (KeepsEither kinds kept after)) (sym (unwritten not)) (untaken kinds old kept after keeps))
      (taken_or_not v)
