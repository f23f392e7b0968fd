-- What was delivered, told with less of the texts that came.
use Rattle.std.proofs.Common.{◌≡◌, ◌++◌, ◌↔◌, ◌⊎◌, inl, inr, ⊎_elim, ℕ, List, [], ◌∷◌, Bool, All, IsTrue, Result, Ok, Err, IfOk, IfErr, subst, sym, ap, refl}
use Rattle.dm_named.specs.declared.limits.Kinds.{Kinds}
use Rattle.dm_repo.specs.declared.policy.Policy.{Policy}
use Rattle.dm_journal.specs.declared.fault.WriteError.{WriteError}
use Rattle.dm_journal.specs.Device.{LeavesOnly, Moment}
use Rattle.dm_store.specs.declared.store.Store.{Store}
use Rattle.dm_store.specs.Keeping.{KeepsRepo, Kept, kept_in}
use Rattle.dm_store.specs.Kinds.{kinds_in}
use Rattle.dm_store.proofs.StoredLemmas.{weakened}
use Rattle.dm_deliver.specs.declared.answers.Answer.{Answer}
use Rattle.dm_deliver.specs.declared.bundle_rule.BundleRule.{BundleRule}
use Rattle.dm_deliver.specs.declared.fault.AnswerError.{AnswerError}
use Rattle.dm_deliver.specs.declared.fault.AnswerError.TheVariants.{Store as OfStore, NoMemory, Write}
use Rattle.dm_deliver.specs.Outputs.{Output}
use Rattle.dm_deliver.specs.Answering.{Answers, AnswersEach, IsAcceptedAnswer, IsOfStore, LeavesUnanswered, Saying}
use Rattle.dm_deliver.specs.Delivering.{Delivers, DeliversAllBut, DeliversButLast, KeepsSome}
use Rattle.dm_deliver.proofs.DeliverLemmas.{all_are_first, answers_more}
use Rattle.dm_deliver.proofs.Runs.{followed}
use Rattle.dm_files.specs.declared.word_fault.WordFault.{WordFault}
use Rattle.dm_files.specs.declared.delivering.Stop.{Stop}
use Rattle.dm_files.specs.declared.delivering.Stop.TheVariants.{Mirror, Beside}
use Rattle.dm_files.specs.Mirrors.{AnswersSome, DeliversBy, MayGoOn}

module _ {D : Type 0} {moment : D → Moment} {left_since : D → ℕ → List ℕ → Type 0} {Says : Saying} {policy : Policy} {rule : BundleRule} where
  pub delivered_less : {Gave Told : List (List ℕ) → Type 0} {old new : Store D} {before now : Output} → ((texts : List (List ℕ)) → Gave texts → Told texts)
      → Delivers moment left_since Says Gave policy rule old new before now → Delivers moment left_since Says Told policy rule old new before now
  delivered_less less d = record {
    texts = d.texts;
    answers = d.answers;
    lines = d.lines;
    came = less d.texts d.came;
    kinds = d.kinds;
    takes = d.takes;
    says = d.says;
    bytes = d.bytes;
    flushed = d.flushed;
    any_moment = d.any_moment;
    behind = d.behind;
  }

  pub told_less : {Gave Told : List (List ℕ) → Type 0} {old new : Store D} {before now : Output} (all : Bool) → ((texts : List (List ℕ)) → Gave texts → Told texts)
      → (d : Delivers moment left_since Says Gave policy rule old new before now) × (IsTrue all ↔ All IsAcceptedAnswer d.answers)
      → (d : Delivers moment left_since Says Told policy rule old new before now) × (IsTrue all ↔ All IsAcceptedAnswer d.answers)
  unfolding delivered_less
  told_less all less (d, accepted) = (delivered_less less d, accepted)

  pub all_but_less : {Gave Told : List (List ℕ) → Type 0} {faults : D → ℕ} {error : WriteError} {old new : Store D} {before now : Output} → ((texts : List (List ℕ)) → Gave texts → Told texts)
      → DeliversAllBut moment left_since faults Says Gave policy rule error old new before now → DeliversAllBut moment left_since faults Says Told policy rule error old new before now
  all_but_less less d = record {
    last = d.last;
    mid = d.mid;
    delivered = delivered_less (λ texts came. less (texts ++ d.last ∷ []) came) d.delivered;
    same = d.same;
    base = d.base;
    kinds = d.kinds;
    any_moment = d.any_moment;
    failed = d.failed;
    kind = d.kind;
  }

  pub but_last_less : {Gave Told : List (List ℕ) → Type 0} {seen : D → List ℕ} {faults : D → ℕ} {error : AnswerError} {old new : Store D} {before now : Output} → ((texts : List (List ℕ)) → Gave texts → Told texts)
      → DeliversButLast seen moment left_since faults Says Gave policy rule error old new before now → DeliversButLast seen moment left_since faults Says Told policy rule error old new before now
  but_last_less less d = record {
    last = d.last;
    mid = d.mid;
    written = d.written;
    delivered = delivered_less (λ texts came. less (texts ++ d.last ∷ []) came) d.delivered;
    kinds = d.kinds;
    unanswered = d.unanswered;
    any_moment = d.any_moment;
    failed = d.failed;
    not_too_long = d.not_too_long;
    full = d.full;
  }

  -- by what stopped it
  pub by_less : {Gave Told : List (List ℕ) → Type 0} {seen : D → List ℕ} {faults : D → ℕ} {stop : Stop} {old new : Store D} {before now : Output} → ((texts : List (List ℕ)) → Gave texts → Told texts)
      → DeliversBy seen moment left_since faults Says Gave policy rule stop old new before now → DeliversBy seen moment left_since faults Says Told policy rule stop old new before now
  by_less less d = record {
    mirror = λ why is. ⊎_elim (λ m. inl (but_last_less less m)) (λ m. inr (all_but_less less m)) (d.mirror why is);
    beside = λ goes. ⊎_elim (λ m. inl (delivered_less less m)) (λ m. inr (m.0, m.1, but_last_less less m.2)) (d.beside goes);
  }

  -- no text more came
  pub by_source : {Gave Told : List (List ℕ) → Type 0} {seen : D → List ℕ} {faults : D → ℕ} {old new : Store D} {before now : Output} (fault : WordFault) → ((texts : List (List ℕ)) → Gave texts → Told texts)
      → Delivers moment left_since Says Gave policy rule old new before now → DeliversBy seen moment left_since faults Says Told policy rule (Beside fault) old new before now
  by_source fault less d = record {
    mirror = λ why is. absurd (subst (λ (s : Stop). MayGoOn s) is tt);
    beside = λ goes. inl (delivered_less less d);
  }

-- a checkpoint failed
abbrev why_of : WriteError → Stop → WriteError
why_of otherwise (Mirror why) = why
why_of otherwise (Beside fault) = otherwise

pub by_checkpoint : {D : Type 0} (seen : D → List ℕ) (moment : D → Moment) (left_since : D → ℕ → List ℕ → Type 0) (faults : D → ℕ) (Says : Saying) (Gave Told : List (List ℕ) → Type 0) (policy : Policy) (rule : BundleRule) (old new : Store D) (before now : Output) (fault : WriteError)
    → ((texts : List (List ℕ)) → Gave texts → Told texts)
    → DeliversAllBut moment left_since faults Says Gave policy rule fault old new before now → DeliversBy seen moment left_since faults Says Told policy rule (Mirror fault) old new before now
by_checkpoint seen moment left_since faults Says Gave Told policy rule old new before now fault less d = record {
  mirror = λ why is. inr (subst (λ (w : WriteError). DeliversAllBut moment left_since faults Says Told policy rule w old new before now) (ap (why_of fault) is) (all_but_less less d));
  beside = λ goes. absurd goes;
}

-- a text has no answer
pub by_answer : {D : Type 0} (seen : D → List ℕ) (moment : D → Moment) (left_since : D → ℕ → List ℕ → Type 0) (faults : D → ℕ) (Says : Saying) (Gave Told : List (List ℕ) → Type 0) (policy : Policy) (rule : BundleRule) (old new : Store D) (before now : Output) (stop : Stop) (error : AnswerError)
    → (MayGoOn stop → IsOfStore error → ⊥) → ((why : WriteError) → stop ≡ Mirror why → error ≡ OfStore why) → ((texts : List (List ℕ)) → Gave texts → Told texts)
    → DeliversButLast seen moment left_since faults Says Gave policy rule error old new before now → DeliversBy seen moment left_since faults Says Told policy rule stop old new before now
by_answer seen moment left_since faults Says Gave Told policy rule old new before now stop error other same less d = record {
  mirror = λ why is. inl (subst (λ (e : AnswerError). DeliversButLast seen moment left_since faults Says Told policy rule e old new before now) (same why is) (but_last_less less d));
  beside = λ goes. inr (error, other goes, but_last_less less d);
}

-- what holds of a value of a result, and of an error
pub if_ok : {T E : Type 0} {P Q : T → Type 0} (result : Result T E) → ((x : T) → P x → Q x) → IfOk result P → IfOk result Q
if_ok (Ok x) to p = to x p
if_ok (Err e) to p = tt

pub if_ok_is : {T E : Type 0} {Q : T → Type 0} (result : Result T E) → ((x : T) → result ≡ Ok x → Q x) → IfOk result Q
if_ok_is (Ok x) to = to x refl
if_ok_is (Err e) to = tt

pub if_err : {T E : Type 0} {P Q : E → Type 0} (result : Result T E) → ((e : E) → P e → Q e) → IfErr result P → IfErr result Q
if_err (Ok x) to p = tt
if_err (Err e) to p = to e p

-- what a file keeps, told with less of the texts that came
pub some_less : {Gave Told : List (List ℕ) → Type 0} {kinds : Kinds} {kept : Kept} {policy : Policy} {rule : BundleRule} → ((texts : List (List ℕ)) → Gave texts → Told texts)
    → (file : List ℕ) → KeepsSome Gave kinds kept policy rule file → KeepsSome Told kinds kept policy rule file
some_less less file (texts, answers, came, first) = (texts, answers, less texts came, first)

-- the file keeps the repository that the texts leave
pub keeps_answered : (Gave : List (List ℕ) → Type 0) (kinds : Kinds) (kept new : Kept) (policy : Policy) (rule : BundleRule) (texts : List (List ℕ)) (answers : List Answer) → Gave texts → AnswersEach kinds kept texts policy rule answers new
    → (file : List ℕ) → KeepsRepo kinds file new → KeepsSome Gave kinds kept policy rule file
keeps_answered Gave kinds kept new policy rule texts answers came takes file keeps = (texts, answers, came, all_are_first kinds kept texts policy rule answers new file takes keeps)

-- the last text wasn't answered, or has an answer
last_answered : (Gave : List (List ℕ) → Type 0) (kinds : Kinds) (policy : Policy) (rule : BundleRule) (old mid new : Kept) (texts : List (List ℕ)) (last : List ℕ) (answers : List Answer) → Gave texts → Gave (texts ++ last ∷ []) →
    AnswersEach kinds old texts policy rule answers mid → (new ≡ mid) ⊎ ((answer : Answer) × Answers kinds mid last policy rule answer new) → AnswersSome Gave kinds policy rule old new
last_answered Gave kinds policy rule old mid new texts last answers before came takes (inl same) = record {
  texts = texts;
  answers = answers;
  came = before;
  takes = subst (λ (k : Kept). AnswersEach kinds old texts policy rule answers k) (sym same) takes;
}
last_answered Gave kinds policy rule old mid new texts last answers before came takes (inr (answer, answered)) = record {
  texts = texts ++ last ∷ [];
  answers = answers ++ answer ∷ [];
  came = came;
  takes = answers_more kinds old texts policy rule answers mid last answer new takes answered;
}

last_of : (Says : Saying) (error : AnswerError) (kinds : Kinds) (kept : Kept) (text : List ℕ) (policy : Policy) (rule : BundleRule) (after : Kept) (before now : Output) → (IsOfStore error → ⊥) →
    LeavesUnanswered Says error kinds kept text policy rule after before now → (after ≡ kept) ⊎ ((answer : Answer) × Answers kinds kept text policy rule answer after)
last_of Says (OfStore why) kinds kept text policy rule after before now other u = absurd (other tt)
last_of Says NoMemory kinds kept text policy rule after before now other u = u.0
last_of Says Write kinds kept text policy rule after before now other u = inr (u.0, u.1)

answered_but_last : {D : Type 0} {seen : D → List ℕ} {moment : D → Moment} {left_since : D → ℕ → List ℕ → Type 0} {faults : D → ℕ} {Says : Saying} {policy : Policy} {rule : BundleRule} (Gave : List (List ℕ) → Type 0) (old new : Store D) {before now : Output} (error : AnswerError)
    → ((texts : List (List ℕ)) (last : List ℕ) → Gave (texts ++ last ∷ []) → Gave texts) → (IsOfStore error → ⊥) → DeliversButLast seen moment left_since faults Says Gave policy rule error old new before now
    → AnswersSome Gave (kinds_in old) policy rule (kept_in old) (kept_in new)
answered_but_last {Says = Says} {policy = policy} {rule = rule} Gave old new {now = now} error fewer other d =
    let so_far = d.delivered in
    let unanswered = subst (λ (k : Kinds). LeavesUnanswered Says error k (kept_in d.mid) d.last policy rule (kept_in new) d.written now) so_far.kinds d.unanswered in
    last_answered Gave (kinds_in old) policy rule (kept_in old) (kept_in d.mid) (kept_in new) so_far.texts d.last so_far.answers (fewer so_far.texts d.last so_far.came) so_far.came so_far.takes
    (last_of Says error (kinds_in old) (kept_in d.mid) d.last policy rule (kept_in new) d.written now other unanswered)

-- what was delivered was answered, where something else than the mirror stopped it
pub some_answered : {D : Type 0} {seen : D → List ℕ} {moment : D → Moment} {left_since : D → ℕ → List ℕ → Type 0} {faults : D → ℕ} {Says : Saying} {policy : Policy} {rule : BundleRule} (Gave : List (List ℕ) → Type 0) (old new : Store D) {before now : Output} {stop : Stop}
    → ((texts : List (List ℕ)) (last : List ℕ) → Gave (texts ++ last ∷ []) → Gave texts) → DeliversBy seen moment left_since faults Says Gave policy rule stop old new before now → MayGoOn stop
    → AnswersSome Gave (kinds_in old) policy rule (kept_in old) (kept_in new)
some_answered Gave old new fewer d goes =
    ⊎_elim (λ m. record { texts = m.texts; answers = m.answers; came = m.came; takes = m.takes }) (λ m. answered_but_last Gave old new m.0 fewer m.1 m.2) (d.beside goes)

-- a run, and then one that leaves the repository as it is
pub then_kept : {D : Type 0} (moment : D → Moment) (left_since : D → ℕ → List ℕ → Type 0) (Gave : List (List ℕ) → Type 0) (kinds : Kinds) (policy : Policy) (rule : BundleRule) (before after : Kept) (old mid new : D) (texts : List (List ℕ)) (answers : List Answer) →
    Gave texts → AnswersEach kinds before texts policy rule answers after → LeavesOnly moment left_since old mid (KeepsSome Gave kinds before policy rule) → LeavesOnly moment left_since mid new (λ file. KeepsRepo kinds file after) →
    LeavesOnly moment left_since old new (KeepsSome Gave kinds before policy rule)
then_kept moment left_since Gave kinds policy rule before after old mid new texts answers came takes first second =
    followed moment left_since old mid new (KeepsSome Gave kinds before policy rule) first
    (weakened moment left_since mid new (λ file. KeepsRepo kinds file after) (KeepsSome Gave kinds before policy rule) (keeps_answered Gave kinds before after policy rule texts answers came takes) second)
