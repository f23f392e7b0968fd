-- Texts that were delivered, and one more.
use Rattle.std.proofs.Common.{◌≡◌, ◌≢◌, ◌∙◌, ◌⊎◌, ◌↔◌, ◌≤◌, ◌<◌, ◌^◌, ◌+◌, suc, arith, ⊎_elim, inl, inr, length, take, drop, ℕ, Bool, true, false, All, IsTrue, List, [], ◌∷◌, ◌++◌, Some, refl, sym, subst, ap, ap₂, append_assoc, append-nil, true≢false}
use Rattle.std.proofs.KnownBytes.{Appends-nil, Appends-trans}
use Rattle.std.specs.List.{concat}
use Rattle.std.proofs.lemmas.List.Folds.{concat-append}
use Rattle.std.proofs.lemmas.Bool.{cases_lt}
use Rattle.std.proofs.lemmas.List.{take-append-le, drop-append-le, take_all, drop_all, length-append}
use Rattle.std.proofs.lemmas.List.Elements.{All-nil, All-push, All-pop}
use Rattle.std.specs.Io.KnownBytes.{Appends}
use Rattle.dm_named.specs.declared.limits.Kinds.{Kinds}
use Rattle.dm_repo.specs.declared.policy.Policy.{Policy}
use Rattle.dm_scratch.specs.declared.verdict.Verdict.TheVariants.{NothingNew}
use Rattle.dm_journal.specs.declared.device.DeviceError.TheVariants.{Failed}
use Rattle.dm_journal.specs.declared.fault.WriteError.{WriteError}
use Rattle.dm_journal.specs.declared.fault.WriteError.TheVariants.{Device as WritingDevice, TooLong, Full}
use Rattle.dm_journal.specs.Ready.{IsFailure}
use Rattle.dm_journal.specs.Device.{LeavesOnly, Moment}
use Rattle.dm_deliver.proofs.Runs.{followed}
use Rattle.dm_store.specs.Kinds.{kinds_in}
use Rattle.dm_store.specs.Keeping.{KeepsRepo, Kept, CrashesKeep, kept_as, kept_in}
use Rattle.dm_store.specs.declared.store.Store.{Store}
use Rattle.dm_store.proofs.StoredLemmas.{at_rest, weakened}
use Rattle.dm_deliver.specs.declared.answers.Answer.{Answer}
use Rattle.dm_deliver.specs.declared.answers.Answer.TheVariants.{Verdict}
use Rattle.dm_deliver.specs.declared.fault.AnswerError.{AnswerError}
use Rattle.dm_deliver.specs.declared.fault.AnswerError.TheVariants.{Store as OfStore}
use Rattle.dm_deliver.specs.declared.bundle_rule.BundleRule.{BundleRule}
use Rattle.dm_deliver.specs.Answering.{Answers, AnswersEach, IsAcceptedAnswer, IsTold, KeepsEither, KeepsAnswered, LeavesUnanswered, Saying}
use Rattle.dm_deliver.specs.Delivering.{KeepsBehind, KeepsFirst, KeepsSome, Delivers, DeliversAllBut, DeliversButLast, SaysEach}
use Rattle.dm_deliver.specs.Outputs.{Output, Puts, PutsEach}
use Rattle.dm_deliver.proofs.AnswerLemmas.{takes_of_entry}

-- one text more is answered
pub answers_more : (kinds : Kinds) (repo : Kept) (texts : List (List ℕ)) (policy : Policy) (rule : BundleRule) (answers : List Answer) (mid : Kept) (text : List ℕ) (answer : Answer) (after : Kept) →
    AnswersEach kinds repo texts policy rule answers mid → Answers kinds mid text policy rule answer after → AnswersEach kinds repo (texts ++ text ∷ []) policy rule (answers ++ answer ∷ []) after
answers_more kinds repo [] policy rule [] mid text answer after so_far last = (after, rw so_far at last, refl)
answers_more kinds repo [] policy rule (v ∷ vs) mid text answer after so_far last = absurd so_far
answers_more kinds repo (t ∷ ts) policy rule [] mid text answer after so_far last = absurd so_far
answers_more kinds repo (t ∷ ts) policy rule (v ∷ vs) mid text answer after so_far last = (so_far.0, so_far.1, answers_more kinds so_far.0 ts policy rule vs mid text answer after so_far.2 last)

-- one line more is written
puts_more : (old : Output) (lines : List (List ℕ)) (mid : Output) (line : List ℕ) (new : Output) → PutsEach old lines mid → Puts mid new line → PutsEach old (lines ++ line ∷ []) new
puts_more old [] mid line new so_far last = (new, rw so_far at last, refl)
puts_more old (l ∷ ls) mid line new so_far last = (so_far.0, so_far.1, puts_more so_far.0 ls mid line new so_far.2 last)

-- there are as many answers as texts
as_many : (kinds : Kinds) (repo : Kept) (texts : List (List ℕ)) (policy : Policy) (rule : BundleRule) (answers : List Answer) (after : Kept) →
    AnswersEach kinds repo texts policy rule answers after → length answers ≡ length texts
as_many kinds repo [] policy rule [] after each = refl
as_many kinds repo [] policy rule (v ∷ vs) after each = absurd each
as_many kinds repo (t ∷ ts) policy rule [] after each = absurd each
as_many kinds repo (t ∷ ts) policy rule (v ∷ vs) after each = ap suc (as_many kinds each.0 ts policy rule vs after each.2)

-- and as many lines
lines_as_many : (Says : Saying) (kinds : Kinds) (repo : Kept) (texts : List (List ℕ)) (policy : Policy) (rule : BundleRule) (answers : List Answer) (lines : List (List ℕ)) (after : Kept) →
    SaysEach Says kinds repo texts policy rule answers lines after → length lines ≡ length texts
lines_as_many Says kinds repo [] policy rule [] [] after each = refl
lines_as_many Says kinds repo [] policy rule [] (l ∷ ls) after each = absurd each
lines_as_many Says kinds repo [] policy rule (v ∷ vs) ls after each = absurd each
lines_as_many Says kinds repo (t ∷ ts) policy rule [] ls after each = absurd each
lines_as_many Says kinds repo (t ∷ ts) policy rule (v ∷ vs) [] after each = absurd each
lines_as_many Says kinds repo (t ∷ ts) policy rule (v ∷ vs) (l ∷ ls) after each = ap suc (lines_as_many Says kinds each.0 ts policy rule vs ls after each.3)

-- one line more says an answer
says_more : (Says : Saying) (kinds : Kinds) (repo : Kept) (texts : List (List ℕ)) (policy : Policy) (rule : BundleRule) (answers : List Answer) (lines : List (List ℕ)) (mid : Kept) (text : List ℕ) (answer : Answer) (line : List ℕ) (after : Kept) →
    SaysEach Says kinds repo texts policy rule answers lines mid → Answers kinds mid text policy rule answer after → Says after.patches text answer line →
    SaysEach Says kinds repo (texts ++ text ∷ []) policy rule (answers ++ answer ∷ []) (lines ++ line ∷ []) after
says_more Says kinds repo [] policy rule [] [] mid text answer line after so_far last says = (after, rw so_far at last, says, refl)
says_more Says kinds repo [] policy rule [] (l ∷ ls) mid text answer line after so_far last says = absurd so_far
says_more Says kinds repo [] policy rule (v ∷ vs) ls mid text answer line after so_far last says = absurd so_far
says_more Says kinds repo (t ∷ ts) policy rule [] ls mid text answer line after so_far last says = absurd so_far
says_more Says kinds repo (t ∷ ts) policy rule (v ∷ vs) [] mid text answer line after so_far last says = absurd so_far
says_more Says kinds repo (t ∷ ts) policy rule (v ∷ vs) (l ∷ ls) mid text answer line after so_far last says =
    (so_far.0, so_far.1, so_far.2, says_more Says kinds so_far.0 ts policy rule vs ls mid text answer line after so_far.3 last says)

-- the last of the lines stands at the end
lines_more : (ls : List (List ℕ)) (l : List ℕ) → concat (ls ++ l ∷ []) ≡ concat ls ++ l
lines_more ls l = concat-append ls (l ∷ []) ∙ ap (λ (x : List ℕ). concat ls ++ x) (append-nil l)

-- the first of them are the first of more
first_of_more : (kinds : Kinds) (repo : Kept) (texts : List (List ℕ)) (policy : Policy) (rule : BundleRule) (answers : List Answer) (text : List ℕ) (v : Answer) (c : List ℕ) → KeepsFirst kinds repo texts policy rule answers c → KeepsFirst kinds repo (texts ++ text ∷ []) policy rule (answers ++ v ∷ []) c
first_of_more kinds repo texts policy rule answers text v c k = record {
  first = k.first;
  others = k.others ++ text ∷ [];
  made = k.made;
  to_make = k.to_make ++ v ∷ [];
  after = k.after;
  are_texts = ap (λ (l : List (List ℕ)). l ++ text ∷ []) k.are_texts ∙ append_assoc k.first k.others (text ∷ []);
  are_answers = ap (λ (l : List Answer). l ++ v ∷ []) k.are_answers ∙ append_assoc k.made k.to_make (v ∷ []);
  takes = k.takes;
  keeps = k.keeps;
}

-- all of them are the first of them
pub all_are_first : (kinds : Kinds) (repo : Kept) (texts : List (List ℕ)) (policy : Policy) (rule : BundleRule) (answers : List Answer) (after : Kept) (c : List ℕ) → AnswersEach kinds repo texts policy rule answers after → KeepsRepo kinds c after → KeepsFirst kinds repo texts policy rule answers c
all_are_first kinds repo texts policy rule answers after c takes keeps = record {
  first = texts;
  others = [];
  made = answers;
  to_make = [];
  after = after;
  are_texts = sym (append-nil texts);
  are_answers = sym (append-nil answers);
  takes = takes;
  keeps = keeps;
}

-- one text more, and the repository before it or after it
either_is_first : (kinds : Kinds) (repo : Kept) (texts : List (List ℕ)) (policy : Policy) (rule : BundleRule) (answers : List Answer) (mid : Kept) (text : List ℕ) (v : Answer) (after : Kept) →
    AnswersEach kinds repo texts policy rule answers mid → Answers kinds mid text policy rule v after → (c : List ℕ) → KeepsEither kinds mid after c → KeepsFirst kinds repo (texts ++ text ∷ []) policy rule (answers ++ v ∷ []) c
either_is_first kinds repo texts policy rule answers mid text v after takes last c (inl k) = first_of_more kinds repo texts policy rule answers text v c (all_are_first kinds repo texts policy rule answers mid c takes k)
either_is_first kinds repo texts policy rule answers mid text v after takes last c (inr k) =
    all_are_first kinds repo (texts ++ text ∷ []) policy rule (answers ++ v ∷ []) after c (answers_more kinds repo texts policy rule answers mid text v after takes last) k

-- one text more, which isn't answered, and the repository before it
before_last : (kinds : Kinds) (repo : Kept) (texts : List (List ℕ)) (policy : Policy) (rule : BundleRule) (answers : List Answer) (mid : Kept) (text : List ℕ) →
    AnswersEach kinds repo texts policy rule answers mid → (c : List ℕ) → KeepsRepo kinds c mid → KeepsFirst kinds repo (texts ++ text ∷ []) policy rule answers c
before_last kinds repo texts policy rule answers mid text takes c keeps = record {
  first = texts;
  others = text ∷ [];
  made = answers;
  to_make = [];
  after = mid;
  are_texts = refl;
  are_answers = sym (append-nil answers);
  takes = takes;
  keeps = keeps;
}

-- one text more, which isn't answered, and the repository before it or after it
unanswered_is_first : (kinds : Kinds) (repo : Kept) (texts : List (List ℕ)) (policy : Policy) (rule : BundleRule) (answers : List Answer) (mid : Kept) (text : List ℕ) →
    AnswersEach kinds repo texts policy rule answers mid → (c : List ℕ) → KeepsAnswered kinds mid text policy rule c → (vs : List Answer) × KeepsFirst kinds repo (texts ++ text ∷ []) policy rule vs c
unanswered_is_first kinds repo texts policy rule answers mid text takes c (inl k) = (answers, before_last kinds repo texts policy rule answers mid text takes c k)
unanswered_is_first kinds repo texts policy rule answers mid text takes c (inr (passes, inl k)) = (answers, before_last kinds repo texts policy rule answers mid text takes c k)
unanswered_is_first kinds repo texts policy rule answers mid text takes c (inr (passes, inr k)) =
    let v = Verdict k.1.verdict in
    (answers ++ v ∷ [], all_are_first kinds repo (texts ++ text ∷ []) policy rule (answers ++ v ∷ []) k.0 c (answers_more kinds repo texts policy rule answers mid text v k.0 takes (passes, takes_of_entry kinds mid text policy k.0 k.1, k.1.same)) k.2)

-- all of the answers and one more
all_more : (P : Answer → Type 0) (all more : Bool) (vs : List Answer) (v : Answer) → (IsTrue all ↔ All P vs) →
    ((all ≡ true) × (IsTrue more ↔ P v)) ⊎ ((all ≡ false) × (more ≡ all)) → IsTrue more ↔ All P (vs ++ v ∷ [])
all_more P all more vs v so_far (inl x) = (
  λ m. All-push P vs v (so_far.0 x.0) (x.1.0 m),
  λ h. x.1.1 (All-pop P (vs ++ v ∷ []) vs (Some v) refl h).1,
)
all_more P all more vs v so_far (inr x) = (
  λ m. absurd (true≢false (sym m ∙ x.1 ∙ x.0)),
  λ h. x.1 ∙ so_far.1 (All-pop P (vs ++ v ∷ []) vs (Some v) refl h).0,
)

-- texts were delivered, and this says whether all were accepted
abbrev pub Accepts : {D : Type 0} → (D → Moment) → (D → ℕ → List ℕ → Type 0) → Saying → (List (List ℕ) → Type 0) → Policy → BundleRule → Store D → Store D → Output → Output → Bool → Type 0
Accepts moment left_since Says Gave policy rule old new before now all = (d : Delivers moment left_since Says Gave policy rule old new before now) × (IsTrue all ↔ All IsAcceptedAnswer d.answers)

module _ {D : Type 0} (moment : D → Moment) (left_since : D → ℕ → List ℕ → Type 0) (policy : Policy) (rule : BundleRule) (old : Store D) (before : Output) where
  -- behind the last line
  behind_all : (may_leave : D → List ℕ → Type 0) (only_now : (device : D) (c : List ℕ) → left_since device (moment device).time c → may_leave device c) (new : Store D) (now : Output)
      (texts : List (List ℕ)) (answers : List Answer) (lines : List (List ℕ)) (count : ℕ) → length lines ≡ length texts → length texts ≤ count → kinds_in new ≡ kinds_in old →
      AnswersEach (kinds_in old) (kept_in old) texts policy rule answers (kept_in new) → PutsEach before lines now →
      CrashesKeep (kinds_in new) may_leave new.journal.device (kept_in new) → KeepsBehind moment left_since policy rule old new before now texts answers lines count
  behind_all may_leave only_now new now texts answers lines count as_lines le kinds takes put keeps =
      let many : length answers ≡ length texts = as_many (kinds_in old) (kept_in old) texts policy rule answers (kept_in new) takes in
      let few : length answers ≤ count = omega (arith, many, le) in
      let short : length lines ≤ count = omega (arith, as_lines, le) in
      let all_lines : take count lines ≡ lines = take_all count lines short in
      let no_line : drop count lines ≡ [] = drop_all count lines short in
      let all_texts : take count texts ≡ texts = take_all count texts le in
      let all_answers : take count answers ≡ answers = take_all count answers few in
      let no_text : drop count texts ≡ [] = drop_all count texts le in
      let no_answer : drop count answers ≡ [] = drop_all count answers few in
      record {
        mid = new;
        written = now;
        takes = rw (all_texts, all_answers) takes;
        put = rw all_lines put;
        rest = rw (no_text, no_answer) refl;
        to_put = rw no_line refl;
        any_moment = rw (no_text, no_answer) (at_rest moment left_since new.journal.device (KeepsFirst (kinds_in old) (kept_in new) [] policy rule [])
            (λ c left. all_are_first (kinds_in old) (kept_in new) [] policy rule [] (kept_in new) c refl
            (subst (λ (k : Kinds). KeepsRepo k c (kept_in new)) kinds (keeps c (only_now new.journal.device c left)))));
      }

  -- behind an earlier line, where one text more was answered
  behind_more : (mid new : Store D) (out now : Output) (texts : List (List ℕ)) (answers : List Answer) (lines : List (List ℕ)) (text : List ℕ) (v : Answer) (line : List ℕ) (count : ℕ) →
      count ≤ length texts → length answers ≡ length texts → length lines ≡ length texts →
      KeepsBehind moment left_since policy rule old mid before out texts answers lines count → Answers (kinds_in old) (kept_in mid) text policy rule v (kept_in new) → Puts out now line →
      LeavesOnly moment left_since mid.journal.device new.journal.device (KeepsEither (kinds_in old) (kept_in mid) (kept_in new)) →
      KeepsBehind moment left_since policy rule old new before now (texts ++ text ∷ []) (answers ++ v ∷ []) (lines ++ line ∷ []) count
  behind_more mid new out now texts answers lines text v line count le many as_lines b last put run =
      let few : count ≤ length answers = omega (arith, many, le) in
      let short : count ≤ length lines = omega (arith, as_lines, le) in
      let first_lines : take count (lines ++ line ∷ []) ≡ take count lines = take-append-le count lines (line ∷ []) short in
      let other_lines : drop count (lines ++ line ∷ []) ≡ drop count lines ++ line ∷ [] = drop-append-le count lines (line ∷ []) short in
      let first_texts : take count (texts ++ text ∷ []) ≡ take count texts = take-append-le count texts (text ∷ []) le in
      let first_answers : take count (answers ++ v ∷ []) ≡ take count answers = take-append-le count answers (v ∷ []) few in
      let other_texts : drop count (texts ++ text ∷ []) ≡ drop count texts ++ text ∷ [] = drop-append-le count texts (text ∷ []) le in
      let other_answers : drop count (answers ++ v ∷ []) ≡ drop count answers ++ v ∷ [] = drop-append-le count answers (v ∷ []) few in
      record {
        mid = b.mid;
        written = b.written;
        takes = rw (first_texts, first_answers) b.takes;
        put = rw first_lines b.put;
        rest = rw (other_texts, other_answers) (answers_more (kinds_in old) (kept_in b.mid) (drop count texts) policy rule (drop count answers) (kept_in mid) text v (kept_in new) b.rest last);
        to_put = rw other_lines (puts_more b.written (drop count lines) out line now b.to_put put);
        any_moment = rw (other_texts, other_answers) (followed moment left_since b.mid.journal.device mid.journal.device new.journal.device
            (KeepsFirst (kinds_in old) (kept_in b.mid) (drop count texts ++ text ∷ []) policy rule (drop count answers ++ v ∷ []))
            (weakened moment left_since b.mid.journal.device mid.journal.device _ _ (first_of_more (kinds_in old) (kept_in b.mid) (drop count texts) policy rule (drop count answers) text v) b.any_moment)
            (weakened moment left_since mid.journal.device new.journal.device _ _
            (either_is_first (kinds_in old) (kept_in b.mid) (drop count texts) policy rule (drop count answers) (kept_in mid) text v (kept_in new) b.rest last) run));
      }

  -- behind a line, where a checkpoint was made, or tried
  behind_settled : (mid new : Store D) (now : Output) (texts : List (List ℕ)) (answers : List Answer) (lines : List (List ℕ)) (count : ℕ) → kept_in new ≡ kept_in mid →
      KeepsBehind moment left_since policy rule old mid before now texts answers lines count →
      LeavesOnly moment left_since mid.journal.device new.journal.device (λ file. KeepsRepo (kinds_in old) file (kept_in mid)) →
      KeepsBehind moment left_since policy rule old new before now texts answers lines count
  behind_settled mid new now texts answers lines count same b run = record {
    mid = b.mid;
    written = b.written;
    takes = b.takes;
    put = b.put;
    rest = subst (λ (r : Kept). AnswersEach (kinds_in old) (kept_in b.mid) (drop count texts) policy rule (drop count answers) r) (sym same) b.rest;
    to_put = b.to_put;
    any_moment = followed moment left_since b.mid.journal.device mid.journal.device new.journal.device (KeepsFirst (kinds_in old) (kept_in b.mid) (drop count texts) policy rule (drop count answers))
        b.any_moment
        (weakened moment left_since mid.journal.device new.journal.device _ _
        (λ c keeps. all_are_first (kinds_in old) (kept_in b.mid) (drop count texts) policy rule (drop count answers) (kept_in mid) c b.rest keeps) run);
  }

module _ {D : Type 0} (moment : D → Moment) (left_since : D → ℕ → List ℕ → Type 0) (Says : Saying) where
  -- nothing came yet
  pub begun : (may_leave : D → List ℕ → Type 0) (only_now : (device : D) (c : List ℕ) → left_since device (moment device).time c → may_leave device c)
      (Gave : List (List ℕ) → Type 0) (policy : Policy) (rule : BundleRule) (store : Store D) (out : Output) → Gave [] → CrashesKeep (kinds_in store) may_leave store.journal.device (kept_in store) →
      Accepts moment left_since Says Gave policy rule store store out out true
  begun may_leave only_now Gave policy rule store out none keeps = (
    record {
      texts = [];
      answers = [];
      lines = [];
      came = none;
      kinds = refl;
      takes = refl;
      says = refl;
      bytes = Appends-nil out.contents;
      flushed = refl;
      any_moment = at_rest moment left_since store.journal.device (KeepsFirst (kinds_in store) (kept_in store) [] policy rule [])
          (λ c left. all_are_first (kinds_in store) (kept_in store) [] policy rule [] (kept_in store) c refl (keeps c (only_now store.journal.device c left)));
      behind = λ count le. behind_all moment left_since policy rule store out may_leave only_now store out [] [] [] count refl (omega arith) refl refl refl keeps;
    },
    (λ t. All-nil IsAcceptedAnswer, λ h. refl),
  )

  -- one text more was answered, and its line written
  pub one_more : (may_leave : D → List ℕ → Type 0) (only_now : (device : D) (c : List ℕ) → left_since device (moment device).time c → may_leave device c)
      (Gave Gives : List (List ℕ) → Type 0) (policy : Policy) (rule : BundleRule) (old mid new : Store D) (before out now : Output) (all more : Bool)
      (s : Accepts moment left_since Says Gave policy rule old mid before out all) (text : List ℕ) (v : Answer) → Gives (s.0.texts ++ text ∷ []) →
      CrashesKeep (kinds_in new) may_leave new.journal.device (kept_in new) →
      kinds_in new ≡ kinds_in mid → Answers (kinds_in mid) (kept_in mid) text policy rule v (kept_in new) → IsTold Says (kept_in new).patches text v out now →
      LeavesOnly moment left_since mid.journal.device new.journal.device (KeepsEither (kinds_in mid) (kept_in mid) (kept_in new)) →
      ((all ≡ true) × (IsTrue more ↔ IsAcceptedAnswer v)) ⊎ ((all ≡ false) × (more ≡ all)) →
      Accepts moment left_since Says Gives policy rule old new before now more
  one_more may_leave only_now Gave Gives policy rule old mid new before out now all more s text v came keeps same takes' (line, said, put) run' both =
      let d = s.0 in
      let many : length d.answers ≡ length d.texts = as_many (kinds_in old) (kept_in old) d.texts policy rule d.answers (kept_in mid) d.takes in
      let longer : length (d.texts ++ text ∷ []) ≡ length d.texts + 1 = length-append d.texts (text ∷ []) in
      let takes = subst (λ (k : Kinds). Answers k (kept_in mid) text policy rule v (kept_in new)) d.kinds takes' in
      let run = subst (λ (k : Kinds). LeavesOnly moment left_since mid.journal.device new.journal.device (KeepsEither k (kept_in mid) (kept_in new))) d.kinds run' in
      let each = answers_more (kinds_in old) (kept_in old) d.texts policy rule d.answers (kept_in mid) text v (kept_in new) d.takes takes in
      let as_lines : length d.lines ≡ length d.texts = lines_as_many Says (kinds_in old) (kept_in old) d.texts policy rule d.answers d.lines (kept_in mid) d.says in
      let more_lines : length (d.lines ++ line ∷ []) ≡ length d.lines + 1 = length-append d.lines (line ∷ []) in
      let written = puts_more before d.lines out line now d.flushed put in (
        record {
          texts = d.texts ++ text ∷ [];
          answers = d.answers ++ v ∷ [];
          lines = d.lines ++ line ∷ [];
          came = came;
          kinds = same ∙ d.kinds;
          takes = each;
          says = says_more Says (kinds_in old) (kept_in old) d.texts policy rule d.answers d.lines (kept_in mid) text v line (kept_in new) d.says takes said;
          bytes = subst (λ (l : List ℕ). Appends before.contents now.contents l) (sym (lines_more d.lines line))
              (Appends-trans before.contents out.contents now.contents (concat d.lines) line d.bytes put.bytes);
          flushed = written;
          any_moment = followed moment left_since old.journal.device mid.journal.device new.journal.device (KeepsFirst (kinds_in old) (kept_in old) (d.texts ++ text ∷ []) policy rule (d.answers ++ v ∷ []))
              (weakened moment left_since old.journal.device mid.journal.device _ _ (first_of_more (kinds_in old) (kept_in old) d.texts policy rule d.answers text v) d.any_moment)
              (weakened moment left_since mid.journal.device new.journal.device _ _ (either_is_first (kinds_in old) (kept_in old) d.texts policy rule d.answers (kept_in mid) text v (kept_in new) d.takes takes) run);
          behind = λ count le. ⊎_elim
              (λ more_than. behind_all moment left_since policy rule old before may_leave only_now new now (d.texts ++ text ∷ []) (d.answers ++ v ∷ []) (d.lines ++ line ∷ []) count
              (omega (arith, longer, more_lines, as_lines)) (omega (arith, longer, more_than)) (same ∙ d.kinds) each written keeps)
              (λ most. behind_more moment left_since policy rule old before mid new out now d.texts d.answers d.lines text v line count most many as_lines (d.behind count most) takes put run)
              (cases_lt (length d.texts) count);
        },
        all_more IsAcceptedAnswer all more d.answers v s.1 both,
      )

  -- a checkpoint was made, or tried
  pub settled : (Gave : List (List ℕ) → Type 0) (policy : Policy) (rule : BundleRule) (old mid new : Store D) (before now : Output) (all : Bool)
      (s : Accepts moment left_since Says Gave policy rule old mid before now all) → new.repo ≡ mid.repo → new.base ≡ mid.base → kinds_in new ≡ kinds_in mid →
      LeavesOnly moment left_since mid.journal.device new.journal.device (λ file. KeepsRepo (kinds_in mid) file (kept_in mid)) →
      Accepts moment left_since Says Gave policy rule old new before now all
  settled Gave policy rule old mid new before now all s same base kinds run' =
      let d = s.0 in
      let run = subst (λ (k : Kinds). LeavesOnly moment left_since mid.journal.device new.journal.device (λ file. KeepsRepo k file (kept_in mid))) d.kinds run' in (
        record {
          texts = d.texts;
          answers = d.answers;
          lines = d.lines;
          came = d.came;
          kinds = kinds ∙ d.kinds;
          takes = subst (λ (r : Kept). AnswersEach (kinds_in old) (kept_in old) d.texts policy rule d.answers r) (sym (ap₂ kept_as base (ap (λ r. r.patches) same))) d.takes;
          says = subst (λ (r : Kept). SaysEach Says (kinds_in old) (kept_in old) d.texts policy rule d.answers d.lines r) (sym (ap₂ kept_as base (ap (λ r. r.patches) same))) d.says;
          bytes = d.bytes;
          flushed = d.flushed;
          any_moment = followed moment left_since old.journal.device mid.journal.device new.journal.device (KeepsFirst (kinds_in old) (kept_in old) d.texts policy rule d.answers)
              d.any_moment
              (weakened moment left_since mid.journal.device new.journal.device _ _ (λ c keeps. all_are_first (kinds_in old) (kept_in old) d.texts policy rule d.answers (kept_in mid) c d.takes keeps) run);
          behind = λ count le. behind_settled moment left_since policy rule old before mid new now d.texts d.answers d.lines count (ap₂ kept_as base (ap (λ r. r.patches) same)) (d.behind count le) run;
        },
        s.1,
      )

  -- no text more
  pub no_more : (Gave Gives : List (List ℕ) → Type 0) (policy : Policy) (rule : BundleRule) (old new : Store D) (before now : Output) (all : Bool) (s : Accepts moment left_since Says Gave policy rule old new before now all) →
      Gives s.0.texts → Accepts moment left_since Says Gives policy rule old new before now all
  no_more Gave Gives policy rule old new before now all s came = (
    record {
      texts = s.0.texts;
      answers = s.0.answers;
      lines = s.0.lines;
      came = came;
      kinds = s.0.kinds;
      takes = s.0.takes;
      says = s.0.says;
      bytes = s.0.bytes;
      flushed = s.0.flushed;
      any_moment = s.0.any_moment;
      behind = s.0.behind;
    },
    s.1,
  )

  -- a crash leaves what some of them leave
  pub keeps_some : (Gave : List (List ℕ) → Type 0) (policy : Policy) (rule : BundleRule) (old new : Store D) (before now : Output) (d : Delivers moment left_since Says Gave policy rule old new before now) →
      LeavesOnly moment left_since old.journal.device new.journal.device (KeepsSome Gave (kinds_in old) (kept_in old) policy rule)
  keeps_some Gave policy rule old new before now d =
      weakened moment left_since old.journal.device new.journal.device (KeepsFirst (kinds_in old) (kept_in old) d.texts policy rule d.answers) (KeepsSome Gave (kinds_in old) (kept_in old) policy rule) (λ c k. (d.texts, d.answers, d.came, k)) d.any_moment

  -- so it does after the last, which isn't answered
  pub unanswered_keeps_some : (Gave Gives : List (List ℕ) → Type 0) (policy : Policy) (rule : BundleRule) (old mid new : Store D) (before out : Output) (d : Delivers moment left_since Says Gave policy rule old mid before out)
      (text : List ℕ) → Gives (d.texts ++ text ∷ []) → LeavesOnly moment left_since mid.journal.device new.journal.device (KeepsAnswered (kinds_in mid) (kept_in mid) text policy rule) →
      LeavesOnly moment left_since old.journal.device new.journal.device (KeepsSome Gives (kinds_in old) (kept_in old) policy rule)
  unanswered_keeps_some Gave Gives policy rule old mid new before out d text came run' =
      let run = subst (λ (k : Kinds). LeavesOnly moment left_since mid.journal.device new.journal.device (KeepsAnswered k (kept_in mid) text policy rule)) d.kinds run' in
      followed moment left_since old.journal.device mid.journal.device new.journal.device (KeepsSome Gives (kinds_in old) (kept_in old) policy rule)
      (weakened moment left_since old.journal.device mid.journal.device (KeepsFirst (kinds_in old) (kept_in old) d.texts policy rule d.answers) (KeepsSome Gives (kinds_in old) (kept_in old) policy rule)
      (λ c k. (d.texts ++ text ∷ [], d.answers ++ Verdict NothingNew ∷ [], came, first_of_more (kinds_in old) (kept_in old) d.texts policy rule d.answers text (Verdict NothingNew) c k)) d.any_moment)
      (weakened moment left_since mid.journal.device new.journal.device (KeepsAnswered (kinds_in old) (kept_in mid) text policy rule) (KeepsSome Gives (kinds_in old) (kept_in old) policy rule)
      (λ c k. let u = unanswered_is_first (kinds_in old) (kept_in old) d.texts policy rule d.answers (kept_in mid) text d.takes c k in (d.texts ++ text ∷ [], u.0, came, u.1)) run)

  -- all but the last are answered
  pub but_last : (seen : D → List ℕ) (faults : D → ℕ) (Gave Gives : List (List ℕ) → Type 0) (policy : Policy) (rule : BundleRule) (error : AnswerError) (old mid new : Store D) (before out now : Output)
      (d : Delivers moment left_since Says Gave policy rule old mid before out) (text : List ℕ) → Gives (d.texts ++ text ∷ []) → kinds_in new ≡ kinds_in mid →
      LeavesUnanswered Says error (kinds_in mid) (kept_in mid) text policy rule (kept_in new) out now →
      LeavesOnly moment left_since mid.journal.device new.journal.device (KeepsAnswered (kinds_in mid) (kept_in mid) text policy rule) →
      (error ≡ OfStore (WritingDevice Failed) → faults mid.journal.device < faults new.journal.device) → (error ≡ OfStore TooLong → ⊥) →
      (error ≡ OfStore Full → 2 ^ 62 < length (seen mid.journal.device)) →
      DeliversButLast seen moment left_since faults Says Gives policy rule error old new before now
  but_last seen faults Gave Gives policy rule error old mid new before out now d text came kinds unanswered run failed fits full = record {
    last = text;
    mid = mid;
    written = out;
    delivered = record { texts = d.texts; answers = d.answers; lines = d.lines; came = came; kinds = d.kinds; takes = d.takes; says = d.says; bytes = d.bytes; flushed = d.flushed; any_moment = d.any_moment; behind = d.behind };
    kinds = kinds;
    unanswered = unanswered;
    any_moment = run;
    failed = failed;
    not_too_long = fits;
    full = full;
  }

  -- all but the last are answered, and a checkpoint failed
  pub checkpoint_failed : (faults : D → ℕ) (Gave Gives : List (List ℕ) → Type 0) (policy : Policy) (rule : BundleRule) (error : WriteError) (old mid new : Store D) (before now : Output)
      (d : Delivers moment left_since Says Gave policy rule old mid before now) (text : List ℕ) → Gives (d.texts ++ text ∷ []) → new.repo ≡ mid.repo → new.base ≡ mid.base → kinds_in new ≡ kinds_in mid →
      LeavesOnly moment left_since mid.journal.device new.journal.device (λ file. KeepsRepo (kinds_in mid) file (kept_in mid)) →
      (IsFailure error → faults mid.journal.device < faults new.journal.device) → (error ≢ TooLong) × (error ≢ Full) →
      DeliversAllBut moment left_since faults Says Gives policy rule error old new before now
  checkpoint_failed faults Gave Gives policy rule error old mid new before now d text came same base kinds run failed kind = record {
    last = text;
    mid = mid;
    delivered = record { texts = d.texts; answers = d.answers; lines = d.lines; came = came; kinds = d.kinds; takes = d.takes; says = d.says; bytes = d.bytes; flushed = d.flushed; any_moment = d.any_moment; behind = d.behind };
    same = same;
    base = base;
    kinds = kinds;
    any_moment = run;
    failed = failed;
    kind = kind;
  }

  -- a crash by then leaves what some of them leave
  pub checkpoint_keeps_some : (Gave Gives : List (List ℕ) → Type 0) (policy : Policy) (rule : BundleRule) (old mid new : Store D) (before now : Output)
      (d : Delivers moment left_since Says Gave policy rule old mid before now) (text : List ℕ) → Gives (d.texts ++ text ∷ []) →
      LeavesOnly moment left_since mid.journal.device new.journal.device (λ file. KeepsRepo (kinds_in mid) file (kept_in mid)) →
      LeavesOnly moment left_since old.journal.device new.journal.device (KeepsSome Gives (kinds_in old) (kept_in old) policy rule)
  checkpoint_keeps_some Gave Gives policy rule old mid new before now d text came run =
      unanswered_keeps_some Gave Gives policy rule old mid new before now d text came
      (weakened moment left_since mid.journal.device new.journal.device _ _ (λ c keeps. inl keeps) run)
