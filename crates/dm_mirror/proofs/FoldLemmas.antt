-- Mails that are taken, and one more.
use Rattle.std.proofs.Common.{◌≡◌, ℕ, List, [], ◌∷◌, ◌++◌, Option, Some, None, sym, ap, ◌∙◌, append_assoc, append-nil}
use Rattle.std.specs.List.{flat_map}
use Rattle.dm_named.specs.Patches.{Patch}
use Rattle.dm_repo.specs.declared.policy.Policy.{Policy}
use Rattle.dm_scratch.specs.declared.verdict.Verdict.{Verdict}
use Rattle.dm_scratch.specs.Taking.{TakesEach}
use Rattle.dm_scratch.proofs.EachLemmas.{each_more}
use Rattle.dm_mail.specs.declared.mail.Mail.{Mail}
use Rattle.dm_mail.specs.declared.mail.Body.{Body}
use Rattle.dm_mail.specs.declared.mail.Body.TheVariants.{Bundle, Close}
use Rattle.dm_mirror.specs.PlainFolds.{body_texts, bundle_texts, verdict_list, verdicts_given, IsAnswered, AreAnswered, IsPlainFold, TakesBody}

flat_map-append : {A B : Type 0} (f : A → List B) (xs : List A) (x : A) → flat_map f (xs ++ x ∷ []) ≡ flat_map f xs ++ f x
flat_map-append f [] x = append-nil (f x)
flat_map-append f (y ∷ ys) x = ap (λ l. f y ++ l) (flat_map-append f ys x) ∙ sym (append_assoc (f y) (flat_map f ys) (f x))

answered_more : (ms : List Mail) (vs : List (Option Verdict)) (m : Mail) (v : Option Verdict) → AreAnswered ms vs → IsAnswered m.body v → AreAnswered (ms ++ m ∷ []) (vs ++ v ∷ [])
answered_more [] [] m v all one = (one, tt)
answered_more [] (w ∷ vs) m v all one = absurd all
answered_more (n ∷ ms) [] m v all one = absurd all
answered_more (n ∷ ms) (w ∷ vs) m v all one = (all.0, answered_more ms vs m v all.1 one)

body_answered : (repo : List Patch) (b : Body) (policy : Policy) (v : Option Verdict) (after : List Patch) → TakesBody repo b policy v after → IsAnswered b v
body_answered repo (Bundle text) policy None after t = t
body_answered repo (Bundle text) policy (Some v) after t = tt
body_answered repo Close policy None after t = tt
body_answered repo Close policy (Some v) after t = t

body_taken : (start : List Patch) (texts : List (List ℕ)) (policy : Policy) (verdicts : List Verdict) (mid : List Patch) (b : Body) (v : Option Verdict) (after : List Patch) →
    TakesEach start texts policy verdicts mid → TakesBody mid b policy v after → TakesEach start (texts ++ body_texts b) policy (verdicts ++ verdict_list v) after
body_taken start texts policy verdicts mid (Bundle text) None after each t = absurd t
body_taken start texts policy verdicts mid (Bundle text) (Some v) after each t = each_more start texts policy verdicts mid text v after each t
body_taken start texts policy verdicts mid Close None after each t = rw (append-nil texts, append-nil verdicts, t) each
body_taken start texts policy verdicts mid Close (Some v) after each t = absurd t

-- one mail more
pub fold_more : (start : List Patch) (ms : List Mail) (policy : Policy) (vs : List (Option Verdict)) (mid : List Patch) (m : Mail) (v : Option Verdict) (after : List Patch) →
    IsPlainFold start ms policy vs mid → TakesBody mid m.body policy v after → IsPlainFold start (ms ++ m ∷ []) policy (vs ++ v ∷ []) after
fold_more start ms policy vs mid m v after fold t = record {
  answered = answered_more ms vs m v fold.answered (body_answered mid m.body policy v after t);
  taken = rw (flat_map-append (λ n. body_texts n.body) ms m, flat_map-append verdict_list vs v)
      (body_taken start (bundle_texts ms) policy (verdicts_given vs) mid m.body v after fold.taken t);
}
