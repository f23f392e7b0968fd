-- Taking has one outcome: one verdict, and one repository afterwards.
use Rattle.std.proofs.Common.{◌≡◌, arith, ℕ, zero, suc, ◌<◌, List, [], ◌∷◌, ◌++◌, length, refl, sym, subst, ap, ap₂, ◌∙◌}
use Rattle.dm_named.specs.Limits.{standard}
use Rattle.dm_named.specs.declared.fault.ReadFault.{ReadFault}
use Rattle.dm_named.specs.Patches.{Patch}
use Rattle.dm_bundle.specs.Bundles.{Contents}
use Rattle.dm_bundle.proofs.OneBundle.{one_bundle}
use Rattle.dm_bundle.proofs.OneFault.{one_fault}
use Rattle.dm_bundle.proofs.WithinLimits.{no_fault}
use Rattle.dm_repo.specs.declared.policy.Policy.{Policy}
use Rattle.dm_repo.specs.Laws.{Answer, AnswersWeighing}
use Rattle.dm_repo.specs.Laws as weighing
use Rattle.dm_repo.proofs.OneAnswer.{weighing_one}
use Rattle.dm_scratch.specs.declared.verdict.Verdict.{Verdict}
use Rattle.dm_scratch.specs.declared.verdict.Verdict.TheVariants.{Taken, TakenSome, NothingNew, Malformed, Refused}
use Rattle.dm_scratch.specs.Taking.{Appended, TakesBundle, bundle, malformed, no_memory, TakesEach}
use Rattle.dm_scratch.specs.Laws.{TakingABundleHasOneOutcome, TakingHasOneOutcome, TakingEachHasOneOutcome}

-- the verdict that an answer to weighing becomes, and the repository that it leaves
abbrev verdict_of : Answer → Verdict
verdict_of (weighing.Refused why) = Refused why
verdict_of weighing.NothingNew = NothingNew
verdict_of (weighing.Merged merged zero) = Taken (length merged)
verdict_of (weighing.Merged merged (suc n)) = TakenSome (length merged) (suc n)

abbrev after_of : List Patch → Answer → List Patch
after_of repo (weighing.Refused why) = repo
after_of repo weighing.NothingNew = repo
after_of repo (weighing.Merged merged skipped) = repo ++ merged

-- the answer that a verdict comes of
record ComesOf (repo : List Patch) (b : Contents) (policy : Policy) (v : Verdict) (after : List Patch) : Type 0 where
  answer : Answer
  answers : AnswersWeighing repo b policy answer
  verdict_is : v ≡ verdict_of answer
  after_is : after ≡ after_of repo answer

some_of : (repo : List Patch) (b : Contents) (policy : Policy) (count skipped : ℕ) (after : List Patch) → Appended repo b policy count skipped after → 0 < skipped →
    ComesOf repo b policy (TakenSome count skipped) after
some_of repo b policy count zero after t some = absurd (omega (arith, some))
some_of repo b policy count (suc n) after t some =
    record { answer = weighing.Merged t.merged (suc n); answers = t.is_merge; verdict_is = ap (λ k. TakenSome k (suc n)) t.counted; after_is = t.appended }

comes_of : (repo : List Patch) (b : Contents) (policy : Policy) (v : Verdict) (after : List Patch) → TakesBundle repo b policy v after → ComesOf repo b policy v after
comes_of repo b policy (Taken count) after t = record { answer = weighing.Merged t.merged 0; answers = t.is_merge; verdict_is = ap Taken t.counted; after_is = t.appended }
comes_of repo b policy (TakenSome count skipped) after t = some_of repo b policy count skipped after t.0 t.2
comes_of repo b policy NothingNew after t = record { answer = weighing.NothingNew; answers = t.0; verdict_is = refl; after_is = t.1 }
comes_of repo b policy (Refused why) after t = record { answer = weighing.Refused why; answers = t.0; verdict_is = refl; after_is = t.1 }
comes_of repo b policy (Malformed fault) after t = absurd t

pub taking_a_bundle_one : TakingABundleHasOneOutcome
taking_a_bundle_one repo b policy v w after later m n s t =
    let x = comes_of repo b policy v after s in
    let y = comes_of repo b policy w later t in
    let e = weighing_one repo b policy x.answer y.answer (λ i. m (x.verdict_is ∙ ap verdict_of i)) (λ i. n (y.verdict_is ∙ ap verdict_of i)) x.answers y.answers in
    (x.verdict_is ∙ ap verdict_of e ∙ sym y.verdict_is, x.after_is ∙ ap (after_of repo) e ∙ sym y.after_is)

same_fault : (f g : ReadFault) → (f.kind ≡ g.kind) × (f.at ≡ g.at) → f ≡ g
same_fault f g (e, h) = λ i. record { kind = e i; at = h i }

pub taking_one : TakingHasOneOutcome
taking_one limits repo text policy v w after later m n (no_memory p a) t = absurd (m p)
taking_one limits repo text policy v w after later m n s (no_memory p a) = absurd (n p)
taking_one limits repo text policy v w after later m n (bundle b r s) (bundle c q t) =
    let e : b ≡ c = one_bundle limits.kinds text b c r.stands q.stands in
    taking_a_bundle_one repo b policy v w after later m n s (subst (λ (d : Contents). TakesBundle repo d policy w later) (sym e) t)
taking_one limits repo text policy v w after later m n (bundle b r s) (malformed f at p a) = absurd (no_fault limits text f.kind f.at at b r.stands r.small r.few)
taking_one limits repo text policy v w after later m n (malformed f at p a) (bundle b r s) = absurd (no_fault limits text f.kind f.at at b r.stands r.small r.few)
taking_one limits repo text policy v w after later m n (malformed f at p a) (malformed g there q c) =
    (p ∙ ap Malformed (same_fault f g (one_fault limits text f.kind g.kind f.at g.at at there)) ∙ sym q, a ∙ sym c)

pub taking_each_one : TakingEachHasOneOutcome
taking_each_one repo [] policy [] [] after later m n s t = (refl, s ∙ sym t)
taking_each_one repo [] policy [] (w ∷ ws) after later m n s t = absurd t
taking_each_one repo [] policy (v ∷ vs) ws after later m n s t = absurd s
taking_each_one repo (x ∷ xs) policy [] ws after later m n s t = absurd s
taking_each_one repo (x ∷ xs) policy (v ∷ vs) [] after later m n s t = absurd t
taking_each_one repo (x ∷ xs) policy (v ∷ vs) (w ∷ ws) after later m n s t =
    let e = taking_one standard repo x policy v w s.0 t.0 m.0 n.0 s.1 t.1 in
    let r = taking_each_one s.0 xs policy vs ws after later m.1 n.1 s.2 (subst (λ (next : List Patch). TakesEach next xs policy ws later) (sym e.1) t.2) in
    (ap₂ (λ a b. a ∷ b) e.0 r.0, r.1)
