-- What holds of all texts that are answered.
use Rattle.std.specs.Prelude.{◌≡◌, ℕ, List, [], ◌∷◌}
use Rattle.dm_named.specs.declared.limits.Kinds.{Kinds}
use Rattle.dm_repo.specs.declared.policy.Policy.{Policy}
use Rattle.dm_scratch.specs.declared.verdict.Verdict.{Verdict as Judged}
use Rattle.dm_scratch.specs.Taking.{TakesEachIn}
use Rattle.dm_deliver.specs.declared.answers.Answer.{Answer}
use Rattle.dm_deliver.specs.declared.answers.Answer.TheVariants.{Verdict, Hash, Date, BeforeBase}
use Rattle.dm_deliver.specs.declared.bundle_rule.BundleRule.{BundleRule}
use Rattle.dm_store.specs.Keeping.{Kept}
use Rattle.dm_deliver.specs.Answering.{AnswersEach}

-- the texts that were answered by a verdict
abbrev pub judged_texts : List (List ℕ) → List Answer → List (List ℕ)
judged_texts [] answers = []
judged_texts (text ∷ texts) [] = []
judged_texts (text ∷ texts) (Verdict verdict ∷ answers) = text ∷ judged_texts texts answers
judged_texts (text ∷ texts) (Hash fault ∷ answers) = judged_texts texts answers
judged_texts (text ∷ texts) (Date at ∷ answers) = judged_texts texts answers
judged_texts (text ∷ texts) (BeforeBase ∷ answers) = judged_texts texts answers

-- the verdicts among the answers
abbrev pub verdicts_of : List Answer → List Judged
verdicts_of [] = []
verdicts_of (Verdict verdict ∷ answers) = verdict ∷ verdicts_of answers
verdicts_of (Hash fault ∷ answers) = verdicts_of answers
verdicts_of (Date at ∷ answers) = verdicts_of answers
verdicts_of (BeforeBase ∷ answers) = verdicts_of answers

-- texts that are answered leave what those of them leave, taken in turn, that were answered by a verdict; the base stays
abbrev pub AnswersFold : Type 0
AnswersFold = (kinds : Kinds) (kept : Kept) (texts : List (List ℕ)) (policy : Policy) (rule : BundleRule) (answers : List Answer) (after : Kept) →
    AnswersEach kinds kept texts policy rule answers after →
    TakesEachIn kinds kept.patches (judged_texts texts answers) policy (verdicts_of answers) after.patches × (after.base ≡ kept.base)
