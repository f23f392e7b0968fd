-- Texts that are answered fold as those do that are taken.
use Rattle.std.proofs.Common.{◌≡◌, ◌∙◌, [], ◌∷◌, ap, subst}
use Rattle.dm_scratch.specs.Taking.{TakesEachIn}
use Rattle.dm_store.specs.Keeping.{Kept}
use Rattle.dm_deliver.specs.declared.answers.Answer.TheVariants.{Verdict, Hash, Date, BeforeBase}
use Rattle.dm_deliver.specs.Laws.{AnswersFold, judged_texts, verdicts_of}

pub fold_of : AnswersFold
fold_of kinds kept [] policy rule [] after e = (ap (λ k. k.patches) e, ap (λ k. k.base) e)
fold_of kinds kept [] policy rule (a ∷ answers) after e = absurd e
fold_of kinds kept (text ∷ texts) policy rule [] after e = absurd e
fold_of kinds kept (text ∷ texts) policy rule (Verdict v ∷ answers) after e =
    let rest = fold_of kinds e.0 texts policy rule answers after e.2 in
    ((e.0.patches, e.1.1, rest.0), rest.1 ∙ e.1.2)
fold_of kinds kept (text ∷ texts) policy rule (Hash f ∷ answers) after e =
    subst (λ (k : Kept). TakesEachIn kinds k.patches (judged_texts texts answers) policy (verdicts_of answers) after.patches × (after.base ≡ k.base)) e.1.1 (fold_of kinds e.0 texts policy rule answers after e.2)
fold_of kinds kept (text ∷ texts) policy rule (Date at ∷ answers) after e =
    subst (λ (k : Kept). TakesEachIn kinds k.patches (judged_texts texts answers) policy (verdicts_of answers) after.patches × (after.base ≡ k.base)) e.1.2 (fold_of kinds e.0 texts policy rule answers after e.2)
fold_of kinds kept (text ∷ texts) policy rule (BeforeBase ∷ answers) after e =
    subst (λ (k : Kept). TakesEachIn kinds k.patches (judged_texts texts answers) policy (verdicts_of answers) after.patches × (after.base ≡ k.base)) e.1.3 (fold_of kinds e.0 texts policy rule answers after e.2)
