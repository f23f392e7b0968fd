-- What a store keeps may have the base that it tells.
use Rattle.std.proofs.Common.{◌≡◌, ℕ, List, [], ◌∷◌, ◌++◌, inl, inr, sym, subst, ◌∙◌, append-nil}
use Rattle.std.specs.List.{FoldsTo}
use Rattle.dm_named.specs.declared.limits.Kinds.{Kinds}
use Rattle.dm_named.specs.Patches.{Patch}
use Rattle.dm_begin.specs.Bases.{MayHaveBase}
use Rattle.dm_begin.proofs.FormLemmas.{base_stays, form_may, no_base}
use Rattle.dm_repo.specs.declared.policy.Policy.{Policy}
use Rattle.dm_scratch.specs.declared.verdict.Verdict.{Verdict}
use Rattle.dm_scratch.specs.declared.verdict.Verdict.TheVariants.{Taken, TakenSome, NothingNew, Malformed, Refused}
use Rattle.dm_scratch.specs.Taking.{TakesIn, bundle, malformed, no_memory}
use Rattle.dm_store.specs.Keeping.{HasTaken, TakesEntry, FoldTo, Kept, empty}
use Rattle.dm_store.specs.Laws.{KeepsABase}

-- taking a text appends
pub appends : (kinds : Kinds) (repo : List Patch) (text : List ℕ) (policy : Policy) (v : Verdict) (after : List Patch) → TakesIn kinds repo text policy v after → (more : List Patch) × (after ≡ repo ++ more)
appends kinds repo text policy (Taken count) after (bundle b r t) = (t.merged, t.appended)
appends kinds repo text policy (TakenSome count skipped) after (bundle b r t) = (t.0.merged, t.0.appended)
appends kinds repo text policy NothingNew after (bundle b r t) = ([], t.1 ∙ sym (append-nil repo))
appends kinds repo text policy (Malformed fault) after (bundle b r t) = absurd t
appends kinds repo text policy (Refused why) after (bundle b r t) = ([], t.1 ∙ sym (append-nil repo))
appends kinds repo text policy v after (malformed f at e same) = ([], same ∙ sym (append-nil repo))
appends kinds repo text policy v after (no_memory e same) = ([], same ∙ sym (append-nil repo))

entry_base : (kinds : Kinds) (kept : Kept) (entry : List ℕ) (after : Kept) → MayHaveBase kept.patches kept.base → TakesEntry kinds kept entry after → MayHaveBase after.patches after.base
entry_base kinds kept entry after may (inl t) =
    let a = appends kinds kept.patches t.text t.policy t.verdict after.patches t.takes in
    let m = (base_stays kept.patches a.0 kept.base may).0 in
    subst (λ (n : ℕ). MayHaveBase after.patches n) (sym t.same) (subst (λ (l : List Patch). MayHaveBase l kept.base) (sym a.1) m)
entry_base kinds kept entry after may (inr (inl t)) = form_may after.patches after.base t.begins
entry_base kinds kept entry after may (inr (inr t)) = t.may

folds_base : (kinds : Kinds) (entries : List (List ℕ)) (kept after : Kept) → MayHaveBase kept.patches kept.base → FoldsTo (TakesEntry kinds) kept entries after → MayHaveBase after.patches after.base
folds_base kinds [] kept after may f = subst (λ (k : Kept). MayHaveBase k.patches k.base) f may
folds_base kinds (x ∷ xs) kept after may f = folds_base kinds xs f.0 after (entry_base kinds kept x f.0 may f.1) f.2

pub fold_base : (kinds : Kinds) (entries : List (List ℕ)) (kept : Kept) → FoldTo kinds entries kept → MayHaveBase kept.patches kept.base
fold_base kinds entries kept f = folds_base kinds entries empty kept (no_base []) f

pub keeps_a_base : KeepsABase
keeps_a_base kinds file kept k = fold_base kinds k.entries kept k.folds
