-- What a store keeps has only its kinds of primitives.
use Rattle.std.proofs.Common.{ℕ, List, [], ◌∷◌, inl, inr, subst}
use Rattle.std.specs.List.{FoldsTo}
use Rattle.dm_named.specs.Laws.{with_kinds}
use Rattle.dm_named.specs.Limits.{standard, own}
use Rattle.dm_named.specs.declared.limits.Kinds.{Kinds}
use Rattle.dm_named.specs.Patches.{Patch}
use Rattle.dm_bundle.specs.Patches.{AreAllOf}
use Rattle.dm_repo.specs.declared.policy.Policy.TheVariants.{Refuse}
use Rattle.dm_scratch.proofs.KindLemmas.{taking_keeps_kinds}
use Rattle.dm_store.specs.Keeping.{TakesAll, TakesEntry, FoldTo, Kept, empty}
use Rattle.dm_store.specs.Laws.{KeepsItsKinds}

all_kinds : (kinds : Kinds) (kept : Kept) (text : List ℕ) (patches : List Patch) → TakesAll kinds kept text patches → AreAllOf kinds patches
all_kinds kinds kept text patches t = taking_keeps_kinds (with_kinds own kinds) [] text Refuse t.verdict patches tt t.takes

entry_kinds : (kinds : Kinds) (kept : Kept) (entry : List ℕ) (after : Kept) → AreAllOf kinds kept.patches → TakesEntry kinds kept entry after → AreAllOf kinds after.patches
entry_kinds kinds kept entry after held (inl t) = taking_keeps_kinds (with_kinds standard kinds) kept.patches t.text t.policy t.verdict after.patches held t.takes
entry_kinds kinds kept entry after held (inr (inl t)) = all_kinds kinds kept t.text after.patches t.takes
entry_kinds kinds kept entry after held (inr (inr t)) = all_kinds kinds kept t.text after.patches t.takes

folds_kinds : (kinds : Kinds) (entries : List (List ℕ)) (kept after : Kept) → AreAllOf kinds kept.patches → FoldsTo (TakesEntry kinds) kept entries after → AreAllOf kinds after.patches
folds_kinds kinds [] kept after held f = subst (λ (k : Kept). AreAllOf kinds k.patches) f held
folds_kinds kinds (x ∷ xs) kept after held f = folds_kinds kinds xs f.0 after (entry_kinds kinds kept x f.0 held f.1) f.2

pub fold_kinds : (kinds : Kinds) (entries : List (List ℕ)) (kept : Kept) → FoldTo kinds entries kept → AreAllOf kinds kept.patches
fold_kinds kinds entries kept f = folds_kinds kinds entries empty kept tt f

pub keeps_its_kinds : KeepsItsKinds
keeps_its_kinds kinds file kept k = fold_kinds kinds k.entries kept k.folds
