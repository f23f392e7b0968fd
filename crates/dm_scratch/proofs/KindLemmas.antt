-- What is taken has only the kinds of primitives that are read.
use Rattle.std.proofs.Common.{ℕ, List, [], ◌∷◌, ◌++◌}
use Rattle.std.specs.List.{AllByRecursion}
use Rattle.dm_named.specs.declared.limits.Kinds.{Kinds}
use Rattle.dm_named.specs.Patches.{Patch}
use Rattle.dm_bundle.specs.Bundles.{Contents}
use Rattle.dm_bundle.specs.Patches.{AreAllOf}
use Rattle.dm_bundle.proofs.ChosenKinds.{bundle_chosen}
use Rattle.dm_repo.specs.declared.policy.Policy.{Policy}
use Rattle.dm_repo.proofs.KindLemmas.{merge_keeps_kinds}
use Rattle.dm_scratch.specs.declared.verdict.Verdict.{Verdict}
use Rattle.dm_scratch.specs.declared.verdict.Verdict.TheVariants.{Taken, TakenSome, NothingNew, Malformed, Refused}
use Rattle.dm_scratch.specs.Taking.{Appended, TakesBundle, bundle, malformed, no_memory}
use Rattle.dm_scratch.specs.Laws.{TakingKeepsKinds}

all_append : {X : Type 0} (Q : X → Type 0) (xs ys : List X) → AllByRecursion Q xs → AllByRecursion Q ys → AllByRecursion Q (xs ++ ys)
all_append Q [] ys a b = b
all_append Q (x ∷ xs) ys a b = (a.0, all_append Q xs ys a.1 b)

appended_kinds : (kinds : Kinds) {repo after : List Patch} {b : Contents} {policy : Policy} {count skipped : ℕ} → AreAllOf kinds repo → AreAllOf kinds b.patches → Appended repo b policy count skipped after → AreAllOf kinds after
appended_kinds kinds {repo} {b} {policy} {skipped} held new t = rw t.appended (all_append _ repo t.merged held (merge_keeps_kinds kinds repo b policy t.merged skipped new t.is_merge))

bundle_kinds : (kinds : Kinds) (repo : List Patch) (b : Contents) (policy : Policy) (v : Verdict) (after : List Patch) → AreAllOf kinds repo → AreAllOf kinds b.patches → TakesBundle repo b policy v after → AreAllOf kinds after
bundle_kinds kinds repo b policy (Taken count) after held new t = appended_kinds kinds held new t
bundle_kinds kinds repo b policy (TakenSome count skipped) after held new t = appended_kinds kinds held new t.0
bundle_kinds kinds repo b policy NothingNew after held new t = rw t.1 held
bundle_kinds kinds repo b policy (Refused why) after held new t = rw t.1 held
bundle_kinds kinds repo b policy (Malformed fault) after held new t = absurd t

pub taking_keeps_kinds : TakingKeepsKinds
taking_keeps_kinds limits repo text policy v after held (bundle b r t) = bundle_kinds limits.kinds repo b policy v after held ((bundle_chosen limits.kinds text b).0 r.stands).1 t
taking_keeps_kinds limits repo text policy v after held (malformed f at e same) = rw same held
taking_keeps_kinds limits repo text policy v after held (no_memory e same) = rw same held
