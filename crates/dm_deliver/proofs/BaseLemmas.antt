-- Which texts come before a base.
use Rattle.std.proofs.Common.{◌≡◌, ◌↔◌, ℕ, Bool, false, IsTrue, List, take, sym, subst, true≢false}
use Rattle.std.specs.List.{Contains}
use Rattle.dm_named.specs.Laws.{with_kinds}
use Rattle.dm_named.specs.Limits.{standard}
use Rattle.dm_named.specs.declared.limits.Kinds.{Kinds}
use Rattle.dm_named.specs.declared.limits.Limits.{Limits}
use Rattle.dm_bundle.specs.Patches.{infos_of}
use Rattle.dm_bundle.specs.Bundles.{Contents, BundleTextIn}
use Rattle.dm_bundle.proofs.Members.{none_of}
use Rattle.dm_begin.specs.Bases.{IsBeforeBase}
use Rattle.dm_scratch.specs.Taking.{ReadsWithin}
use Rattle.dm_store.specs.Keeping.{Kept}
use Rattle.dm_deliver.specs.Answering.{IsTextBeforeBase}
use Rattle.dm_deliver.specs.Hashes.{IsNoBundle}

-- where there is no base no text comes before it
pub before_none : (kinds : Kinds) (kept : Kept) (text : List ℕ) → kept.base ≡ 0 → IsTrue false ↔ IsTextBeforeBase kinds kept text
before_none kinds kept text none = (
  λ t. absurd (true≢false (sym t)),
  λ before. absurd (before.2.lacks (λ i among. absurd (none_of i (subst (λ (m : ℕ). Contains (infos_of (take m kept.patches)) i) none among)))),
)

-- nor does one that is no bundle
pub no_bundle_before : (kinds : Kinds) (limits : Limits) → limits ≡ with_kinds standard kinds → (kept : Kept) (text : List ℕ) → IsNoBundle limits text → IsTrue false ↔ IsTextBeforeBase kinds kept text
no_bundle_before kinds limits are kept text none =
    (λ t. absurd (true≢false (sym t)), λ before. absurd (none before.0 (subst (λ (l : Limits). ReadsWithin l text before.0) (sym are) before.1)))

-- a bundle's text comes before the base where the bundle does
pub as_the_bundle : (kinds : Kinds) (limits : Limits) → limits ≡ with_kinds standard kinds → (kept : Kept) (text : List ℕ) (b : Contents) (is_before : Bool) → ReadsWithin limits text b →
    ((c : Contents) → BundleTextIn limits.kinds text c → b ≡ c) → IsTrue is_before ↔ IsBeforeBase kept.patches kept.base b → IsTrue is_before ↔ IsTextBeforeBase kinds kept text
as_the_bundle kinds limits are kept text b is_before reads only same = (
  λ so. (b, subst (λ (l : Limits). ReadsWithin l text b) are reads, same.0 so),
  λ before. same.1 (subst (λ (c : Contents). IsBeforeBase kept.patches kept.base c)
      (sym (only before.0 (subst (λ (l : Limits). ReadsWithin l text before.0) (sym are) before.1).stands)) before.2),
)
