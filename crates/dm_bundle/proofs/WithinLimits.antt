-- A text of a bundle within the limits has no fault but out of memory.
use Rattle.std.proofs.Common.{◌≡◌, ◌≢◌, ◌≤◌, ℕ, List, [], ◌∷◌, ◌++◌, length, drop, refl, sym, subst, arith}
use Rattle.std.specs.List.{AllByRecursion}
use Rattle.std.proofs.lemmas.List.{length-append}
use Rattle.dm_info.specs.PatchInfo.{PatchInfo}
use Rattle.dm_info.proofs.SpellingLemmas.{stands_opens}
use Rattle.dm_named.specs.Many.{Many}
use Rattle.dm_named.specs.Words.{skipped}
use Rattle.dm_named.specs.Patches.{Patch}
use Rattle.dm_named.specs.declared.fault.FaultKind.{FaultKind}
use Rattle.dm_named.specs.declared.fault.FaultKind.TheVariants as K
use Rattle.dm_named.specs.declared.limits.Limits.{Limits}
use Rattle.dm_named.proofs.OnePatch.{one_patch}
use Rattle.dm_named.proofs.WithinCount.{past_patch}
use Rattle.dm_bundle.specs.Patches.{infos_of, NextPatch, HasFewReplaces, AreFewWithin}
use Rattle.dm_bundle.specs.Context.{ContextWord}
use Rattle.dm_bundle.specs.Bundles.{Contents, Sections, BundleTextIn}
use Rattle.dm_bundle.specs.Faults.{IsWithinSizeOf, DueFaultWithin, no_context, too_many, doubled, in_patch, too_many_replaces, no_memory, ContextInfoFaultAt, in_info, AfterHeadingFaultWithin, in_new, in_context, FaultWithin, too_large, no_new_patches, after_heading}
use Rattle.dm_bundle.proofs.OneBundle.{one_heading, word_opens, patches_follow}
use Rattle.dm_bundle.proofs.ReplaceLemmas.{few_up_to}
use Rattle.dm_bundle.proofs.NoBundle.{no_sections, fault_excludes_bundle}

pub few_at : (limits : Limits) (ps : List Patch) (p : Patch) (more : List Patch) → AllByRecursion (λ q. length q.prims ≤ limits.prims) (ps ++ p ∷ more) → length p.prims ≤ limits.prims
few_at limits [] p more a = a.0
few_at limits (q ∷ ps) p more a = few_at limits ps p more a.1

-- what is one too many goes past what may be there
not_due : (limits : Limits) (ps more : List Patch) (mid rest after_word here : List ℕ) → DueFaultWithin limits K.TooMany ps (skipped mid) here → Many (NextPatch limits.kinds) mid more rest → ContextWord rest after_word → AreFewWithin limits (ps ++ more) → ⊥
not_due limits ps more mid rest after_word here (no_context e h i w) r c few = cc e
not_due limits ps [] mid rest after_word here (too_many e h b n) r c few = word_opens (skipped mid) after_word (subst (λ (t : List ℕ). ContextWord t after_word) (sym r) c) b
not_due limits ps (p ∷ more) mid rest after_word here (too_many e h b n) r c few = let count = few.count in omega (arith, n, count, length-append ps (p ∷ more))
not_due limits ps more mid rest after_word here (doubled e h room d) r c few = cc e
not_due limits ps [] mid rest after_word here (in_patch b room none f) r c few = word_opens (skipped mid) after_word (subst (λ (t : List ℕ). ContextWord t after_word) (sym r) c) b
not_due limits ps (p ∷ more) mid rest after_word here (in_patch b room none f) r c few =
    let past = past_patch limits (skipped mid) here f p r.0 r.1 in
    let least = few_at limits ps p more few.prims in
    omega (arith, past, least)
not_due limits ps [] mid rest after_word here (too_many_replaces e room none f) r c few =
    word_opens (skipped mid) after_word (subst (λ (t : List ℕ). ContextWord t after_word) (sym r) c) (stands_opens (skipped mid) f.patch.info f.stands.after f.stands.info)
not_due limits ps (p ∷ more) mid rest after_word here (too_many_replaces e room none f) r c few =
    let same = (one_patch limits.kinds (skipped mid) p f.patch r.0 here r.1 f.stands).0 in
    f.many (subst (λ (q : Patch). HasFewReplaces limits (ps ++ q ∷ [])) same (few_up_to limits ps p more few.replaces))
not_due limits ps more mid rest after_word here (no_memory e) r c few = cc e

not_known : (known : List PatchInfo) (text here : List ℕ) → ContextInfoFaultAt K.TooMany known text here → ⊥
not_known known text here (doubled e h d) = cc e
not_known known text here (in_info b f) = f

not_after_heading : (limits : Limits) (text here : List ℕ) → AfterHeadingFaultWithin limits K.TooMany text here → (b : Contents) → Sections limits.kinds text b → AreFewWithin limits b.patches → ⊥
not_after_heading limits text here (in_new f) b s few =
    let m = patches_follow limits.kinds text f.patches b.patches f.mid s.between s.after_word f.read.read s.patches.read s.word in
    not_due limits f.patches m.0 f.mid s.between s.after_word here f.wrong m.2 s.word (subst (AreFewWithin limits) m.1 few)
not_after_heading limits text here (in_context patches between after_word read count word f) b s few = not_known (infos_of patches) (skipped f.mid) here f.wrong

not_too_many : (limits : Limits) (text : List ℕ) (at : ℕ) → FaultWithin limits text K.TooMany at → (b : Contents) → BundleTextIn limits.kinds text b → AreFewWithin limits b.patches → ⊥
not_too_many limits text at (too_large e h n) b t few = cc e
not_too_many limits text at (no_new_patches e h n none) b t few = cc e
not_too_many limits text at (after_heading m le n new heading f) b t few = not_after_heading limits new (drop at text) f b (subst (λ (u : List ℕ). Sections limits.kinds u b) (one_heading text t.new new t.heading heading) t.sections) few

not_too_large : (limits : Limits) (text : List ℕ) (at : ℕ) → FaultWithin limits text K.TooLarge at → (b : Contents) → BundleTextIn limits.kinds text b → IsWithinSizeOf limits text → ⊥
not_too_large limits text at (too_large e h n) b t fits = omega (arith, n, fits)
not_too_large limits text at (no_new_patches e h n none) b t fits = cc e
not_too_large limits text at (after_heading m le n new heading f) b t fits =
    no_sections limits K.TooLarge new (drop at text) (record { memory = λ e. cc; count = λ e. cc }) f b (subst (λ (u : List ℕ). Sections limits.kinds u b) (one_heading text t.new new t.heading heading) t.sections)

not_memory : (limits : Limits) (text : List ℕ) (at : ℕ) → FaultWithin limits text K.NoMemory at → ⊥
not_memory limits text at (too_large e h n) = cc e
not_memory limits text at (no_new_patches e h n none) = cc e
not_memory limits text at (after_heading m le n new heading f) = m refl

pub no_fault : (limits : Limits) (text : List ℕ) (kind : FaultKind) (at : ℕ) → FaultWithin limits text kind at → (b : Contents) → BundleTextIn limits.kinds text b → IsWithinSizeOf limits text → AreFewWithin limits b.patches → ⊥
no_fault limits text K.TooLarge at f b t fits few = not_too_large limits text at f b t fits
no_fault limits text K.TooMany at f b t fits few = not_too_many limits text at f b t few
no_fault limits text K.NoMemory at f b t fits few = not_memory limits text at f
no_fault limits text kind at f b t fits few = fault_excludes_bundle limits text kind at (record { size = λ e. cc; count = λ e. cc; memory = λ e. cc }) f b t

memory_unless : (kind : FaultKind) → (kind ≢ K.NoMemory → ⊥) → kind ≡ K.NoMemory
memory_unless K.NoMemory h = refl
memory_unless kind h = absurd (h (λ e. cc))

pub memory_alone : (limits : Limits) (text : List ℕ) (kind : FaultKind) (at : ℕ) → (kind ≢ K.NoMemory → FaultWithin limits text kind at) → (b : Contents) → BundleTextIn limits.kinds text b → IsWithinSizeOf limits text → AreFewWithin limits b.patches → kind ≡ K.NoMemory
memory_alone limits text kind at f b t fits few = memory_unless kind (λ other. no_fault limits text kind at (f other) b t fits few)
