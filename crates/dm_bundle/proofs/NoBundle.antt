-- Where a text has a fault that says so, it has no bundle.
use Rattle.std.proofs.Common.{ℕ, List, [], ◌∷◌, ◌++◌, drop, refl, sym, subst}
use Rattle.std.specs.Prelude.{Contains}
use Rattle.std.proofs.lemmas.List.{map-append}
use Rattle.std.proofs.lemmas.List.Elements.{Contains-append_right}
use Rattle.dm_info.specs.PatchInfo.{PatchInfo}
use Rattle.dm_info.specs.Spelling.{Stands}
use Rattle.dm_info.proofs.SpellingLemmas.{one_info, stands_opens}
use Rattle.dm_named.specs.Words.{skipped, Word, Begins}
use Rattle.dm_named.specs.Many.{Many}
use Rattle.dm_named.specs.Patches.{Patch, PatchTextIn, NextInfo}
use Rattle.dm_named.specs.Faults.{ExcludesPatch}
use Rattle.dm_named.specs.declared.fault.FaultKind.{FaultKind}
use Rattle.dm_named.specs.declared.limits.Limits.{Limits}
use Rattle.dm_named.proofs.WordLemmas.{one_word}
use Rattle.dm_named.proofs.ManyLemmas.{many_follows}
use Rattle.dm_named.proofs.NoPatch.{no_info, no_patch}
use Rattle.dm_bundle.specs.Patches.{infos_of, Distinct, NextPatch}
use Rattle.dm_bundle.specs.Context.{context_word, ContextWord, AreDisjoint, Context}
use Rattle.dm_bundle.specs.Bundles.{Contents, Sections, BundleTextIn}
use Rattle.dm_bundle.specs.Faults.{DueFaultWithin, no_context, too_many, doubled, in_patch, too_many_replaces, no_memory, NewPatchesFaultWithin, ContextInfoFaultAt, in_info, ContextFaultAt, AfterHeadingFaultWithin, in_new, in_context, FaultWithin, too_large, no_new_patches, after_heading, ExcludesBundle}
use Rattle.dm_bundle.proofs.Members.{here, distinct_at}
use Rattle.dm_bundle.proofs.OneBundle.{one_heading, word_opens, patches_follow, one_patches}

-- what is at fault is neither a further patch nor the word of the context
no_due : (limits : Limits) (kind : FaultKind) (ps : List Patch) (text here : List ℕ) → ExcludesPatch kind → DueFaultWithin limits kind ps text here
    → ((rest : List ℕ) → Word text context_word rest → ⊥) × ((p : Patch) (after : List ℕ) → PatchTextIn limits.kinds text p after → (Contains (infos_of ps) p.info → ⊥) → ⊥)
no_due limits kind ps text here k (no_context e h info word) = (word, λ p after t none. info (stands_opens text p.info t.after t.info))
no_due limits kind ps text here k (too_many e h b n) = absurd (k.count e)
no_due limits kind ps text here k (doubled e h room d) = (
  λ rest w. word_opens text rest w (stands_opens text d.info d.rest d.stands),
  λ p after t none. none (subst (Contains (infos_of ps)) (one_info text d.info p.info d.rest t.after d.stands t.info).0 d.is_known),
)
no_due limits kind ps text here k (in_patch b room none f) = (
  λ rest w. word_opens text rest w b,
  λ p after t _. no_patch limits kind text here k f p after t,
)
no_due limits kind ps text here k (too_many_replaces e room none r) = absurd (k.count e)
no_due limits kind ps text here k (no_memory e) = absurd (k.memory e)

no_further : (limits : Limits) (kind : FaultKind) (ps more : List Patch) (mid rest after_word here : List ℕ) → ExcludesPatch kind → DueFaultWithin limits kind ps (skipped mid) here → Many (NextPatch limits.kinds) mid more rest → ContextWord rest after_word → Distinct (infos_of (ps ++ more)) → ⊥
no_further limits kind ps [] mid rest after_word here k f r w d = (no_due limits kind ps (skipped mid) here k f).0 after_word (subst (λ (t : List ℕ). ContextWord t after_word) (sym r) w)
no_further limits kind ps (p ∷ more) mid rest after_word here k f r w d =
    (no_due limits kind ps (skipped mid) here k f).1 p r.0 r.1 (λ h. distinct_at (infos_of ps) p.info (infos_of more) (subst Distinct (map-append (λ (q : Patch). q.info) ps (p ∷ more)) d) h)

no_new : (limits : Limits) (kind : FaultKind) (text here : List ℕ) → ExcludesPatch kind → NewPatchesFaultWithin limits kind text here → (b : Contents) → Sections limits.kinds text b → ⊥
no_new limits kind text here k f b s =
    let m = patches_follow limits.kinds text f.patches b.patches f.mid s.between s.after_word f.read.read s.patches.read s.word in
    no_further limits kind f.patches m.0 f.mid s.between s.after_word here k f.wrong m.2 s.word (subst (λ (ps : List Patch). Distinct (infos_of ps)) m.1 s.patches.distinct)

-- ---- the context

no_known : (kind : FaultKind) (new : List PatchInfo) (text here : List ℕ) → ExcludesPatch kind → ContextInfoFaultAt kind new text here → Begins 91 text × ((i : PatchInfo) (after : List ℕ) → Stands text i after → (Contains new i → ⊥) → ⊥)
no_known kind new text here k (doubled e h d) = (stands_opens text d.info d.rest d.stands, λ i after s none. none (subst (Contains new) (one_info text d.info i d.rest after d.stands s).0 d.is_known))
no_known kind new text here k (in_info b f) = (b, λ i after s none. no_info kind text here k.memory f i after s)

-- a patch info of the context is none of a new patch
pub apart_at : (new is : List PatchInfo) (i : PatchInfo) (js : List PatchInfo) → AreDisjoint new (is ++ i ∷ js) → Contains new i → ⊥
apart_at new is i js a h = a i h (Contains-append_right is (i ∷ js) i (here i i js refl))

no_more : (kind : FaultKind) (new is more : List PatchInfo) (mid rest here : List ℕ) → ExcludesPatch kind → ContextInfoFaultAt kind new (skipped mid) here → Many NextInfo mid more rest → (Begins 91 (skipped rest) → ⊥) → AreDisjoint new (is ++ more) → ⊥
no_more kind new is [] mid rest here k f r ends a = ends (subst (λ (t : List ℕ). Begins 91 (skipped t)) r (no_known kind new (skipped mid) here k f).0)
no_more kind new is (i ∷ more) mid rest here k f r ends a = (no_known kind new (skipped mid) here k f).1 i r.0 r.1 (apart_at new is i more a)

no_context_text : (kind : FaultKind) (new : List PatchInfo) (text here : List ℕ) → ExcludesPatch kind → ContextFaultAt kind new text here → (context : List PatchInfo) → Context new text context → ⊥
no_context_text kind new text here k f context c =
    let m = many_follows NextInfo (λ t i j r u x y. one_info (skipped t) i j r u x y) text f.infos context f.mid c.rest f.read c.read (λ i after x. c.ends (stands_opens (skipped c.rest) i after x)) in
    no_more kind new f.infos m.0 f.mid c.rest here k f.wrong m.2 c.ends (subst (AreDisjoint new) m.1 c.apart)

pub no_sections : (limits : Limits) (kind : FaultKind) (text here : List ℕ) → ExcludesPatch kind → AfterHeadingFaultWithin limits kind text here → (b : Contents) → Sections limits.kinds text b → ⊥
no_sections limits kind text here k (in_new f) b s = no_new limits kind text here k f b s
no_sections limits kind text here k (in_context patches between after_word read few word f) b s =
    let same = one_patches limits.kinds text patches b.patches between s.between after_word s.after_word read.read s.patches.read word s.word in
    let words = one_word (skipped s.between) context_word context_word after_word s.after_word (subst (λ (t : List ℕ). ContextWord t after_word) same.1 word) s.word in
    no_context_text kind (infos_of b.patches) s.after_word here k (subst (λ (t : List ℕ). ContextFaultAt kind (infos_of b.patches) t here) words.1 (subst (λ (ps : List Patch). ContextFaultAt kind (infos_of ps) after_word here) same.0 f)) b.context s.context

pub fault_excludes_bundle : (limits : Limits) (text : List ℕ) (kind : FaultKind) (at : ℕ) → ExcludesBundle kind → FaultWithin limits text kind at → (b : Contents) → BundleTextIn limits.kinds text b → ⊥
fault_excludes_bundle limits text kind at k (too_large e h n) b t = k.size e
fault_excludes_bundle limits text kind at k (no_new_patches e h n none) b t = none t.new t.heading
fault_excludes_bundle limits text kind at k (after_heading m le n new heading f) b t = no_sections limits kind new (drop at text) (record { memory = k.memory; count = k.count }) f b (subst (λ (u : List ℕ). Sections limits.kinds u b) (one_heading text t.new new t.heading heading) t.sections)
