-- A text has at most one fault.
use Rattle.std.proofs.Common.{◌≡◌, ◌≤◌, ℕ, List, [], ◌∷◌, ◌++◌, length, drop, sym, ap, subst, ◌∙◌, arith, inl, inr}
use Rattle.std.specs.Prelude.{◌≢◌, Contains}
use Rattle.std.proofs.lemmas.List.{length-append, length-drop, map-append}
use Rattle.dm_info.specs.PatchInfo.{PatchInfo}
use Rattle.dm_info.specs.Spelling.{Stands}
use Rattle.dm_info.proofs.SpellingLemmas.{one_info, stands_opens}
use Rattle.dm_named.specs.Many.{Many}
use Rattle.dm_named.specs.Words.{skipped, Word, Begins}
use Rattle.dm_named.specs.Patches.{Patch, PatchTextIn, NextInfo}
use Rattle.dm_named.specs.declared.fault.FaultKind.{FaultKind}
use Rattle.dm_named.specs.declared.fault.FaultKind.TheVariants as K
use Rattle.dm_named.specs.declared.limits.Limits.{Limits}
use Rattle.dm_named.proofs.WordLemmas.{one_word}
use Rattle.dm_named.proofs.ManyLemmas.{GoesOn, meet}
use Rattle.dm_named.proofs.NoPatch.{no_info}
use Rattle.dm_named.proofs.OnePatch.{one_patch}
use Rattle.dm_named.proofs.OneFault.{Same, both, one_info_fault, one_info_next, one_patch_fault}
use Rattle.dm_named.proofs.WithinCount.{memory_alone}
use Rattle.dm_bundle.specs.Patches.{infos_of, Distinct, NextPatch, HasFewReplaces, AreFewWithin}
use Rattle.dm_bundle.specs.Context.{context_word, ContextWord, AreDisjoint}
use Rattle.dm_bundle.specs.Faults.{HasTooManyReplaces, DueFaultWithin, no_context, too_many, doubled, in_patch, too_many_replaces, no_memory, NewPatchesFaultWithin, ContextInfoFaultAt, in_info, ContextFaultAt, AfterHeadingFaultWithin, in_new, in_context, FaultWithin, too_large, no_new_patches, after_heading}
use Rattle.dm_bundle.proofs.Members.{distinct_at}
use Rattle.dm_bundle.proofs.OneBundle.{one_heading, one_next, word_opens, no_patch_at_context, one_patches}
use Rattle.dm_bundle.proofs.ReplaceLemmas.{few_up_to}
use Rattle.dm_bundle.proofs.NoBundle.{apart_at}
use Rattle.dm_bundle.proofs.WithinLimits.{few_at}

-- ---- the new patches

-- a patch begins where one stands with which there are too many replaces
opens : (limits : Limits) (ps : List Patch) (text here : List ℕ) → HasTooManyReplaces limits ps text here → Begins 91 text
opens limits ps text here r = stands_opens text r.patch.info r.stands.after r.stands.info

one_due_fault : (limits : Limits) (k l : FaultKind) (ps : List Patch) (text x y : List ℕ) → k ≢ K.NoMemory → l ≢ K.NoMemory → DueFaultWithin limits k ps text x → DueFaultWithin limits l ps text y → Same k l x y
one_due_fault limits k l ps text x y m n (no_context e h none word) (no_context f i none' word') = both (e, h) (f, i)
one_due_fault limits k l ps text x y m n (no_context e h none word) (too_many f i b c) = absurd (none b)
one_due_fault limits k l ps text x y m n (no_context e h none word) (doubled f i room d) = absurd (none (stands_opens text d.info d.rest d.stands))
one_due_fault limits k l ps text x y m n (no_context e h none word) (in_patch b room new g) = absurd (none b)
one_due_fault limits k l ps text x y m n (no_context e h none word) (too_many_replaces f room new r) = absurd (none (opens limits ps text y r))
one_due_fault limits k l ps text x y m n (too_many e h b c) (no_context f i none word) = absurd (none b)
one_due_fault limits k l ps text x y m n (too_many e h b c) (too_many f i b' c') = both (e, h) (f, i)
one_due_fault limits k l ps text x y m n (too_many e h b c) (doubled f i room d) = absurd (omega (arith, c, room))
one_due_fault limits k l ps text x y m n (too_many e h b c) (in_patch b' room new g) = absurd (omega (arith, c, room))
one_due_fault limits k l ps text x y m n (too_many e h b c) (too_many_replaces f room new r) = absurd (omega (arith, c, room))
one_due_fault limits k l ps text x y m n (doubled e h room d) (no_context f i none word) = absurd (none (stands_opens text d.info d.rest d.stands))
one_due_fault limits k l ps text x y m n (doubled e h room d) (too_many f i b c) = absurd (omega (arith, c, room))
one_due_fault limits k l ps text x y m n (doubled e h room d) (doubled f i room' d') = both (e, h) (f, i)
one_due_fault limits k l ps text x y m n (doubled e h room d) (in_patch b room' new g) = absurd (new d)
one_due_fault limits k l ps text x y m n (doubled e h room d) (too_many_replaces f room' new r) = absurd (new d)
one_due_fault limits k l ps text x y m n (in_patch b room new g) (no_context f i none word) = absurd (none b)
one_due_fault limits k l ps text x y m n (in_patch b room new g) (too_many f i b' c) = absurd (omega (arith, c, room))
one_due_fault limits k l ps text x y m n (in_patch b room new g) (doubled f i room' d) = absurd (new d)
one_due_fault limits k l ps text x y m n (in_patch b room new g) (in_patch b' room' new' g') = one_patch_fault limits k l text x y m n g g'
one_due_fault limits k l ps text x y m n (in_patch b room new g) (too_many_replaces f room' new' r) = absurd (m (memory_alone limits k text x g r.patch y r.stands r.short))
one_due_fault limits k l ps text x y m n (too_many_replaces e room new r) (no_context f i none word) = absurd (none (opens limits ps text x r))
one_due_fault limits k l ps text x y m n (too_many_replaces e room new r) (too_many f i b c) = absurd (omega (arith, c, room))
one_due_fault limits k l ps text x y m n (too_many_replaces e room new r) (doubled f i room' d) = absurd (new d)
one_due_fault limits k l ps text x y m n (too_many_replaces e room new r) (in_patch b room' new' g) = absurd (n (memory_alone limits l text y g r.patch x r.stands r.short))
one_due_fault limits k l ps text x y m n (too_many_replaces e room new r) (too_many_replaces f room' new' r') = (e ∙ sym f, (one_patch limits.kinds text r.patch r'.patch x y r.stands r'.stands).1)
one_due_fault limits k l ps text x y m n (no_memory e) g = absurd (m e)
one_due_fault limits k l ps text x y m n f (no_memory e) = absurd (n e)

-- a further patch, within the limits and new, is not at fault
pub no_further_patch : (limits : Limits) (k : FaultKind) (ps more : List Patch) (p : Patch) (text after x : List ℕ) → k ≢ K.NoMemory → DueFaultWithin limits k ps text x → PatchTextIn limits.kinds text p after → Distinct (infos_of (ps ++ p ∷ more)) → AreFewWithin limits (ps ++ p ∷ more) → ⊥
no_further_patch limits k ps more p text after x m (no_context e h none word) t d few = none (stands_opens text p.info t.after t.info)
no_further_patch limits k ps more p text after x m (too_many e h b c) t d few = let count = few.count in omega (arith, c, count, length-append ps (p ∷ more))
no_further_patch limits k ps more p text after x m (doubled e h room dbl) t d few =
    distinct_at (infos_of ps) p.info (infos_of more) (subst Distinct (map-append (λ (q : Patch). q.info) ps (p ∷ more)) d)
    (subst (Contains (infos_of ps)) (one_info text dbl.info p.info dbl.rest t.after dbl.stands t.info).0 dbl.is_known)
no_further_patch limits k ps more p text after x m (in_patch b room new f) t d few = m (memory_alone limits k text x f p after t (few_at limits ps p more few.prims))
no_further_patch limits k ps more p text after x m (too_many_replaces e room new r) t d few =
    let same = (one_patch limits.kinds text p r.patch after x t r.stands).0 in
    r.many (subst (λ (q : Patch). HasFewReplaces limits (ps ++ q ∷ [])) same (few_up_to limits ps p more few.replaces))
no_further_patch limits k ps more p text after x m (no_memory e) t d few = m e

-- where the word of the context stands, no patch is due
no_due_at_context : (limits : Limits) (k : FaultKind) (ps : List Patch) (text rest x : List ℕ) → k ≢ K.NoMemory → DueFaultWithin limits k ps text x → Word text context_word rest → ⊥
no_due_at_context limits k ps text rest x m (no_context e h none word) w = word rest w
no_due_at_context limits k ps text rest x m (too_many e h b c) w = word_opens text rest w b
no_due_at_context limits k ps text rest x m (doubled e h room d) w = word_opens text rest w (stands_opens text d.info d.rest d.stands)
no_due_at_context limits k ps text rest x m (in_patch b room new f) w = word_opens text rest w b
no_due_at_context limits k ps text rest x m (too_many_replaces e room new r) w = word_opens text rest w (opens limits ps text x r)
no_due_at_context limits k ps text rest x m (no_memory e) w = m e

-- other patches don't go on past those before a fault
no_patch_further : (limits : Limits) (k : FaultKind) (text x : List ℕ) (qs : List Patch) → k ≢ K.NoMemory → (f : NewPatchesFaultWithin limits k text x) → Distinct (infos_of qs) → AreFewWithin limits qs → GoesOn (NextPatch limits.kinds) f.patches qs f.mid → ⊥
no_patch_further limits k text x qs m f d few g =
    no_further_patch limits k f.patches g.more g.next (skipped f.mid) g.after x m f.wrong g.stands (subst (λ (ps : List Patch). Distinct (infos_of ps)) g.longer d) (subst (AreFewWithin limits) g.longer few)

one_new_fault : (limits : Limits) (k l : FaultKind) (text x y : List ℕ) → k ≢ K.NoMemory → l ≢ K.NoMemory → NewPatchesFaultWithin limits k text x → NewPatchesFaultWithin limits l text y → Same k l x y
one_new_fault limits k l text x y m n f g =
    elim (meet (NextPatch limits.kinds) (one_next limits.kinds) text f.patches g.patches f.mid g.mid f.read.read g.read.read) [
      | inl e ↦
          let here : DueFaultWithin limits k g.patches (skipped g.mid) x = subst (λ (t : List ℕ). DueFaultWithin limits k g.patches (skipped t) x) e.1 (subst (λ (ps : List Patch). DueFaultWithin limits k ps (skipped f.mid) x) e.0 f.wrong) in
          one_due_fault limits k l g.patches (skipped g.mid) x y m n here g.wrong
      | inr o ↦ elim o [ inl a ↦ absurd (no_patch_further limits k text x g.patches m f g.read.distinct g.few a) | inr a ↦ absurd (no_patch_further limits l text y f.patches n g f.read.distinct f.few a) ]
    ]

-- new patches that the context follows have no fault
new_or_context : (limits : Limits) (k : FaultKind) (text x : List ℕ) (qs : List Patch) (between after_word : List ℕ) → k ≢ K.NoMemory → NewPatchesFaultWithin limits k text x → Many (NextPatch limits.kinds) text qs between → Distinct (infos_of qs) → AreFewWithin limits qs → ContextWord between after_word → ⊥
new_or_context limits k text x qs between after_word m f read d few word =
    elim (meet (NextPatch limits.kinds) (one_next limits.kinds) text f.patches qs f.mid between f.read.read read) [
      | inl e ↦ no_due_at_context limits k f.patches (skipped f.mid) after_word x m f.wrong (subst (λ (t : List ℕ). ContextWord t after_word) (sym e.1) word)
      | inr o ↦ elim o [ inl a ↦ no_patch_further limits k text x qs m f d few a | inr a ↦ no_patch_at_context limits.kinds between after_word word a.next a.after a.stands ]
    ]

-- ---- the context

one_context_info : (k l : FaultKind) (new : List PatchInfo) (text x y : List ℕ) → k ≢ K.NoMemory → l ≢ K.NoMemory → ContextInfoFaultAt k new text x → ContextInfoFaultAt l new text y → Same k l x y
one_context_info k l new text x y m n (doubled e h d) (doubled f i d') = both (e, h) (f, i)
one_context_info k l new text x y m n (doubled e h d) (in_info b g) = absurd (no_info l text y n g d.info d.rest d.stands)
one_context_info k l new text x y m n (in_info b f) (doubled e h d) = absurd (no_info k text x m f d.info d.rest d.stands)
one_context_info k l new text x y m n (in_info b f) (in_info b' g) = one_info_fault k l text x y m n f g

no_further_info : (k : FaultKind) (new : List PatchInfo) (text after x : List ℕ) (i : PatchInfo) → k ≢ K.NoMemory → ContextInfoFaultAt k new text x → Stands text i after → (Contains new i → ⊥) → ⊥
no_further_info k new text after x i m (doubled e h d) s none = none (subst (Contains new) (one_info text d.info i d.rest after d.stands s).0 d.is_known)
no_further_info k new text after x i m (in_info b f) s none = no_info k text x m f i after s

no_info_further : (k : FaultKind) (new js : List PatchInfo) (text x : List ℕ) → k ≢ K.NoMemory → (f : ContextFaultAt k new text x) → AreDisjoint new js → GoesOn NextInfo f.infos js f.mid → ⊥
no_info_further k new js text x m f apart g = no_further_info k new (skipped f.mid) g.after x g.next m f.wrong g.stands (apart_at new f.infos g.next g.more (subst (AreDisjoint new) g.longer apart))

one_context_fault : (k l : FaultKind) (new : List PatchInfo) (text x y : List ℕ) → k ≢ K.NoMemory → l ≢ K.NoMemory → ContextFaultAt k new text x → ContextFaultAt l new text y → Same k l x y
one_context_fault k l new text x y m n f g =
    elim (meet NextInfo one_info_next text f.infos g.infos f.mid g.mid f.read g.read) [
      | inl e ↦ one_context_info k l new (skipped g.mid) x y m n (subst (λ (t : List ℕ). ContextInfoFaultAt k new (skipped t) x) e.1 f.wrong) g.wrong
      | inr o ↦ elim o [ inl a ↦ absurd (no_info_further k new g.infos text x m f g.apart a) | inr a ↦ absurd (no_info_further l new f.infos text y n g f.apart a) ]
    ]

-- ---- after the heading, and the whole text

one_after_heading : (limits : Limits) (k l : FaultKind) (text x y : List ℕ) → k ≢ K.NoMemory → l ≢ K.NoMemory → AfterHeadingFaultWithin limits k text x → AfterHeadingFaultWithin limits l text y → Same k l x y
one_after_heading limits k l text x y m n (in_new f) (in_new g) = one_new_fault limits k l text x y m n f g
one_after_heading limits k l text x y m n (in_new f) (in_context qs between after_word read few word g) = absurd (new_or_context limits k text x qs between after_word m f read.read read.distinct few word)
one_after_heading limits k l text x y m n (in_context ps between after_word read few word f) (in_new g) = absurd (new_or_context limits l text y ps between after_word n g read.read read.distinct few word)
one_after_heading limits k l text x y m n (in_context ps between after_word read few word f) (in_context qs between' after_word' read' few' word' g) =
    let same = one_patches limits.kinds text ps qs between between' after_word after_word' read.read read'.read word word' in
    let words = one_word (skipped between') context_word context_word after_word after_word' (subst (λ (t : List ℕ). ContextWord t after_word) same.1 word) word' in
    let start : ContextFaultAt k (infos_of qs) after_word' x = subst (λ (t : List ℕ). ContextFaultAt k (infos_of qs) t x) words.1 (subst (λ (rs : List Patch). ContextFaultAt k (infos_of rs) after_word x) same.0 f) in
    one_context_fault k l (infos_of qs) after_word' x y m n start g

one_place : (text : List ℕ) (at there : ℕ) → at ≤ length text → there ≤ length text → drop at text ≡ drop there text → at ≡ there
one_place text at there le le' e = omega (arith, le, le', length-drop at text, length-drop there text, ap length e)

pub one_fault : (limits : Limits) (text : List ℕ) (k l : FaultKind) (at there : ℕ) → FaultWithin limits text k at → FaultWithin limits text l there → (k ≡ l) × (at ≡ there)
one_fault limits text k l at there (too_large e h n) (too_large f i o) = (e ∙ sym f, h ∙ sym i)
one_fault limits text k l at there (too_large e h n) (no_new_patches f i fits none) = absurd (omega (arith, n, fits))
one_fault limits text k l at there (too_large e h n) (after_heading m le fits new heading g) = absurd (omega (arith, n, fits))
one_fault limits text k l at there (no_new_patches e h fits none) (too_large f i o) = absurd (omega (arith, o, fits))
one_fault limits text k l at there (no_new_patches e h fits none) (no_new_patches f i fits' none') = (e ∙ sym f, h ∙ sym i)
one_fault limits text k l at there (no_new_patches e h fits none) (after_heading m le fits' new heading g) = absurd (none new heading)
one_fault limits text k l at there (after_heading m le fits new heading f) (too_large e h n) = absurd (omega (arith, n, fits))
one_fault limits text k l at there (after_heading m le fits new heading f) (no_new_patches e h fits' none) = absurd (none new heading)
one_fault limits text k l at there (after_heading m le fits new heading f) (after_heading n le' fits' new' heading' g) =
    let same = one_after_heading limits k l new' (drop at text) (drop there text) m n (subst (λ (t : List ℕ). AfterHeadingFaultWithin limits k t (drop at text)) (one_heading text new new' heading heading') f) g in
    (same.0, one_place text at there le le' same.1)
