-- A fault within the six kinds is the one within all kinds, or it says that a wider word is unsupported, which stands no later.
use Rattle.std.proofs.Common.{◌≡◌, ◌≤◌, ◌<◌, ℕ, List, [], ◌∷◌, ◌++◌, length, drop, sym, ap, subst, arith, inl, inr, append_assoc, ◌∙◌}
use Rattle.std.specs.Prelude.{◌≢◌, ◌⊎◌}
use Rattle.std.proofs.lemmas.List.{length-drop, length-append}
use Rattle.dm_info.specs.PatchInfo.{PatchInfo}
use Rattle.dm_named.specs.Many.{Many}
use Rattle.dm_named.specs.Words.{skipped, Begins}
use Rattle.dm_named.specs.Patches.{Patch}
use Rattle.dm_named.specs.declared.fault.FaultKind.{FaultKind}
use Rattle.dm_named.specs.declared.fault.FaultKind.TheVariants as K
use Rattle.dm_named.specs.declared.limits.Limits.{Limits}
use Rattle.dm_named.specs.declared.limits.Kinds.TheVariants as these
use Rattle.dm_named.proofs.Lengths.{skipped_shorter}
use Rattle.dm_named.proofs.ManyLemmas.{many_more, GoesOn, meet}
use Rattle.dm_named.proofs.Places.{infos_shorter, patch_shorter, patch_place, info_place}
use Rattle.dm_named.proofs.SixFaults.{six, all, WiderPatch, patch_in_all, later_patch, word_of_patch, inside_patch}
use Rattle.dm_bundle.specs.Heading.{Heading}
use Rattle.dm_bundle.specs.Patches.{infos_of, Distinct, NextPatch, NewPatches, AreFewWithin}
use Rattle.dm_bundle.specs.Context.{context_word, ContextWord}
use Rattle.dm_bundle.specs.Faults.{IsDoubled, DueFaultWithin, no_context, too_many, doubled, in_patch, too_many_replaces, no_memory, ContextInfoFaultAt, in_info, ContextFaultAt, AfterHeadingFaultWithin, in_new, in_context, FaultWithin, too_large, no_new_patches, after_heading}
use Rattle.dm_bundle.specs.Laws.{FaultOfSix}
use Rattle.dm_bundle.proofs.ChosenKinds.{patches_in_all}
use Rattle.dm_bundle.proofs.OneBundle.{one_heading, one_next, word_opens, no_patch_at_context}
use Rattle.dm_bundle.proofs.OneFault.{no_further_patch, one_fault}
use Rattle.dm_bundle.proofs.ReplaceLemmas.{few_of_six}

-- ---- where a wider word stands

-- in a patch
record WiderDue (limits : Limits) (ps : List Patch) (text here : List ℕ) : Type 0 where
  pub begins : Begins 91 text
  pub room : length ps < limits.patches
  pub fresh : IsDoubled (infos_of ps) text → ⊥
  pub wider : WiderPatch limits text here

-- in a new patch, after others
record WiderNew (limits : Limits) (text here : List ℕ) : Type 0 where
  pub patches : List Patch
  pub mid : List ℕ
  pub read : NewPatches these.All text patches mid
  pub few : AreFewWithin (all limits) patches
  pub due : WiderDue limits patches (skipped mid) here

-- ---- a fault within the six kinds is one within all kinds, or a wider word

due_in_all : (limits : Limits) (kind : FaultKind) (ps : List Patch) (text here : List ℕ) → DueFaultWithin (six limits) kind ps text here → DueFaultWithin (all limits) kind ps text here ⊎ ((kind ≡ K.Unsupported) × WiderDue limits ps text here)
due_in_all limits kind ps text here (no_context e h none word) = inl (no_context e h none word)
due_in_all limits kind ps text here (too_many e h b n) = inl (too_many e h b n)
due_in_all limits kind ps text here (doubled e h room d) = inl (doubled e h room d)
due_in_all limits kind ps text here (in_patch b room fresh f) = elim (patch_in_all limits kind text here f) [ inl g ↦ inl (in_patch b room fresh g) | inr w ↦ inr (w.0, record { begins = b; room = room; fresh = fresh; wider = w.1 }) ]
due_in_all limits kind ps text here (too_many_replaces e room fresh r) = absurd (r.many tt)
due_in_all limits kind ps text here (no_memory e) = inl (no_memory e)

read_in_all : (text : List ℕ) (ps : List Patch) (mid : List ℕ) → NewPatches these.Six text ps mid → NewPatches these.All text ps mid
read_in_all text ps mid r = record { read = (patches_in_all these.Six text ps mid r.read).0; distinct = r.distinct }

few_in_all : (limits : Limits) (text : List ℕ) (ps : List Patch) (mid : List ℕ) → NewPatches these.Six text ps mid → AreFewWithin (six limits) ps → AreFewWithin (all limits) ps
few_in_all limits text ps mid r few = record { count = few.count; prims = few.prims; replaces = few_of_six (all limits) ps (patches_in_all these.Six text ps mid r.read).1 }

after_in_all : (limits : Limits) (kind : FaultKind) (text here : List ℕ) → AfterHeadingFaultWithin (six limits) kind text here → AfterHeadingFaultWithin (all limits) kind text here ⊎ ((kind ≡ K.Unsupported) × WiderNew limits text here)
after_in_all limits kind text here (in_new f) =
    let read = read_in_all text f.patches f.mid f.read in
    let few = few_in_all limits text f.patches f.mid f.read f.few in
    elim (due_in_all limits kind f.patches (skipped f.mid) here f.wrong) [
      | inl g ↦ inl (in_new (record { patches = f.patches; mid = f.mid; read = read; few = few; wrong = g }))
      | inr w ↦ inr (w.0, record { patches = f.patches; mid = f.mid; read = read; few = few; due = w.1 })
    ]
after_in_all limits kind text here (in_context ps between after_word read few word f) = inl (in_context ps between after_word (read_in_all text ps between read) (few_in_all limits text ps between read few) word f)

-- ---- the places of faults

due_place : (limits : Limits) (kind : FaultKind) (ps : List Patch) (text here : List ℕ) → kind ≢ K.NoMemory → DueFaultWithin limits kind ps text here → length here ≤ length text
due_place limits kind ps text here k (no_context e h none word) = omega (arith, ap length h)
due_place limits kind ps text here k (too_many e h b n) = omega (arith, ap length h)
due_place limits kind ps text here k (doubled e h room d) = omega (arith, ap length h)
due_place limits kind ps text here k (in_patch b room fresh f) = patch_place limits kind text here k f
due_place limits kind ps text here k (too_many_replaces e room fresh r) = patch_shorter limits.kinds text r.patch here r.stands
due_place limits kind ps text here k (no_memory e) = absurd (k e)

context_info_place : (kind : FaultKind) (new : List PatchInfo) (text here : List ℕ) → kind ≢ K.NoMemory → ContextInfoFaultAt kind new text here → length here ≤ length text
context_info_place kind new text here k (doubled e h d) = omega (arith, ap length h)
context_info_place kind new text here k (in_info b g) = info_place kind text here k g

context_place : (kind : FaultKind) (new : List PatchInfo) (text here : List ℕ) → kind ≢ K.NoMemory → ContextFaultAt kind new text here → length here ≤ length text
context_place kind new text here k f = omega (arith, infos_shorter text f.infos f.mid f.read, skipped_shorter f.mid, context_info_place kind new (skipped f.mid) here k f.wrong)

patches_shorter : (text : List ℕ) (ps : List Patch) (rest : List ℕ) → Many (NextPatch these.All) text ps rest → length (skipped rest) ≤ length (skipped text)
patches_shorter text [] rest r = omega (arith, ap (λ (t : List ℕ). length (skipped t)) r)
patches_shorter text (p ∷ ps) rest r = omega (arith, patches_shorter r.0 ps rest r.2, patch_shorter these.All (skipped text) p r.0 r.1, skipped_shorter r.0)

-- of two readings, the one that goes on leaves no more
further : (text : List ℕ) (vs ws more : List Patch) (r s : List ℕ) → Many (NextPatch these.All) text vs r → Many (NextPatch these.All) text ws s → ws ≡ vs ++ more → length (skipped s) ≤ length (skipped r)
further text [] ws more r s a b e = omega (arith, patches_shorter text ws s b, ap (λ (t : List ℕ). length (skipped t)) a)
further text (v ∷ vs) [] more r s a b e = absurd (let none : [] ≡ v ∷ (vs ++ more) = e in cc)
further text (v ∷ vs) (w ∷ ws) more r s a b e =
    let both : w ∷ ws ≡ v ∷ (vs ++ more) = e in
    let tail : ws ≡ vs ++ more = cc both in
    let same = (one_next these.All text v w a.0 b.0 a.1 b.1).1 in
    further b.0 vs ws more r s (subst (λ (t : List ℕ). Many (NextPatch these.All) t vs r) same a.2) b.2 tail

-- what is read past the patch with the wider word leaves no more than stands behind that word
past_wider : (limits : Limits) (text x : List ℕ) (w : WiderNew limits text x) (ps : List Patch) (s : List ℕ) → Many (NextPatch these.All) text ps s → GoesOn (NextPatch these.All) w.patches ps w.mid → length (skipped s) ≤ length x
past_wider limits text x w ps s read g =
    let whole : ps ≡ (w.patches ++ g.next ∷ []) ++ g.more = g.longer ∙ sym (append_assoc w.patches (g.next ∷ []) g.more) in
    let one = many_more (NextPatch these.All) text w.patches w.mid g.next g.after w.read.read g.stands in
    omega (arith, further text (w.patches ++ g.next ∷ []) ps g.more g.after s one read whole, inside_patch limits (skipped w.mid) x g.next g.after w.due.wider g.stands, skipped_shorter g.after)

-- ---- no fault within all kinds stands before a wider word

later_due : (limits : Limits) (kind : FaultKind) (ps : List Patch) (text x y : List ℕ) → kind ≢ K.NoMemory → WiderDue limits ps text x → DueFaultWithin (all limits) kind ps text y → length y ≤ length x
later_due limits kind ps text x y k w (no_context e h none word) = absurd (none w.begins)
later_due limits kind ps text x y k w (too_many e h b n) = absurd (omega (arith, n, w.room))
later_due limits kind ps text x y k w (doubled e h room d) = absurd (w.fresh d)
later_due limits kind ps text x y k w (in_patch b room fresh f) = later_patch limits kind text x y k w.wider f
later_due limits kind ps text x y k w (too_many_replaces e room fresh r) = inside_patch limits text x r.patch y w.wider r.stands
later_due limits kind ps text x y k w (no_memory e) = absurd (k e)

later_after : (limits : Limits) (kind : FaultKind) (text x y : List ℕ) → kind ≢ K.NoMemory → WiderNew limits text x → AfterHeadingFaultWithin (all limits) kind text y → length y ≤ length x
later_after limits kind text x y k w (in_new f) =
    elim (meet (NextPatch these.All) (one_next these.All) text w.patches f.patches w.mid f.mid w.read.read f.read.read) [
      | inl e ↦
          let here = subst (λ (ps : List Patch). WiderDue limits ps (skipped w.mid) x) e.0 w.due in
          later_due limits kind f.patches (skipped f.mid) x y k (subst (λ (t : List ℕ). WiderDue limits f.patches (skipped t) x) e.1 here) f.wrong
      | inr o ↦ elim o [
        | inl g ↦ omega (arith, due_place (all limits) kind f.patches (skipped f.mid) y k f.wrong, past_wider limits text x w f.patches f.mid f.read.read g)
        | inr g ↦ absurd (no_further_patch (all limits) kind f.patches g.more g.next (skipped f.mid) g.after y k f.wrong g.stands (subst (λ (ps : List Patch). Distinct (infos_of ps)) g.longer w.read.distinct) (subst (AreFewWithin (all limits)) g.longer w.few))
      ]
    ]
later_after limits kind text x y k w (in_context ps between after_word read few word f) =
    elim (meet (NextPatch these.All) (one_next these.All) text w.patches ps w.mid between w.read.read read.read) [
      | inl e ↦ absurd (word_opens (skipped w.mid) after_word (subst (λ (t : List ℕ). ContextWord t after_word) (sym e.1) word) w.due.begins)
      | inr o ↦ elim o [
        | inl g ↦ omega (arith, context_place kind (infos_of ps) after_word y k f, ap length word.parts, length-append context_word after_word, past_wider limits text x w ps between read.read g)
        | inr g ↦ absurd (no_patch_at_context these.All between after_word word g.next g.after g.stands)
      ]
    ]

-- ---- the whole text

text_in_all : (limits : Limits) (text : List ℕ) (kind : FaultKind) (at : ℕ) → FaultWithin (six limits) text kind at → FaultWithin (all limits) text kind at
    ⊎ ((kind ≡ K.Unsupported) × (at ≤ length text) × (length text ≤ limits.bytes) × ((new : List ℕ) × Heading text new × WiderNew limits new (drop at text)))
text_in_all limits text kind at (too_large e h n) = inl (too_large e h n)
text_in_all limits text kind at (no_new_patches e h fits none) = inl (no_new_patches e h fits none)
text_in_all limits text kind at (after_heading m le fits new heading f) =
    elim (after_in_all limits kind new (drop at text) f) [ inl g ↦ inl (after_heading m le fits new heading g) | inr w ↦ inr (w.0, le, fits, (new, heading, w.1)) ]

later_place : (limits : Limits) (text : List ℕ) (other : FaultKind) (at there : ℕ) (new : List ℕ) → at ≤ length text → length text ≤ limits.bytes → Heading text new → WiderNew limits new (drop at text) → FaultWithin (all limits) text other there → at ≤ there
later_place limits text other at there new le fits heading w (too_large e h n) = absurd (omega (arith, n, fits))
later_place limits text other at there new le fits heading w (no_new_patches e h fits' none) = absurd (none new heading)
later_place limits text other at there new le fits heading w (after_heading m le' fits' new' heading' g) =
    let later = later_after limits other new' (drop at text) (drop there text) m (subst (λ (t : List ℕ). WiderNew limits t (drop at text)) (one_heading text new new' heading heading') w) g in
    omega (arith, later, le, le', length-drop at text, length-drop there text)

pub fault_of_six : (limits : Limits) → FaultOfSix limits
fault_of_six limits text kind other at there f g =
    elim (text_in_all limits text kind at f) [
      | inl h ↦ inl (one_fault (all limits) text kind other at there h g)
      | inr w ↦
          let wider = w.3 in
          let due = wider.2.due in
          inr (w.0, word_of_patch limits (skipped wider.2.mid) (drop at text) due.wider, later_place limits text other at there wider.0 w.1 w.2 wider.1 wider.2 g)
    ]
