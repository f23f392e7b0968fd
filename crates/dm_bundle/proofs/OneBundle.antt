-- A text has at most one bundle.
use Rattle.std.proofs.Common.{◌≡◌, ℕ, List, [], ◌∷◌, ◌++◌, sym, subst, ◌∙◌, arith, inl}
use Rattle.std.specs.Prelude.{codes}
use Rattle.dm_info.proofs.SpellingLemmas.{stands_opens}
use Rattle.dm_named.specs.Words.{skipped, Word, Line, Begins}
use Rattle.dm_named.specs.Many.{Many}
use Rattle.dm_named.specs.Patches.{Patch, NextInfo}
use Rattle.dm_named.specs.declared.limits.Kinds.{Kinds}
use Rattle.dm_named.proofs.WordLemmas.{one_word}
use Rattle.dm_named.proofs.GroupLemmas.{one_line}
use Rattle.dm_named.proofs.ManyLemmas.{one_many, many_follows, Closed}
use Rattle.dm_named.proofs.OnePatch.{one_patch, one_infos}
use Rattle.dm_named.proofs.PatchRoundTrip.{front_same}
use Rattle.dm_bundle.specs.Heading.{heading_line, Summary, Heading}
use Rattle.dm_bundle.specs.Patches.{NextPatch}
use Rattle.dm_bundle.specs.Context.{context_word, ContextWord}
use Rattle.dm_bundle.specs.Bundles.{Contents, Sections, BundleTextIn}

one_summary : (text : List ℕ) (ls ms : List (List ℕ)) (here there r s : List ℕ) → Summary text ls here → Summary text ms there → Line here heading_line r → Line there heading_line s → r ≡ s
one_summary text [] [] here there r s a b x y = (one_line there heading_line heading_line r s (subst (λ (t : List ℕ). Line t heading_line r) (sym a ∙ b) x) y).1
one_summary text [] (m ∷ ms) here there r s a b x y =
    absurd (b.3 (sym (one_line text heading_line m r b.0 (subst (λ (t : List ℕ). Line t heading_line r) (sym a) x) (record { free = b.2; parts = inl b.1 })).0))
one_summary text (l ∷ ls) [] here there r s a b x y =
    absurd (a.3 (sym (one_line text heading_line l s a.0 (subst (λ (t : List ℕ). Line t heading_line s) (sym b) y) (record { free = a.2; parts = inl a.1 })).0))
one_summary text (l ∷ ls) (m ∷ ms) here there r s a b x y =
    let same = (one_line text l m a.0 b.0 (record { free = a.2; parts = inl a.1 }) (record { free = b.2; parts = inl b.1 })).1 in
    one_summary b.0 ls ms here there r s (subst (λ (t : List ℕ). Summary t ls here) same a.4) b.4 x y

pub one_heading : (text r s : List ℕ) → Heading text r → Heading text s → r ≡ s
one_heading text r s a b = one_summary text a.summary b.summary a.here b.here r s a.before b.before a.line b.line

-- ---- the new patches

pub one_next : (kinds : Kinds) (text : List ℕ) (p q : Patch) (r s : List ℕ) → NextPatch kinds text p r → NextPatch kinds text q s → (p ≡ q) × (r ≡ s)
one_next kinds text p q r s a b = one_patch kinds (skipped text) p q r s a b

-- where the word of the context stands, no patch info does
pub word_opens : (text rest : List ℕ) → Word text context_word rest → Begins 91 text → ⊥
word_opens text rest w b = omega (arith, front_same 67 91 (codes "ontext:" ++ rest) b.0 (sym w.parts ∙ b.1))

pub no_patch_at_context : (kinds : Kinds) (text rest : List ℕ) → ContextWord text rest → Closed (NextPatch kinds) text
no_patch_at_context kinds text rest w p after t = word_opens (skipped text) rest w (stands_opens (skipped text) p.info t.after t.info)

pub one_patches : (kinds : Kinds) (text : List ℕ) (ps qs : List Patch) (r s c d : List ℕ) → Many (NextPatch kinds) text ps r → Many (NextPatch kinds) text qs s → ContextWord r c → ContextWord s d → (ps ≡ qs) × (r ≡ s)
one_patches kinds text ps qs r s c d a b x y = one_many (NextPatch kinds) (one_next kinds) text ps qs r s a b (no_patch_at_context kinds r c x) (no_patch_at_context kinds s d y)

-- of two readings of new patches, of which the context follows one, that one goes on from where the other stands
pub patches_follow : (kinds : Kinds) (text : List ℕ) (ps qs : List Patch) (mid rest after_word : List ℕ) → Many (NextPatch kinds) text ps mid → Many (NextPatch kinds) text qs rest → ContextWord rest after_word → (more : List Patch) × (qs ≡ ps ++ more) × Many (NextPatch kinds) mid more rest
patches_follow kinds text ps qs mid rest after_word a b w = many_follows (NextPatch kinds) (one_next kinds) text ps qs mid rest a b (no_patch_at_context kinds rest after_word w)

one_sections : (kinds : Kinds) (text : List ℕ) (a b : Contents) → Sections kinds text a → Sections kinds text b → a ≡ b
one_sections kinds text a b x y =
    let patches = one_patches kinds text a.patches b.patches x.between y.between x.after_word y.after_word x.patches.read y.patches.read x.word y.word in
    let word = one_word (skipped y.between) context_word context_word x.after_word y.after_word (subst (λ (t : List ℕ). ContextWord t x.after_word) patches.1 x.word) y.word in
    let infos = one_infos y.after_word a.context b.context x.context.rest y.context.rest (subst (λ (t : List ℕ). Many NextInfo t a.context x.context.rest) word.1 x.context.read) y.context.read x.context.ends y.context.ends in
    λ k. record { patches = patches.0 k; context = infos.0 k }

pub one_bundle : (kinds : Kinds) (text : List ℕ) (a b : Contents) → BundleTextIn kinds text a → BundleTextIn kinds text b → a ≡ b
one_bundle kinds text a b x y = one_sections kinds y.new a b (subst (λ (t : List ℕ). Sections kinds t a) (one_heading text x.new y.new x.heading y.heading) x.sections) y.sections
