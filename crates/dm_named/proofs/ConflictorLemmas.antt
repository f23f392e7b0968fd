-- A text has at most one conflictor at its front.
use Rattle.std.proofs.Common.{◌≡◌, ◌≤◌, ◌<◌, ◌+◌, ℕ, List, [], ◌∷◌, ◌++◌, length, get_or, take, drop, refl, sym, ap, subst, ◌∙◌, arith, inl, inr}
use Rattle.std.proofs.lemmas.List.{take_more, take-append-drop}
use Rattle.std.specs.Prelude.{codes}
use Rattle.dm_prim.specs.Primitives.{Prim}
use Rattle.dm_named.specs.Words.{skipped, NextByte, WordAmong}
use Rattle.dm_named.specs.Many.{Many}
use Rattle.dm_named.specs.Patches.{NextPrim, prim_words, prim_words_of}
use Rattle.dm_named.specs.Conflictors.{Original, Conflictor, OriginalText, Partners, InBrackets, ConflictorText, size_of, sizes_of}
use Rattle.dm_named.specs.ConflictorFaults.{BeginsOriginal}
use Rattle.dm_named.specs.declared.limits.Kinds.{Kinds}
use Rattle.dm_named.specs.declared.limits.Kinds.TheVariants as these
use Rattle.dm_named.proofs.WordLemmas.{one_word}
use Rattle.dm_named.proofs.KindLemmas.{no_lead, no_close_word}
use Rattle.dm_named.proofs.ManyLemmas.{Closed, one_many}
use Rattle.dm_named.proofs.OnePatch.{prim_a_word, one_next, one_prims}
use Rattle.dm_named.proofs.NoPatch.{tail_same, begins_two}

-- a primitive's word begins with no colon and no bracket
pub no_colon_word : (kinds : Kinds) (text tail : List ℕ) → text ≡ 58 ∷ tail → WordAmong (prim_words_of kinds) text → ⊥
no_colon_word these.Six text tail e a = no_lead 58 prim_words text tail refl e a
no_colon_word these.All text tail e a = no_lead 58 (prim_words_of these.All) text tail refl e a

pub no_bracket_word : (kinds : Kinds) (text tail : List ℕ) → text ≡ 93 ∷ tail → WordAmong (prim_words_of kinds) text → ⊥
no_bracket_word these.Six text tail e a = no_lead 93 prim_words text tail refl e a
no_bracket_word these.All text tail e a = no_lead 93 (prim_words_of these.All) text tail refl e a

-- ---- originals

pub one_original : (kinds : Kinds) (text : List ℕ) (o p : Original) (r s : List ℕ) → OriginalText kinds text o r → OriginalText kinds text p s → (o ≡ p) × (r ≡ s)
one_original kinds text o p r s a b =
    let context = one_prims kinds text o.context p.context a.mid b.mid a.context b.context (no_colon_word kinds (skipped a.mid) a.last a.colon) (no_colon_word kinds (skipped b.mid) b.last b.colon) in
    let last = tail_same 58 (skipped b.mid) a.last b.last (subst (λ (t : List ℕ). skipped t ≡ 58 ∷ a.last) context.1 a.colon) b.colon in
    let prim = one_next kinds b.last o.prim p.prim r s (subst (λ (t : List ℕ). NextPrim kinds t o.prim r) last a.prim) b.prim in
    ((λ k. record { context = context.0 k; prim = prim.0 k }), prim.1)

-- it begins with a primitive or with its colon
starts : (kinds : Kinds) (text : List ℕ) (ps : List Prim) (mid last : List ℕ) → Many (NextPrim kinds) text ps mid → NextByte 58 mid last → BeginsOriginal kinds (skipped text)
starts kinds text [] mid last r e = inr (last, ap skipped r ∙ e)
starts kinds text (p ∷ ps) mid last r e = inl (prim_a_word kinds (skipped text) p r.0 r.1.read r.1.kind)

pub begins_original : (kinds : Kinds) (text : List ℕ) (o : Original) (r : List ℕ) → OriginalText kinds text o r → BeginsOriginal kinds (skipped text)
begins_original kinds text o r a = starts kinds text o.context a.mid a.last a.context a.colon

pub no_original : (kinds : Kinds) (text : List ℕ) → (BeginsOriginal kinds (skipped text) → ⊥) → Closed (OriginalText kinds) text
no_original kinds text none o after a = none (begins_original kinds text o after a)

-- none begins with a closing brace
pub not_closing : (kinds : Kinds) (text tail : List ℕ) → text ≡ 125 ∷ tail → BeginsOriginal kinds text → ⊥
not_closing kinds text tail e b = elim b [ inl w ↦ no_close_word kinds text tail e w | inr c ↦ begins_two 125 58 text tail (λ x. omega (arith, x)) e c ]

pub one_originals : (kinds : Kinds) (text : List ℕ) (os ps : List Original) (r s : List ℕ) → Many (OriginalText kinds) text os r → Many (OriginalText kinds) text ps s
    → (BeginsOriginal kinds (skipped r) → ⊥) → (BeginsOriginal kinds (skipped s) → ⊥) → (os ≡ ps) × (r ≡ s)
one_originals kinds text os ps r s a b x y = one_many (OriginalText kinds) (one_original kinds) text os ps r s a b (no_original kinds r x) (no_original kinds s y)

-- ---- conflictors

pub twice_same : (b : ℕ) (text x y : List ℕ) → text ≡ b ∷ b ∷ x → text ≡ b ∷ b ∷ y → x ≡ y
twice_same b text x y e f = let both : b ∷ b ∷ x ≡ b ∷ b ∷ y = sym e ∙ f in cc

pub one_partners : (kinds : Kinds) (text : List ℕ) (os ps : List Original) (r s : List ℕ) → Partners kinds text os r → Partners kinds text ps s → (os ≡ ps) × (r ≡ s)
one_partners kinds text os ps r s a b =
    elim a [
      | inl x ↦ elim b [
        | inl y ↦
            let inside = twice_same 123 (skipped text) x.inside y.inside x.opens y.opens in
            let both = one_originals kinds y.inside os ps x.mid y.mid (subst (λ (t : List ℕ). Many (OriginalText kinds) t os x.mid) inside x.read) y.read
            (not_closing kinds (skipped x.mid) (125 ∷ r) x.closes) (not_closing kinds (skipped y.mid) (125 ∷ s) y.closes) in
            (both.0, twice_same 125 (skipped y.mid) r s (subst (λ (t : List ℕ). skipped t ≡ 125 ∷ 125 ∷ r) both.1 x.closes) y.closes)
        | inr y ↦ absurd (y.0 (x.inside, x.opens))
      ]
      | inr x ↦ elim b [ inl y ↦ absurd (x.0 (y.inside, y.opens)) | inr y ↦ (x.1 ∙ sym y.1, sym x.2 ∙ y.2) ]
    ]

pub one_in_brackets : (kinds : Kinds) (text : List ℕ) (ps qs : List Prim) (r s : List ℕ) → InBrackets kinds text ps r → InBrackets kinds text qs s → (ps ≡ qs) × (r ≡ s)
one_in_brackets kinds text ps qs r s a b =
    let inside = tail_same 91 (skipped text) a.inside b.inside a.opens b.opens in
    let both = one_prims kinds b.inside ps qs a.mid b.mid (subst (λ (t : List ℕ). Many (NextPrim kinds) t ps a.mid) inside a.read) b.read
    (no_bracket_word kinds (skipped a.mid) r a.closes) (no_bracket_word kinds (skipped b.mid) s b.closes) in
    (both.0, tail_same 93 (skipped b.mid) r s (subst (λ (t : List ℕ). skipped t ≡ 93 ∷ r) both.1 a.closes) b.closes)

pub one_conflictor : (kinds : Kinds) (text : List ℕ) (c d : Conflictor) (r s : List ℕ) → ConflictorText kinds text c r → ConflictorText kinds text d s → (c ≡ d) × (r ≡ s)
one_conflictor kinds text c d r s a b =
    let after = (one_word text (codes "conflictor") (codes "conflictor") a.after b.after a.named b.named).1 in
    let partners = one_partners kinds b.after c.partners d.partners a.list b.list (subst (λ (t : List ℕ). Partners kinds t c.partners a.list) after a.partners) b.partners in
    let undone = one_in_brackets kinds b.list c.undone d.undone a.last b.last (subst (λ (t : List ℕ). InBrackets kinds t c.undone a.last) partners.1 a.undone) b.undone in
    let own = one_original kinds b.last c.own d.own r s (subst (λ (t : List ℕ). OriginalText kinds t c.own r) undone.1 a.own) b.own in
    ((λ k. record { partners = partners.0 k; undone = undone.0 k; own = own.0 k }), own.1)

-- ---- how many primitives

pub sizes_append : (os ps : List Original) → sizes_of (os ++ ps) ≡ sizes_of os + sizes_of ps
sizes_append [] ps = omega arith
sizes_append (o ∷ os) ps = omega (arith, sizes_append os ps)

-- those of one more, and of as many as there are
pub sizes_more : (os : List Original) (i : ℕ) (o : Original) → i < length os → o ≡ get_or os i o → sizes_of (take (i + 1) os) ≡ sizes_of (take i os) + size_of o
sizes_more os i o lt is =
    let next : take (i + 1) os ≡ take i os ++ o ∷ [] = take_more os i o lt ∙ ap (λ z. take i os ++ z ∷ []) (sym is) in
    omega (arith, ap sizes_of next, sizes_append (take i os) (o ∷ []))

pub sizes_within : (os : List Original) (n : ℕ) → sizes_of (take n os) ≤ sizes_of os
sizes_within os n = omega (arith, ap sizes_of (take-append-drop n os), sizes_append (take n os) (drop n os))

pub sizes_step : (os : List Original) (i : ℕ) (o : Original) (most : ℕ) → i < length os → o ≡ get_or os i o → sizes_of os ≤ most → sizes_of (take i os) + size_of o ≤ most
sizes_step os i o most lt is few = omega (arith, sizes_more os i o lt is, sizes_within os (i + 1), few)
