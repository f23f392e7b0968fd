-- A text has at most one named patch of items at its front.
use Rattle.std.proofs.Common.{◌≡◌, ◌+◌, ℕ, List, [], ◌∷◌, ◌++◌, refl, sym, subst, arith, inl, inr}
use Rattle.std.specs.Prelude.{codes}
use Rattle.dm_info.proofs.SpellingLemmas.{one_info}
use Rattle.dm_named.specs.Words.{skipped, Word, Among, WordAmong}
use Rattle.dm_named.specs.Many.{Many}
use Rattle.dm_named.specs.Patches.{Dependencies, RunEnds, prim_words_of, unsupported_words_of}
use Rattle.dm_named.specs.MergedPatches.{Item, Plain, Conflicted, MergedPatch, ItemText, NextItem, BodyOfItems, MergedText, body_size}
use Rattle.dm_named.specs.MergedFaults.{item_words_of}
use Rattle.dm_named.specs.declared.limits.Kinds.{Kinds}
use Rattle.dm_named.specs.declared.limits.Kinds.TheVariants as these
use Rattle.dm_named.proofs.KindLemmas.{both_words, no_lead, no_prim_ends, no_refused_ends}
use Rattle.dm_named.proofs.ManyLemmas.{Closed, one_many}
use Rattle.dm_named.proofs.OnePatch.{prim_a_word, one_prim, one_depends}
use Rattle.dm_named.proofs.NoPatch.{tail_same}
use Rattle.dm_named.proofs.ConflictorLemmas.{one_conflictor}

-- the word of a conflictor is refused where primitives alone are read, so it is no primitive's
conflictor_refused : (kinds : Kinds) → Among (unsupported_words_of kinds) (codes "conflictor")
conflictor_refused these.Six = inr (inr (inr (inr (inr (inl refl)))))
conflictor_refused these.All = inr (inr (inl refl))

pub not_both : (kinds : Kinds) (text after : List ℕ) → Word text (codes "conflictor") after → WordAmong (prim_words_of kinds) text → ⊥
not_both kinds text after w a = both_words kinds text a (record { word = codes "conflictor"; rest = after; stands = w; among = conflictor_refused kinds })

-- ---- items

pub one_item : (kinds : Kinds) (text : List ℕ) (i j : Item) (r s : List ℕ) → ItemText kinds text i r → ItemText kinds text j s → (i ≡ j) × (r ≡ s)
one_item kinds text (Plain p) (Plain q) r s a b = let o = one_prim text p q r s a.0 b.0 in ((λ k. Plain (o.0 k)), o.1)
one_item kinds text (Plain p) (Conflicted c) r s a b = absurd (not_both kinds text b.after b.named (prim_a_word kinds text p r a.0 a.1))
one_item kinds text (Conflicted c) (Plain p) r s a b = absurd (not_both kinds text a.after a.named (prim_a_word kinds text p s b.0 b.1))
one_item kinds text (Conflicted c) (Conflicted d) r s a b = let o = one_conflictor kinds text c d r s a b in ((λ k. Conflicted (o.0 k)), o.1)

pub one_next_item : (kinds : Kinds) (text : List ℕ) (i j : Item) (r s : List ℕ) → NextItem kinds text i r → NextItem kinds text j s → (i ≡ j) × (r ≡ s)
one_next_item kinds text i j r s a b = one_item kinds (skipped text) i j r s a b

-- a primitive's word and that of a conflictor are words of items
pub prim_an_item : (kinds : Kinds) (text : List ℕ) → WordAmong (prim_words_of kinds) text → WordAmong (item_words_of kinds) text
prim_an_item kinds text w = record { word = w.word; rest = w.rest; stands = w.stands; among = inr w.among }

pub conflictor_an_item : (kinds : Kinds) (text after : List ℕ) → Word text (codes "conflictor") after → WordAmong (item_words_of kinds) text
conflictor_an_item kinds text after w = record { word = codes "conflictor"; rest = after; stands = w; among = inl refl }

pub item_a_word : (kinds : Kinds) (text : List ℕ) (i : Item) (r : List ℕ) → ItemText kinds text i r → WordAmong (item_words_of kinds) text
item_a_word kinds text (Plain p) r a = prim_an_item kinds text (prim_a_word kinds text p r a.0 a.1)
item_a_word kinds text (Conflicted c) r a = conflictor_an_item kinds text a.after a.named

pub no_item : (kinds : Kinds) (rest : List ℕ) → (WordAmong (item_words_of kinds) (skipped rest) → ⊥) → Closed (NextItem kinds) rest
no_item kinds rest none i after a = none (item_a_word kinds (skipped rest) i after a)

-- no item begins with a closing brace, or where a run ends
pub no_close_item : (kinds : Kinds) (text tail : List ℕ) → text ≡ 125 ∷ tail → WordAmong (item_words_of kinds) text → ⊥
no_close_item these.Six text tail e a = no_lead 125 (item_words_of these.Six) text tail refl e a
no_close_item these.All text tail e a = no_lead 125 (item_words_of these.All) text tail refl e a

pub no_item_ends : (kinds : Kinds) (text : List ℕ) → RunEnds text → WordAmong (item_words_of kinds) text → ⊥
no_item_ends kinds text ends a =
    elim a.among [
      | inl e ↦ no_refused_ends kinds text ends (record { word = a.word; rest = a.rest; stands = a.stands; among = subst (Among (unsupported_words_of kinds)) (sym e) (conflictor_refused kinds) })
      | inr w ↦ no_prim_ends kinds text ends (record { word = a.word; rest = a.rest; stands = a.stands; among = w })
    ]

pub one_items : (kinds : Kinds) (text : List ℕ) (is js : List Item) (r s : List ℕ) → Many (NextItem kinds) text is r → Many (NextItem kinds) text js s
    → (WordAmong (item_words_of kinds) (skipped r) → ⊥) → (WordAmong (item_words_of kinds) (skipped s) → ⊥) → (is ≡ js) × (r ≡ s)
one_items kinds text is js r s a b x y = one_many (NextItem kinds) (one_next_item kinds) text is js r s a b (no_item kinds r x) (no_item kinds s y)

-- ---- bodies and patches

one_body : (kinds : Kinds) (text : List ℕ) (is js : List Item) (r s : List ℕ) → BodyOfItems kinds text is r → BodyOfItems kinds text js s → (is ≡ js) × (r ≡ s)
one_body kinds text is js r s a b =
    elim a [
      | inl x ↦ elim b [
        | inl y ↦
            let inside = tail_same 123 (skipped text) x.inside y.inside x.opens y.opens in
            let items = one_items kinds y.inside is js x.mid y.mid (subst (λ (t : List ℕ). Many (NextItem kinds) t is x.mid) inside x.read) y.read (no_close_item kinds (skipped x.mid) r x.closes) (no_close_item kinds (skipped y.mid) s y.closes) in
            (items.0, tail_same 125 (skipped y.mid) r s (subst (λ (t : List ℕ). skipped t ≡ 125 ∷ r) items.1 x.closes) y.closes)
        | inr y ↦ absurd (y.bare (x.inside, x.opens))
      ]
      | inr x ↦ elim b [ inl y ↦ absurd (x.bare (y.inside, y.opens)) | inr y ↦ one_items kinds text is js r s x.read y.read (no_item_ends kinds (skipped r) x.ends) (no_item_ends kinds (skipped s) y.ends) ]
    ]

pub one_merged : (kinds : Kinds) (text : List ℕ) (p q : MergedPatch) (r s : List ℕ) → MergedText kinds text p r → MergedText kinds text q s → (p ≡ q) × (r ≡ s)
one_merged kinds text p q r s a b =
    let info = one_info text p.info q.info a.after b.after a.info b.info in
    let deps = one_depends b.after p.deps q.deps a.start b.start (subst (λ (t : List ℕ). Dependencies t p.deps a.start) info.1 a.deps) b.deps in
    let body = one_body kinds b.start p.body q.body r s (subst (λ (t : List ℕ). BodyOfItems kinds t p.body r) deps.1 a.body) b.body in
    ((λ k. record { info = info.0 k; deps = deps.0 k; body = body.0 k }), body.1)

-- ---- how many primitives

pub size_append : (is js : List Item) → body_size (is ++ js) ≡ body_size is + body_size js
size_append [] js = omega arith
size_append (i ∷ is) js = omega (arith, size_append is js)
