-- Which words are those of primitives, and which are refused, where primitives of some kinds are read.
use Rattle.std.proofs.Common.{◌≡◌, Bool, ◌||◌, ℕ, List, [], ◌∷◌, ◌++◌, refl, sym, ap, subst, ◌∙◌, inl, inr, false, true}
use Rattle.std.proofs.lemmas.Bool.{false≢true, eq-eqb}
use Rattle.std.specs.Prelude.{◌⊎◌, nat_eq}
use Rattle.std.specs.Cmp.Lexicographic.{pointwise}
use lib.Pointwise.{bytes_decides}
use Rattle.dm_named.specs.Words.{Among, WordAmong, Begins}
use Rattle.dm_named.specs.Patches.{RunEnds, prim_words, wider_words, refused_words, unsupported_words, prim_words_of, unsupported_words_of}
use Rattle.dm_named.specs.declared.limits.Kinds.{Kinds}
use Rattle.dm_named.specs.declared.limits.Kinds.TheVariants as these
use Rattle.dm_named.proofs.WordLemmas.{one_word}

-- ---- lists of words

abbrev pub any_eq : List (List ℕ) → List ℕ → Bool
any_eq [] w = false
any_eq (v ∷ vs) w = pointwise nat_eq w v || any_eq vs w

any_step : (v : List ℕ) (vs : List (List ℕ)) (w : List ℕ) (b : Bool) → pointwise nat_eq w v ≡ b → (w ≡ v) ⊎ (any_eq vs w ≡ true) → (b || any_eq vs w) ≡ true
any_step v vs w true e h = refl
any_step v vs w false e h = elim h [ inl p ↦ absurd (false≢true (sym e ∙ (bytes_decides w v).1 p)) | inr p ↦ p ]

among_any : (vs : List (List ℕ)) (w : List ℕ) → Among vs w → any_eq vs w ≡ true
among_any [] w a = absurd a
among_any (v ∷ vs) w a = any_step v vs w (pointwise nat_eq w v) refl (elim a [ inl p ↦ inl p | inr p ↦ inr (among_any vs w p) ])

pub not_here : (vs : List (List ℕ)) (w v : List ℕ) → any_eq vs v ≡ false → w ≡ v → Among vs w → ⊥
not_here vs w v none e a = false≢true (sym none ∙ among_any vs v (subst (Among vs) e a))

-- a word of both lists
abbrev shares : List (List ℕ) → List (List ℕ) → Bool
shares [] ws = false
shares (v ∷ vs) ws = any_eq ws v || shares vs ws

left_false : (a b : Bool) → (a || b) ≡ false → a ≡ false
left_false true b e = e
left_false false b e = refl

right_false : (a b : Bool) → (a || b) ≡ false → b ≡ false
right_false true b e = absurd (false≢true (sym e))
right_false false b e = e

not_shared : (vs ws : List (List ℕ)) (w : List ℕ) → shares vs ws ≡ false → Among vs w → Among ws w → ⊥
not_shared [] ws w none a o = a
not_shared (v ∷ vs) ws w none a o =
    elim a [
      | inl e ↦ not_here ws w v (left_false (any_eq ws v) (shares vs ws) none) e o
      | inr p ↦ not_shared vs ws w (right_false (any_eq ws v) (shares vs ws) none) p o
    ]

among_front : (vs ws : List (List ℕ)) (w : List ℕ) → Among vs w → Among (vs ++ ws) w
among_front [] ws w a = absurd a
among_front (v ∷ vs) ws w a = elim a [ inl e ↦ inl e | inr p ↦ inr (among_front vs ws w p) ]

among_back : (vs ws : List (List ℕ)) (w : List ℕ) → Among ws w → Among (vs ++ ws) w
among_back [] ws w a = a
among_back (v ∷ vs) ws w a = inr (among_back vs ws w a)

among_parts : (vs ws : List (List ℕ)) (w : List ℕ) → Among (vs ++ ws) w → Among vs w ⊎ Among ws w
among_parts [] ws w a = inr a
among_parts (v ∷ vs) ws w a = elim a [ inl e ↦ inl (inl e) | inr p ↦ elim (among_parts vs ws w p) [ inl q ↦ inl (inr q) | inr q ↦ inr q ] ]

-- a word of one list is one of another
pub other_words : (vs ws : List (List ℕ)) (text : List ℕ) → ((w : List ℕ) → Among vs w → Among ws w) → WordAmong vs text → WordAmong ws text
other_words vs ws text into a = record { word = a.word; rest = a.rest; stands = a.stands; among = into a.word a.among }

-- the byte that a word of a list begins with
abbrev leads : ℕ → List (List ℕ) → Bool
leads b [] = false
leads b ([] ∷ vs) = true
leads b ((c ∷ v) ∷ vs) = nat_eq c b || leads b vs

leads_step : (b c : ℕ) (v : List ℕ) (t : Bool) (more : Bool) → nat_eq c b ≡ t → (c ≡ b) ⊎ (more ≡ true) → (t || more) ≡ true
leads_step b c v true more e h = refl
leads_step b c v false more e h = elim h [ inl p ↦ absurd (false≢true (sym e ∙ eq-eqb c b p)) | inr p ↦ p ]

head_same : (b c : ℕ) (w v rest tail : List ℕ) → w ≡ c ∷ v → w ++ rest ≡ b ∷ tail → c ≡ b
head_same b c w v rest tail e f = let both : c ∷ (v ++ rest) ≡ b ∷ tail = ap (λ (x : List ℕ). x ++ rest) (sym e) ∙ f in cc

among_leads : (b : ℕ) (vs : List (List ℕ)) (w rest tail : List ℕ) → Among vs w → w ++ rest ≡ b ∷ tail → leads b vs ≡ true
among_leads b [] w rest tail a e = absurd a
among_leads b ([] ∷ vs) w rest tail a e = refl
among_leads b ((c ∷ v) ∷ vs) w rest tail a e = leads_step b c v (nat_eq c b) (leads b vs) refl (elim a [ inl p ↦ inl (head_same b c w v rest tail p e) | inr p ↦ inr (among_leads b vs w rest tail p e) ])

pub no_lead : (b : ℕ) (vs : List (List ℕ)) (text tail : List ℕ) → leads b vs ≡ false → text ≡ b ∷ tail → WordAmong vs text → ⊥
no_lead b vs text tail none e a = false≢true (sym none ∙ among_leads b vs a.word a.rest tail a.among (sym a.stands.parts ∙ e))

front_nil : (w rest : List ℕ) → w ++ rest ≡ [] → w ≡ []
front_nil [] rest e = refl
front_nil (x ∷ w) rest e = absurd (let f : x ∷ (w ++ rest) ≡ [] = e in cc)

no_word_end : (words : List (List ℕ)) (text : List ℕ) → any_eq words [] ≡ false → text ≡ [] → WordAmong words text → ⊥
no_word_end words text none e a = not_here words a.word [] none (front_nil a.word a.rest (sym a.stands.parts ∙ e)) a.among

-- ---- the words of each kind

-- a primitive's word begins with no brace and no parenthesis, and is not empty
pub no_close_word : (kinds : Kinds) (text tail : List ℕ) → text ≡ 125 ∷ tail → WordAmong (prim_words_of kinds) text → ⊥
no_close_word these.Six text tail e a = no_lead 125 prim_words text tail refl e a
no_close_word these.All text tail e a = no_lead 125 (prim_words_of these.All) text tail refl e a

pub no_open_word : (kinds : Kinds) (text tail : List ℕ) → text ≡ 123 ∷ tail → WordAmong (prim_words_of kinds) text → ⊥
no_open_word these.Six text tail e a = no_lead 123 prim_words text tail refl e a
no_open_word these.All text tail e a = no_lead 123 (prim_words_of these.All) text tail refl e a

pub no_paren_word : (kinds : Kinds) (text tail : List ℕ) → text ≡ 40 ∷ tail → WordAmong (prim_words_of kinds) text → ⊥
no_paren_word these.Six text tail e a = no_lead 40 prim_words text tail refl e a
no_paren_word these.All text tail e a = no_lead 40 (prim_words_of these.All) text tail refl e a

pub no_prim_at_end : (kinds : Kinds) (text : List ℕ) → text ≡ [] → WordAmong (prim_words_of kinds) text → ⊥
no_prim_at_end these.Six text e a = no_word_end prim_words text refl e a
no_prim_at_end these.All text e a = no_word_end (prim_words_of these.All) text refl e a

-- nor does a refused word
pub no_close_refused : (kinds : Kinds) (text tail : List ℕ) → text ≡ 125 ∷ tail → WordAmong (unsupported_words_of kinds) text → ⊥
no_close_refused these.Six text tail e a = no_lead 125 unsupported_words text tail refl e a
no_close_refused these.All text tail e a = no_lead 125 (unsupported_words_of these.All) text tail refl e a

pub no_refused_at_end : (kinds : Kinds) (text : List ℕ) → text ≡ [] → WordAmong (unsupported_words_of kinds) text → ⊥
no_refused_at_end these.Six text e a = no_word_end unsupported_words text refl e a
no_refused_at_end these.All text e a = no_word_end (unsupported_words_of these.All) text refl e a

pub prim_in_all : (kinds : Kinds) (w : List ℕ) → Among (prim_words_of kinds) w → Among (prim_words_of these.All) w
prim_in_all these.Six w a = among_front prim_words wider_words w a
prim_in_all these.All w a = a

pub wider_in_all : (w : List ℕ) → Among wider_words w → Among (prim_words_of these.All) w
wider_in_all w a = among_back prim_words wider_words w a

pub wider_refused : (w : List ℕ) → Among wider_words w → Among unsupported_words w
wider_refused w a = among_front wider_words refused_words w a

pub refused_in_six : (w : List ℕ) → Among (unsupported_words_of these.All) w → Among unsupported_words w
refused_in_six w a = among_back wider_words refused_words w a

pub six_refused : (w : List ℕ) → Among unsupported_words w → Among wider_words w ⊎ Among (unsupported_words_of these.All) w
six_refused w a = among_parts wider_words refused_words w a

pub refused_of : (kinds : Kinds) (w : List ℕ) → Among (unsupported_words_of these.All) w → Among (unsupported_words_of kinds) w
refused_of these.Six w a = refused_in_six w a
refused_of these.All w a = a

pub refused_unless_wider : (kinds : Kinds) (w : List ℕ) → Among (unsupported_words_of kinds) w → Among (prim_words_of these.All) w ⊎ Among (unsupported_words_of these.All) w
refused_unless_wider these.Six w a = elim (six_refused w a) [ inl b ↦ inl (wider_in_all w b) | inr b ↦ inr b ]
refused_unless_wider these.All w a = inr a

-- no primitive's word is refused
pub words_apart : (kinds : Kinds) (w : List ℕ) → Among (prim_words_of kinds) w → Among (unsupported_words_of kinds) w → ⊥
words_apart these.Six w a o = not_shared prim_words unsupported_words w refl a o
words_apart these.All w a o = not_shared (prim_words_of these.All) (unsupported_words_of these.All) w refl a o

pub both_words : (kinds : Kinds) (text : List ℕ) → WordAmong (prim_words_of kinds) text → WordAmong (unsupported_words_of kinds) text → ⊥
both_words kinds text a b =
    let one = (one_word text a.word b.word a.rest b.rest a.stands b.stands).0 in
    words_apart kinds b.word (subst (Among (prim_words_of kinds)) one a.among) b.among

pub wider_apart : (w : List ℕ) → Among wider_words w → Among prim_words w → ⊥
wider_apart w a o = not_shared wider_words prim_words w refl a o

-- ---- where a run of primitives ends

pub no_prim_ends : (kinds : Kinds) (text : List ℕ) → RunEnds text → WordAmong (prim_words_of kinds) text → ⊥
no_prim_ends these.Six text ends a = ends.prims a
no_prim_ends these.All text ends a =
    elim (among_parts prim_words wider_words a.word a.among) [
      | inl b ↦ ends.prims (record { word = a.word; rest = a.rest; stands = a.stands; among = b })
      | inr b ↦ ends.others (record { word = a.word; rest = a.rest; stands = a.stands; among = wider_refused a.word b })
    ]

pub no_refused_ends : (kinds : Kinds) (text : List ℕ) → RunEnds text → WordAmong (unsupported_words_of kinds) text → ⊥
no_refused_ends these.Six text ends a = ends.others a
no_refused_ends these.All text ends a = ends.others (other_words (unsupported_words_of these.All) unsupported_words text refused_in_six a)

pub run_ends : (kinds : Kinds) (text : List ℕ) → (WordAmong (prim_words_of kinds) text → ⊥) → (WordAmong (unsupported_words_of kinds) text → ⊥) → (Begins 40 text → ⊥) → RunEnds text
run_ends these.Six text prims others paren = record { prims = prims; others = others; paren = paren }
run_ends these.All text prims others paren =
    record {
      prims = λ a. prims (other_words prim_words (prim_words_of these.All) text (prim_in_all these.Six) a);
      others = λ a. elim (six_refused a.word a.among) [
        | inl b ↦ prims (record { word = a.word; rest = a.rest; stands = a.stands; among = wider_in_all a.word b })
        | inr b ↦ others (record { word = a.word; rest = a.rest; stands = a.stands; among = b })
      ];
      paren = paren;
    }
