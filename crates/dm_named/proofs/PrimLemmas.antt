-- Primitives one after the other.
use Rattle.std.proofs.Common.{◌<◌, ◌≡◌, ◌≤◌, ◌+◌, ℕ, suc, List, [], ◌∷◌, ◌++◌, length, map, refl, ap, subst, arith, inl, inr}
use Rattle.dm_prim.specs.Primitives.{Prim}
use Rattle.dm_named.specs.Words.{skipped, Word, Among, WordAmong}
use Rattle.dm_named.specs.Patches.{PrimText, NextPrim, prim_words_of}
use Rattle.dm_named.specs.Faults.{path_words, PrimsFaultWithin, PrimFaultAt, PrimFaultOf}
use Rattle.dm_named.specs.BodyWords.{path_word_of, word_of}
use Rattle.dm_named.specs.Many.{Many}
use Rattle.dm_named.specs.declared.fault.FaultKind.{FaultKind}
use Rattle.dm_named.specs.declared.fault.FaultKind.TheVariants.{TooMany}
use Rattle.dm_named.specs.declared.limits.Limits.{Limits}
use Rattle.dm_named.specs.declared.limits.Kinds.{Kinds}
use Rattle.dm_named.specs.declared.reading.words.PrimWord.{PrimWord}
use Rattle.dm_named.specs.declared.reading.words.AtPath.{AtPath}
use Rattle.dm_named.specs.declared.reading.words.AtPath.TheVariants as H
use Rattle.dm_named.specs.Kinds.{IsOf}
use Rattle.dm_named.specs.declared.limits.Kinds.TheVariants as these
use Rattle.dm_named.proofs.WordLemmas.{one_word}
use Rattle.dm_named.proofs.KindLemmas.{wider_apart}
use Rattle.dm_named.proofs.OnePatch.{prim_word, stands_word, of_six_or_wider}

pub path_among : (h : AtPath) → Among path_words (path_word_of h)
path_among H.AddFile = inl refl
path_among H.RmFile = inr (inl refl)
path_among H.AddDir = inr (inr (inl refl))
path_among H.RmDir = inr (inr (inr (inl refl)))
path_among H.Move = inr (inr (inr (inr (inl refl))))
path_among H.Hunk = inr (inr (inr (inr (inr (inl refl)))))
path_among H.Binary = inr (inr (inr (inr (inr (inr (inl refl))))))
path_among H.Replace = inr (inr (inr (inr (inr (inr (inr (inl refl)))))))

pub a_head : (kinds : Kinds) (text rest : List ℕ) (h : PrimWord) → Word text (word_of h) rest → Among (prim_words_of kinds) (word_of h) → WordAmong (prim_words_of kinds) text
a_head kinds text rest h w a = record { word = word_of h; rest = rest; stands = w; among = a }

pub no_a_word : (words : List (List ℕ)) (text word rest : List ℕ) → Word text word rest → (Among words word → ⊥) → WordAmong words text → ⊥
no_a_word words text word rest w none a = none (subst (Among words) (one_word text a.word word a.rest rest a.stands w).0 a.among)

pub too_many : (limits : Limits) (text mid here : List ℕ) (ps : List Prim) → Many (NextPrim limits.kinds) text ps mid → length ps ≤ limits.prims → limits.prims ≤ length ps → here ≡ skipped mid → WordAmong (prim_words_of limits.kinds) here → PrimsFaultWithin limits TooMany text here
too_many limits text mid here ps r few many e w =
    record { prims = ps; mid = mid; read = r; few = few; wrong = inl (e, omega arith, subst (WordAmong (prim_words_of limits.kinds)) e w) }

pub next_wrong : (limits : Limits) (kind : FaultKind) (text mid next here : List ℕ) (ps : List Prim) → Many (NextPrim limits.kinds) text ps mid → length ps < limits.prims → next ≡ skipped mid → WordAmong (prim_words_of limits.kinds) next → PrimFaultAt kind next here → PrimsFaultWithin limits kind text here
next_wrong limits kind text mid next here ps r few e due w =
    record { prims = ps; mid = mid; read = r; few = omega arith; wrong = inr (few, subst (λ (t : List ℕ). PrimFaultOf limits.kinds kind t here) e (record { due = due; wrong = w })) }

pub count_map : {X : Type 0} (f : X → Prim) (xs : List X) → length (map f xs) ≡ length xs
count_map f [] = refl
count_map f (x ∷ xs) = ap suc (count_map f xs)

pub head_is : (text rest : List ℕ) (h k : AtPath) → h ≡ k → Word text (path_word_of h) rest → Word text (path_word_of k) rest
head_is text rest h k e w = subst (λ (x : AtPath). Word text (path_word_of x) rest) e w

pub count_more : {X : Type 0} (f : X → Prim) (xs : List X) (x : X) → length (map f (xs ++ x ∷ [])) ≡ length xs + 1
count_more f [] x = refl
count_more f (y ∷ ys) x = omega (arith, count_more f ys x)

-- a primitive whose word is among those of the kinds is of them
of_kind : (kinds : Kinds) (p : Prim) → Among (prim_words_of kinds) (prim_word p) → IsOf kinds p
of_kind these.All p a = tt
of_kind these.Six p a = elim (of_six_or_wider p) [ inl o ↦ o | inr w ↦ absurd (wider_apart (prim_word p) w a) ]

pub a_next : (kinds : Kinds) (text here next after : List ℕ) (h : PrimWord) (p : Prim) → here ≡ skipped text → Word here (word_of h) next → Among (prim_words_of kinds) (word_of h) → PrimText here p after → NextPrim kinds text p after
a_next kinds text here next after h p e w a r =
    let s = stands_word here p after r in
    let same = (one_word here (word_of h) (prim_word p) next s.0 w s.1).0 in
    record { read = subst (λ (t : List ℕ). PrimText t p after) e r; kind = of_kind kinds p (subst (Among (prim_words_of kinds)) same a) }

-- a primitive whose word is one of the kinds' is of them
pub is_of_kind : (kinds : Kinds) (text next after : List ℕ) (h : PrimWord) (p : Prim) → Word text (word_of h) next → Among (prim_words_of kinds) (word_of h) → PrimText text p after → IsOf kinds p
is_of_kind kinds text next after h p w a r =
    let s = stands_word text p after r in
    of_kind kinds p (subst (Among (prim_words_of kinds)) (one_word text (word_of h) (prim_word p) next s.0 w s.1).0 a)
