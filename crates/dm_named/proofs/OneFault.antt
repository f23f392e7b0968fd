-- A text has at most one fault of a named patch.
use Rattle.std.proofs.Common.{◌≡◌, ◌<◌, ℕ, List, ◌∷◌, length, refl, sym, ap, subst, ◌∙◌, arith, inl, inr, false}
use Rattle.std.specs.Prelude.{◌≢◌, ◌⊎◌, [], codes, nat_eq}
use Rattle.std.specs.Cmp.Lexicographic.{other_text, pointwise}
use Rattle.std.proofs.lemmas.List.{length-append}
use Rattle.dm_info.proofs.SpellingLemmas.{one_info, stands_opens}
use Rattle.dm_info.specs.PatchInfo.{PatchInfo}
use Rattle.dm_info.specs.Spelling.{Stands, NoneStands, StandsInverted}
use Rattle.dm_prim.specs.Primitives.{Prim}
use Rattle.dm_named.specs.Kinds.{IsOf}
use Rattle.dm_named.specs.Words.{skipped, Word, WordAmong, Begins, NumberLine}
use Rattle.dm_named.specs.Many.{Many}
use Rattle.dm_named.specs.Patches.{PrimText, NextPrim, NextInfo, Dependencies, prim_words_of, unsupported_words_of, RunEnds}
use Rattle.dm_named.specs.Faults.{InfoFaultAt, PathFaultAt, NoChange, HunkFaultAt, HexFaultAt, old_hex, new_hex, BinaryFaultAt, ReplaceFaultAt, PreferenceFaultAt, PrimFaultAt, path, second, hunk, binary, replace, preference, PrimFaultOf, CountFaultWithin, BraceFaultAt, RunFaultAt, DependsFaultAt, AfterPrimsWithin, PrimsFaultWithin, BodyFaultWithin, in_braces, in_run, InfosFaultAt, OpenFaultAt, DepsFaultAt, PatchFaultWithin, info, deps, body}
use Rattle.dm_named.specs.declared.fault.FaultKind.{FaultKind}
use Rattle.dm_named.specs.declared.fault.FaultKind.TheVariants as K
use Rattle.dm_named.specs.declared.limits.Limits.{Limits}
use Rattle.dm_named.specs.declared.limits.Kinds.{Kinds}
use Rattle.dm_named.proofs.WordLemmas.{one_word}
use Rattle.dm_named.proofs.KindLemmas.{no_refused_at_end, no_refused_ends}
use Rattle.dm_named.proofs.BinaryLemmas.{one_word_and_stars, stars_or_none}
use Rattle.dm_named.proofs.ManyLemmas.{meet}
use Rattle.dm_named.proofs.OnePatch.{one_single, one_next, one_depends, prim_a_word}
use Rattle.dm_named.proofs.NoPatch.{no_info, path_stands, no_path_word, no_prim, not_prim, run_no_prim, no_deps, no_more_infos, tail_same}

-- the same fault at the same place
abbrev pub Same : FaultKind → FaultKind → List ℕ → List ℕ → Type 0
Same k l x y = (k ≡ l) × (x ≡ y)

-- two that are one fault at one place
pub both : {k l j : FaultKind} {x y z : List ℕ} → (k ≡ j) × (x ≡ z) → (l ≡ j) × (y ≡ z) → Same k l x y
both a b = (a.0 ∙ sym b.0, a.1 ∙ sym b.1)

-- ---- patch infos

pub info_kind : (k : FaultKind) (text x : List ℕ) → k ≢ K.NoMemory → InfoFaultAt k text x → (x ≡ text) × (((k ≡ K.BadInfo) × NoneStands text) ⊎ ((k ≡ K.Inverted) × StandsInverted text))
info_kind K.BadInfo text x m f = (f.0, inl (refl, f.1))
info_kind K.Inverted text x m f = (f.0, inr (refl, f.1))
info_kind K.NoMemory text x m f = absurd (m refl)
info_kind k text x m f = absurd f

pub one_info_fault : (k l : FaultKind) (text x y : List ℕ) → k ≢ K.NoMemory → l ≢ K.NoMemory → InfoFaultAt k text x → InfoFaultAt l text y → Same k l x y
one_info_fault k l text x y m n f g =
    let a = info_kind k text x m f in
    let b = info_kind l text y n g in
    elim a.1 [
      | inl p ↦ elim b.1 [ inl q ↦ both (p.0, a.0) (q.0, b.0) | inr q ↦ absurd (p.1.none_inverted q.1) ]
      | inr p ↦ elim b.1 [ inl q ↦ absurd (q.1.none_inverted p.1) | inr q ↦ both (p.0, a.0) (q.0, b.0) ]
    ]

-- ---- paths and hunks

path_kind : (k : FaultKind) (text x : List ℕ) → k ≢ K.NoMemory → PathFaultAt k text x → (k ≡ K.BadPath) × (x ≡ skipped text)
path_kind K.BadPath text x m f = (refl, f.0)
path_kind K.NoMemory text x m f = absurd (m refl)
path_kind k text x m f = absurd f

one_path_fault : (k l : FaultKind) (text x y : List ℕ) → k ≢ K.NoMemory → l ≢ K.NoMemory → PathFaultAt k text x → PathFaultAt l text y → Same k l x y
one_path_fault k l text x y m n f g = both (path_kind k text x m f) (path_kind l text y n g)

-- no number stands after white space
abbrev NoNumber : List ℕ → Type 0
NoNumber text = (n : ℕ) (rest : List ℕ) → NumberLine (skipped text) n rest → ⊥

hunk_kind : (k : FaultKind) (start text x : List ℕ) → k ≢ K.NoMemory → HunkFaultAt k start text x → ((k ≡ K.BadNumber) × (x ≡ skipped text) × NoNumber text) ⊎ ((k ≡ K.EmptyHunk) × (x ≡ start) × NoChange text)
hunk_kind K.BadNumber start text x m f = inl (refl, f.0, subst (λ (t : List ℕ). (n : ℕ) (rest : List ℕ) → NumberLine t n rest → ⊥) f.0 f.1)
hunk_kind K.EmptyHunk start text x m f = inr (refl, f.0, f.1)
hunk_kind K.NoMemory start text x m f = absurd (m refl)
hunk_kind k start text x m f = absurd f

a_number : (text : List ℕ) → NoNumber text → NoChange text → ⊥
a_number text none c = none c.number c.lines c.number_read

one_hunk_fault : (k l : FaultKind) (start text x y : List ℕ) → k ≢ K.NoMemory → l ≢ K.NoMemory → HunkFaultAt k start text x → HunkFaultAt l start text y → Same k l x y
one_hunk_fault k l start text x y m n f g =
    elim (hunk_kind k start text x m f) [
      | inl p ↦ elim (hunk_kind l start text y n g) [ inl q ↦ both (p.0, p.1) (q.0, q.1) | inr q ↦ absurd (a_number text p.2 q.2) ]
      | inr p ↦ elim (hunk_kind l start text y n g) [ inl q ↦ absurd (a_number text q.2 p.2) | inr q ↦ both (p.0, p.1) (q.0, q.1) ]
    ]

-- ---- contents in hex, tokens and preferences

one_hex_place : (text x y : List ℕ) → HexFaultAt text x → HexFaultAt text y → x ≡ y
one_hex_place text x y (old_hex f) (old_hex g) = f.place ∙ sym g.place
one_hex_place text x y (old_hex f) (new_hex lines mid a g) = absurd (stars_or_none (codes "oldhex") text x lines mid f a)
one_hex_place text x y (new_hex lines mid a f) (old_hex g) = absurd (stars_or_none (codes "oldhex") text y lines mid g a)
one_hex_place text x y (new_hex lines mid a f) (new_hex lines' mid' b g) =
    let one = (one_word_and_stars (codes "oldhex") (skipped text) lines lines' mid mid' a b).1 in
    f.place ∙ ap skipped one ∙ sym g.place

binary_kind : (k : FaultKind) (text x : List ℕ) → k ≢ K.NoMemory → BinaryFaultAt k text x → (k ≡ K.BadHex) × HexFaultAt text x
binary_kind K.BadHex text x m f = (refl, f)
binary_kind K.NoMemory text x m f = absurd (m refl)
binary_kind k text x m f = absurd f

one_binary_fault : (k l : FaultKind) (text x y : List ℕ) → k ≢ K.NoMemory → l ≢ K.NoMemory → BinaryFaultAt k text x → BinaryFaultAt l text y → Same k l x y
one_binary_fault k l text x y m n f g =
    let a = binary_kind k text x m f in
    let b = binary_kind l text y n g in
    (a.0 ∙ sym b.0, one_hex_place text x y a.1 b.1)

replace_kind : (k : FaultKind) (text x : List ℕ) → k ≢ K.NoMemory → ReplaceFaultAt k text x → (k ≡ K.BadTokens) × (x ≡ skipped text)
replace_kind K.BadTokens text x m f = (refl, f.0)
replace_kind K.NoMemory text x m f = absurd (m refl)
replace_kind k text x m f = absurd f

preference_kind : (k : FaultKind) (text x : List ℕ) → k ≢ K.NoMemory → PreferenceFaultAt k text x → (k ≡ K.BadPreference) × (x ≡ skipped text)
preference_kind K.BadPreference text x m f = (refl, f.0)
preference_kind K.NoMemory text x m f = absurd (m refl)
preference_kind k text x m f = absurd f

-- ---- one primitive

-- no word is two words
two_words : (v w text after after' : List ℕ) → false ≡ pointwise nat_eq v w → Word text v after → Word text w after' → ⊥
two_words v w text after after' differ a b = other_text v w differ (one_word text v w after after' a b).0

one_prim_fault : (k l : FaultKind) (text x y : List ℕ) → k ≢ K.NoMemory → l ≢ K.NoMemory → PrimFaultAt k text x → PrimFaultAt l text y → Same k l x y
one_prim_fault k l text x y m n (path a f) (path b g) =
    let one = one_word text a.word b.word a.rest b.rest a.stands b.stands in
    one_path_fault k l b.rest x y m n (subst (λ (t : List ℕ). PathFaultAt k t x) one.1 f) g
one_prim_fault k l text x y m n (path a f) (second q mid t g) = absurd (path_stands k (codes "move") text mid x q a m f t)
one_prim_fault k l text x y m n (path a f) (hunk q mid t g) = absurd (path_stands k (codes "hunk") text mid x q a m f t)
one_prim_fault k l text x y m n (path a f) (binary q mid t g) = absurd (path_stands k (codes "binary") text mid x q a m f t)
one_prim_fault k l text x y m n (path a f) (replace q mid t g) = absurd (path_stands k (codes "replace") text mid x q a m f t)
one_prim_fault k l text x y m n (path a f) (preference mid t g) = absurd (no_path_word text mid t a)
one_prim_fault k l text x y m n (second p mid s f) (path b g) = absurd (path_stands l (codes "move") text mid y p b n g s)
one_prim_fault k l text x y m n (second p mid s f) (second q mid' t g) =
    let one = one_single (codes "move") text p q mid mid' s t in
    one_path_fault k l mid' x y m n (subst (λ (u : List ℕ). PathFaultAt k u x) one.1 f) g
one_prim_fault k l text x y m n (second p mid s f) (hunk q mid' t g) = absurd (two_words (codes "move") (codes "hunk") text s.after t.after refl s.named t.named)
one_prim_fault k l text x y m n (second p mid s f) (binary q mid' t g) = absurd (two_words (codes "move") (codes "binary") text s.after t.after refl s.named t.named)
one_prim_fault k l text x y m n (second p mid s f) (replace q mid' t g) = absurd (two_words (codes "move") (codes "replace") text s.after t.after refl s.named t.named)
one_prim_fault k l text x y m n (second p mid s f) (preference mid' t g) = absurd (two_words (codes "move") (codes "changepref") text s.after mid' refl s.named t)
one_prim_fault k l text x y m n (hunk p mid s f) (path b g) = absurd (path_stands l (codes "hunk") text mid y p b n g s)
one_prim_fault k l text x y m n (hunk p mid s f) (second q mid' t g) = absurd (two_words (codes "hunk") (codes "move") text s.after t.after refl s.named t.named)
one_prim_fault k l text x y m n (hunk p mid s f) (hunk q mid' t g) =
    let one = one_single (codes "hunk") text p q mid mid' s t in
    one_hunk_fault k l text mid' x y m n (subst (λ (u : List ℕ). HunkFaultAt k text u x) one.1 f) g
one_prim_fault k l text x y m n (hunk p mid s f) (binary q mid' t g) = absurd (two_words (codes "hunk") (codes "binary") text s.after t.after refl s.named t.named)
one_prim_fault k l text x y m n (hunk p mid s f) (replace q mid' t g) = absurd (two_words (codes "hunk") (codes "replace") text s.after t.after refl s.named t.named)
one_prim_fault k l text x y m n (hunk p mid s f) (preference mid' t g) = absurd (two_words (codes "hunk") (codes "changepref") text s.after mid' refl s.named t)
one_prim_fault k l text x y m n (binary p mid s f) (path b g) = absurd (path_stands l (codes "binary") text mid y p b n g s)
one_prim_fault k l text x y m n (binary p mid s f) (second q mid' t g) = absurd (two_words (codes "binary") (codes "move") text s.after t.after refl s.named t.named)
one_prim_fault k l text x y m n (binary p mid s f) (hunk q mid' t g) = absurd (two_words (codes "binary") (codes "hunk") text s.after t.after refl s.named t.named)
one_prim_fault k l text x y m n (binary p mid s f) (binary q mid' t g) =
    let one = one_single (codes "binary") text p q mid mid' s t in
    one_binary_fault k l mid' x y m n (subst (λ (u : List ℕ). BinaryFaultAt k u x) one.1 f) g
one_prim_fault k l text x y m n (binary p mid s f) (replace q mid' t g) = absurd (two_words (codes "binary") (codes "replace") text s.after t.after refl s.named t.named)
one_prim_fault k l text x y m n (binary p mid s f) (preference mid' t g) = absurd (two_words (codes "binary") (codes "changepref") text s.after mid' refl s.named t)
one_prim_fault k l text x y m n (replace p mid s f) (path b g) = absurd (path_stands l (codes "replace") text mid y p b n g s)
one_prim_fault k l text x y m n (replace p mid s f) (second q mid' t g) = absurd (two_words (codes "replace") (codes "move") text s.after t.after refl s.named t.named)
one_prim_fault k l text x y m n (replace p mid s f) (hunk q mid' t g) = absurd (two_words (codes "replace") (codes "hunk") text s.after t.after refl s.named t.named)
one_prim_fault k l text x y m n (replace p mid s f) (binary q mid' t g) = absurd (two_words (codes "replace") (codes "binary") text s.after t.after refl s.named t.named)
one_prim_fault k l text x y m n (replace p mid s f) (replace q mid' t g) =
    let one = one_single (codes "replace") text p q mid mid' s t in
    both (replace_kind k mid' x m (subst (λ (u : List ℕ). ReplaceFaultAt k u x) one.1 f)) (replace_kind l mid' y n g)
one_prim_fault k l text x y m n (replace p mid s f) (preference mid' t g) = absurd (two_words (codes "replace") (codes "changepref") text s.after mid' refl s.named t)
one_prim_fault k l text x y m n (preference mid s f) (path b g) = absurd (no_path_word text mid s b)
one_prim_fault k l text x y m n (preference mid s f) (second q mid' t g) = absurd (two_words (codes "changepref") (codes "move") text mid t.after refl s t.named)
one_prim_fault k l text x y m n (preference mid s f) (hunk q mid' t g) = absurd (two_words (codes "changepref") (codes "hunk") text mid t.after refl s t.named)
one_prim_fault k l text x y m n (preference mid s f) (binary q mid' t g) = absurd (two_words (codes "changepref") (codes "binary") text mid t.after refl s t.named)
one_prim_fault k l text x y m n (preference mid s f) (replace q mid' t g) = absurd (two_words (codes "changepref") (codes "replace") text mid t.after refl s t.named)
one_prim_fault k l text x y m n (preference mid s f) (preference mid' t g) =
    let one = (one_word text (codes "changepref") (codes "changepref") mid mid' s t).1 in
    both (preference_kind k mid' x m (subst (λ (u : List ℕ). PreferenceFaultAt k u x) one f)) (preference_kind l mid' y n g)

-- ---- after primitives

-- what is wrong after so many primitives
abbrev pub Wrongs : Type 1
Wrongs = ℕ → List ℕ → List ℕ → Type 0

-- it leaves no place for a further one, within the count
abbrev pub NoFurther : Limits → Wrongs → List ℕ → Type 0
NoFurther limits W x = (count : ℕ) (text : List ℕ) → count < limits.prims → W count text x → (p : Prim) (r : List ℕ) → PrimText text p r → IsOf limits.kinds p → ⊥

one_after : (limits : Limits) (W V : Wrongs) (text x y : List ℕ) (Goal : Type 0) → NoFurther limits W x → NoFurther limits V y → ((count : ℕ) (next : List ℕ) → W count next x → V count next y → Goal) → AfterPrimsWithin limits W text x → AfterPrimsWithin limits V text y → Goal
one_after limits W V text x y Goal no_w no_v same a b =
    elim (meet (NextPrim limits.kinds) (one_next limits.kinds) text a.prims b.prims a.mid b.mid a.read b.read) [
      | inl e ↦ same (length b.prims) (skipped b.mid) (subst (λ (t : List ℕ). W (length b.prims) (skipped t) x) e.1 (subst (λ (ps : List Prim). W (length ps) (skipped a.mid) x) e.0 a.wrong)) b.wrong
      | inr o ↦ elim o [
        | inl g ↦ absurd (no_w (length a.prims) (skipped a.mid) (omega (arith, b.few, ap length g.longer, length-append a.prims (g.next ∷ g.more))) a.wrong g.next g.after g.stands.read g.stands.kind)
        | inr g ↦ absurd (no_v (length b.prims) (skipped b.mid) (omega (arith, a.few, ap length g.longer, length-append b.prims (g.next ∷ g.more))) b.wrong g.next g.after g.stands.read g.stands.kind)
      ]
    ]

pub count_kind : (limits : Limits) (k : FaultKind) (count : ℕ) (text x : List ℕ) → k ≢ K.NoMemory → CountFaultWithin limits k count text x → (k ≡ K.TooMany) × (x ≡ text) × (count ≡ limits.prims) × WordAmong (prim_words_of limits.kinds) text
count_kind limits K.TooMany count text x m f = (refl, f.0, f.1, f.2)
count_kind limits K.NoMemory count text x m f = absurd (m refl)
count_kind limits k count text x m f = absurd f

-- one of the primitives is wrong, by their count or by itself
abbrev pub Next : Limits → FaultKind → Wrongs
Next limits k count next x = CountFaultWithin limits k count next x ⊎ ((count < limits.prims) × PrimFaultOf limits.kinds k next x)

pub next_no_further : (limits : Limits) (k : FaultKind) (x : List ℕ) → k ≢ K.NoMemory → NoFurther limits (Next limits k) x
next_no_further limits k x m count text lt f p r s o =
    elim f [ inl a ↦ (let c = count_kind limits k count text x m a in omega (arith, lt, c.2)) | inr a ↦ no_prim k text x m a.1.wrong p r s ]

next_due : (limits : Limits) (k : FaultKind) (count : ℕ) (text x : List ℕ) → k ≢ K.NoMemory → Next limits k count text x → WordAmong (prim_words_of limits.kinds) text
next_due limits k count text x m f = elim f [ inl a ↦ (count_kind limits k count text x m a).3 | inr a ↦ a.1.due ]

one_next_fault : (limits : Limits) (k l : FaultKind) (x y : List ℕ) (count : ℕ) (text : List ℕ) → k ≢ K.NoMemory → l ≢ K.NoMemory → Next limits k count text x → Next limits l count text y → Same k l x y
one_next_fault limits k l x y count text m n f g =
    elim f [
      | inl a ↦
          let c = count_kind limits k count text x m a in
          elim g [ inl b ↦ (let d = count_kind limits l count text y n b in both (c.0, c.1) (d.0, d.1)) | inr b ↦ absurd (let lt = b.0 in omega (arith, lt, c.2)) ]
      | inr a ↦ elim g [
        | inl b ↦ absurd (let d = count_kind limits l count text y n b in let lt = a.0 in omega (arith, lt, d.2))
        | inr b ↦ one_prim_fault k l text x y m n a.1.wrong b.1.wrong
      ]
    ]

-- ---- bodies

pub brace_kind : (kinds : Kinds) (k : FaultKind) (text x : List ℕ) → BraceFaultAt kinds k text x → (x ≡ text)
    × (((k ≡ K.Unclosed) × (text ≡ [])) ⊎ (((k ≡ K.Unsupported) × (WordAmong (unsupported_words_of kinds) text ⊎ (Begins 123 text ⊎ Begins 40 text))) ⊎ ((k ≡ K.BadPatch) × (text ≢ []) × (Begins 123 text → ⊥) × RunEnds text)))
brace_kind kinds K.Unclosed text x f = (f.0, inl (refl, f.1))
brace_kind kinds K.Unsupported text x f = (f.0, inr (inl (refl, f.1)))
brace_kind kinds K.BadPatch text x f = (f.0, inr (inr (refl, f.1, f.3, f.4)))
brace_kind kinds k text x f = absurd f

not_at_end : (b : ℕ) (text : List ℕ) → text ≡ [] → Begins b text → ⊥
not_at_end b text e o = let f : [] ≡ b ∷ o.0 = sym e ∙ o.1 in cc

refused_at_end : (kinds : Kinds) (text : List ℕ) → text ≡ [] → WordAmong (unsupported_words_of kinds) text ⊎ (Begins 123 text ⊎ Begins 40 text) → ⊥
refused_at_end kinds text e r = elim r [ inl w ↦ no_refused_at_end kinds text e w | inr o ↦ elim o [ inl b ↦ not_at_end 123 text e b | inr b ↦ not_at_end 40 text e b ] ]

refused_no_bad : (kinds : Kinds) (text : List ℕ) → (Begins 123 text → ⊥) → RunEnds text → WordAmong (unsupported_words_of kinds) text ⊎ (Begins 123 text ⊎ Begins 40 text) → ⊥
refused_no_bad kinds text bare ends r = elim r [ inl w ↦ no_refused_ends kinds text ends w | inr o ↦ elim o [ inl b ↦ bare b | inr b ↦ ends.paren b ] ]

one_brace_fault : (kinds : Kinds) (k l : FaultKind) (text x y : List ℕ) → BraceFaultAt kinds k text x → BraceFaultAt kinds l text y → Same k l x y
one_brace_fault kinds k l text x y f g =
    let a = brace_kind kinds k text x f in
    let b = brace_kind kinds l text y g in
    elim a.1 [
      | inl p ↦ elim b.1 [ inl q ↦ both (p.0, a.0) (q.0, b.0) | inr o ↦ elim o [ inl q ↦ absurd (refused_at_end kinds text p.1 q.1) | inr q ↦ absurd (q.1 p.1) ] ]
      | inr o ↦ elim o [
        | inl p ↦ elim b.1 [ inl q ↦ absurd (refused_at_end kinds text q.1 p.1) | inr o ↦ elim o [ inl q ↦ both (p.0, a.0) (q.0, b.0) | inr q ↦ absurd (refused_no_bad kinds text q.2 q.3 p.1) ] ]
        | inr p ↦ elim b.1 [ inl q ↦ absurd (p.1 q.1) | inr o ↦ elim o [ inl q ↦ absurd (refused_no_bad kinds text p.2 p.3 q.1) | inr q ↦ both (p.0, a.0) (q.0, b.0) ] ]
      ]
    ]

pub run_kind : (kinds : Kinds) (k : FaultKind) (text x : List ℕ) → RunFaultAt kinds k text x → (k ≡ K.Unsupported) × (x ≡ text)
run_kind kinds K.Unsupported text x f = (refl, f.0)
run_kind kinds k text x f = absurd f

pub brace_no_further : (limits : Limits) (k : FaultKind) (x : List ℕ) → NoFurther limits (λ _. BraceFaultAt limits.kinds k) x
brace_no_further limits k x count text lt f p r s o = not_prim limits.kinds k text x f (prim_a_word limits.kinds text p r s o)

pub run_no_further : (limits : Limits) (k : FaultKind) (x : List ℕ) → NoFurther limits (λ _. RunFaultAt limits.kinds k) x
run_no_further limits k x count text lt f p r s o = run_no_prim limits.kinds k text x f (prim_a_word limits.kinds text p r s o)

one_in_braces : (limits : Limits) (k l : FaultKind) (text x y : List ℕ) → k ≢ K.NoMemory → l ≢ K.NoMemory → PrimsFaultWithin limits k text x ⊎ AfterPrimsWithin limits (λ _. BraceFaultAt limits.kinds k) text x → PrimsFaultWithin limits l text y ⊎ AfterPrimsWithin limits (λ _. BraceFaultAt limits.kinds l) text y → Same k l x y
one_in_braces limits k l text x y m n f g =
    elim f [
      | inl a ↦ elim g [
        | inl b ↦ one_after limits (Next limits k) (Next limits l) text x y (Same k l x y) (next_no_further limits k x m) (next_no_further limits l y n) (λ count next u v. one_next_fault limits k l x y count next m n u v) a b
        | inr b ↦ one_after limits (Next limits k) (λ _. BraceFaultAt limits.kinds l) text x y (Same k l x y) (next_no_further limits k x m) (brace_no_further limits l y) (λ count next u v. absurd (not_prim limits.kinds l next y v (next_due limits k count next x m u))) a b
      ]
      | inr a ↦ elim g [
        | inl b ↦ one_after limits (λ _. BraceFaultAt limits.kinds k) (Next limits l) text x y (Same k l x y) (brace_no_further limits k x) (next_no_further limits l y n) (λ count next u v. absurd (not_prim limits.kinds k next x u (next_due limits l count next y n v))) a b
        | inr b ↦ one_after limits (λ _. BraceFaultAt limits.kinds k) (λ _. BraceFaultAt limits.kinds l) text x y (Same k l x y) (brace_no_further limits k x) (brace_no_further limits l y) (λ count next u v. one_brace_fault limits.kinds k l next x y u v) a b
      ]
    ]

one_in_run : (limits : Limits) (k l : FaultKind) (text x y : List ℕ) → k ≢ K.NoMemory → l ≢ K.NoMemory → PrimsFaultWithin limits k text x ⊎ AfterPrimsWithin limits (λ _. RunFaultAt limits.kinds k) text x → PrimsFaultWithin limits l text y ⊎ AfterPrimsWithin limits (λ _. RunFaultAt limits.kinds l) text y → Same k l x y
one_in_run limits k l text x y m n f g =
    elim f [
      | inl a ↦ elim g [
        | inl b ↦ one_after limits (Next limits k) (Next limits l) text x y (Same k l x y) (next_no_further limits k x m) (next_no_further limits l y n) (λ count next u v. one_next_fault limits k l x y count next m n u v) a b
        | inr b ↦ one_after limits (Next limits k) (λ _. RunFaultAt limits.kinds l) text x y (Same k l x y) (next_no_further limits k x m) (run_no_further limits l y) (λ count next u v. absurd (run_no_prim limits.kinds l next y v (next_due limits k count next x m u))) a b
      ]
      | inr a ↦ elim g [
        | inl b ↦ one_after limits (λ _. RunFaultAt limits.kinds k) (Next limits l) text x y (Same k l x y) (run_no_further limits k x) (next_no_further limits l y n) (λ count next u v. absurd (run_no_prim limits.kinds k next x u (next_due limits l count next y n v))) a b
        | inr b ↦ one_after limits (λ _. RunFaultAt limits.kinds k) (λ _. RunFaultAt limits.kinds l) text x y (Same k l x y) (run_no_further limits k x) (run_no_further limits l y) (λ count next u v. both (run_kind limits.kinds k next x u) (run_kind limits.kinds l next y v)) a b
      ]
    ]

one_body_fault : (limits : Limits) (k l : FaultKind) (text x y : List ℕ) → k ≢ K.NoMemory → l ≢ K.NoMemory → BodyFaultWithin limits k text x → BodyFaultWithin limits l text y → Same k l x y
one_body_fault limits k l text x y m n (in_braces inside opens f) (in_braces inside' opens' g) =
    let same = tail_same 123 (skipped text) inside inside' opens opens' in
    one_in_braces limits k l inside' x y m n (subst (λ (t : List ℕ). PrimsFaultWithin limits k t x ⊎ AfterPrimsWithin limits (λ _. BraceFaultAt limits.kinds k) t x) same f) g
one_body_fault limits k l text x y m n (in_braces inside opens f) (in_run bare g) = absurd (bare (inside, opens))
one_body_fault limits k l text x y m n (in_run bare f) (in_braces inside opens g) = absurd (bare (inside, opens))
one_body_fault limits k l text x y m n (in_run bare f) (in_run bare' g) = one_in_run limits k l text x y m n f g

-- ---- dependencies

pub depends_kind : (k : FaultKind) (text x : List ℕ) → DependsFaultAt k text x → (k ≡ K.BadDepends) × (x ≡ text)
depends_kind K.BadDepends text x f = (refl, f.0)
depends_kind k text x f = absurd f

pub one_info_next : (text : List ℕ) (i j : PatchInfo) (r s : List ℕ) → NextInfo text i r → NextInfo text j s → (i ≡ j) × (r ≡ s)
one_info_next text i j r s a b = one_info (skipped text) i j r s a b

-- what is wrong after patch infos leaves no place for a further one
abbrev NoInfo : List ℕ → Type 0
NoInfo mid = (i : PatchInfo) (r : List ℕ) → NextInfo mid i r → ⊥

-- two that leave none stand at one place
one_end : (text : List ℕ) (is js : List PatchInfo) (r s : List ℕ) → Many NextInfo text is r → Many NextInfo text js s → NoInfo r → NoInfo s → r ≡ s
one_end text is js r s a b no_r no_s =
    elim (meet NextInfo one_info_next text is js r s a b) [ inl e ↦ e.1 | inr o ↦ elim o [ inl g ↦ absurd (no_r g.next g.after g.stands) | inr g ↦ absurd (no_s g.next g.after g.stands) ] ]

infos_end : (k : FaultKind) (text x : List ℕ) → k ≢ K.NoMemory → (f : InfosFaultAt k text x) → NoInfo f.mid
infos_end k text x m f i r s = no_info k (skipped f.mid) x m f.wrong i r s

open_end : (k : FaultKind) (text x : List ℕ) → (f : OpenFaultAt k text x) → NoInfo f.mid
open_end k text x f i r s = no_more_infos k (skipped f.mid) x f.wrong (stands_opens (skipped f.mid) i r s)

infos_or_open : (k l : FaultKind) (text x y : List ℕ) → k ≢ K.NoMemory → InfosFaultAt k text x → OpenFaultAt l text y → ⊥
infos_or_open k l text x y m f g =
    let same = one_end text f.infos g.infos f.mid g.mid f.read g.read (infos_end k text x m f) (open_end l text y g) in
    no_more_infos l (skipped g.mid) y g.wrong (subst (λ (t : List ℕ). Begins 91 (skipped t)) same f.opens)

one_in_angles : (k l : FaultKind) (text x y : List ℕ) → k ≢ K.NoMemory → l ≢ K.NoMemory → InfosFaultAt k text x ⊎ OpenFaultAt k text x → InfosFaultAt l text y ⊎ OpenFaultAt l text y → Same k l x y
one_in_angles k l text x y m n f g =
    elim f [
      | inl a ↦ elim g [
        | inl b ↦
            let same = one_end text a.infos b.infos a.mid b.mid a.read b.read (infos_end k text x m a) (infos_end l text y n b) in
            one_info_fault k l (skipped b.mid) x y m n (subst (λ (t : List ℕ). InfoFaultAt k (skipped t) x) same a.wrong) b.wrong
        | inr b ↦ absurd (infos_or_open k l text x y m a b)
      ]
      | inr a ↦ elim g [
        | inl b ↦ absurd (infos_or_open l k text y x n b a)
        | inr b ↦
            let same = one_end text a.infos b.infos a.mid b.mid a.read b.read (open_end k text x a) (open_end l text y b) in
            both (depends_kind k (skipped b.mid) x (subst (λ (t : List ℕ). DependsFaultAt k (skipped t) x) same a.wrong)) (depends_kind l (skipped b.mid) y b.wrong)
      ]
    ]

one_deps_fault : (k l : FaultKind) (text x y : List ℕ) → k ≢ K.NoMemory → l ≢ K.NoMemory → DepsFaultAt k text x → DepsFaultAt l text y → Same k l x y
one_deps_fault k l text x y m n f g =
    let same = tail_same 60 (skipped text) f.inside g.inside f.opens g.opens in
    one_in_angles k l g.inside x y m n (subst (λ (t : List ℕ). InfosFaultAt k t x ⊎ OpenFaultAt k t x) same f.wrong) g.wrong

-- ---- named patches

-- a fault of the dependencies, where they stand
deps_or_body : (k : FaultKind) (text x : List ℕ) (i j : PatchInfo) (after after' start : List ℕ) (ds : List PatchInfo) → k ≢ K.NoMemory → Stands text i after → DepsFaultAt k after x → Stands text j after' → Dependencies after' ds start → ⊥
deps_or_body k text x i j after after' start ds m s f t d =
    let one = one_info text i j after after' s t in
    no_deps k after' x m (subst (λ (u : List ℕ). DepsFaultAt k u x) one.1 f) ds start d

pub one_patch_fault : (limits : Limits) (k l : FaultKind) (text x y : List ℕ) → k ≢ K.NoMemory → l ≢ K.NoMemory → PatchFaultWithin limits k text x → PatchFaultWithin limits l text y → Same k l x y
one_patch_fault limits k l text x y m n (info f) (info g) = one_info_fault k l text x y m n f g
one_patch_fault limits k l text x y m n (info f) (deps j after t g) = absurd (no_info k text x m f j after t)
one_patch_fault limits k l text x y m n (info f) (body j es after start t e g) = absurd (no_info k text x m f j after t)
one_patch_fault limits k l text x y m n (deps i after s f) (info g) = absurd (no_info l text y n g i after s)
one_patch_fault limits k l text x y m n (deps i after s f) (deps j after' t g) =
    let one = one_info text i j after after' s t in
    one_deps_fault k l after' x y m n (subst (λ (u : List ℕ). DepsFaultAt k u x) one.1 f) g
one_patch_fault limits k l text x y m n (deps i after s f) (body j es after' start t e g) = absurd (deps_or_body k text x i j after after' start es m s f t e)
one_patch_fault limits k l text x y m n (body i ds after start s d f) (info g) = absurd (no_info l text y n g i after s)
one_patch_fault limits k l text x y m n (body i ds after start s d f) (deps j after' t g) = absurd (deps_or_body l text y j i after' after start ds n t g s d)
one_patch_fault limits k l text x y m n (body i ds after start s d f) (body j es after' start' t e g) =
    let one = one_info text i j after after' s t in
    let two = one_depends after' ds es start start' (subst (λ (u : List ℕ). Dependencies u ds start) one.1 d) e in
    one_body_fault limits k l start' x y m n (subst (λ (u : List ℕ). BodyFaultWithin limits k u x) two.1 f) g
