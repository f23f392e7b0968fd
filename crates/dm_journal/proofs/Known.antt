-- Lines of fields, one after another.
use Rattle.std.proofs.Common.{◌≡◌, ◌≢◌, inl, inr, ◌+◌, ◌<◌, zero, suc, ℕ, List, [], ◌∷◌, ◌++◌, ◌==◌, ◌||◌, Bool, true, false, None, Some, length, take, drop, slice_index, get_or, codes, refl, sym, ◌∙◌, ap, subst, arith, length-append}
use Rattle.std.proofs.Math.Seq.{get_or-append_seam}
use Rattle.std.specs.List.{list_any}
use Rattle.std.proofs.lemmas.Bool.{eqb-true, false≢true, false_from_ne_true}
use Rattle.std.proofs.lemmas.List.{drop_more, take-append-drop}
use Rattle.memchr.specs.Find.{IsFirstByte, is_byte}
use Rattle.dm_journal.specs.declared.format.Format.TheVariants.{First, Second, Third, Fields}
use Rattle.dm_journal.specs.declared.format.KindsField.TheVariants.{Six, All}
use Rattle.dm_journal.specs.declared.format.ChecksumField.TheVariants.{Sha256, Lanes}
use Rattle.dm_journal.specs.Format.{line}
use Rattle.dm_journal.specs.Laws.{FilesHaveOneUnknownField, KnownHeadersHaveNone}
use Rattle.dm_journal.specs.Fields.{IsField, BeginsWithLine, AreFields, UnknownField}

abbrev has_newline : List ℕ → Bool
has_newline line = list_any (λ byte. byte == 10) line

either_false : (a b : Bool) → (a || b) ≡ false → (a ≡ false) × (b ≡ false)
either_false true b e = absurd (false≢true (sym e))
either_false false b e = (refl, e)

both_false : (a b : Bool) → a ≡ false → b ≡ false → (a || b) ≡ false
both_false true b e f = absurd (false≢true (sym e))
both_false false b e f = f

-- a line is cut at its newline in one way
one_cut : (l m r s : List ℕ) → has_newline l ≡ false → has_newline m ≡ false → l ++ 10 ∷ r ≡ m ++ 10 ∷ s → (l ≡ m) × (r ≡ s)
one_cut [] [] r s p q e = (refl, cc e)
one_cut [] (b ∷ m) r s p q e =
    let head : 10 ≡ b = ap (λ (v : List ℕ). get_or v 0 0) e in
    absurd (false≢true (sym (either_false (b == 10) (has_newline m) q).0 ∙ ap (λ (x : ℕ). x == 10) (sym head)))
one_cut (a ∷ l) [] r s p q e =
    let head : a ≡ 10 = ap (λ (v : List ℕ). get_or v 0 0) e in
    absurd (false≢true (sym (either_false (a == 10) (has_newline l) p).0 ∙ ap (λ (x : ℕ). x == 10) head))
one_cut (a ∷ l) (b ∷ m) r s p q e =
    let head : a ≡ b = ap (λ (v : List ℕ). get_or v 0 0) e in
    let rest = one_cut l m r s (either_false (a == 10) (has_newline l) p).1 (either_false (b == 10) (has_newline m) q).1 (ap (drop 1) e) in
    (ap (λ (x : ℕ). x ∷ l) head ∙ ap (λ (v : List ℕ). b ∷ v) rest.0, rest.1)

pub same_line : (bytes l m r s : List ℕ) → BeginsWithLine bytes l r → BeginsWithLine bytes m s → (l ≡ m) × (r ≡ s)
same_line bytes l m r s p q = one_cut l m r s p.whole q.whole (sym p.is ∙ q.is)

-- no known field stands here
abbrev pub HasNoField : List ℕ → Type 0
HasNoField rest = (line more : List ℕ) → BeginsWithLine rest line more → ¬ IsField line

-- behind known fields there is one place
pub fields_end_alike : (bytes : List ℕ) (a b : List (List ℕ)) (r s : List ℕ) → AreFields bytes a r → AreFields bytes b s → HasNoField r → HasNoField s → r ≡ s
fields_end_alike bytes [] [] r s p q no-r no-s = sym p ∙ q
fields_end_alike bytes [] (m ∷ b) r s p q no-r no-s = absurd (no-r m q.0 (subst (λ (l : List ℕ). BeginsWithLine l m q.0) p q.2) q.1)
fields_end_alike bytes (l ∷ a) [] r s p q no-r no-s = absurd (no-s l p.0 (subst (λ (v : List ℕ). BeginsWithLine v l p.0) q p.2) p.1)
fields_end_alike bytes (l ∷ a) (m ∷ b) r s p q no-r no-s =
    let same = same_line bytes l m p.0 q.0 p.2 q.2 in
    fields_end_alike q.0 a b r s (subst (λ (v : List ℕ). AreFields v a r) same.1 p.3) q.3 no-r no-s

-- one known field more
pub fields_push : (bytes : List ℕ) (lines : List (List ℕ)) (mid line rest : List ℕ) → AreFields bytes lines mid → BeginsWithLine mid line rest → IsField line → AreFields bytes (lines ++ line ∷ []) rest
fields_push bytes [] mid line rest same b known = (rest, known, subst (λ (l : List ℕ). BeginsWithLine l line rest) (sym same) b, refl)
fields_push bytes (l ∷ lines) mid line rest fields b known = (fields.0, fields.1, fields.2, fields_push fields.0 lines mid line rest fields.3 b known)

-- the line in front of the first newline
front_whole : (xs : List ℕ) (k : ℕ) → ((j : ℕ) → j < k → (slice_index xs j == 10) ≡ true → ⊥) → has_newline (take k xs) ≡ false
front_whole [] zero f = refl
front_whole [] (suc k) f = refl
front_whole (x ∷ xs) zero f = refl
front_whole (x ∷ xs) (suc k) f = both_false (x == 10) (has_newline (take k xs)) (false_from_ne_true (x == 10) (f 0 (omega arith))) (front_whole xs k (λ j lt. f (suc j) (omega arith)))

-- the line that is read
pub line_here : (rest : List ℕ) (k : ℕ) → IsFirstByte (is_byte 10) rest (Some k) → BeginsWithLine rest (take k rest) (drop (k + 1) rest)
line_here rest k first =
    let at : drop k rest ≡ get_or rest k 0 ∷ drop (k + 1) rest = drop_more rest k 0 first.0.high in
    let newline : get_or rest k 0 ≡ 10 = eqb-true (get_or rest k 0) 10 first.1 in
    record {
      whole = front_whole rest k (λ j lt. first.0.before j (omega arith) lt);
      is = sym (take-append-drop k rest) ∙ ap (λ (l : List ℕ). take k rest ++ l) at ∙ ap (λ (b : ℕ). take k rest ++ b ∷ drop (k + 1) rest) newline;
    }

-- without a newline there is no line
pub no_line : (rest : List ℕ) → IsFirstByte (is_byte 10) rest None → (line more : List ℕ) → BeginsWithLine rest line more → ⊥
no_line rest never line more b =
    let within : length line < length rest = omega (arith, ap length b.is, length-append line (10 ∷ more)) in
    let at : get_or rest (length line) 0 ≡ 10 = ap (λ (l : List ℕ). get_or l (length line) 0) b.is ∙ get_or-append_seam line 10 more 0 in
    never (length line) (omega arith) within (ap (λ (x : ℕ). x == 10) at)

empty_is_no_field : (line : List ℕ) → line ≡ [] → IsField line → ⊥
empty_is_no_field line none (inl is) = omega (arith, ap length (sym none ∙ is))
empty_is_no_field line none (inr (inl is)) = omega (arith, ap length (sym none ∙ is))
empty_is_no_field line none (inr (inr (inl is))) = omega (arith, ap length (sym none ∙ is))
empty_is_no_field line none (inr (inr (inr (inl is)))) = omega (arith, ap length (sym none ∙ is))
empty_is_no_field line none (inr (inr (inr (inr is)))) = omega (arith, ap length (sym none ∙ is))

-- no field stands where an unknown one does
at_unknown : (file field : List ℕ) (u : UnknownField file field) → HasNoField u.rest
at_unknown file field u line more b known = u.unknown (subst IsField (same_line u.rest line field more u.more b u.stands).0 known)

same_header : (file a b : List ℕ) → file ≡ codes "dm journal fields\n" ++ a → file ≡ codes "dm journal fields\n" ++ b → a ≡ b
same_header file a b p q = ap (drop 18) (sym p ∙ q)

-- where known fields end with an empty line, or the file does, none is unknown
pub none_unknown : (file bytes : List ℕ) (lines : List (List ℕ)) (rest : List ℕ) → file ≡ codes "dm journal fields\n" ++ bytes → AreFields bytes lines rest → ((line more : List ℕ) → BeginsWithLine rest line more → line ≡ []) → (field : List ℕ) → UnknownField file field → ⊥
none_unknown file bytes lines rest is fields ends field u =
    let known = subst (λ (l : List ℕ). AreFields l lines rest) (same_header file bytes u.bytes is u.is) fields in
    let stops = λ (line more : List ℕ) (b : BeginsWithLine rest line more) (f : IsField line). empty_is_no_field line (ends line more b) f in
    let same = fields_end_alike u.bytes lines u.lines rest u.rest known u.known stops (at_unknown file field u) in
    u.some (ends field u.more (subst (λ (l : List ℕ). BeginsWithLine l field u.more) (sym same) u.stands))

-- and no two are
pub one_unknown : FilesHaveOneUnknownField
one_unknown file a b u v =
    let known = subst (λ (l : List ℕ). AreFields l u.lines u.rest) (same_header file u.bytes v.bytes u.is v.is) u.known in
    let same = fields_end_alike v.bytes u.lines v.lines u.rest v.rest known v.known (at_unknown file a u) (at_unknown file b v) in
    (same_line v.rest a b u.more v.more (subst (λ (l : List ℕ). BeginsWithLine l a u.more) same u.stands) v.stands).0

pub not_empty : (line : List ℕ) → false ≡ (length line == 0) → line ≢ []
not_empty line some none = false≢true (some ∙ ap (λ (l : List ℕ). length l == 0) none)

pub is_empty : (line : List ℕ) → true ≡ (length line == 0) → line ≡ []
is_empty [] none = refl
is_empty (b ∷ line) none = absurd (omega (arith, eqb-true (length (b ∷ line)) 0 (sym none)))

field_and : (bytes line more : List ℕ) (lines : List (List ℕ)) (rest : List ℕ) → IsField line → BeginsWithLine bytes line more → AreFields more lines rest → AreFields bytes (line ∷ lines) rest
field_and bytes line more lines rest known b fields = (more, known, b, fields)

empty_line : (behind line more : List ℕ) → BeginsWithLine (10 ∷ behind) line more → line ≡ []
empty_line behind line more b = (same_line (10 ∷ behind) line [] more behind b (record { whole = refl; is = refl })).0

-- behind the first line of a header that is known
of_known : (kinds checksum file more field : List ℕ) → IsField kinds → has_newline kinds ≡ false → IsField checksum → has_newline checksum ≡ false → file ≡ codes "dm journal fields\n" ++ (kinds ++ 10 ∷ (checksum ++ 10 ∷ (codes "base counted\n\n" ++ more))) → UnknownField file field → ⊥
of_known kinds checksum file more field known whole known_too whole_too is =
    let last = codes "base counted\n\n" ++ more in
    let mid = checksum ++ 10 ∷ last in
    let three = field_and last (codes "base counted") (10 ∷ more) [] (10 ∷ more) (inr (inr (inr (inr refl)))) (record { whole = refl; is = refl }) refl in
    let two = field_and mid checksum last (codes "base counted" ∷ []) (10 ∷ more) known_too (record { whole = whole_too; is = refl }) three in
    let all = field_and (kinds ++ 10 ∷ mid) kinds mid (checksum ∷ codes "base counted" ∷ []) (10 ∷ more) known (record { whole = whole; is = refl }) two in
    none_unknown file (kinds ++ 10 ∷ mid) (kinds ∷ checksum ∷ codes "base counted" ∷ []) (10 ∷ more) is all (empty_line more) field

-- a known header has no unknown field
pub none_in_known : KnownHeadersHaveNone
unfolding line
none_in_known First file field w u = let h : 49 ≡ 102 = ap (λ (l : List ℕ). get_or l 11 0) (sym w.1 ∙ u.is) in omega (arith, h)
none_in_known Second file field w u = let h : 50 ≡ 102 = ap (λ (l : List ℕ). get_or l 11 0) (sym w.1 ∙ u.is) in omega (arith, h)
none_in_known Third file field w u = let h : 52 ≡ 102 = ap (λ (l : List ℕ). get_or l 11 0) (sym w.1 ∙ u.is) in omega (arith, h)
none_in_known (Fields Six Sha256) file field w u = of_known (codes "kinds six") (codes "checksum sha256") file w.0 field (inl refl) refl (inr (inr (inl refl))) refl w.1 u
none_in_known (Fields Six Lanes) file field w u = of_known (codes "kinds six") (codes "checksum lanes") file w.0 field (inl refl) refl (inr (inr (inr (inl refl)))) refl w.1 u
none_in_known (Fields All Sha256) file field w u = of_known (codes "kinds all") (codes "checksum sha256") file w.0 field (inr (inl refl)) refl (inr (inr (inl refl))) refl w.1 u
none_in_known (Fields All Lanes) file field w u = of_known (codes "kinds all") (codes "checksum lanes") file w.0 field (inr (inl refl)) refl (inr (inr (inr (inl refl)))) refl w.1 u
