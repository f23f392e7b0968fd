-- What a line of a length can't begin with.
use Rattle.std.proofs.Common.{◌≡◌, ◌≢◌, ◌⊎◌, inl, inr, ⊎_elim, ◌+◌, ◌*◌, ◌/◌, ◌%◌, ◌^◌, ◌<◌, ◌≤◌, ◌==◌, ℕ, zero, suc, Bool, true, false, cond, lt-ltb, ne_eqb, ne_eqb, List, [], ◌∷◌, ◌++◌, length, get_or, None, Some, refl, sym, ap, ◌∙◌, subst, arith, append_assoc, append-nil, length-append}
use Rattle.std.specs.Prelude.{Option, IfNone, is_none}
use Rattle.std.specs.Prelude.{if◌then◌else◌}
use Rattle.std.specs.Fmt.{decimal, digits, digits_onto, digit_glyph}
use Rattle.std.specs.Str.Parse.{AllDigits, digits_value_after, digits_value}
use Rattle.std.specs.Char.{digit_value}
use Rattle.std.specs.Io.KnownBytes.{IsAtEnd, prepend_known}
use Rattle.std.proofs.lemmas.Fmt.{decimal_is_IsNumeral_wide, decimal_digit, first_decimal, length-decimal-le}
use Rattle.std.proofs.lemmas.Bool.{true≢false}
use Rattle.std.proofs.lemmas.Str.Parse.{digit_from_value}
use Rattle.std.proofs.lemmas.Str.{digit_value_digit}
use Rattle.dm_named.specs.Limits.{own}
use Rattle.dm_scratch.specs.Printing.{line_of}
use Rattle.dm_deliver.specs.Framing.{frame, digits_if, begun, BeginsNoFrame, IsCut, IsFaultOf}
use Rattle.dm_deliver.specs.declared.place.Place.TheVariants.{Line, Text}
use Rattle.dm_deliver.specs.declared.place.Place.{Place}
use Rattle.dm_deliver.specs.FrameReading.{IsOutside}
use Rattle.dm_deliver.specs.declared.frame_fault.FrameFaultKind.{FrameFaultKind}
use Rattle.dm_deliver.specs.declared.frame_fault.FrameFaultKind.TheVariants.{BadLength, Cut, Read, NoMemory, TooMany}
use Rattle.dm_deliver.proofs.FrameLemmas.{decimal_more}

-- no digit
abbrev NoDigit : ℕ → Type 0
NoDigit b = digit_value b < 10 → ⊥

pub past_digits : (b : ℕ) → (b < 48) ⊎ (57 < b) → NoDigit b
past_digits b out digit = ⊎_elim (λ low. omega (arith, digit_from_value b digit, low)) (λ high. omega (arith, digit_from_value b digit, high)) out

first_of : (x y : ℕ) (xs ys : List ℕ) → x ∷ xs ≡ y ∷ ys → x ≡ y
first_of x y xs ys e = grind (arith, e)

rest_of : (x y : ℕ) (xs ys : List ℕ) → x ∷ xs ≡ y ∷ ys → xs ≡ ys
rest_of x y xs ys e = grind (arith, e)

-- every byte of a decimal is a digit
digit_small : (d : ℕ) → d < 10 → digit_value (48 + d) < 10
digit_small d lt = let e = digit_value_digit (48 + d) (omega arith) in omega (arith, e)

below_or_not : (n m : ℕ) → (n < m) ⊎ (m ≤ n)
below_or_not n zero = inr (omega arith)
below_or_not zero (suc m) = inl (omega arith)
below_or_not (suc n) (suc m) = ⊎_elim (λ (low : n < m). inl (omega (arith, low))) (λ (high : m ≤ n). inr (omega (arith, high))) (below_or_not n m)

zero_or_more : (k : ℕ) → (k ≡ 0) ⊎ (0 < k)
zero_or_more zero = inl refl
zero_or_more (suc k) = inr (omega arith)

glyph_digit : (d : ℕ) → d < 10 → digit_value (digit_glyph false d) < 10
glyph_digit d lt =
    let glyph : digit_glyph false d ≡ 48 + d = ap (λ (b : Bool). if b then 48 + d else 87 + d) (lt-ltb d 10 lt) in
    subst (λ (z : ℕ). digit_value z < 10) (sym glyph) (digit_small d lt)

onto_digits : (k n : ℕ) (acc : List ℕ) → AllDigits 10 acc → AllDigits 10 (digits_onto k 10 false n acc)
onto_digits zero n acc f = f
onto_digits (suc k) n acc f =
    let more : AllDigits 10 (digit_glyph false (n % 10) ∷ acc) = (glyph_digit (n % 10) (omega arith), f) in
    either (n / 10 == 0) _ _ more (onto_digits k (n / 10) _ more)
  where
    either : (b : Bool) (xs ys : List ℕ) → AllDigits 10 xs → AllDigits 10 ys → AllDigits 10 (cond b xs ys)
    either true xs ys p q = p
    either false xs ys p q = q

onto_longer : (k n : ℕ) (acc : List ℕ) → length acc ≤ length (digits_onto k 10 false n acc)
onto_longer zero n acc = omega arith
onto_longer (suc k) n acc = either (n / 10 == 0) (digit_glyph false (n % 10) ∷ acc) (digits_onto k 10 false (n / 10) (digit_glyph false (n % 10) ∷ acc)) (omega arith)
    (let more = onto_longer k (n / 10) (digit_glyph false (n % 10) ∷ acc) in omega (arith, more))
  where
    either : (b : Bool) (xs ys : List ℕ) → length acc ≤ length xs → length acc ≤ length ys → length acc ≤ length (cond b xs ys)
    either true xs ys p q = p
    either false xs ys p q = q

first_glyph : (k n : ℕ) → 0 < length (digits_onto (suc k) 10 false n [])
first_glyph k n = either (n / 10 == 0) (digit_glyph false (n % 10) ∷ []) (digits_onto k 10 false (n / 10) (digit_glyph false (n % 10) ∷ [])) (omega arith)
    (let more = onto_longer k (n / 10) (digit_glyph false (n % 10) ∷ []) in omega (arith, more))
  where
    either : (b : Bool) (xs ys : List ℕ) → 0 < length xs → 0 < length ys → 0 < length (cond b xs ys)
    either true xs ys p q = p
    either false xs ys p q = q

abbrev tenfold : ℕ → ℕ
tenfold zero = 1
tenfold (suc k) = 10 * tenfold k

tenfold_some : (k : ℕ) → 0 < tenfold k
tenfold_some zero = omega arith
tenfold_some (suc k) = omega (arith, tenfold_some k)

-- a number that has more digits than are spelled
onto_full : (k n : ℕ) (acc : List ℕ) → tenfold k ≤ n → length (digits_onto k 10 false n acc) ≡ k + length acc
onto_full zero n acc le = omega arith
onto_full (suc k) n acc le =
    let more : tenfold k ≤ n / 10 = omega (arith, le) in
    let other : (n / 10 == 0) ≡ false = ne_eqb (n / 10) 0 (λ (e : n / 10 ≡ 0). omega (arith, e, more, tenfold_some k)) in
    let g = digit_glyph false (n % 10) in
    subst (λ (b : Bool). length (cond b (g ∷ acc) (digits_onto k 10 false (n / 10) (g ∷ acc))) ≡ suc k + length acc) (sym other)
    (let rest = onto_full k (n / 10) (g ∷ acc) more in omega (arith, rest))

digits_full : (n : ℕ) → tenfold 64 ≤ n → length (decimal n) ≡ 64
unfolding digits
digits_full n le = onto_full 64 n [] le

pub digits_some : (n : ℕ) → 0 < length (decimal n)
unfolding digits
digits_some n = first_glyph 63 n

pub digits_each : (n : ℕ) → AllDigits 10 (decimal n)
unfolding digits
digits_each n = onto_digits 64 n [] tt

-- digits end at the same place
pub digits_end : (xs ys s t : List ℕ) (a b : ℕ) → AllDigits 10 xs → AllDigits 10 ys → NoDigit a → NoDigit b → xs ++ a ∷ s ≡ ys ++ b ∷ t → (xs ≡ ys) × (a ≡ b) × (s ≡ t)
digits_end [] [] s t a b f g p q e = (refl, first_of a b s t e, rest_of a b s t e)
digits_end [] (y ∷ ys) s t a b f g p q e = absurd (p (subst (λ (z : ℕ). digit_value z < 10) (sym (first_of a y s (ys ++ b ∷ t) e)) g.0))
digits_end (x ∷ xs) [] s t a b f g p q e = absurd (q (subst (λ (z : ℕ). digit_value z < 10) (first_of x b (xs ++ a ∷ s) t e) f.0))
digits_end (x ∷ xs) (y ∷ ys) s t a b f g p q e =
    let later = digits_end xs ys s t a b f.1 g.1 p q (rest_of x y (xs ++ a ∷ s) (ys ++ b ∷ t) e) in
    (ap (λ l. x ∷ l) later.0 ∙ ap (λ z. z ∷ ys) (first_of x y (xs ++ a ∷ s) (ys ++ b ∷ t) e), later.1, later.2)

-- digits that other digits begin with
pub digits_begin : (xs ys s t : List ℕ) (b : ℕ) → AllDigits 10 xs → NoDigit b → xs ++ s ≡ ys ++ b ∷ t → (more : List ℕ) × (ys ≡ xs ++ more)
digits_begin [] ys s t b f q e = (ys, refl)
digits_begin (x ∷ xs) [] s t b f q e = absurd (q (subst (λ (z : ℕ). digit_value z < 10) (first_of x b (xs ++ s) t e) f.0))
digits_begin (x ∷ xs) (y ∷ ys) s t b f q e =
    let later = digits_begin xs ys s t b f.1 q (rest_of x y (xs ++ s) (ys ++ b ∷ t) e) in
    (later.0, ap (λ z. z ∷ ys) (sym (first_of x y (xs ++ s) (ys ++ b ∷ t) e)) ∙ ap (λ l. x ∷ l) later.1)

value_more : (n : ℕ) (more : List ℕ) → n ≤ digits_value_after 10 n more
value_more n [] = omega arith
value_more n (c ∷ cs) = omega (arith, value_more (n * 10 + digit_value c) cs)

value_append : (n : ℕ) (xs more : List ℕ) → digits_value_after 10 n (xs ++ more) ≡ digits_value_after 10 (digits_value_after 10 n xs) more
value_append n [] more = refl
value_append n (x ∷ xs) more = value_append (n * 10 + digit_value x) xs more

wide : (n : ℕ) → n < 2 ^ 68 → n < 10 ^ 64
wide n lt = omega (arith, lt)

newline_ends : NoDigit 10
newline_ends = past_digits 10 (inl (omega arith))

-- a number that begins with the digits of another is no less
pub begins_less : (m n : ℕ) (s t : List ℕ) → m < 2 ^ 68 → n < 2 ^ 64 → decimal m ++ s ≡ decimal n ++ 10 ∷ t → m ≤ n
begins_less m n s t big small e =
    let dm = decimal_is_IsNumeral_wide m (wide m big) in
    let dn = decimal_is_IsNumeral_wide n (wide n (omega (arith, small))) in
    let more = digits_begin (decimal m) (decimal n) s t 10 dm.0.1 newline_ends e in
    let value : n ≡ digits_value_after 10 m more.0 =
    sym dn.1 ∙ ap (digits_value 10) more.1 ∙ value_append 0 (decimal m) more.0 ∙ ap (λ k. digits_value_after 10 k more.0) dm.1 in
    omega (arith, value, value_more m more.0)

-- what a frame is followed by, past its line
frame_split : (text rest : List ℕ) → frame text ++ rest ≡ decimal (length text) ++ 10 ∷ (text ++ rest)
frame_split text rest = append_assoc (line_of (decimal (length text))) text rest ∙ append_assoc (decimal (length text)) (10 ∷ []) (text ++ rest)

-- ---- no line goes on so

pub no_line_begins : (b : ℕ) (more : List ℕ) → NoDigit b → BeginsNoFrame (b ∷ more)
no_line_begins b more none text rest few e =
    let n = length text in
    let d = decimal_is_IsNumeral_wide n (wide n (omega (arith, few))) in
    let ends = digits_end [] (decimal n) more (text ++ rest) b 10 tt d.0.1 none newline_ends (e ∙ frame_split text rest) in
    omega (arith, ap length ends.0, d.0.0)

pub no_line_goes_on : (n b : ℕ) (more : List ℕ) → NoDigit b → b ≢ 10 → BeginsNoFrame (decimal n ++ b ∷ more)
no_line_goes_on n b more none other text rest few e =
    let k = length text in
    other (digits_end (decimal n) (decimal k) more (text ++ rest) b 10 (digits_each n) (digits_each k) none newline_ends (e ∙ frame_split text rest)).1

no_line_past_zero : (d : ℕ) (more : List ℕ) → d < 10 → BeginsNoFrame (decimal 0 ++ (48 + d) ∷ more)
no_line_past_zero d more digit text rest few e =
    let k = length text in
    let two : AllDigits 10 (48 ∷ (48 + d) ∷ []) = (omega arith, (digit_small d digit, tt)) in
    let begins = digits_begin (48 ∷ (48 + d) ∷ []) (decimal k) more (text ++ rest) 10 two newline_ends (ap (λ l. l ++ (48 + d) ∷ more) (sym (decimal_digit 0 (omega arith))) ∙ e ∙ frame_split text rest) in
    let first : get_or (decimal k) 0 0 ≡ 48 = ap (λ l. get_or l 0 0) begins.1 in
    let long : length (decimal k) ≡ suc (suc (length begins.0)) = ap length begins.1 in
    ⊎_elim (λ (zero_is : k ≡ 0). let one : length (decimal k) ≡ 1 = ap length (ap decimal zero_is ∙ decimal_digit 0 (omega arith)) in omega (arith, one, long))
    (λ (some : 0 < k). let above = first_decimal k some (omega (arith, few)) in omega (arith, above, first))
    (zero_or_more k)

no_line_past_limit : (n d : ℕ) (more : List ℕ) → 0 < n → n < 2 ^ 64 → d < 10 → own.bytes < 10 * n + d → BeginsNoFrame (decimal n ++ (48 + d) ∷ more)
no_line_past_limit n d more some small digit over text rest few e =
    let k = length text in
    let digits : decimal (10 * n + d) ≡ decimal n ++ (48 + d) ∷ [] = decimal_more n d some digit (omega arith) in
    let whole : decimal (10 * n + d) ++ more ≡ decimal k ++ 10 ∷ (text ++ rest) =
    ap (λ l. l ++ more) digits ∙ append_assoc (decimal n) ((48 + d) ∷ []) more ∙ e ∙ frame_split text rest in
    omega (arith, begins_less (10 * n + d) k more (text ++ rest) (omega arith) (omega (arith, few)) whole, few, over)

-- by what `with_digit` tests
pub no_digit_more : (n d : ℕ) → n < 2 ^ 64 → d < 10 → (n ≡ 0) ⊎ ((0 < n) × (own.bytes < 10 * n + d)) → (more : List ℕ) → BeginsNoFrame (decimal n ++ (48 + d) ∷ more)
no_digit_more n d small digit (inl none) more = subst (λ (k : ℕ). BeginsNoFrame (decimal k ++ (48 + d) ∷ more)) (sym none) (no_line_past_zero d more digit)
no_digit_more n d small digit (inr over) more = no_line_past_limit n d more over.0 small digit over.1

-- by what `after` tests
pub no_byte_more : (number : Option ℕ) (b : ℕ) → (b < 48) ⊎ (57 < b) → b ≢ 10 → (more : List ℕ) → BeginsNoFrame ((digits_if number ++ b ∷ []) ++ more)
no_byte_more None b out other more = no_line_begins b more (past_digits b out)
no_byte_more (Some n) b out other more = subst BeginsNoFrame (sym (append_assoc (decimal n) (b ∷ []) more)) (no_line_goes_on n b more (past_digits b out) other)

pub no_length : (number : Option ℕ) (b : ℕ) → number ≡ None → (b < 48) ⊎ (57 < b) → (more : List ℕ) → BeginsNoFrame ((digits_if number ++ b ∷ []) ++ more)
no_length number b none out more = rw none (no_line_begins b more (past_digits b out))

pub no_next_digit : (number : Option ℕ) (n d b : ℕ) → number ≡ Some n → b ≡ 48 + d → ((more : List ℕ) → BeginsNoFrame (decimal n ++ (48 + d) ∷ more)) → (more : List ℕ) → BeginsNoFrame ((digits_if number ++ b ∷ []) ++ more)
no_next_digit number n d b some is none more = rw (some, is) (subst BeginsNoFrame (sym (append_assoc (decimal n) ((48 + d) ∷ []) more)) (none more))

pub if_none : {A : Type 0} (found : Option A) (P : Type 0) → P → IfNone found P
if_none None P p = p
if_none (Some x) P p = tt

-- ---- what a fault says

pub outside : (kind : FrameFaultKind) (left reader : Option (List ℕ)) → IsOutside kind → IsFaultOf kind left reader
outside BadLength left reader is = absurd is
outside Cut left reader is = absurd is
outside Read left reader is = tt
outside NoMemory left reader is = tt
outside TooMany left reader is = absurd is

pub bad_length : (number : Option ℕ) (b : ℕ) (reader : Option (List ℕ)) → ((more : List ℕ) → BeginsNoFrame ((digits_if number ++ b ∷ []) ++ more)) →
    IsFaultOf BadLength (prepend_known (digits_if number ++ b ∷ []) reader) reader
bad_length number b None none = tt
bad_length number b (Some more) none = none more

no_newline : (xs ys t : List ℕ) → AllDigits 10 xs → xs ≡ ys ++ 10 ∷ t → ⊥
no_newline [] [] t f e = omega (arith, ap length e)
no_newline [] (y ∷ ys) t f e = omega (arith, ap length e)
no_newline (x ∷ xs) [] t f e = newline_ends (subst (λ (z : ℕ). digit_value z < 10) (first_of x 10 xs t e) f.0)
no_newline (x ∷ xs) (y ∷ ys) t f e = no_newline xs ys t f.1 (rest_of x y xs (ys ++ 10 ∷ t) e)

line_is_cut : (n : ℕ) → IsCut (decimal n)
line_is_cut n = record {
  some = λ none. omega (arith, digits_some n, ap length none);
  no_frame = λ text rest few e. no_newline (decimal n) (decimal (length text)) (text ++ rest) (digits_each n) (e ∙ frame_split text rest);
}

cut_line : (number : Option ℕ) (reader : Option (List ℕ)) → is_none number ≡ false → IsAtEnd reader → IsFaultOf Cut (prepend_known (digits_if number ++ []) reader) reader
cut_line number None some end = (tt, tt)
cut_line None (Some more) some end = absurd (true≢false some)
cut_line (Some n) (Some more) some end =
    let bytes : (decimal n ++ []) ++ more ≡ decimal n = ap (λ l. (decimal n ++ []) ++ l) end ∙ append-nil (decimal n ++ []) ∙ append-nil (decimal n) in
    (subst IsCut (sym bytes) (line_is_cut n), end)

-- the same digits spell the same number
same_digits : (n k : ℕ) → k < 2 ^ 64 → decimal n ≡ decimal k → n ≡ k
same_digits n k small e =
    ⊎_elim (λ (low : n < tenfold 64). sym (decimal_is_IsNumeral_wide n low).1 ∙ ap (digits_value 10) e ∙ (decimal_is_IsNumeral_wide k (wide k (omega (arith, small)))).1)
    (λ (high : tenfold 64 ≤ n). absurd (omega (arith, digits_full n high, ap length e, length-decimal-le 20 k (omega arith) (omega (arith, small)) small)))
    (below_or_not n (tenfold 64))

pub cut_at : (place : Place) (number : Option ℕ) (text : List ℕ) (reader : Option (List ℕ)) → place ≡ Line number None → is_none number ≡ false → IsAtEnd reader →
    IsFaultOf Cut (prepend_known (begun place text) reader) reader
cut_at place number text reader is some end = subst (λ (p : Place). IsFaultOf Cut (prepend_known (begun p text) reader) reader) (sym is) (cut_line number reader some end)

text_is_cut : (text : List ℕ) (left : ℕ) → 0 < left → IsCut (line_of (decimal (length text + left)) ++ text)
text_is_cut text left more =
    let n = length text + left in
    record {
      some = λ none. omega (arith, digits_some n, ap length none, length-append (line_of (decimal n)) text, length-append (decimal n) (10 ∷ []));
      no_frame = λ other rest few e.
          let k = length other in
          let ends = digits_end (decimal n) (decimal k) text (other ++ rest) 10 10 (digits_each n) (digits_each k) newline_ends newline_ends
          (sym (append_assoc (decimal n) (10 ∷ []) text) ∙ e ∙ frame_split other rest) in
          let same : n ≡ k = same_digits n k (omega (arith, few)) ends.0 in
          omega (arith, same, more, ap length ends.2, length-append other rest);
    }

pub cut_text : (text : List ℕ) (left : ℕ) (reader : Option (List ℕ)) → 0 < left → IsAtEnd reader →
    IsFaultOf Cut (prepend_known (begun (Text left) text) reader) reader
cut_text text left None more end = (tt, tt)
cut_text text left (Some rest) more end =
    let bytes : (line_of (decimal (length text + left)) ++ text) ++ rest ≡ line_of (decimal (length text + left)) ++ text =
    ap (λ l. (line_of (decimal (length text + left)) ++ text) ++ l) end ∙ append-nil (line_of (decimal (length text + left)) ++ text) in
    (subst IsCut (sym bytes) (text_is_cut text left more), end)
