-- That a log is plain, part by part.
use Rattle.std.proofs.Common.{◌≡◌, ◌<◌, ℕ, ◌-◌, ◌/◌, ◌%◌, suc, zero, Bool, true, false, not, ◌&&◌, ◌||◌, cond, nat_lt, List, [], ◌∷◌, ◌++◌, length, take, drop, get_or, refl, sym, ap, subst, ◌∙◌, arith, append-nil}
use Rattle.std.proofs.lemmas.Bool.{agree_below_at, false≢true, true_from_ne_false}
use Rattle.std.proofs.lemmas.Bool.Decides.{nat_tests}
use borrow.Author.Tests.{ltb-true}
use Rattle.std.proofs.lemmas.List.Folds.{list_all-append, list_all_at}
use Rattle.std.proofs.lemmas.Str.{encode_ascii, encodes-append, IsUtf8-from_is_utf8, scalars-chars}
use Rattle.std.specs.Prelude.{codes, slice_index, ◌==◌}
use Rattle.std.specs.List.{flat_map, join_by, list_all, slice_split}
use Rattle.std.specs.Fmt.{decimal, digit_glyph, digits as digits_of_number, digits_onto}
use Rattle.std.specs.Int.{is_in_range}
use Rattle.std.specs.Char.{encode_utf8, is_ascii_digit}
use Rattle.std.specs.Str.{all_scalars, chars, is_utf8}
use Rattle.dm_info.specs.PatchInfo.{PatchInfo}
use Rattle.dm_log.specs.Shown.{digits, escape, is_escaped, shown, shown_byte, shown_char}
use Rattle.dm_log.specs.Dates.{date_text, day_text, is_day, is_moment, is_time, moment_text, part, time_text}
use Rattle.dm_log.specs.Entries.{begins, entry_text, labelled, line_text, patch_hash, title}
use Rattle.dm_log.specs.Choices.{chosen, long_entry, long_shown, place_shown, placed_from}
use Rattle.dm_log.specs.Verbose.{detail, details, patch_shown}
use Rattle.dm_named.specs.Patches.{Patch}
use Rattle.dm_log.specs.Plain.{EntriesArePlain, IsPlain, LogsArePlain, is_plain}
use lib.Utf8.{scalar}

left_true : (a b : Bool) → (a && b) ≡ true → a ≡ true
left_true true b e = refl
left_true false b e = e

right_true : (a b : Bool) → (a && b) ≡ true → b ≡ true
right_true true b e = e
right_true false b e = absurd (false≢true e)

both_true : (a b : Bool) → a ≡ true → b ≡ true → (a && b) ≡ true
both_true a b e f = rw (e, f) refl

-- one of two texts, by a test
plain_if : (b : Bool) (s t : List ℕ) → (b ≡ true → IsPlain s) → (b ≡ false → IsPlain t) → IsPlain (cond b s t)
plain_if true s t f g = f refl
plain_if false s t f g = g refl

plain_nil : IsPlain []
plain_nil = record { characters = []; scalars = refl; plain = refl; spells = refl }

all_scalars-append : (cs ds : List ℕ) → all_scalars cs ≡ true → all_scalars ds ≡ true → all_scalars (cs ++ ds) ≡ true
all_scalars-append [] ds e f = f
all_scalars-append (c ∷ cs) ds e f = both_true (scalar c) (all_scalars (cs ++ ds)) (left_true (scalar c) (all_scalars cs) e) (all_scalars-append cs ds (right_true (scalar c) (all_scalars cs) e) f)

pub plain_append : (s t : List ℕ) → IsPlain s → IsPlain t → IsPlain (s ++ t)
plain_append s t p q = record {
  characters = p.characters ++ q.characters;
  scalars = all_scalars-append p.characters q.characters p.scalars q.scalars;
  plain = list_all-append is_plain p.characters q.characters ∙ both_true (list_all is_plain p.characters) (list_all is_plain q.characters) p.plain q.plain;
  spells = rw (p.spells, q.spells) (sym (encodes-append p.characters q.characters));
}

plain_char : (c : ℕ) → scalar c ≡ true → is_plain c ≡ true → IsPlain (encode_utf8 c)
plain_char c s p = record {
  characters = c ∷ [];
  scalars = both_true (scalar c) true s refl;
  plain = both_true (is_plain c) true p refl;
  spells = sym (append-nil (encode_utf8 c));
}

-- plain bytes of ASCII
abbrev is_plain_byte : ℕ → Bool
is_plain_byte b = nat_lt b 128 && (scalar b && is_plain b)

plain_byte : (b : ℕ) → is_plain_byte b ≡ true → IsPlain (b ∷ [])
plain_byte b e =
    let more = right_true (nat_lt b 128) (scalar b && is_plain b) e in
    let small : b < 128 = ltb-true b 128 (left_true (nat_lt b 128) (scalar b && is_plain b) e) in
    subst IsPlain (encode_ascii b small) (plain_char b (left_true (scalar b) (is_plain b) more) (right_true (scalar b) (is_plain b) more))

pub plain_bytes : (bs : List ℕ) → list_all is_plain_byte bs ≡ true → IsPlain bs
plain_bytes [] e = plain_nil
plain_bytes (b ∷ bs) e = plain_append (b ∷ []) bs (plain_byte b (left_true (is_plain_byte b) (list_all is_plain_byte bs) e)) (plain_bytes bs (right_true (is_plain_byte b) (list_all is_plain_byte bs) e))

pub plain_flat : {X : Type 0} (f : X → List ℕ) (xs : List X) → ((x : X) → IsPlain (f x)) → IsPlain (flat_map f xs)
plain_flat f [] h = plain_nil
plain_flat f (x ∷ xs) h = plain_append (f x) (flat_map f xs) (h x) (plain_flat f xs h)

pub plain_join : {X : Type 0} (f : X → List ℕ) (xs : List X) → ((x : X) → IsPlain (f x)) → IsPlain (join_by f (codes "\n") xs)
plain_join f [] h = plain_nil
plain_join f (x ∷ xs) h = plain_append (f x) (flat_map (λ y. codes "\n" ++ f y) xs) (h x) (plain_flat (λ y. codes "\n" ++ f y) xs (λ y. plain_append (codes "\n") (f y) (plain_bytes (codes "\n") refl) (h y)))

-- a test that holds of each holds at each place
at_place : (test : ℕ → Bool) (xs : List ℕ) (k : ℕ) → list_all test xs ≡ true → k < length xs → test (get_or xs k 0) ≡ true
at_place test xs k e lt = true_from_ne_false (test (get_or xs k 0)) (λ f. false≢true (sym (list_all_at test xs k 0 lt f) ∙ e))

plain_digit : (n : ℕ) → n < 16 → is_plain_byte (slice_index (codes "0123456789abcdef") n) ≡ true
plain_digit n lt = at_place is_plain_byte (codes "0123456789abcdef") n refl lt

pub plain_digits : (b : ℕ) → IsPlain (digits b)
plain_digits b =
    let high : is_plain_byte (slice_index (codes "0123456789abcdef") (b / 16 % 16)) ≡ true = plain_digit (b / 16 % 16) (omega arith) in
    let low : is_plain_byte (slice_index (codes "0123456789abcdef") (b % 16)) ≡ true = plain_digit (b % 16) (omega arith) in
    plain_append (slice_index (codes "0123456789abcdef") (b / 16 % 16) ∷ []) (slice_index (codes "0123456789abcdef") (b % 16) ∷ []) (plain_byte _ high) (plain_byte _ low)

plain_escape : (b : ℕ) → IsPlain (escape b)
plain_escape b = plain_append (codes "\\x") (digits b) (plain_bytes (codes "\\x") refl) (plain_digits b)

-- printable ASCII and the tab are plain
abbrev is_printed : ℕ → Bool
is_printed b = b == 9 || is_in_range 32 126 b

implies : (a b : Bool) → (not a || b) ≡ true → a ≡ true → b ≡ true
implies true b e h = e
implies false b e h = absurd (false≢true h)

printed_plain : (b : ℕ) → is_printed b ≡ true → is_plain_byte b ≡ true
printed_plain b e =
    let small : b < 127 = grind (arith, nat_tests) in
    implies (is_printed b) (is_plain_byte b) (agree_below_at (λ n. not (is_printed n) || is_plain_byte n) (λ n. true) 127 b refl small) e

pub plain_shown_byte : (b : ℕ) → IsPlain (shown_byte b)
plain_shown_byte b = plain_if (is_printed b) (b ∷ []) (escape b) (λ e. plain_byte b (printed_plain b e)) (λ e. plain_escape b)

not_true : (b : Bool) → b ≡ false → not b ≡ true
not_true b e = ap not e

or_right : (a b : Bool) → b ≡ true → (a || b) ≡ true
or_right true b e = refl
or_right false b e = e

plain_shown_char : (c : ℕ) → scalar c ≡ true → IsPlain (shown_char c)
plain_shown_char c s =
    let acts : Bool = is_escaped c in
    plain_if acts (flat_map escape (encode_utf8 c)) (encode_utf8 c) (λ e. plain_flat escape (encode_utf8 c) plain_escape) (λ e. plain_char c s (or_right (c == 10) (not acts) (not_true acts e)))

plain_shown_chars : (cs : List ℕ) → all_scalars cs ≡ true → IsPlain (flat_map shown_char cs)
plain_shown_chars [] e = plain_nil
plain_shown_chars (c ∷ cs) e = plain_append (shown_char c) (flat_map shown_char cs) (plain_shown_char c (left_true (scalar c) (all_scalars cs) e)) (plain_shown_chars cs (right_true (scalar c) (all_scalars cs) e))

pub plain_shown : (text : List ℕ) → IsPlain (shown text)
plain_shown text = plain_if (is_utf8 text) (flat_map shown_char (chars text)) (flat_map shown_byte text) (λ e. plain_shown_chars (chars text) (scalars-chars text (IsUtf8-from_is_utf8 text e))) (λ e. plain_flat shown_byte text plain_shown_byte)

digit_plain : (b : ℕ) → is_ascii_digit b ≡ true → is_plain_byte b ≡ true
digit_plain b e = printed_plain b (or_right (b == 9) (is_in_range 32 126 b) (grind (arith, nat_tests)))

plain_part : (d : List ℕ) → list_all is_ascii_digit d ≡ true → (n : ℕ) → IsPlain (take n d)
plain_part [] e zero = plain_nil
plain_part [] e (suc n) = plain_nil
plain_part (b ∷ d) e zero = plain_nil
plain_part (b ∷ d) e (suc n) = plain_append (b ∷ []) (take n d) (plain_byte b (digit_plain b (left_true (is_ascii_digit b) (list_all is_ascii_digit d) e))) (plain_part d (right_true (is_ascii_digit b) (list_all is_ascii_digit d) e) n)

digits_on : (d : List ℕ) → list_all is_ascii_digit d ≡ true → (i : ℕ) → list_all is_ascii_digit (drop i d) ≡ true
digits_on [] e zero = refl
digits_on [] e (suc i) = refl
digits_on (b ∷ d) e zero = e
digits_on (b ∷ d) e (suc i) = digits_on d (right_true (is_ascii_digit b) (list_all is_ascii_digit d) e) i

module _ (d : List ℕ) (e : list_all is_ascii_digit d ≡ true) where
  from : (i j : ℕ) → IsPlain (part d i j)
  from i j = plain_part (drop i d) (digits_on d e i) (j - i)

  plain_day : IsPlain (day_text d)
  plain_day =
      plain_append _ (codes " ") (plain_append _ (part d 6 8) (plain_append _ (codes "-") (plain_append _ (part d 4 6) (plain_append (part d 0 4) (codes "-") (from 0 4) (plain_bytes (codes "-") refl)) (from 4 6))
      (plain_bytes (codes "-") refl)) (from 6 8)) (plain_bytes (codes " ") refl)

  plain_time : IsPlain (time_text d)
  plain_time =
      plain_append _ (codes " UTC") (plain_append _ (part d 12 14) (plain_append _ (codes ":") (plain_append _ (part d 10 12) (plain_append (part d 8 10) (codes ":") (from 8 10) (plain_bytes (codes ":") refl)) (from 10 12))
      (plain_bytes (codes ":") refl)) (from 12 14)) (plain_bytes (codes " UTC") refl)

  plain_moment : IsPlain (moment_text d)
  plain_moment = plain_append (day_text d) (time_text d) plain_day plain_time

plain_date : (d : List ℕ) → IsPlain (date_text d)
plain_date d =
    plain_if (is_moment d) (moment_text d) (shown d)
    (λ e. plain_moment d (left_true (list_all is_ascii_digit d) (is_day d && is_time d) (right_true (length d == 14) (list_all is_ascii_digit d && (is_day d && is_time d)) e)))
    (λ e. plain_shown d)

plain_labelled : (label text : List ℕ) → list_all is_plain_byte label ≡ true → IsPlain text → IsPlain (labelled label text)
plain_labelled label text e p = plain_append (label ++ text) (codes "\n") (plain_append label text (plain_bytes label e) p) (plain_bytes (codes "\n") refl)

plain_title : (name : List ℕ) → IsPlain (title name)
plain_title name =
    plain_if (begins (codes "TAG ") name) (labelled (codes "  tagged ") (shown (drop 4 name))) (labelled (codes "  * ") (shown name))
    (λ e. plain_labelled (codes "  tagged ") (shown (drop 4 name)) refl (plain_shown (drop 4 name)))
    (λ e. plain_labelled (codes "  * ") (shown name) refl (plain_shown name))

plain_line : (line : List ℕ) → IsPlain (line_text line)
plain_line line =
    plain_if (begins (codes "Ignore-this: ") line) [] (labelled (codes "  ") (shown line)) (λ e. plain_nil) (λ e. plain_labelled (codes "  ") (shown line) refl (plain_shown line))

pub plain_entry : (i : PatchInfo) → IsPlain (entry_text i)
plain_entry i =
    plain_append _ (flat_map line_text i.log)
    (plain_append _ (title i.name)
    (plain_append _ (labelled (codes "Date:   ") (date_text i.date))
    (plain_append (labelled (codes "patch ") (flat_map digits (patch_hash i))) (labelled (codes "Author: ") (shown i.author))
    (plain_labelled (codes "patch ") (flat_map digits (patch_hash i)) refl (plain_flat digits (patch_hash i) plain_digits))
    (plain_labelled (codes "Author: ") (shown i.author) refl (plain_shown i.author)))
    (plain_labelled (codes "Date:   ") (date_text i.date) refl (plain_date i.date)))
    (plain_title i.name))
    (plain_flat line_text i.log plain_line)

pub logs_are_plain : LogsArePlain
logs_are_plain infos = plain_join entry_text infos plain_entry

plain_glyph : (n : ℕ) → IsPlain (digit_glyph false (n % 10) ∷ [])
plain_glyph n =
    let small : n % 10 < 10 = omega arith in
    plain_byte (digit_glyph false (n % 10)) (agree_below_at (λ d. is_plain_byte (digit_glyph false d)) (λ d. true) 10 (n % 10) refl small)

plain_onto : (k n : ℕ) (acc : List ℕ) → IsPlain acc → IsPlain (digits_onto k 10 false n acc)
plain_onto zero n acc p = p
plain_onto (suc k) n acc p =
    let more : IsPlain (digit_glyph false (n % 10) ∷ acc) = plain_append (digit_glyph false (n % 10) ∷ []) acc (plain_glyph n) p in
    plain_if (n / 10 == 0) (digit_glyph false (n % 10) ∷ acc) (digits_onto k 10 false (n / 10) (digit_glyph false (n % 10) ∷ acc)) (λ e. more) (λ e. plain_onto k (n / 10) (digit_glyph false (n % 10) ∷ acc) more)

plain_decimal : (n : ℕ) → IsPlain (decimal n)
unfolding digits_of_number
plain_decimal n = plain_onto 64 n [] plain_nil

plain_place : (places : Bool) (n : ℕ) → IsPlain (place_shown places n)
plain_place true n = plain_append (codes "#") (decimal n ++ codes "\n") (plain_bytes (codes "#") refl) (plain_append (decimal n) (codes "\n") (plain_decimal n) (plain_bytes (codes "\n") refl))
plain_place false n = plain_nil

plain_detail : (line : List ℕ) → IsPlain (detail line)
plain_detail line = plain_labelled (codes "    ") (shown line) refl (plain_shown line)

plain_details : (text : List ℕ) → IsPlain (details text)
plain_details text = plain_flat detail (slice_split (λ b. b == 10) (take (length text - 1) text)) plain_detail

plain_long : (verbose : Bool) (p : Patch) → IsPlain (long_shown verbose p)
plain_long true p = plain_append (codes "\n") (details (patch_shown p)) (plain_bytes (codes "\n") refl) (plain_details (patch_shown p))
plain_long false p = plain_nil

pub entries_are_plain : EntriesArePlain
entries_are_plain o patches =
    plain_join (long_entry o) (chosen o (placed_from 1 patches))
    (λ q. plain_append (place_shown o.places q.0) (entry_text q.1.info ++ long_shown o.verbose q.1) (plain_place o.places q.0)
    (plain_append (entry_text q.1.info) (long_shown o.verbose q.1) (plain_entry q.1.info) (plain_long o.verbose q.1)))
