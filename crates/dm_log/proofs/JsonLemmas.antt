-- How what is written as JSON grows by one text, one value and one line.
use Rattle.std.proofs.Common.{◌≡◌, ◌<◌, ◌≤◌, ◌+◌, ℕ, zero, suc, Bool, true, false, List, [], ◌∷◌, ◌++◌, length, take, map, get_or, Vec, Global, refl, sym, ap, ◌∙◌, arith, append_assoc}
use Rattle.std.specs.Prelude.{codes, Result, Ok, Err, MatchResult, is_ok, slice_index_or}
use Rattle.std.specs.List.{All, AllByRecursion, filter, flat_map, list_all}
use Rattle.std.specs.Str.{IsUtf8, is_utf8}
use Rattle.std.proofs.lemmas.Str.{is_utf8-from_IsUtf8}
use Rattle.std.proofs.lemmas.List.{append-nil, flat_map_more, map_push, take_all, take_more}
use Rattle.std.proofs.lemmas.List.Elements.{All-append, All-cons, All-nil, filter-append}
use Rattle.std.proofs.lemmas.List.Folds.{list_all-append, list_all_at}
use Rattle.serde_json.specs.Data.{Data, Members, string, array, boolean, no_members, put}
use Rattle.serde_json.specs.View.{items_of, view}
use Rattle.serde_json.specs.declared.value.Value.{Value, Array}
use Rattle.serde_json.proofs.Views.{view-Array}
use Rattle.dm_info.specs.PatchInfo.{AreLines, Free, PatchInfo, is_newline}
use Rattle.dm_tree.specs.Validity.{IsPlain, has_newline}
use Rattle.dm_log.specs.Dates.{iso_date}
use Rattle.dm_log.specs.Entries.{begins}
use Rattle.dm_log.specs.Finding.{hash_text}
use Rattle.dm_log.specs.Json.{array_of, in_hex, info_members, readable, told, with_lines, with_text}
use Rattle.dm_log.specs.Plain as plain
use Rattle.dm_log.specs.Shown.{digits, shown_byte}
use Rattle.dm_log.proofs.PlainLemmas.{plain_digits, plain_flat, plain_shown_byte}
use Rattle.dm_log.proofs.ShownLemmas.{not_utf8}

plain_utf8 : (text : List ℕ) → plain.IsPlain text → IsUtf8 text
plain_utf8 text p = (p.characters, (p.scalars, sym p.spells))

-- digits are UTF-8, and so is what is escaped
pub hex_utf8 : (bytes : List ℕ) → IsUtf8 (flat_map digits bytes)
hex_utf8 bytes = plain_utf8 (flat_map digits bytes) (plain_flat digits bytes plain_digits)

pub escaped_utf8 : (bytes : List ℕ) → IsUtf8 (flat_map shown_byte bytes)
escaped_utf8 bytes = plain_utf8 (flat_map shown_byte bytes) (plain_flat shown_byte bytes plain_shown_byte)

-- which of the two forms a text has
pub readable-IsUtf8 : (text : List ℕ) → IsUtf8 text → readable text ≡ text
readable-IsUtf8 text u = rw (is_utf8-from_IsUtf8 text u) refl

pub readable-other : (text : List ℕ) → (IsUtf8 text → ⊥) → readable text ≡ flat_map shown_byte text
readable-other text other = rw (not_utf8 text other) refl

-- where bytes are read as UTF-8, they are
pub ok_is_utf8 : {T E : Type 0} (A : T → Type 0) (B : E → Type 0) (text : List ℕ) (r : Result T E) → MatchResult r (λ s. A s × IsUtf8 text) (λ e. (IsUtf8 text → ⊥) × B e) → is_ok r ≡ is_utf8 text
ok_is_utf8 A B text (Ok x) m = sym (is_utf8-from_IsUtf8 text m.1)
ok_is_utf8 A B text (Err e) m = sym (not_utf8 text m.0)

-- one more line passes the test
pub all_turn : (test : List ℕ → Bool) (xs : List (List ℕ)) (k : ℕ) → k < length xs → list_all test (take k xs) ≡ true → test (get_or xs k []) ≡ true → list_all test (take (k + 1) xs) ≡ true
all_turn test xs k lt a b = ap (list_all test) (take_more xs k [] lt) ∙ list_all-append test (take k xs) (get_or xs k [] ∷ []) ∙ rw (a, b) refl

-- all of them do
pub all_end : (test : List ℕ → Bool) (xs : List (List ℕ)) (k : ℕ) → length xs ≤ k → list_all test (take k xs) ≡ true → list_all test xs ≡ true
all_end test xs k le a = sym (ap (list_all test) (take_all k xs le)) ∙ a

-- one more value
pub values_more : {X : Type 0} (f : X → Data) (before after : List X) (x : X) (vs vs' : List Value) (v : Value) → after ≡ before ++ x ∷ [] → map view vs ≡ map f before → vs' ≡ vs ++ v ∷ [] → view v ≡ f x → map view vs' ≡ map f after
values_more f before after x vs vs' v turn h more is =
    ap (λ (l : List Value). map view l) more ∙ map_push view vs v ∙ rw (h, is) (sym (ap (λ l. map f l) turn ∙ map_push f before x))

pub values_turn : {X : Type 0} (f : X → Data) (xs : List X) (k : ℕ) (d : X) (vs vs' : List Value) (v : Value) → k < length xs → map view vs ≡ map f (take k xs) → vs' ≡ vs ++ v ∷ [] → view v ≡ f (get_or xs k d) → map view vs' ≡ map f (take (k + 1) xs)
values_turn f xs k d vs vs' v lt h more is = values_more f (take k xs) (take (k + 1) xs) (get_or xs k d) vs vs' v (take_more xs k d lt) h more is

-- all values
pub values_end : {X : Type 0} (f : X → Data) (xs : List X) (k : ℕ) (vs : Vec Value Global) → length xs ≤ k → map view vs.items ≡ map f (take k xs) → view (Array vs) ≡ array_of f xs
values_end f xs k vs le h = view-Array vs ∙ ap (λ l. array (items_of l)) (h ∙ ap (λ l. map f l) (take_all k xs le))

free_plain : (l : List ℕ) → Free is_newline l → IsPlain l
free_plain [] f = refl
free_plain (b ∷ l) f = rw f.0 (free_plain l f.1)

-- a line of a patch info has no newline
pub line_plain : (lines : List (List ℕ)) (k : ℕ) → AreLines lines → k < length lines → IsPlain (slice_index_or lines k [])
line_plain [] k f lt = refl
line_plain (l ∷ ls) zero f lt = free_plain l f.0
line_plain (l ∷ ls) (suc k) f lt = line_plain ls k f.1 (omega arith)

-- one more line of a log
pub told_turn : (lines : List (List ℕ)) (k : ℕ) (before after : List (List ℕ)) (line : List ℕ) → k < length lines → before ≡ told (take k lines) → line ≡ get_or lines k [] → after ≡ before ++ told (line ∷ []) → after ≡ told (take (k + 1) lines)
told_turn lines k before after line lt b is a =
    rw (a, b, is) (sym (ap told (take_more lines k [] lt) ∙ filter-append _ (take k lines) (get_or lines k [] ∷ [])))

-- one more text
pub flat_turn : {X : Type 0} (f : X → List ℕ) (xs : List X) (k : ℕ) (x : X) (before after : List ℕ) → k < length xs → get_or xs k x ≡ x → before ≡ flat_map f (take k xs) → after ≡ before ++ f x → after ≡ flat_map f (take (k + 1) xs)
flat_turn f xs k x before after lt at b a =
    let turn : take (k + 1) xs ≡ take k xs ++ x ∷ [] = take_more xs k x lt ∙ ap (λ y. take k xs ++ y ∷ []) at in
    rw (turn, a, b) (flat_map_more f [] (take k xs) x)

-- one more of which it holds
pub holds_turn : {X : Type 0} (P : X → Type 0) (xs : List X) (k : ℕ) (x : X) → k < length xs → get_or xs k x ≡ x → All P (take k xs) → P x → All P (take (k + 1) xs)
holds_turn P xs k x lt at h p =
    let turn : take (k + 1) xs ≡ take k xs ++ x ∷ [] = take_more xs k x lt ∙ ap (λ y. take k xs ++ y ∷ []) at in
    rw turn (All-append P (take k xs) (x ∷ []) h (All-cons P x [] p (All-nil P)))

-- the members of a patch info, set one by one
pub info_made : (i : PatchInfo) {author date name : List ℕ} {log : List (List ℕ)} {hash tag : Data} {m0 m1 m2 m3 m4 m5 m6 : Members} → m0 ≡ no_members → m1 ≡ with_text (codes "author") author m0 → author ≡ i.author →
    m2 ≡ with_text (codes "date") date m1 → date ≡ iso_date i.date → m3 ≡ with_text (codes "name") name m2 → name ≡ i.name → m4 ≡ put (codes "hash") hash m3 → hash ≡ string (hash_text i) →
    m5 ≡ with_lines (codes "log") log m4 → log ≡ told i.log → m6 ≡ put (codes "tag") tag m5 → tag ≡ boolean (begins (codes "TAG ") i.name) → m6 ≡ info_members i
info_made i e0 e1 a e2 d e3 n e4 h e5 l e6 t = rw (e6, t, e5, l, e4, h, e3, n, e2, d, e1, a, e0) refl
