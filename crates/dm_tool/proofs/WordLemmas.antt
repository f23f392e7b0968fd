-- A word is cut at its first equals sign.
use Rattle.std.proofs.Common.{◌≡◌, ℕ, ◌+◌, ◌<◌, ◌==◌, Bool, true, false, List, [], ◌∷◌, ◌++◌, length, take, get_or, Contains, refl, sym, ◌∙◌, ap, subst, arith, length-append, drop}
use Rattle.std.specs.Borrow.{Bor}
use Rattle.std.specs.List.{position_or_len, before_first, after_first}
use Rattle.std.proofs.Math.Seq.{get_or-append_seam}
use Rattle.std.proofs.lemmas.Bool.{eqb-true, false≢true}
use Rattle.std.proofs.lemmas.List.{get_or-take, get_or_append_left, length-take-le, take_more, drop_more, take-append-drop, map-append}
use Rattle.std.proofs.lemmas.List.Sums.{fails_before_first, split_at_first, passes_at_first}
use Rattle.dm_tool.specs.Posters.{AreSplit, IsFirstBad, IsPosterWord, IsNoPosterWord, bytes_of}
use Rattle.dm_tool.specs.Held.{words_in}

-- a byte is an equals sign
abbrev pub is_equals : ℕ → Bool
is_equals b = b == 61

-- the byte that is found
found_is : (word : List ℕ) → position_or_len is_equals word < length word → get_or word (position_or_len is_equals word) 0 ≡ 61
found_is word within = eqb-true (get_or word (position_or_len is_equals word) 0) 61 (passes_at_first is_equals word 0 within)

pub split_found : (word poster file : List ℕ) → position_or_len is_equals word < length word → poster ≡ before_first is_equals word → file ≡ after_first is_equals word → 0 < length poster → IsPosterWord word poster file
split_found word poster file within p f long = record {
  spelled = split_at_first is_equals word 0 within ∙ ap (λ (b : ℕ). before_first is_equals word ++ b ∷ after_first is_equals word) (found_is word within)
      ∙ ap (λ (l : List ℕ). l ++ 61 ∷ after_first is_equals word) (sym p) ∙ ap (λ (l : List ℕ). poster ++ 61 ∷ l) (sym f);
  first = λ at.
      let at_word : Contains (before_first is_equals word) 61 = subst (λ (l : List ℕ). Contains l 61) p at in
      let within-first : at_word.0 < position_or_len is_equals word = omega (arith, at_word.1, length-take-le (position_or_len is_equals word) word (omega (arith, within))) in
      let is : get_or word at_word.0 61 ≡ 61 = sym (get_or-take (position_or_len is_equals word) word at_word.0 61 within-first) ∙ at_word.2 in
      false≢true (sym (fails_before_first is_equals word at_word.0 61 within-first) ∙ ap is_equals is);
  named = long;
}

pub split_missed : (word : List ℕ) → position_or_len is_equals word ≡ length word → IsNoPosterWord word
split_missed word never poster file w =
    let within : length poster < length word = omega (arith, ap length w.spelled, length-append poster (61 ∷ file)) in
    let at : get_or word (length poster) 0 ≡ 61 = ap (λ (l : List ℕ). get_or l (length poster) 0) w.spelled ∙ get_or-append_seam poster 61 file 0 in
    false≢true (sym (fails_before_first is_equals word (length poster) 0 (omega (arith, never))) ∙ ap is_equals at)

get_or_default : (xs : List ℕ) → get_or xs 0 0 ≡ 61 → get_or xs 0 61 ≡ 61
get_or_default [] e = refl
get_or_default (x ∷ xs) e = e

pub split_empty : (word : List ℕ) → position_or_len is_equals word < length word → length (before_first is_equals word) ≡ 0 → IsNoPosterWord word
split_empty word within none poster file w =
    let first : position_or_len is_equals word ≡ 0 = sym (length-take-le (position_or_len is_equals word) word (omega (arith, within))) ∙ none in
    let at : get_or word 0 0 ≡ 61 = ap (λ (n : ℕ). get_or word n 0) (sym first) ∙ found_is word within in
    let here : get_or poster 0 0 ≡ 61 = sym (ap (λ (l : List ℕ). get_or l 0 0) w.spelled ∙ get_or_append_left poster (61 ∷ file) 0 0 w.named) ∙ at in
    w.first (0, w.named, get_or_default poster here)

pub some_bytes : (xs : List ℕ) → false ≡ (length xs == 0) → 0 < length xs
some_bytes [] e = absurd (false≢true e)
some_bytes (x ∷ xs) e = omega arith

pub split_push : (ws : List (List ℕ)) (ps : List (List ℕ × List ℕ)) (w : List ℕ) (p : List ℕ × List ℕ) → AreSplit ws ps → IsPosterWord w p.0 p.1 → AreSplit (ws ++ w ∷ []) (ps ++ p ∷ [])
split_push [] [] w p a is = (is, tt)
split_push [] (q ∷ ps) w p a is = absurd a
split_push (v ∷ ws) [] w p a is = absurd a
split_push (v ∷ ws) (q ∷ ps) w p a is = (a.0, split_push ws ps w p a.1 is)

module _ (words : List (Bor (List ℕ))) (i : ℕ) (d : Bor (List ℕ)) (within : i < length words) (pairs : List (Bor (List ℕ) × Bor (List ℕ))) (so_far : AreSplit (bytes_of (take i words)) (words_in pairs)) where
  -- one word more
  pub split_more : (pair : Bor (List ℕ) × Bor (List ℕ)) → IsPosterWord (get_or words i d).now pair.0.now pair.1.now → AreSplit (bytes_of (take (i + 1) words)) (words_in (pairs ++ pair ∷ []))
  split_more pair is =
      let more : bytes_of (take (i + 1) words) ≡ bytes_of (take i words) ++ (get_or words i d).now ∷ [] = ap bytes_of (take_more words i d within) ∙ map-append (λ (t : Bor (List ℕ)). t.now) (take i words) (get_or words i d ∷ []) in
      let pushed : words_in (pairs ++ pair ∷ []) ≡ words_in pairs ++ (pair.0.now, pair.1.now) ∷ [] = map-append {B = List ℕ × List ℕ} (λ (p : Bor (List ℕ) × Bor (List ℕ)). (p.0.now, p.1.now)) pairs (pair ∷ []) in
      rw (more, pushed) (split_push (bytes_of (take i words)) (words_in pairs) (get_or words i d).now (pair.0.now, pair.1.now) so_far is)

  -- the first that is bad
  pub split_stops : IsNoPosterWord (get_or words i d).now → IsFirstBad (bytes_of words) (get_or words i d).now
  split_stops bad = record {
    before = bytes_of (take i words);
    pairs = words_in pairs;
    rest = bytes_of (drop (i + 1) words);
    stands = ap bytes_of (sym (take-append-drop i words) ∙ ap (λ (l : List (Bor (List ℕ))). take i words ++ l) (drop_more words i d within)) ∙ map-append (λ (t : Bor (List ℕ)). t.now) (take i words) (get_or words i d ∷ drop (i + 1) words);
    split = so_far;
    bad = bad;
  }

pub no_bytes : (xs : List ℕ) → true ≡ (length xs == 0) → xs ≡ []
no_bytes [] e = refl
no_bytes (x ∷ xs) e = absurd (omega (arith, eqb-true (length (x ∷ xs)) 0 (sym e)))
