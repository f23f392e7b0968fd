-- Words and bytes at places.
use Rattle.std.proofs.Common.{◌≡◌, ◌≤◌, ◌<◌, ◌-◌, ◌+◌, ℕ, zero, suc, true, false, List, [], ◌∷◌, ◌++◌, length, get_or, take, drop, refl, sym, ap, ◌∙◌, arith}
use Rattle.std.specs.List.{AllByRecursion}
use Rattle.std.proofs.lemmas.Bool.{false≢true}
use Rattle.std.proofs.lemmas.List.{get_or-drop, drop_more, drop_all, drop-drop, take-append-drop}
use Rattle.dm_named.specs.Words.{is_white, EndsWord, Word}

solid : (xs : List ℕ) (k : ℕ) → ((j : ℕ) → j < k → j < length xs → is_white (get_or xs j 0) ≡ false) → AllByRecursion (λ b. is_white b ≡ false) (take k xs)
solid xs zero h = tt
solid [] (suc k) h = tt
solid (x ∷ xs) (suc k) h = (h 0 (omega arith) (omega arith), solid xs k (λ j lt l. h (suc j) (omega arith) (omega arith)))

pub word_stands : (text : List ℕ) (at end : ℕ) → at ≤ end → end ≤ length text → ((j : ℕ) → at ≤ j → j < end → is_white (get_or text j 0) ≡ false) → EndsWord (drop end text) → Word (drop at text) (take (end - at) (drop at text)) (drop end text)
word_stands text at end le len h ends =
    let back : at + (end - at) ≡ end = omega arith in
    let rest : drop (end - at) (drop at text) ≡ drop end text = drop-drop (end - at) at text ∙ ap (λ (k : ℕ). drop k text) back in
    record {
      parts = sym (take-append-drop (end - at) (drop at text)) ∙ ap (λ (r : List ℕ). take (end - at) (drop at text) ++ r) rest;
      solid = solid (drop at text) (end - at) (λ j lt l. ap is_white (get_or-drop at text j 0) ∙ h (at + j) (omega arith) (omega arith));
      ends = ends;
    }

pub ends_last : (text : List ℕ) (end : ℕ) → length text ≤ end → EndsWord (drop end text)
ends_last text end le = rw (drop_all end text le) tt

pub ends_here : (text : List ℕ) (end : ℕ) → end < length text → is_white (get_or text end 0) ≡ true → EndsWord (drop end text)
ends_here text end lt w = rw (drop_more text end 0 lt) w

no_front : (b : ℕ) (w s : List ℕ) → EndsWord s → is_white b ≡ false → s ≡ b ∷ w → ⊥
no_front b w [] ends solid e = cc
no_front b w (c ∷ s) ends solid e = let same : c ≡ b = cc in false≢true (sym solid ∙ ap is_white (sym same) ∙ ends)

one_front : (w v r s : List ℕ) → AllByRecursion (λ b. is_white b ≡ false) w → AllByRecursion (λ b. is_white b ≡ false) v → EndsWord r → EndsWord s → w ++ r ≡ v ++ s → (w ≡ v) × (r ≡ s)
one_front [] [] r s f g p q e = (refl, e)
one_front [] (y ∷ v) r s f g p q e = absurd (no_front y (v ++ s) r p g.0 e)
one_front (x ∷ w) [] r s f g p q e = absurd (no_front x (w ++ r) s q f.0 (sym e))
one_front (x ∷ w) (y ∷ v) r s f g p q e =
    let heads : x ≡ y = cc in
    let tails : w ++ r ≡ v ++ s = cc in
    let t = one_front w v r s f.1 g.1 p q tails in
    ((λ k. heads k ∷ t.0 k), t.1)

pub one_word : (text w v r s : List ℕ) → Word text w r → Word text v s → (w ≡ v) × (r ≡ s)
one_word text w v r s a b = one_front w v r s a.solid b.solid a.ends b.ends (sym a.parts ∙ b.parts)
