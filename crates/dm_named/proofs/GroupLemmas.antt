-- Groups of lines, and that a text has one.
use Rattle.std.proofs.Common.{◌≡◌, ℕ, ◌+◌, ◌<◌, ◌≤◌, suc, true, List, [], ◌∷◌, ◌++◌, length, get_or, drop, ◌-◌, ◌*◌, refl, sym, ap, subst, ◌∙◌, arith, inl, inr}
use Rattle.std.proofs.lemmas.Bool.{false≢true}
use Rattle.std.proofs.lemmas.List.{drop_more, drop_all}
use Rattle.std.specs.List.{AllByRecursion}
use Rattle.dm_info.specs.PatchInfo.{is_newline}
use Rattle.dm_named.specs.Words.{NoNewline, is_white, Begins, Word, Line, MarkedLine, LineGroup, BlankLine, IsNumberText, IsDigit, number_from, NumberLine, skipped}
use Rattle.dm_named.specs.Faults.{NoChange}
use Rattle.dm_named.specs.Many.{Many}
use Rattle.dm_named.proofs.WordLemmas.{one_word}
use Rattle.dm_named.proofs.ManyLemmas.{Closed, many_more, one_many}

pub lines_more : (b : ℕ) (text : List ℕ) (lines : List (List ℕ)) (mid inside line after : List ℕ) → Many (MarkedLine b) text lines mid → mid ≡ b ∷ inside → Line inside line after → Many (MarkedLine b) text (lines ++ line ∷ []) after
lines_more b text lines mid inside line after r e l = many_more (MarkedLine b) text lines mid line after r (record { inside = inside; mark = e; read = l })

-- ---- one line, one group

same_front : (l m r s : List ℕ) → NoNewline l → NoNewline m → l ++ 10 ∷ r ≡ m ++ 10 ∷ s → (l ≡ m) × (r ≡ s)
same_front [] [] r s f g e = (refl, cc)
same_front [] (y ∷ m) r s f g e = let y-is : 10 ≡ y = cc in absurd (false≢true (sym g.0 ∙ ap is_newline (sym y-is)))
same_front (x ∷ l) [] r s f g e = let x-is : x ≡ 10 = cc in absurd (false≢true (sym f.0 ∙ ap is_newline x-is))
same_front (x ∷ l) (y ∷ m) r s f g e =
    let heads : x ≡ y = cc in
    let tails : l ++ 10 ∷ r ≡ m ++ 10 ∷ s = cc in
    let t = same_front l m r s f.1 g.1 tails in
    ((λ k. heads k ∷ t.0 k), t.1)

no_newline : (l m s : List ℕ) → NoNewline l → l ≡ m ++ 10 ∷ s → ⊥
no_newline [] [] s f e = cc
no_newline [] (y ∷ m) s f e = cc
no_newline (x ∷ l) [] s f e = let x-is : x ≡ 10 = cc in false≢true (sym f.0 ∙ ap is_newline x-is)
no_newline (x ∷ l) (y ∷ m) s f e = let tails : l ≡ m ++ 10 ∷ s = cc in no_newline l m s f.1 tails

pub one_line : (text l m r s : List ℕ) → Line text l r → Line text m s → (l ≡ m) × (r ≡ s)
one_line text l m r s a b =
    elim a.parts [
      | inl e ↦ elim b.parts [ inl f ↦ same_front l m r s a.free b.free (sym e ∙ f) | inr f ↦ absurd (no_newline m l r b.free (sym f.0 ∙ e)) ]
      | inr e ↦ elim b.parts [ inl f ↦ absurd (no_newline l m s a.free (sym e.0 ∙ f)) | inr f ↦ (sym e.0 ∙ f.0, e.1 ∙ sym f.1) ]
    ]

one_marked : (b : ℕ) (text l m r s : List ℕ) → MarkedLine b text l r → MarkedLine b text m s → (l ≡ m) × (r ≡ s)
one_marked b text l m r s x y =
    let inside : x.inside ≡ y.inside = (let both : b ∷ x.inside ≡ b ∷ y.inside = sym x.mark ∙ y.mark in cc) in
    one_line y.inside l m r s (subst (λ (t : List ℕ). Line t l r) inside x.read) y.read

none_marked : (b : ℕ) (rest : List ℕ) → (Begins b rest → ⊥) → Closed (MarkedLine b) rest
none_marked b rest none l after m = none (m.inside, m.mark)

pub one_group : (b : ℕ) (text : List ℕ) (ls ms : List (List ℕ)) (r s : List ℕ) → LineGroup b text ls r → LineGroup b text ms s → (ls ≡ ms) × (r ≡ s)
one_group b text ls ms r s x y = one_many (MarkedLine b) (one_marked b) text ls ms r s x.read y.read (none_marked b r x.ends) (none_marked b s y.ends)

-- ---- at a place

no_lines : (b : ℕ) (text rest : List ℕ) → LineGroup b text [] rest → Begins b text → ⊥
no_lines b text rest g o = g.ends (o.0, sym g.read ∙ o.1)

pub no_change : (text : List ℕ) (n : ℕ) (lines olds news last : List ℕ) (above old new : List (List ℕ)) → NumberLine (skipped text) n lines → LineGroup 32 lines above olds → LineGroup 45 olds old news → LineGroup 43 news new last → old ≡ [] → new ≡ [] → NoChange text
no_change text n lines olds news last above old new r a o w no_old no_new =
    let o' : LineGroup 45 olds [] news = subst (λ (ls : List (List ℕ)). LineGroup 45 olds ls news) no_old o in
    let w' : LineGroup 43 news [] last = subst (λ (ls : List (List ℕ)). LineGroup 43 news ls last) no_new w in
    record {
      number = n;
      lines = lines;
      above = above;
      olds = olds;
      number_read = r;
      above_read = a;
      no_old = no_lines 45 olds news o';
      no_new = λ (b : Begins 43 olds). no_lines 43 news last w' (b.0, sym o'.read ∙ b.1);
    }

-- ---- numbers

pub number_grows : (n : ℕ) (ds : List ℕ) → n ≤ number_from n ds
number_grows n [] = omega arith
number_grows n (d ∷ ds) = omega (arith, number_grows (10 * n + (d - 48)) ds)

pub one_number : (digits : List ℕ) (n m : ℕ) → IsNumberText digits n → IsNumberText digits m → n ≡ m
one_number digits n m a b = sym a.value ∙ b.value

pub one_number_line : (text : List ℕ) (n m : ℕ) (r s : List ℕ) → NumberLine text n r → NumberLine text m s → (n ≡ m) × (r ≡ s)
one_number_line text n m r s a b =
    let w = one_word text a.digits b.digits a.after b.after a.word b.word in
    let l = one_line b.after a.end.blank b.end.blank r s (subst (λ (t : List ℕ). Line t a.end.blank r) w.1 a.end.line) b.end.line in
    (one_number b.digits n m (subst (λ (t : List ℕ). IsNumberText t n) w.0 a.number) b.number, l.1)

pub no_digits_line : (text digits after : List ℕ) → Word text digits after → ((n : ℕ) → IsNumberText digits n → ⊥) → (n : ℕ) (rest : List ℕ) → NumberLine text n rest → ⊥
no_digits_line text digits after w none n rest a =
    let one = one_word text a.digits digits a.after after a.word w in
    none n (subst (λ (t : List ℕ). IsNumberText t n) one.0 a.number)

pub no_blank_line : (text digits after : List ℕ) → Word text digits after → ((rest : List ℕ) → BlankLine after rest → ⊥) → (n : ℕ) (rest : List ℕ) → NumberLine text n rest → ⊥
no_blank_line text digits after w none n rest a =
    let one = one_word text a.digits digits a.after after a.word w in
    none rest (subst (λ (t : List ℕ). BlankLine t rest) one.1 a.end)

pub not_blank : (text line rest : List ℕ) → Line text line rest → (AllByRecursion (λ b. is_white b ≡ true) line → ⊥) → (r : List ℕ) → BlankLine text r → ⊥
not_blank text line rest l none r b =
    let one = one_line text b.blank line r rest b.line l in
    none (subst (λ (t : List ℕ). AllByRecursion (λ b. is_white b ≡ true) t) one.0 b.white)

pub each_digit : (ds : List ℕ) → ((k : ℕ) → k < length ds → IsDigit (get_or ds k 0)) → AllByRecursion IsDigit ds
each_digit [] h = tt
each_digit (d ∷ ds) h = (h 0 (omega arith), each_digit ds (λ k lt. h (suc k) (omega arith)))

pub too_large : (ds : List ℕ) (i n : ℕ) → i < length ds → number_from n (drop i ds) ≡ number_from 0 ds → 4294967295 < 10 * n + (get_or ds i 0 - 48) → (m : ℕ) → IsNumberText ds m → ⊥
too_large ds i n lt so big m is =
    let step : number_from (10 * n + (get_or ds i 0 - 48)) (drop (i + 1) ds) ≡ number_from n (drop i ds) = ap (number_from n) (sym (drop_more ds i 0 lt)) in
    omega (arith, number_grows (10 * n + (get_or ds i 0 - 48)) (drop (i + 1) ds), step, so, is.value, is.high)

pub number_read : (ds : List ℕ) (i n : ℕ) → length ds ≤ i → number_from n (drop i ds) ≡ number_from 0 ds → number_from 0 ds ≡ n
number_read ds i n le so = sym so ∙ ap (λ (l : List ℕ). number_from n l) (drop_all i ds le)
