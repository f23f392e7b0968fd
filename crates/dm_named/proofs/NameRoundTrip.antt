-- What is written is read again.
use Rattle.std.proofs.Common.{◌≡◌, ◌≤◌, ◌<◌, ◌-◌, ◌+◌, ◌*◌, ◌^◌, ◌/◌, ◌%◌, ℕ, Bool, ◌||◌, ◌==◌, cond, List, [], ◌∷◌, ◌++◌, refl, sym, ap, subst, ◌∙◌, arith, inl, inr, false, true, append_assoc}
use Rattle.std.proofs.lemmas.Bool.{false≢true, eq-eqb}
use Rattle.std.proofs.lemmas.Fmt.{decimal_by_steps, length-decimal-le}
use Rattle.std.specs.List.{AllByRecursion, flat_map}
use Rattle.std.specs.Fmt.{decimal}
use Rattle.dm_named.specs.Words.{is_white, IsDigit, number_from}
use Rattle.dm_named.specs.Paths.{NoSlash, NameByte}
use Rattle.dm_named.specs.Canonical.{byte_text}
use Rattle.dm_named.specs.Many.{Many}

-- ---- numbers

number_more : (n : ℕ) (ds : List ℕ) (d : ℕ) → number_from n (ds ++ d ∷ []) ≡ 10 * number_from n ds + (d - 48)
number_more n [] d = refl
number_more n (e ∷ ds) d = number_more (10 * n + (e - 48)) ds d

digits_more : (ds : List ℕ) (d : ℕ) → AllByRecursion IsDigit ds → IsDigit d → AllByRecursion IsDigit (ds ++ d ∷ [])
digits_more [] d f g = (g, tt)
digits_more (e ∷ ds) d f g = (f.0, digits_more ds d f.1 g)

pub record Numeral (n : ℕ) (ds : List ℕ) : Type 0 where
  pub each : AllByRecursion IsDigit ds
  pub value : number_from 0 ds ≡ n

one_digit : (n : ℕ) → n < 10 → Numeral n ((48 + n) ∷ [])
one_digit n lt = record { each = ((omega arith, omega arith), tt); value = omega arith }

more_digits : (n : ℕ) (ds : List ℕ) → 10 ≤ n → Numeral (n / 10) ds → Numeral n (ds ++ ((48 + n % 10) ∷ []))
more_digits n ds le h =
    record {
      each = digits_more ds (48 + n % 10) h.each (omega arith, omega arith);
      value = omega (arith, number_more 0 ds (48 + n % 10), h.value);
    }

pub decimal_numeral : (n : ℕ) → n < 2 ^ 64 → Numeral n (decimal n)
decimal_numeral n lt = decimal_by_steps Numeral one_digit more_digits n lt

-- ---- names

or_right : (a b : Bool) → b ≡ true → (a || b) ≡ true
or_right true b e = refl
or_right false b e = e

or_left_false : (a b : Bool) → (a || b) ≡ false → a ≡ false
or_left_false true b e = e
or_left_false false b e = refl

white_small : (b : ℕ) → (is_white b || b == 92) ≡ true → (1 ≤ b) × (b ≤ 127)
white_small b e = grind arith

byte_cases : (b : ℕ) (t : Bool) (rest : List ℕ) → (is_white b || b == 92) ≡ t → NameByte (cond t (92 ∷ (decimal b ++ 92 ∷ [])) (b ∷ []) ++ rest) b rest
byte_cases b true rest e =
    let small = white_small b e in
    let n = decimal_numeral b (omega (arith, small.1)) in
    inr (record {
      digits = decimal b;
      parts = ap (λ (l : List ℕ). 92 ∷ l) (append_assoc (decimal b) (92 ∷ []) rest);
      code = record { each = n.each; few = length-decimal-le 3 b (omega arith) (omega (arith, small.1)) (omega (arith, small.1)); value = n.value; low = small.0; high = small.1 };
    })
byte_cases b false rest e = inl (refl, λ is. false≢true (sym e ∙ or_right (is_white b) (b == 92) (eq-eqb b 92 is)))

byte_back : (b : ℕ) (rest : List ℕ) → NameByte (byte_text b ++ rest) b rest
byte_back b rest = byte_cases b (is_white b || b == 92) rest refl

pub bytes_back : (name rest : List ℕ) → Many NameByte (flat_map byte_text name ++ rest) name rest
bytes_back [] rest = refl
bytes_back (b ∷ name) rest =
    let step = byte_back b (flat_map byte_text name ++ rest) in
    (flat_map byte_text name ++ rest, subst (λ (t : List ℕ). NameByte t b (flat_map byte_text name ++ rest)) (sym (append_assoc (byte_text b) (flat_map byte_text name) rest)) step, bytes_back name rest)

-- ---- the bytes of a spelling

pub all_append : (P : ℕ → Type 0) (xs ys : List ℕ) → AllByRecursion P xs → AllByRecursion P ys → AllByRecursion P (xs ++ ys)
all_append P [] ys f g = g
all_append P (x ∷ xs) ys f g = (f.0, all_append P xs ys f.1 g)

-- neither white space nor a slash
abbrev pub Plain : ℕ → Type 0
Plain b = (is_white b ≡ false) × ((b == 47) ≡ false)

digit_plain : (b : ℕ) → IsDigit b → Plain b
digit_plain b d = (grind arith, grind arith)

pub digits_plain : (ds : List ℕ) → AllByRecursion IsDigit ds → AllByRecursion Plain ds
digits_plain [] f = tt
digits_plain (d ∷ ds) f = (digit_plain d f.0, digits_plain ds f.1)

spelled_plain : (b : ℕ) (t : Bool) → (is_white b || b == 92) ≡ t → (b == 47) ≡ false → AllByRecursion Plain (cond t (92 ∷ (decimal b ++ 92 ∷ [])) (b ∷ []))
spelled_plain b true e free =
    let small = white_small b e in
    let n = decimal_numeral b (omega (arith, small.1)) in
    ((refl, refl), all_append Plain (decimal b) (92 ∷ []) (digits_plain (decimal b) n.each) ((refl, refl), tt))
spelled_plain b false e free = ((or_left_false (is_white b) (b == 92) e, free), tt)

pub name_plain : (name : List ℕ) → NoSlash name → AllByRecursion Plain (flat_map byte_text name)
name_plain [] f = tt
name_plain (b ∷ name) f = all_append Plain (byte_text b) (flat_map byte_text name) (spelled_plain b (is_white b || b == 92) refl f.0) (name_plain name f.1)
