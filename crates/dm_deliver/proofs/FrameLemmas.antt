-- How what a stream has left is kept and given.
use Rattle.std.proofs.Common.{◌≡◌, ◌+◌, ◌*◌, ◌/◌, ◌%◌, ◌^◌, ◌<◌, ℕ, List, [], ◌∷◌, ◌++◌, None, Some, refl, sym, ap, ◌∙◌, subst, arith, append_assoc, append-nil}
use Rattle.std.specs.Prelude.{Option}
use Rattle.std.specs.Fmt.{decimal}
use Rattle.dm_deliver.specs.Framing.{digits_if}
use Rattle.std.specs.Io.KnownBytes.{Consumes, Keeps, IsAtEnd, prepend_known}
use Rattle.std.proofs.lemmas.Fmt.{decimal_step_wide, decimal_digit}

-- a number with one digit more
pub decimal_more : (n d : ℕ) → 0 < n → d < 10 → 10 * n + d < 10 ^ 64 → decimal (10 * n + d) ≡ decimal n ++ (48 + d) ∷ []
decimal_more n d some digit small =
    let front : (10 * n + d) / 10 ≡ n = omega arith in
    let last : (10 * n + d) % 10 ≡ d = omega arith in
    subst (λ (k : ℕ). decimal (10 * n + d) ≡ decimal k ++ (48 + d) ∷ []) front
    (subst (λ (k : ℕ). decimal (10 * n + d) ≡ decimal ((10 * n + d) / 10) ++ (48 + k) ∷ []) last (decimal_step_wide (10 * n + d) (omega arith) small))

-- what was read moves from the reader behind what was read before
pub kept_moved : (a b : Option (List ℕ)) (x bs y : List ℕ) → Consumes a b bs → y ≡ x ++ bs → Keeps (prepend_known x a) (prepend_known y b)
kept_moved None b x bs y p e = tt
kept_moved (Some s) None x bs y p e = absurd p
kept_moved (Some s) (Some t) x bs y p e = ap (λ l. l ++ t) e ∙ append_assoc x bs t ∙ ap (λ l. x ++ l) (sym p)

-- nothing moves
pub kept_still : (a b : Option (List ℕ)) (x y : List ℕ) → Keeps a b → y ≡ x → Keeps (prepend_known x a) (prepend_known y b)
kept_still None b x y p e = tt
kept_still (Some s) None x y p e = absurd p
kept_still (Some s) (Some t) x y p e = ap (λ l. l ++ t) e ∙ ap (λ l. x ++ l) p

-- what was read is given
pub all_given : (b : Option (List ℕ)) (x : List ℕ) → Consumes (prepend_known x b) (prepend_known [] b) x
all_given None x = tt
all_given (Some s) x = refl

-- nothing was read, and nothing is left to be read
pub end_left : (b : Option (List ℕ)) → IsAtEnd b → IsAtEnd (prepend_known [] b)
end_left None e = tt
end_left (Some s) e = e

pub given_later : (a b c : Option (List ℕ)) (bs : List ℕ) → Keeps a b → Consumes b c bs → Consumes a c bs
given_later None b c bs p q = tt
given_later (Some s) None c bs p q = absurd p
given_later (Some s) (Some t) None bs p q = absurd q
given_later (Some s) (Some t) (Some u) bs p q = sym p ∙ q

pub none_later : (a b : Option (List ℕ)) → Keeps a b → Consumes a b []
none_later None b p = tt
none_later (Some s) None p = absurd p
none_later (Some s) (Some t) p = sym p

-- a first digit
pub first_digit : (number : Option ℕ) (d b : ℕ) → number ≡ None → d < 10 → b ≡ 48 + d → decimal d ++ [] ≡ digits_if number ++ b ∷ []
first_digit number d b none digit is = rw (none, is) (append-nil (decimal d) ∙ decimal_digit d digit)

-- one digit more
pub next_digit : (number : Option ℕ) (n m d b : ℕ) → number ≡ Some n → b ≡ 48 + d → decimal m ≡ decimal n ++ (48 + d) ∷ [] → decimal m ++ [] ≡ digits_if number ++ b ∷ []
next_digit number n m d b some is more = rw (some, is) (append-nil (decimal m) ∙ more)
