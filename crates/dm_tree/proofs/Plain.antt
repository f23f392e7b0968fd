-- What holds of plain numbers and results.
use Rattle.std.proofs.Common.{◌≡◌, ℕ, ◌+◌, ◌-◌, ◌^◌, min, IsTrue, ◌<◌, ◌≤◌, List, length, nat_eq, false, [], ◌∷◌, Result, Ok, Err, IfOk, OnErr, Fits, w32, w64, arith}
use Rattle.std.specs.Result.{IsErr}
use Rattle.std.proofs.lemmas.Bool.Decides.{nat_tests}

pub le_more : (a b : ℕ) → a ≤ a + b
le_more a b = omega arith

pub from_zero : (n : ℕ) → 0 ≤ n
from_zero n = omega arith

pub lt_le : (a b : ℕ) → a < b → a ≤ b
lt_le a b l = omega arith

pub sum_fits : (a b : ℕ) → a ≤ 32 → b ≤ 32 → Fits w64 (a + b)
sum_fits a b l m = omega arith

pub none_some : (n : ℕ) → n ≡ 0 → 0 < n → ⊥
none_some n e l = omega arith

pub some_items : {X : Type 0} (xs : List X) → nat_eq (length xs) 0 ≡ false → 0 < length xs
some_items [] e = cc
some_items (x ∷ xs) e = omega arith

-- a fact that holds whatever the result is
pub if_err : {E : Type 0} (r : Result (Unit {0}) E) (P : Type 0) → P → OnErr r P
if_err (Ok x) P p = tt
if_err (Err e) P p = p

-- an error promises nothing of a value
pub if_ok_err : {T E : Type 0} (r : Result T E) (P : T → Type 0) → IsErr r → IfOk r P
if_ok_err (Ok x) P h = cc
if_ok_err (Err e) P h = tt

pub next_le : (a b : ℕ) → a < b → a + 1 ≤ b
next_le a b l = omega arith

pub le_next : (a b : ℕ) → a ≤ b → a ≤ b + 1
le_next a b l = omega arith

pub some_before : (a b : ℕ) → a < b → 0 < b
some_before a b l = omega arith

-- a step that is no longer than what is left
pub step_fits : (at n m step : ℕ) → at ≤ n → step ≡ min (n - at) m → n < 2 ^ 64 → Fits w64 (at + step)
step_fits at n m step within e fits = omega arith

pub other_step_fits : (at n m step : ℕ) → at ≤ n → step ≡ min m (n - at) → n < 2 ^ 64 → Fits w64 (at + step)
other_step_fits at n m step within e fits = omega arith

pub is_equal : (a b : ℕ) → a ≡ b → IsTrue (nat_eq a b)
is_equal a b e = grind (arith, nat_tests)

pub le_lt : (a b c : ℕ) → a ≤ b → b < c → a < c
le_lt a b c l m = omega arith

pub minus_zero : (n : ℕ) → n - 0 ≡ n
minus_zero n = omega arith

pub one_more : (a n : ℕ) → a + 1 ≡ n → 1 ≤ n
one_more a n e = omega arith

pub before_fits : (n : ℕ) → Fits w32 n → Fits w64 (n - 1)
before_fits n fits = omega arith

pub total_fits : (a n m : ℕ) → a + m < 2 ^ 64 → n ≡ m → Fits w64 (a + n)
total_fits a n m fits e = omega arith
