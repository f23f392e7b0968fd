-- What validity says of names and of lines.
use Rattle.std.proofs.Common.{◌≡◌, ◌≢◌, ◌<◌, inl, inr, ◌+◌, ℕ, suc, Bool, false, true, ◌||◌, cond, List, [], ◌∷◌, length, refl, sym, arith, Some, None, nat_lt, ◌==◌}
use Rattle.std.proofs.lemmas.Bool.{false≢true}
use Rattle.std.specs.List.{AllByRecursion, list_any}
use Rattle.dm_tree.specs.Paths.{Path}
use Rattle.dm_tree.specs.Trees.{Lines}
use Rattle.dm_tree.specs.Validity.{IsValidPath, names_fault, is_name, is_bad_name, IsPlain, ArePlain}
use Rattle.dm_tree.specs.declared.fault.PathFault.{PathFault}
use Rattle.dm_tree.specs.declared.fault.PathFault.TheVariants as path
use Rattle.std.specs.Prelude.{Option, ◌⊎◌, codes}
use Rattle.dm_named.specs.Words.{NoNewline}
use Rattle.dm_named.specs.Paths.{NoSlash}

left_false : (a b : Bool) → (a || b) ≡ false → a ≡ false
left_false true b e = e
left_false false b e = refl

right_false : (a b : Bool) → (a || b) ≡ false → b ≡ false
right_false true b e = absurd (false≢true (sym e))
right_false false b e = e

pub none_of : (test : ℕ → Bool) (xs : List ℕ) → list_any test xs ≡ false → AllByRecursion (λ x. test x ≡ false) xs
none_of test [] e = tt
none_of test (x ∷ xs) e = (left_false (test x) (list_any test xs) e, none_of test xs (right_false (test x) (list_any test xs) e))

pub any_of : (test : ℕ → Bool) (xs : List ℕ) → AllByRecursion (λ x. test x ≡ false) xs → list_any test xs ≡ false
any_of test [] f = refl
any_of test (x ∷ xs) f = both (test x) (list_any test xs) f.0 (any_of test xs f.1)
  where
    both : (a b : Bool) → a ≡ false → b ≡ false → (a || b) ≡ false
    both true b e h = e
    both false b e h = h

-- a line without newlines, as the list of lines says it
pub plain_line : (line : List ℕ) → NoNewline line → IsPlain line
plain_line line free = any_of (λ y. y == 10) line free

pub free_lines : (lines : Lines) → ArePlain lines → AllByRecursion NoNewline lines
free_lines [] all = tt
free_lines (l ∷ ls) all = (none_of (λ y. y == 10) l (all 0 l (omega arith)), free_lines ls (λ k d lt. all (suc k) d (omega arith)))

name_free : (n : List ℕ) → is_bad_name n ≡ false → NoSlash n
name_free n e =
    let one = right_false (is_name n []) _ e in
    let two = right_false (is_name n (codes ".")) _ one in
    let three = right_false (is_name n (codes "..")) _ two in
    let four = right_false (is_name n (codes "_darcs")) _ three in
    none_of (λ y. y == 47) n (left_false (list_any (λ y. y == 47) n) (list_any (λ y. y == 0) n) four)

unbad : (b : Bool) (f : Option PathFault) → cond b (Some path.BadName) f ≡ None → (b ≡ false) × (f ≡ None)
unbad true f e = cc
unbad false f e = (refl, e)

unlong : (b : Bool) (f : Option PathFault) → cond b (Some path.TooLong) f ≡ None → f ≡ None
unlong true f e = cc
unlong false f e = e

names_free : (ns : Path) → names_fault ns ≡ None → AllByRecursion NoSlash ns
names_free [] e = tt
names_free (n ∷ ns) e =
    let first = unbad (is_bad_name n) _ e in
    (name_free n first.0, names_free ns (unlong (nat_lt 255 (length n)) _ first.1))

unempty : (b : Bool) (f : Option PathFault) → cond b (Some path.Empty) f ≡ None → f ≡ None
unempty true f e = cc
unempty false f e = e

undeep : (b : Bool) (f : Option PathFault) → cond b (Some path.TooDeep) f ≡ None → f ≡ None
undeep true f e = cc
undeep false f e = e

-- no name of a valid path has a slash
pub path_free : (p : Path) → IsValidPath p → AllByRecursion NoSlash p
path_free p valid = names_free p (undeep (nat_lt 32 (length p)) _ (unempty (length p == 0) _ valid))

-- a hunk's lines
pub some_lines : (old new : Lines) → 0 < length old + length new → (old ≢ []) ⊎ (new ≢ [])
some_lines [] [] some = absurd (omega (arith, some))
some_lines [] (l ∷ new) some = inr (λ e. cc)
some_lines (l ∷ old) new some = inl (λ e. cc)

pub none_left : (old new : Lines) → length old + length new ≡ 0 → (old ≡ []) × (new ≡ [])
none_left [] [] none = (refl, refl)
none_left [] (l ∷ new) none = absurd (omega (arith, none))
none_left (l ∷ old) new none = absurd (omega (arith, none))
