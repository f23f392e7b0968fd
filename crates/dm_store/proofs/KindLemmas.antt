-- Primitives that are all of some kinds, or not.
use Rattle.std.proofs.Common.{◌≡◌, arith, ℕ, ◌<◌, zero, suc, List, [], ◌∷◌, length, get_or, map, sym, subst}
use Rattle.std.specs.List.{AllByRecursion}

all_at : {X V : Type 0} (P : V → Type 0) (f : X → V) (xs : List X) (i : ℕ) (d : X) → i < length xs → AllByRecursion P (map f xs) → P (f (get_or xs i d))
all_at P f [] i d lt all = absurd (omega (arith, lt))
all_at P f (x ∷ xs) zero d lt all = all.0
all_at P f (x ∷ xs) (suc i) d lt all = all_at P f xs i d (omega (arith, lt)) all.1

-- one that isn't says that not all are
pub not_all : {X V : Type 0} (P : V → Type 0) (f : X → V) (xs : List X) (i : ℕ) (x : X) → i < length xs → x ≡ get_or xs i x → (P (f x) → ⊥) → AllByRecursion P (map f xs) → ⊥
not_all P f xs i x lt is other all = other (subst (λ y. P (f y)) (sym is) (all_at P f xs i x lt all))
