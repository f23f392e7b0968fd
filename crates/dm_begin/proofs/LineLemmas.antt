-- The lines of a file that are copied, and those to come.
use Rattle.std.proofs.Common.{◌≡◌, ℕ, List, [], ◌∷◌, ◌++◌, refl, sym, ap, subst, ◌∙◌, arith, append_assoc}
use Rattle.std.specs.List.{Contains}
use Rattle.std.proofs.lemmas.List.Elements.{Contains-append_right}
use Rattle.dm_tree.specs.Trees.{Lines}
use Rattle.dm_tree.specs.Validity.{IsPlain, ArePlain}

-- a line that comes next, behind those that are copied
module _ (file copy rest was : Lines) (x : List ℕ) (all : copy ++ was ≡ file) (next : was ≡ x ∷ rest) where
  placed : copy ++ x ∷ rest ≡ file
  placed = ap (λ (z : Lines). copy ++ z) (sym next) ∙ all

  pub one_copied : (copy ++ x ∷ []) ++ rest ≡ file
  one_copied = append_assoc copy (x ∷ []) rest ∙ placed

  is_among : Contains file x
  is_among = subst (λ (z : Lines). Contains z x) placed (Contains-append_right copy (x ∷ rest) x (0, omega arith, refl))

  pub next_plain : ArePlain file → IsPlain x
  next_plain plain = let c = is_among in subst IsPlain c.2 (plain c.0 x c.1)
