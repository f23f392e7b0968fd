-- How many primitives there are.
use Rattle.std.proofs.Common.{◌≡◌, ◌≢◌, ◌↔◌, ◌==◌, ℕ, Bool, true, false, not, nat_eq, IsTrue, List, [], ◌∷◌, length, refl, sym, ap, subst, ◌∙◌, arith, eq-eqb}
use Rattle.std.proofs.lemmas.Bool.{eqb-true}
use Rattle.std.proofs.lemmas.List.{length-map}
use Rattle.dm_prim.specs.Primitives.{Prim}
use Rattle.dm_prim.specs.Prims.{prim_of, prims_of}
use Rattle.dm_prim.specs.declared.primitive.Primitive.{Primitive}

-- none, or some
pub some_prims : {Z : Type 0} (ps : List (Primitive Z)) (all : List Prim) (e : Bool) → prims_of ps ≡ all → e ≡ (length ps == 0) → IsTrue (not e) ↔ (all ≢ [])
some_prims [] all e m f = (
  λ t. let z : false ≡ true = subst (λ b. not b ≡ true) f t in absurd (cc),
  λ some. absurd (some (sym m)),
)
some_prims (p ∷ ps) all e m f = (
  λ t none. let z : prims_of (p ∷ ps) ≡ [] = m ∙ none in absurd (cc),
  λ some. by e refl,
)
  where
    by : (b : Bool) → e ≡ b → not e ≡ true
    by true h = let l = eqb-true (length (p ∷ ps)) 0 (sym f ∙ h) in absurd (omega (arith, l))
    by false h = ap not h

-- so many
pub most : {Z : Type 0} (n : ℕ) (ps : List (Primitive Z)) (all : List Prim) → prims_of ps ≡ all → IsTrue (nat_eq (length ps) n) ↔ (length all ≡ n)
most n ps all m =
    let l : length (prims_of ps) ≡ length ps = length-map ps prim_of in (
      λ t. ap length (sym m) ∙ l ∙ eqb-true (length ps) n t,
      λ e. eq-eqb (length ps) n (sym l ∙ ap length m ∙ e),
    )
