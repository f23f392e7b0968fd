-- Newlines are counted from left to right.
use Rattle.std.proofs.Common.{◌≡◌, ◌≤◌, ◌<◌, ℕ, suc, ◌+◌, List, [], ◌∷◌, ◌++◌, Bool, true, false, length, take, get_or, cond, inl, inr, refl, ap, arith}
use Rattle.std.proofs.Math.Dec.{eqb}
use Rattle.std.proofs.lemmas.Bool.Decides.{eqb_tells}
use Rattle.std.proofs.lemmas.List.{take_more}
use Rattle.dm_explain.specs.Places.{newlines}

newlines_more : (text : List ℕ) (byte : ℕ) → newlines (text ++ byte ∷ []) ≡ cond (eqb byte 10) (suc (newlines text)) (newlines text)
newlines_more [] byte = refl
newlines_more (b ∷ text) byte = by (eqb b 10) (eqb byte 10) (newlines_more text byte)
  where
    by : (x y : Bool) → newlines (text ++ byte ∷ []) ≡ cond y (suc (newlines text)) (newlines text) →
        cond x (suc (newlines (text ++ byte ∷ []))) (newlines (text ++ byte ∷ [])) ≡ cond y (suc (cond x (suc (newlines text)) (newlines text))) (cond x (suc (newlines text)) (newlines text))
    by true true e = ap suc e
    by true false e = ap suc e
    by false true e = e
    by false false e = e

-- so far, and up to one byte more
pub record Counted (text : List ℕ) (k count : ℕ) : Type 0 where
  pub is : count ≡ newlines (take k text)
  pub few : count ≤ k

pub counted_one : (text : List ℕ) (k count : ℕ) → k < length text → get_or text k 0 ≡ 10 → Counted text k count → Counted text (k + 1) (count + 1)
counted_one text k count l e c =
    let few = c.few in
    let one : count + 1 ≡ suc count = omega arith in
    record { is = rw (take_more text k 0 l, newlines_more (take k text) (get_or text k 0), e, ← c.is, one) refl; few = omega (arith, few) }

not_equal : (a b : ℕ) → (a ≡ b → ⊥) → eqb a b ≡ false
not_equal a b n = elim (eqb_tells a b) [ inl e ↦ absurd (n e.1) | inr e ↦ e.0 ]

pub counted_none : (text : List ℕ) (k count : ℕ) → k < length text → (get_or text k 0 ≡ 10 → ⊥) → Counted text k count → Counted text (k + 1) count
counted_none text k count l n c =
    let few = c.few in
    record { is = rw (take_more text k 0 l, newlines_more (take k text) (get_or text k 0), not_equal (get_or text k 0) 10 n, ← c.is) refl; few = omega (arith, few) }
