-- Sketches of paths that have no bit in common.
use Rattle.std.proofs.Common.{◌≡◌, ◌≢◌, ◌<◌, ◌+◌, ℕ, length, take, ◌++◌, List, [], ◌∷◌, All, sym, ap, subst, inl, inr, arith, ◌∙◌, refl, min, max, None, zero, suc}
use Rattle.std.proofs.Math.Seq.{take-append_seam}
use Rattle.std.proofs.lemmas.List.{length-append}
use Rattle.std.proofs.lemmas.List.Elements.{Contains-push_cases}
use Rattle.std.proofs.lemmas.Nat.Bits.{bit_at_and, bit_at_or, bit_at-zero, bit_at-lt}
use Rattle.std.specs.Int.{bit_at}
use Rattle.std.specs.Int.Bits.{bit_and, bit_or}
use Rattle.dm_tree.specs.Paths.{Path, Apart}
use Rattle.dm_tree.specs.Validity.{IsValidPath, path_fault}
use Rattle.dm_prim.specs.Touch.{IsApartFrom}
use Rattle.dm_prim.specs.declared.sketch.Sketch.{Sketch}
use Rattle.dm_prim.specs.Sketches.{bit_of, Keeps, HasLeading, Covers, GrowsBy}
use Rattle.dm_prim.proofs.TouchLemmas.{holds_of_all}

-- a bit stays set beside others
pub keeps_or : (bits more : ℕ) → Keeps bits (bit_or bits more)
keeps_or bits more i e =
    let l = bit_at-lt more i in
    bit_at_or bits more i ∙ rw e (one_max (bit_at more i) l)
  where
    one_max : (n : ℕ) → n < 2 → max 1 n ≡ 1
    one_max zero l = refl
    one_max (suc zero) l = refl
    one_max (suc (suc n)) l = absurd (omega (arith, l))

-- two numbers without a common bit
none_common : (a b i : ℕ) → bit_and a b ≡ 0 → bit_at a i ≡ 1 → bit_at b i ≡ 1 → ⊥
none_common a b i e x y =
    let m : min 1 1 ≡ 0 = rw (x, y) at (sym (bit_at_and a b i) ∙ ap (λ n. bit_at n i) e ∙ bit_at-zero i) in
    absurd (cc m)

-- a path of an entry isn't the root
pub below_root : (f : Path) → IsValidPath f → f ≢ []
below_root f v e = let w : path_fault [] ≡ None = subst (λ z. path_fault z ≡ None) e v in absurd (cc w)

-- all leading paths are those of the first names
pub leading_all : (f : Path) (bits : ℕ) → ((j : ℕ) → j < length f → bit_at bits (bit_of (take (j + 1) f)) ≡ 1) → HasLeading f bits
leading_all f bits h [] n u = absurd (n refl)
leading_all f bits h (x ∷ a) n (r, e) =
    let l : length a < length f = omega (arith, ap length e, length-append (x ∷ a) r) in
    let n : length a + 1 ≡ length (x ∷ a) = omega arith in
    let s : take (length a + 1) f ≡ x ∷ a = rw (n, e) (take-append_seam (x ∷ a) r) in
    subst (λ z. bit_at bits (bit_of z) ≡ 1) s (h (length a) l)

-- one path more is covered
pub covers_more : {fs : List Path} {f : Path} {s t : Sketch} → GrowsBy f s t → Covers fs s → Covers (fs ++ f ∷ []) t
covers_more {fs} {f} {s} {t} g c = record {
  below_root = λ h i. elim (Contains-push_cases fs f h i) [ inl d ↦ c.below_root h d | inr e ↦ subst (λ z. z ≢ []) e g.below_root ];
  whole = λ h i. elim (Contains-push_cases fs f h i) [ inl d ↦ g.keeps_whole (bit_of h) (c.whole h d) | inr e ↦ subst (λ z. bit_at t.whole (bit_of z) ≡ 1) e g.whole ];
  leading = λ h i. elim (Contains-push_cases fs f h i)
      [ inl d ↦ λ a n u. g.keeps_leading (bit_of a) (c.leading h d a n u) | inr e ↦ subst (λ z. HasLeading z t.leading) e g.leading ];
}

-- with no bit in common, each path of the one is apart from each of the other
pub bits_apart : (s t : Sketch) → bit_and s.whole t.leading ≡ 0 → bit_and s.leading t.whole ≡ 0 →
    (fs gs : List Path) → Covers fs s → Covers gs t → All (IsApartFrom gs) fs
bits_apart s t none nor fs gs c d = holds_of_all (IsApartFrom gs) fs (λ f i. record {
  each = holds_of_all (Apart f) gs (λ g j. record {
    left = λ u. none_common s.leading t.whole (bit_of g) nor (c.leading f i g (d.below_root g j) u) (d.whole g j);
    right = λ u. none_common s.whole t.leading (bit_of f) none (c.whole f i) (d.leading g j f (c.below_root f i) u);
  });
})
