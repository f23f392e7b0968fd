-- A lane goes on by a stripe.
use Rattle.std.proofs.Common.{◌≡◌, ◌+◌, ◌*◌, suc, ℕ, List, [], ◌∷◌, slice_index, refl, sym, ◌∙◌, ap, arith}
use Rattle.dm_journal.specs.Lanes.{taken, word_at, lane_after, lanes_after}

pub lane_step : (begin : ℕ) (text : List ℕ) (lane n was at : ℕ) → was ≡ lane_after begin text lane n → at ≡ 32 * n + 8 * lane → taken was (word_at text at) ≡ lane_after begin text lane (n + 1)
unfolding lane_after
lane_step begin text lane n was at is place =
    let plus : suc n ≡ n + 1 = omega arith in
    ap (λ (x : ℕ). taken x (word_at text at)) is
    ∙ ap (λ (x : ℕ). taken (lane_after begin text lane n) (word_at text x)) place
    ∙ ap (lane_after begin text lane) plus

four : (a b c d e f g h : ℕ) → a ≡ e → b ≡ f → c ≡ g → d ≡ h → a ∷ b ∷ c ∷ d ∷ [] ≡ e ∷ f ∷ g ∷ h ∷ []
four a b c d e f g h p q r s = rw (p, q, r, s) refl

-- all four
pub lanes_step : (begin lanes : List ℕ) (text : List ℕ) (n m at : ℕ) → lanes ≡ lanes_after begin text n → at ≡ 32 * n → m ≡ n + 1
    → taken (slice_index lanes 0) (word_at text at) ∷ taken (slice_index lanes 1) (word_at text (at + 8)) ∷ taken (slice_index lanes 2) (word_at text (at + 16)) ∷ taken (slice_index lanes 3) (word_at text (at + 24)) ∷ []
    ≡ lanes_after begin text m
lanes_step begin lanes text n m at is place next =
    four _ _ _ _ _ _ _ _
    (lane_step (slice_index begin 0) text 0 n _ at (ap (λ (l : List ℕ). slice_index l 0) is) (omega (arith, place)))
    (lane_step (slice_index begin 1) text 1 n _ (at + 8) (ap (λ (l : List ℕ). slice_index l 1) is) (omega (arith, place)))
    (lane_step (slice_index begin 2) text 2 n _ (at + 16) (ap (λ (l : List ℕ). slice_index l 2) is) (omega (arith, place)))
    (lane_step (slice_index begin 3) text 3 n _ (at + 24) (ap (λ (l : List ℕ). slice_index l 3) is) (omega (arith, place)))
    ∙ ap (lanes_after begin text) (sym next)
