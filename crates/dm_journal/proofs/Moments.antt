-- How a run of device calls goes on.
use Rattle.std.proofs.Common.{inl, inr, ⊎_elim, ℕ, List, arith, ◌∙◌}
use Rattle.dm_journal.specs.Device.{LeavesOnly, Moment, IsSince}

-- since that moment, and that one since another
pub since_then : (first mid last : Moment) → IsSince first mid → IsSince mid last → IsSince first last
since_then first mid last one two = record { same = two.same ∙ one.same; later = omega (arith, one.later, two.later) }

module _ {D : Type 0} (moment : D → Moment) (left_since : D → ℕ → List ℕ → Type 0) where
  -- what has P has Q
  pub weakened : (old new : D) (P Q : List ℕ → Type 0) → ((c : List ℕ) → P c → Q c) → LeavesOnly moment left_since old new P → LeavesOnly moment left_since old new Q
  weakened old new P Q to run = record {
    later = run.later;
    each = λ c left. to c (run.each c left);
    before = λ t c le left. ⊎_elim (λ had. inl had) (λ now. inr (to c now)) (run.before t c le left);
  }

  -- one run, and then another
  pub followed : (old mid new : D) (P : List ℕ → Type 0) → LeavesOnly moment left_since old mid P → LeavesOnly moment left_since mid new P → LeavesOnly moment left_since old new P
  followed old mid new P first second = record {
    later = since_then (moment old) (moment mid) (moment new) first.later second.later;
    each = λ c left. ⊎_elim (first.each c) (λ now. now) (second.before (moment old).time c first.later.later left);
    before = λ t c le left. ⊎_elim (first.before t c le) (λ now. inr now) (second.before t c (omega (arith, le, first.later.later)) left);
  }
