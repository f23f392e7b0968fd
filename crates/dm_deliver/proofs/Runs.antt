-- How a run of device calls goes on.
use Rattle.std.proofs.Common.{inr, ⊎_elim, ℕ, List, arith, ◌∙◌}
use Rattle.dm_journal.specs.Device.{LeavesOnly, Moment}

-- one run, and then another
pub followed : {D : Type 0} (moment : D → Moment) (left_since : D → ℕ → List ℕ → Type 0) (old mid new : D) (P : List ℕ → Type 0) →
    LeavesOnly moment left_since old mid P → LeavesOnly moment left_since mid new P → LeavesOnly moment left_since old new P
followed moment left_since old mid new P first second = record {
  later = record { same = second.later.same ∙ first.later.same; later = omega (arith, first.later.later, second.later.later) };
  each = λ c left. ⊎_elim (first.each c) (λ now. now) (second.before (moment old).time c first.later.later left);
  before = λ t c le left. ⊎_elim (first.before t c le) (λ now. inr now) (second.before t c (omega (arith, le, first.later.later)) left);
}
