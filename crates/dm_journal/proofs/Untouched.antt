-- A journal whose device is untouched.
use Rattle.std.proofs.Common.{ℕ, List, sym, subst}
use Rattle.dm_journal.specs.Device.{Moment}
use Rattle.dm_journal.specs.Journal.{Closes}
use Rattle.dm_journal.specs.Reading.{IsEnd}
use Rattle.dm_journal.specs.Ready.{HasTexts, IsUntouched}
use Rattle.dm_journal.specs.declared.journal.Journal.{Journal}

-- it still has its texts
pub still_has : {D : Type 0} (seen : D → List ℕ) (may_leave file_may_leave : D → List ℕ → Type 0) (moment : D → Moment) (left_since : D → ℕ → List ℕ → Type 0)
    (journal : Journal D) (device : D) (texts : List (List ℕ)) → IsUntouched seen may_leave file_may_leave moment left_since journal.device device →
    HasTexts seen may_leave file_may_leave journal texts → HasTexts seen may_leave file_may_leave (record { device = device; end = journal.end; hidden = journal.hidden }) texts
still_has seen may_leave file_may_leave moment left_since journal device texts untouched has =
    let ends = subst (λ (file : List ℕ). (begins : Closes journal.end.format file texts has.rest) × IsEnd file texts has.rest journal.end begins) (sym untouched.same) (has.begins, has.end) in
    record {
      rest = has.rest;
      begins = ends.0;
      end = ends.1;
      durable = untouched.durable;
    }
