use Rattle.std.proofs.Common.{refl}
use Rattle.dm_told.proofs.fault.fault_object.Goals as goal

pub returns : goal.returns
returns c =
    let place = c.place_at-line.ensures in (
      place.0,
      place.1,
      rw (
        c.in_ok-put-3.ensures,
        c.in_ok-put-2.ensures,
        c.in_ok-put.ensures,
        c.in_ok-put_word.ensures,
        c.in_ok-object.ensures,
        c.from.ensures,
        c.from-2.ensures,
        c.from-3.ensures,
        place.2,
        place.3,
      ) refl,
    )
