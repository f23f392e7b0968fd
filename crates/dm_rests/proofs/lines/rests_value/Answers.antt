use Rattle.dm_rests.proofs.lines.rests_value.Goals as goal

pub returns : goal.returns
returns c =
    let told = c.in_ok-value.ensures in
    let left = c.in_ok-bound.ensures in (
      told.0,
      record {
        stay = left.0;
        go = left.1;
        bound = c.in_ok-bound.bound.items;
        leaves = rw (c.deref.ensures.value, c.in_ok-push.ensures.items, c.new-chosen.ensures.items, c.in_ok-copy_into.ensures) at left.2;
        directly = rw c.deref-2.ensures.value at told.1;
      },
      told.2,
    )
