use Rattle.dm_mirror.proofs.taking.take_body.Goals as goal

pub returns-in-Bundle : goal.returns-in-Bundle
returns-in-Bundle c = rw c.in-Bundle.is (rw c.as_bytes.ensures at c.take.ensures)
