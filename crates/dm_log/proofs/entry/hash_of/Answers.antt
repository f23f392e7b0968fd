use Rattle.std.proofs.Common.{◌<◌, length, arith, [], append_assoc}
use Rattle.std.proofs.lemmas.List.{take_more, append-nil}
use Rattle.std.proofs.lemmas.List.Folds.{concat-append}
use Rattle.dm_log.proofs.entry.hash_of.Goals as goal

pub loop-i-preserved : goal.loop-i-preserved
loop-i-preserved g c =
    let within : c.loop-i.i < length c.args.info.now.log = omega (arith, c.loop-i-test.true, c.log_len-i-end.ensures.value) in
    rw (take_more c.args.info.now.log c.loop-i.i [] within, concat-append, append-nil, ← append_assoc, ← c.log_line.ensures)
    (c.update-in-loop-i.ensures _ c.loop-i.invariant)
