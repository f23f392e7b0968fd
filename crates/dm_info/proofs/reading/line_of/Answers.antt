use Rattle.std.proofs.Common.{◌≡◌, ◌+◌, get_or}
use Rattle.std.proofs.lemmas.List.{take_rest}
use Rattle.dm_info.specs.PatchInfo.{is_newline}
use Rattle.dm_info.proofs.Cuts.{cut_found, cut_missed, byte_is}
use Rattle.dm_info.proofs.reading.line_of.Goals as goal

pub returns-in-Some : goal.returns-in-Some
returns-in-Some c =
    let text = c.args.text.now in
    let first = c.in-Some.ensures in
    let b : get_or text c.in-Some.i 0 ≡ 10 = byte_is _ 10 first.1 in
    rw (take_rest text (c.in-Some.i + 1), ← b) (cut_found is_newline text c.in-Some.i first)

pub returns-in-None : goal.returns-in-None
returns-in-None c = cut_missed is_newline c.args.text.now c.in-None.ensures
