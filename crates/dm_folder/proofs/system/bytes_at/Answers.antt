use Rattle.dm_folder.proofs.EventLemmas.{later_both, later_one}
use Rattle.dm_folder.proofs.ListedLemmas.{began_reading, gave_more}
use Rattle.dm_folder.proofs.system.bytes_at.Goals as goal

pub loop-init : goal.loop-init
loop-init c = record {
  reading = began_reading _ _ _ _ c.began.ensures c.new-bytes.ensures.items;
  later = later_one _ _ _ c.began.ensures;
}

pub loop-preserved : goal.loop-preserved
loop-preserved c = record {
  reading = gave_more _ _ c.loop.log.events _ c.loop.bytes.items _ _ c.loop.invariant.reading c.gave.ensures c.in_ok-extend_from_slice.ensures.items;
  later = later_both c.loop.invariant.later (later_one _ _ _ c.gave.ensures);
}

pub returns-then-count-eq0-clause-later : goal.returns-then-count-eq0-clause-later
returns-then-count-eq0-clause-later c = later_both c.loop.invariant.later (later_one _ _ _ c.ended.ensures)

pub returns-in_err-extend_from_slice-clause-later : goal.returns-in_err-extend_from_slice-clause-later
returns-in_err-extend_from_slice-clause-later c = later_both c.loop.invariant.later (later_one _ _ _ c.gave.ensures)
