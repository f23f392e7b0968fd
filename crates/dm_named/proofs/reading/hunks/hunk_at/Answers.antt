use Rattle.std.proofs.Common.{drop, refl}
use Rattle.dm_named.proofs.ValidParts.{some_lines, none_left}
use Rattle.dm_named.proofs.GroupLemmas.{no_change}
use Rattle.dm_named.proofs.reading.hunks.hunk_at.Goals as goal

pub returns-in-Err-clause-err : goal.returns-in-Err-clause-err
returns-in-Err-clause-err g c = (c.in-Err.ensures.here, rw c.in-Err.ensures.here c.in-Err.ensures.err)

pub returns-in-Ok-new-clause-ok : goal.returns-in-Ok-new-clause-ok
returns-in-Ok-new-clause-ok g c =
    let text = c.args.text.now in
    rw c.in-Ok-new.ensures.0
    (record {
      lines = drop c.in-Ok.found.1 text;
      number_read = c.in-Ok.ensures.ok;
      lines_read = record {
        above = c.skip_lines-olds.ensures.group.0;
        olds = drop c.skip_lines-olds.result text;
        news = drop c.in-Ok-lines_at.found.1 text;
        last = drop c.in-Ok-lines_at-2.found.1 text;
        below = c.skip_lines-end.ensures.group.0;
        above_read = c.skip_lines-olds.ensures.group.1;
        old_read = c.in-Ok-lines_at.ensures.ok;
        new_read = c.in-Ok-lines_at-2.ensures.ok;
        below_read = c.skip_lines-end.ensures.group.1;
        some = some_lines c.in-Ok-lines_at.found.0 c.in-Ok-lines_at-2.found.0 c.in-Ok-new.ensures.1.1.1;
      };
    })

pub returns-in-Err-NoChange-clause-err : goal.returns-in-Err-NoChange-clause-err
returns-in-Err-NoChange-clause-err g c =
    let text = c.args.text.now in
    let none = none_left c.in-Ok-lines_at.found.0 c.in-Ok-lines_at-2.found.0 (rw c.in-Err-NoChange.field-0-is at c.in-Err-NoChange.ensures).1 in (
      refl,
      no_change (drop c.args.at text) c.in-Ok.found.0 (drop c.in-Ok.found.1 text) (drop c.skip_lines-olds.result text) (drop c.in-Ok-lines_at.found.1 text) (drop c.in-Ok-lines_at-2.found.1 text)
          c.skip_lines-olds.ensures.group.0 c.in-Ok-lines_at.found.0 c.in-Ok-lines_at-2.found.0 c.in-Ok.ensures.ok c.skip_lines-olds.ensures.group.1 c.in-Ok-lines_at.ensures.ok c.in-Ok-lines_at-2.ensures.ok none.0 none.1,
    )
