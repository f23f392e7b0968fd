use Rattle.dm_journal.proofs.Found.{of_none}
use Rattle.dm_journal.proofs.reading.known_format.Goals as goal

pub returns-clause-none : goal.returns-clause-none
returns-clause-none c =
    of_none c.args.bytes.now (c.begins_with.ensures.no c.if-begins_with.false) (c.begins_with-2.ensures.no c.if-begins_with-2.false) (c.begins_with-3.ensures.no c.if-begins_with-3.false) (c.begins_with-4.ensures.no c.if-begins_with-4.false) (c.begins_with-5.ensures.no c.if-begins_with-5.false) (c.begins_with-6.ensures.no c.if-begins_with-6.false) (c.begins_with-7.ensures.no c.if-begins_with-7.false)
