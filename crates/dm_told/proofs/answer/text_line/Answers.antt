use Rattle.dm_told.proofs.answer.text_line.Goals as goal

pub returns : goal.returns
returns c = rw (c.new-repo.ensures, c.without_doubles-nothing.ensures, c.new.ensures.items, c.new-2.ensures.items) at c.answer_line.ensures
