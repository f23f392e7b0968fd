use Rattle.dm_log.specs.JsonObjects.{members_in}
use Rattle.dm_told.proofs.FitLemmas.{no_float, shallow}
use Rattle.dm_told.proofs.answer.answer_line.Goals as goal

pub line_of-requires-clause-exact : goal.line_of-requires-clause-exact
line_of-requires-clause-exact c = no_float c.args.repo.now.patches c.args.bundle.now c.args.text.now c.args.answer _ c.in_ok-object.ensures

pub line_of-requires-clause-shallow : goal.line_of-requires-clause-shallow
line_of-requires-clause-shallow c = shallow c.args.repo.now.patches c.args.bundle.now c.args.text.now c.args.answer _ c.in_ok-object.ensures

pub returns : goal.returns
returns c = record {
  members = members_in c.in_ok-object.object;
  told = c.in_ok-object.ensures;
  text = c.in_ok-line.ensures.text;
  reads_back = c.in_ok-line.ensures.reads_back;
}
