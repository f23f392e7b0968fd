use Rattle.dm_log.specs.JsonObjects.{members_in}
use Rattle.dm_told.proofs.FitLemmas.{made_no_float, made_shallow}
use Rattle.dm_told.proofs.made.made_line.Goals as goal

pub line_of-requires-clause-exact : goal.line_of-requires-clause-exact
line_of-requires-clause-exact c = made_no_float c.args.word.now c.args.bundle.now _ _ c.in_ok-object.ensures

pub line_of-requires-clause-shallow : goal.line_of-requires-clause-shallow
line_of-requires-clause-shallow c = made_shallow c.args.word.now c.args.bundle.now _ _ c.in_ok-object.ensures

pub returns : goal.returns
returns c = record {
  members = members_in c.in_ok-object.object;
  told = c.in_ok-object.ensures;
  text = c.in_ok-line.ensures.text;
  reads_back = c.in_ok-line.ensures.reads_back;
}
