use Rattle.dm_tree.proofs.Standing.{Standing}
use Rattle.dm_tree.proofs.parts.stands.Given as goal

abbrev pub invariant-loop-part : goal.invariant-loop-part
invariant-loop-part g l = Standing l.parts l.first l.text l.part-index l.line l.at
