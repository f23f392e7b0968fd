use Rattle.std.proofs.Common.{ap, ◌∙◌}
use Rattle.std.specs.Ordering.{is_eq}
use Rattle.std.specs.Cmp.Lexicographic.{texts_ties}
use Rattle.dm_log.proofs.key.KeyPartialEq.eq.Goals as goal

pub returns : goal.returns
returns g c = rw (texts_ties c.args.self.now c.args.other.now) (c.is_eq.ensures ∙ ap is_eq c.cmp.ensures)
