use Rattle.std.proofs.Common.{ap, ◌∙◌}
use Rattle.std.specs.Ordering.{is_eq}
use Rattle.dm_info.specs.ComparedLaws.{info_ties}
use Rattle.dm_info.proofs.info.InfoPartialEq.eq.Goals as goal

pub returns : goal.returns
returns g c = rw (info_ties c.args.self.now c.args.other.now) (c.is_eq.ensures ∙ ap is_eq c.cmp.ensures)
