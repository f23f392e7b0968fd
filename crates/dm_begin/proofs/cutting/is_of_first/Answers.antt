use Rattle.std.proofs.Common.{Some, ap, ◌∙◌}
use Rattle.dm_bundle.specs.Patches.{infos_of}
use Rattle.dm_repo.proofs.NameLemmas.{is_before}
use Rattle.dm_begin.proofs.cutting.is_of_first.Goals as goal

pub returns : goal.returns
returns g c = is_before (infos_of c.args.repo.now.patches) c.args.name.now c.in-Some.k c.args.count c.requires (c.in-Some.ensures ∙ ap Some c.in_ok-copy.ensures)
