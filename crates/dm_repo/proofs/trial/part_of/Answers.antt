use Rattle.dm_repo.specs.Squares.{patches}
use Rattle.dm_repo.proofs.Tries.{are_trial_paths}
use Rattle.dm_repo.proofs.trial.part_of.Goals as goal

pub returns : goal.returns
returns g c = record {
  paths = are_trial_paths (patches c.args.list.now) c.new-names.result.items c.add_names_of_placed.new.paths.items c.thin-paths.result.items c.in_ok-add_names_of_placed.ensures c.thin-paths.ensures.tops c.thin-paths.ensures.below;
  is_part = rw c.deref.ensures.value at c.in_ok-part.ensures;
  is_lawful = c.tree_is_lawful.ensures.lawful;
  shallow = c.tree_is_lawful.ensures.shallow;
}
