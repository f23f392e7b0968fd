use Rattle.std.proofs.Common.{◌∙◌, ap, sym, Some}
use Rattle.dm_repo.proofs.Steps.{info_from}
use Rattle.dm_repo.proofs.repo.Repo.has_at.Goals as goal

pub returns : goal.returns
returns g c = λ t. info_from c.args.self.now.patches c.args.i c.patch.ensures ∙ ap Some (sym c.info.ensures ∙ c.same.ensures.0 t)
