use Rattle.dm_repo.proofs.basis.fit_both.Goals as goal

pub returns : goal.returns
returns g c = λ b split. c.fit_from_root.ensures b c.args.sides.now.rest.items split
