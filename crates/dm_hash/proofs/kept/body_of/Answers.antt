use Rattle.std.proofs.Common.{drop, length, ◌∙◌, arith, length-drop}
use Rattle.std.proofs.lemmas.List.{take_all}
use Rattle.dm_hash.proofs.KeptLemmas.{body_here}
use Rattle.dm_hash.proofs.kept.body_of.Goals as goal

pub returns : goal.returns
returns g c =
    take_all _ (drop (length c.args.front.now) c.args.text.now) (omega (arith, length-drop (length c.args.front.now) c.args.text.now)) ∙ rw (c.requires.front, c.requires.text) (body_here c.args.patch.now)
