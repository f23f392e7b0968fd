use Rattle.std.proofs.Common.{◌-◌, ◌∙◌, arith, ap, length, []}
use Rattle.std.proofs.lemmas.List.{get_or_default}
use Rattle.dm_tree.proofs.Joined.{last_part}
use Rattle.dm_tree.proofs.parts.seek.Goals as goal

pub returns : goal.returns
returns g c =
    let ps = c.args.parts.now in
    let k = length ps - 1 in
    let some = c.requires.some in
    let here = ap length (c.index-parts-part.is ∙ get_or_default ps k c.index-parts-part.result [] (omega (arith, some))) in
    (omega (arith, some), omega (arith, here, c.len.ensures), omega (arith, c.in_default.ensures, c.requires.within, here, c.len.ensures, last_part ps k (omega (arith, some)) (omega (arith, some))))
