use Rattle.std.proofs.Common.{◌<◌, ◌-◌, arith}
use Rattle.dm_tree.proofs.Texts.{held, length-held, end_is}
use Rattle.dm_tree.proofs.text.Text.begin.Goals as goal

pub index-requires : goal.index-requires
index-requires g c =
    omega (arith, length-held _ _ _ (held _ _ _ c.self.invariant c.self.view_is), c.self.inside.ends.ok.0, c.requires, c.if-i-eq0.false)

pub returns-else-i-eq0 : goal.returns-else-i-eq0
returns-else-i-eq0 g c =
    let h = held _ _ _ c.self.invariant c.self.view_is in
    let some : 0 < c.args.i = omega (arith, c.if-i-eq0.false) in
    end_is _ _ _ h (c.args.i - 1) c.args.i c.index.result.now (omega arith) (omega arith) c.index.ensures
