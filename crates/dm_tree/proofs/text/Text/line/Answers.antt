use Rattle.std.proofs.Common.{◌+◌, arith, refl}
use Rattle.dm_tree.proofs.Texts.{held, length-held, end_is, part_is, begin_of-mono, begin_of-fits}
use Rattle.dm_tree.proofs.text.Text.line.Goals as goal

pub index-end-requires : goal.index-end-requires
index-end-requires g c =
    omega (arith, length-held _ _ _ (held _ _ _ c.self.invariant c.self.view_is), c.self.inside.ends.ok.0, c.requires)

pub slice_bounds-result-count : goal.slice_bounds-result-count
slice_bounds-result-count g c =
    let end = end_is _ _ _ (held _ _ _ c.self.invariant c.self.view_is) c.args.i (c.args.i + 1) c.index-end.result.now refl c.requires c.index-end.ensures in
    omega (arith, end, c.begin-start.ensures, begin_of-mono c.args.self.now c.args.i (c.args.i + 1) (omega arith))

pub slice_bounds-result-start : goal.slice_bounds-result-start
slice_bounds-result-start g c =
    let end = end_is _ _ _ (held _ _ _ c.self.invariant c.self.view_is) c.args.i (c.args.i + 1) c.index-end.result.now refl c.requires c.index-end.ensures in
    omega (arith, end, c.begin-start.ensures, begin_of-mono c.args.self.now c.args.i (c.args.i + 1) (omega arith))

pub slice_bounds-result-end : goal.slice_bounds-result-end
slice_bounds-result-end g c =
    let h = held _ _ _ c.self.invariant c.self.view_is in
    let end = end_is _ _ _ h c.args.i (c.args.i + 1) c.index-end.result.now refl c.requires c.index-end.ensures in
    omega (arith, end, begin_of-fits _ _ _ h (c.args.i + 1), c.deref.ensures.len, c.self.inside.bytes.ok.0)

pub returns : goal.returns
returns g c =
    let h = held _ _ _ c.self.invariant c.self.view_is in
    part_is _ _ _ h c.deref.result.now c.args.i c.begin-start.result c.index-end.result.now c.deref.ensures.value c.requires c.begin-start.ensures (end_is _ _ _ h c.args.i (c.args.i + 1) c.index-end.result.now refl c.requires c.index-end.ensures)
