use Rattle.std.proofs.Common.{sym, ◌∙◌, ◌<◌, ◌≤◌, List, length, subst, arith}
use Rattle.dm_tree.specs.Trees.{Lines}
use Rattle.dm_tree.specs.Files.{joined}
use Rattle.dm_tree.proofs.Joined.{on_ok, located_in, located_within, rebuilt, one_part, one_order, one_left, within_at, spliced_part}
use Rattle.dm_tree.proofs.parts.replace.Goals as goal

pub seek_end-to-requires-clause-from : goal.seek_end-to-requires-clause-from
seek_end-to-requires-clause-from g c = located_in _ _ c.args.start c.seek-from.result.part c.seek-from.result.line (c.deref.ensures.value ∙ sym c.deref-2.ensures.value) c.seek-from.ensures

pub splice_part-requires-clause-part : goal.splice_part-requires-clause-part
splice_part-requires-clause-part g c = (located_in _ _ c.args.start c.seek-from.result.part c.seek-from.result.line c.deref.ensures.value c.seek-from.ensures).0

pub splice_part-requires-clause-order : goal.splice_part-requires-clause-order
splice_part-requires-clause-order g c = one_order _ c.args.start c.args.end c.seek-from.result.part _ _ _ c.if-from-to.true (located_in _ _ c.args.start c.seek-from.result.part c.seek-from.result.line c.deref.ensures.value c.seek-from.ensures) (located_in _ _ c.args.end c.seek_end-to.result.part c.seek_end-to.result.line c.deref-2.ensures.value c.seek_end-to.ensures.to) c.requires.order

pub splice_part-requires-clause-within : goal.splice_part-requires-clause-within
splice_part-requires-clause-within g c = one_part _ c.args.start c.args.end _ c.seek-from.result.line _ _ c.if-from-to.true (located_in _ _ c.args.start c.seek-from.result.part c.seek-from.result.line c.deref.ensures.value c.seek-from.ensures) (located_in _ _ c.args.end c.seek_end-to.result.part c.seek_end-to.result.line c.deref-2.ensures.value c.seek_end-to.ensures.to)

pub returns-then-saturating_add-clause-ok : goal.returns-then-saturating_add-clause-ok
returns-then-saturating_add-clause-ok g c =
    on_ok c.splice_part.result _ _ (λ e. spliced_part _ c.args.start c.args.end c.seek-from.result.part _ _ _ c.if-from-to.true (located_in _ _ c.args.start c.seek-from.result.part c.seek-from.result.line c.deref.ensures.value c.seek-from.ensures) (located_in _ _ c.args.end c.seek_end-to.result.part c.seek_end-to.result.line c.deref-2.ensures.value c.seek_end-to.ensures.to) _ c.args.fresh.now e) c.splice_part.ensures.ok

pub rebuild-requires-clause-from : goal.rebuild-requires-clause-from
rebuild-requires-clause-from g c = (located_in _ _ c.args.start c.seek-from.result.part c.seek-from.result.line c.deref.ensures.value c.seek-from.ensures).1

pub rebuild-requires-clause-within : goal.rebuild-requires-clause-within
rebuild-requires-clause-within g c = (located_in _ _ c.args.end c.seek_end-to.result.part c.seek_end-to.result.line c.deref-2.ensures.value c.seek_end-to.ensures.to).0

pub rebuild-requires-clause-to : goal.rebuild-requires-clause-to
rebuild-requires-clause-to g c = (located_in _ _ c.args.end c.seek_end-to.result.part c.seek_end-to.result.line c.deref-2.ensures.value c.seek_end-to.ensures.to).1

pub rebuild-requires-clause-fits : goal.rebuild-requires-clause-fits
rebuild-requires-clause-fits g c =
    let a = located_in _ _ c.args.start c.seek-from.result.part c.seek-from.result.line c.deref.ensures.value c.seek-from.ensures in
    let b = located_in _ _ c.args.end c.seek_end-to.result.part c.seek_end-to.result.line c.deref-2.ensures.value c.seek_end-to.ensures.to in
    omega (arith, a.2, b.1, located_within c.args.parts.now.items c.args.end c.seek_end-to.result.part c.seek_end-to.result.line b, c.requires.fits, c.requires.order, c.requires.within)

pub returns-clause-ok : goal.returns-clause-ok
returns-clause-ok g c =
    let from = c.seek-from.result in
    let to = c.seek_end-to.result in
    on_ok c.rebuild.result _ _ (λ e. rebuilt c.args.parts.now.items _ c.args.fresh.now c.args.start c.args.end from.part from.line to.part to.line (located_in _ _ c.args.start c.seek-from.result.part c.seek-from.result.line c.deref.ensures.value c.seek-from.ensures) (located_in _ _ c.args.end c.seek_end-to.result.part c.seek_end-to.result.line c.deref-2.ensures.value c.seek_end-to.ensures.to) e) c.rebuild.ensures.ok

pub seek-from-requires-clause-within : goal.seek-from-requires-clause-within
seek-from-requires-clause-within g c = within_at _ _ c.args.start c.args.end c.deref.ensures.value c.requires.order c.requires.within

pub seek-from-requires-clause-some : goal.seek-from-requires-clause-some
seek-from-requires-clause-some g c = subst (λ (z : List Lines). 0 < length z) (sym c.deref.ensures.value) c.requires.some

pub seek_end-to-requires-clause-order : goal.seek_end-to-requires-clause-order
seek_end-to-requires-clause-order g c = c.requires.order

pub seek_end-to-requires-clause-within : goal.seek_end-to-requires-clause-within
seek_end-to-requires-clause-within g c = subst (λ (z : List Lines). c.args.end ≤ length (joined z)) (sym c.deref-2.ensures.value) c.requires.within

pub index-requires : goal.index-requires
index-requires g c = subst (λ n. c.seek-from.result.part < n) (sym c.args.parts.now.ok.0) (located_in _ _ c.args.start c.seek-from.result.part c.seek-from.result.line c.deref.ensures.value c.seek-from.ensures).0

pub overflow_sub-left : goal.overflow_sub-left
overflow_sub-left g c = one_order _ c.args.start c.args.end c.seek-from.result.part _ _ _ c.if-from-to.true (located_in _ _ c.args.start c.seek-from.result.part c.seek-from.result.line c.deref.ensures.value c.seek-from.ensures) (located_in _ _ c.args.end c.seek_end-to.result.part c.seek_end-to.result.line c.deref-2.ensures.value c.seek_end-to.ensures.to) c.requires.order

pub overflow_sub-left-then-from-to : goal.overflow_sub-left-then-from-to
overflow_sub-left-then-from-to g c =
    let a = located_in _ _ c.args.start c.seek-from.result.part c.seek-from.result.line c.deref.ensures.value c.seek-from.ensures in
    one_left _ c.args.start c.args.end c.seek-from.result.part _ _ _ c.if-from-to.true a (located_in _ _ c.args.end c.seek_end-to.result.part c.seek_end-to.result.line c.deref-2.ensures.value c.seek_end-to.ensures.to) c.len.result c.index.result.now a.0 c.index.ensures c.len.ensures

pub returns-then-saturating_add-clause-some : goal.returns-then-saturating_add-clause-some
returns-then-saturating_add-clause-some g c = subst (λ n. 0 < n) (sym c.splice_part.ensures.count) c.requires.some

pub returns-then-saturating_add-clause-err : goal.returns-then-saturating_add-clause-err
returns-then-saturating_add-clause-err g c = c.splice_part.ensures.err

pub rebuild-requires-clause-order : goal.rebuild-requires-clause-order
rebuild-requires-clause-order g c = c.seek_end-to.ensures.order

pub returns-clause-some : goal.returns-clause-some
returns-clause-some g c = c.rebuild.ensures.some

pub returns-clause-err : goal.returns-clause-err
returns-clause-err g c = c.rebuild.ensures.err
