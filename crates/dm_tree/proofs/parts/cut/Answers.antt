use Rattle.std.proofs.Common.{◌+◌, ◌∷◌, ◌≤◌, [], length, ap, sym, subst, arith, length-append}
use Rattle.dm_tree.proofs.Joined.{cut_more, cut_first, cut_all, cut_within, cut_less, parts_fit}
use Rattle.dm_tree.proofs.Plain.{le_more, from_zero}
use Rattle.dm_tree.proofs.parts.cut.Goals as goal

pub loop-at-preserved : goal.loop-at-preserved
loop-at-preserved g c =
    let i = c.loop-at.invariant in
    record {
      lines = cut_more c.loop-at.parts.items c.push-in-loop-at.new.self.items c.args.lines.now c.in_ok-text-2.field-0 c.loop-at.at (c.loop-at.at + c.min.result) i.lines (omega arith) c.in_ok-push-2.ensures.items c.in_ok-text-2.ensures;
      within = omega (arith, i.within, c.min.ensures, c.len-total.ensures);
      some = omega (arith, i.some, ap length c.in_ok-push-2.ensures.items, length-append c.loop-at.parts.items (c.in_ok-text-2.field-0 ∷ []));
    }

pub overflow_add-total : goal.overflow_add-total
overflow_add-total g c = parts_fit c.len-total.result c.len-total.type_inv

pub text-requires : goal.text-requires
text-requires g c = from_zero c.min-at.result

pub loop-at-init : goal.loop-at-init
loop-at-init g c = cut_first c.in_ok-parts.parts.items c.push.new.self.items c.args.lines.now c.in_ok-text.field-0 c.len-total.result c.min-at.result c.in_ok-parts.ensures.items c.in_ok-push.ensures.items c.in_ok-text.ensures c.len-total.ensures c.min-at.ensures

pub overflow_sub-total : goal.overflow_sub-total
overflow_sub-total g c = subst (λ n. c.loop-at.at ≤ n) (sym c.len-total.ensures) c.loop-at.invariant.within

pub overflow_add-end : goal.overflow_add-end
overflow_add-end g c = cut_within c.len-total.result c.loop-at.at c.min.result (subst (λ n. c.loop-at.at ≤ n) (sym c.len-total.ensures) c.loop-at.invariant.within) c.min.ensures c.len-total.type_inv

pub text-requires-in-loop-at : goal.text-requires-in-loop-at
text-requires-in-loop-at g c = le_more c.loop-at.at c.min.result

pub loop-at-smaller : goal.loop-at-smaller
loop-at-smaller g c = cut_less c.len-total.result c.loop-at.at c.min.result c.loop-at-test.true c.min.ensures

pub returns-clause-some : goal.returns-clause-some
returns-clause-some g c = c.loop-at.invariant.some

pub returns-clause-lines : goal.returns-clause-lines
returns-clause-lines g c = cut_all c.loop-at.parts.items c.args.lines.now c.len-total.result c.loop-at.at c.loop-at.invariant c.len-total.ensures c.loop-at-test.false
