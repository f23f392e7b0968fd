use Rattle.std.proofs.Common.{rules, ap, ◌∙◌, sym, [], ◌∷◌, ◌++◌, append_assoc}
use Rattle.dm_prim.specs.Prims.{prims_of}
use Rattle.dm_element.specs.Elements.{none}
use Rattle.dm_element.proofs.ShadowLemmas.{passed_all, passed_more, passed_not}
use Rattle.dm_element.proofs.shadows.pass_each.Goals as goal

pub loop-shadow-init : goal.loop-shadow-init
loop-shadow-init g c = record { can_next = tt; is_finite = tt; whole = search rules; passed = rw c.in_ok-turned.ensures.items none }

pub returns-in_default : goal.returns-in_default
returns-in_default g c =
    let yielded = c.loop-shadow.yielded in
    passed_not c.args.shadows.items yielded c.in-Some.shadow (prims_of c.args.by.now) c.next.new.self.rest.items
    (c.loop-shadow.invariant.whole ∙ ap (λ z. yielded ++ z) c.in-Some.ensures.steps.0)
    (rw (c.in_default.is, c.in_ok-first.ensures) at c.in_ok-passed.ensures.answer)

pub loop-shadow-preserved : goal.loop-shadow-preserved
loop-shadow-preserved g c =
    let yielded = c.loop-shadow.yielded in
    let left = c.next.new.self.rest.items in
    record {
      can_next = tt;
      is_finite = tt;
      whole = c.loop-shadow.invariant.whole ∙ ap (λ z. yielded ++ z) c.in-Some.ensures.steps.0 ∙ sym (append_assoc yielded (c.in-Some.shadow ∷ []) left);
      passed = passed_more c.args.shadows.items yielded c.in-Some.shadow (prims_of c.args.by.now) c.loop-shadow.turned.items c.push.new.self.items c.in-Some-2.passed c.in-Some-2._rest
          (rw (c.in-Some-2.is, c.in_ok-first.ensures) at c.in_ok-passed.ensures.answer) c.in_ok-push.ensures.items c.loop-shadow.invariant.passed;
    }

pub returns : goal.returns
returns g c =
    let left = c.loop-shadow.shadow-iterator.rest in
    passed_all c.args.shadows.items c.loop-shadow.yielded (prims_of c.args.by.now) left.items c.loop-shadow.turned.items c.loop-shadow.invariant.whole
    (sym left.ok.0 ∙ c.in-None.ensures.steps.0) c.loop-shadow.invariant.passed
