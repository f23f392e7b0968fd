use Rattle.std.proofs.Common.{arith, rules, ap, sym, subst, ◌∙◌, List, [], ◌∷◌, ◌++◌}
use Rattle.dm_mail.specs.declared.mail.Mail.{Mail}
use Rattle.dm_mail.specs.Mails.{mails_of}
use Rattle.dm_mail.specs.Ends.{outlet_of, sent_poster, sent_mails, inlet_id}
use mathlib.Core.List.{IsPrefix}
use Rattle.dm_mirror.specs.Plans.{plan_texts}
use Rattle.dm_mirror.proofs.ListLemmas.{none_left}
use Rattle.dm_mirror.proofs.DeliveryLemmas.{settled_none, settled_more, settled_end, next_end, took_all}
use Rattle.dm_mirror.proofs.running.settled.Goals as goal

pub loop-end-init : goal.loop-end-init
loop-end-init g c = record {
  same = search rules;
  taken = search rules;
  settled = settled_none _ _ (plan_texts c.args.plan.now.value) _ c.args.ends.items c.requires.kept.no_receipts c.requires.ends;
  room = c.requires.kept.room_for_receipts;
  mails = search rules;
  verdicts = search rules;
  repo = search rules;
  capacity = search rules;
}

pub push_reserved-requires : goal.push_reserved-requires
push_reserved-requires g c =
    let inv = c.loop-end.invariant in
    let next = next_end _ _ _ _ c.loop-end.ends.items _ c.in-Some.end c.in-Some.ensures.items inv.settled in
    omega (arith, next.1, inv.room)

pub settle-requires : goal.settle-requires
settle-requires g c =
    let inv = c.loop-end.invariant in
    let next = next_end _ _ _ _ c.loop-end.ends.items _ c.in-Some.end c.in-Some.ensures.items inv.settled in
    next.0 ∙ ap (λ i. outlet_of i (sent_poster c.in-Some.end)) (sym inv.same.0)

pub loop-end-preserved : goal.loop-end-preserved
loop-end-preserved g c =
    let inv = c.loop-end.invariant in
    let end = c.in-Some.end in
    let p = sent_poster end in
    let receipts = c.loop-end.mirror.receipts.items in
    let texts = plan_texts c.args.plan.now.value in
    let ms = c.args.kept.mirror.mails.items in
    let after = c.settle.ensures in
    let prefix = subst (λ (l : List Mail). IsPrefix l (sent_mails end)) (after.taken p ∙ (inv.taken p ∙ ap (mails_of p) c.requires.kept.taken)) after.prefix in
    record {
      same = (after.same.0 ∙ inv.same.0, after.same.1 ∙ inv.same.1, after.same.2 ∙ inv.same.2);
      taken = λ q. after.taken q ∙ inv.taken q;
      settled = settled_more (inlet_id c.args.kept.inlet) ms texts receipts c.push_reserved.new.self.items c.loop-end.ends.items c.pop_front.new.self.items end c.in-Some.ensures.items
          (c.push_reserved.ensures.items ∙ (λ i. receipts ++ (c.count.ensures i, c.closed.ensures i) ∷ [])) prefix inv.settled;
      room = search rules;
      mails = search rules;
      verdicts = search rules;
      repo = search rules;
      capacity = search rules;
    }

pub returns-clause-delivered : goal.returns-clause-delivered
returns-clause-delivered g c =
    let inv = c.loop-end.invariant in
    let texts = plan_texts c.args.plan.now.value in
    let done = settled_end _ _ texts _ c.loop-end.ends.items (none_left c.loop-end.ends.items (omega (arith, c.in_default.ensures.cases))) inv.settled in
    λ p sent at. ap (λ m. mails_of p m.items) inv.mails ∙ took_all c.whole.ensures.counted c.args.kept.mirror.mails.items texts c.requires.kept.below c.requires.kept.count done.0 p sent at

pub returns-clause-receipts : goal.returns-clause-receipts
returns-clause-receipts g c =
    let texts = plan_texts c.args.plan.now.value in
    (settled_end _ _ texts _ c.loop-end.ends.items (none_left c.loop-end.ends.items (omega (arith, c.in_default.ensures.cases))) c.loop-end.invariant.settled).1
