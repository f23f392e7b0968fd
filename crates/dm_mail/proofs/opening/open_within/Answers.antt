use Rattle.std.proofs.Common.{rules, arith, ap, ◌∙◌, sym, subst, ◌≡◌, ◌+◌, length, List, length-append}
use Rattle.crossbeam_channel.specs.Claims.{view}
use Rattle.dm_mail.specs.declared.ends.Outlet.{Outlet}
use Rattle.dm_mail.specs.declared.view.View.{View}
use Rattle.dm_mail.specs.Ends.{MailId, pass_id, outlet_of}
use Rattle.dm_mail.proofs.RuleLemmas.{begins, splits}
use Rattle.dm_mail.proofs.EndLemmas.{AreNew, new_more}
use Rattle.dm_mail.proofs.opening.open_within.Goals as goal

pub bounded_with-requires-clause-rule : goal.bounded_with-requires-clause-rule
bounded_with-requires-clause-rule g c = begins

pub another-own_pass-requires-clause-rule : goal.another-own_pass-requires-clause-rule
another-own_pass-requires-clause-rule g c = splits _ _ _ c.loop-poster.invariant.agrees c.loop-poster.invariant.is_mirror

pub loop-poster-preserved : goal.loop-poster-preserved
loop-poster-preserved g c =
    let inv = c.loop-poster.invariant in
    let split = c.another-own_pass in
    let seats = split.ensures.channel in
    let rule = split.ensures.rule in
    let table : split.new.pass.table_id ≡ c.loop-poster.pass.table_id = cc (c.in_ok-sender-2.ensures, seats.0.0, inv.seated.0) in
    let key : split.new.pass.me.0.of ≡ c.loop-poster.pass.me.0.of = cc (c.in_ok-sender-2.ensures, seats.0.1, inv.seated.1) in
    let now : pass_id split.new.pass ≡ pass_id c.loop-poster.pass = λ i. (table i, key i) in
    let own : pass_id split.result ≡ pass_id split.new.pass = λ i. ((seats.2.0 ∙ sym seats.0.0) i, (seats.2.1 ∙ sym seats.0.1) i) in
    let old : AreNew (pass_id split.new.pass) 0 c.loop-poster.outlets.items = subst (λ (i : MailId). AreNew i 0 c.loop-poster.outlets.items) (sym now) inv.new in
    let poster : (view split.result).poster ≡ 0 + length c.loop-poster.outlets.items = ap (λ (v : View). v.poster) rule.1 ∙ omega (arith, inv.posters, inv.count) in
    record {
      seated = search rules;
      is_mirror = ap (λ (v : View). v.is_mirror) rule.0 ∙ inv.is_mirror;
      posters = ap (λ (v : View). v.posters) rule.0 ∙ omega (arith, inv.posters);
      taken = ap (λ (v : View). v.taken) rule.0 ∙ inv.taken;
      agrees = λ _. ap (λ (v : View). v.bound) rule.0;
      told = λ _. ap (λ (v : View). v.is_told) rule.0;
      same = now ∙ inv.same;
      count = omega (arith, inv.count, ap length c.push_reserved.ensures.items, length-append {A = Outlet});
      new = subst (λ (l : List Outlet). AreNew (pass_id split.new.pass) 0 l) (sym c.push_reserved.ensures.items)
          (new_more _ 0 c.loop-poster.outlets.items _ old poster (λ i. outlet_of (own i) (poster i)) (ap (λ (v : View). v.sent) rule.1));
    }
