use Rattle.std.proofs.Common.{arith, length, ap, sym, subst, ◌≡◌, ◌∙◌}
use Rattle.std.proofs.lemmas.List.{length-map}
use Rattle.std.specs.List.{All}
use Rattle.dm_mirror.specs.Deliveries.{mails_in}
use Rattle.dm_mirror.specs.Mirrors.{IsReady}
use Rattle.dm_mirror.proofs.plan.Plan.of_repos.Goals as goal

pub invariant_of-result : goal.invariant_of-result
invariant_of-result c =
    let made = c.in_ok-made.made.items in
    let mirrors = c.in_ok-mirrors.mirrors.items in
    let texts = c.in_ok-made.ensures.texts in
    let many : length made ≡ length c.args.posters.now = sym (length-map made _) ∙ (ap length texts ∙ length-map c.args.posters.now _) in
    let as_many : length mirrors ≡ length c.args.repos.items = sym (length-map mirrors _) ∙ (ap length c.in_ok-mirrors.ensures.starts ∙ length-map c.args.repos.items _) in
    record {
      shape = ((omega (arith, many, c.requires.posters.0), omega (arith, many, c.requires.posters.1)), (omega (arith, as_many, c.requires.repos.0), omega (arith, as_many, c.requires.repos.1)));
      as_many = ap length c.in_ok-policies.ensures.items ∙ (c.requires.as_many ∙ sym as_many);
      copied = λ k d l. omega (arith, c.in_ok-made.ensures.copies k d l, c.len-2.ensures, as_many);
      all_expected = c.count_mails-expected.ensures ∙ ap mails_in (sym texts);
      ready = subst (λ n. All (IsReady n c.count_mails-expected.result) mirrors) (sym many) c.in_ok-mirrors.ensures.ready;
      empty = c.in_ok-outcome.ensures.items;
      room = omega (arith, c.in_ok-outcome.ensures.capacity, c.len.ensures, as_many);
      bound_is = c.requires.bound;
    }
