use Rattle.std.proofs.Common.{◌≡◌, ◌∙◌, ◌++◌, ap, refl, subst, inr, None}
use Rattle.memchr.specs.Find.{FindsNeedle}
use Rattle.dm_deliver.specs.Dates.{before_date, told_date}
use Rattle.dm_deliver.proofs.date_rule.place_of_date.Goals as goal

pub returns : goal.returns
returns c =
    let before : c.push_before_date.new.out.items ≡ before_date c.args.info.now = c.in_ok-push_before_date.ensures ∙ ap (λ t. t ++ before_date c.args.info.now) c.new-told.ensures.items in
    let told : c.deref.result.now ≡ told_date c.args.info.now =
    c.deref.ensures.value ∙ c.in_ok-extend_from_slice.ensures.items ∙ ap (λ d. c.push_before_date.new.out.items ++ d) c.date.ensures ∙ ap (λ t. t ++ c.args.info.now.date) before in
    inr (subst (λ t. FindsNeedle c.args.text.now t 0 None) told (rw c.in-None.is at c.find.ensures), refl)
