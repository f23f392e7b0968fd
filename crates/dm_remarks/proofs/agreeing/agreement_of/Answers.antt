use Rattle.std.proofs.Common.{ap, refl, ◌∙◌}
use Rattle.dm_tree.proofs.Fronts.{refuted}
use Rattle.dm_commands.specs.Running.{bytes_of, texts_in}
use Rattle.dm_remarks.proofs.AgreeLemmas.{equal, not_all_taken, two_meanings}
use Rattle.dm_remarks.proofs.agreeing.agreement_of.Goals as goal

pub returns-then-all_accepted : goal.returns-then-all_accepted
returns-then-all_accepted c =
    equal c.accepting_mirrors_agree.ensures _ _ _ c.requires _ (ap bytes_of c.deref.ensures.value ∙ c.in_ok-texts.ensures) (rw c.in_default.is at c.in_ok-shared.ensures) (c.if-all_accepted.ensures.0 refl)

pub returns : goal.returns
returns c =
    not_all_taken c.mirrors_agree.ensures _ _ _ c.requires _ (ap bytes_of c.deref.ensures.value ∙ c.in_ok-texts.ensures) (rw c.in_default.is at c.in_ok-shared.ensures) (refuted c.if-all_accepted.ensures)

pub returns-in-Some : goal.returns-in-Some
returns-in-Some c = two_meanings (texts_in c.args.posters.now) c.args.base.now.patches c.args.outcome.now _ c.in-Some.name (ap bytes_of c.deref.ensures.value ∙ c.in_ok-texts.ensures) (rw c.in-Some.is at c.in_ok-shared.ensures)
