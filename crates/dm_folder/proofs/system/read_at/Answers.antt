use Rattle.std.proofs.Common.{ℕ, List, ◌∷◌, ◌∙◌, ap, subst}
use Rattle.std.proofs.lemmas.Result.{IfOk-weaker}
use Rattle.dm_folder.specs.Events.{held}
use Rattle.dm_folder.specs.Listed.{IsHeldBy}
use Rattle.dm_folder.proofs.EventLemmas.{later_both, later_one}
use Rattle.dm_folder.proofs.ListedLemmas.{is_held_by}
use Rattle.dm_folder.proofs.system.read_at.Goals as goal

pub returns-clause-ok : goal.returns-clause-ok
returns-clause-ok c =
    let first = c.in_ok-before.ensures.ok in
    let bytes = c.read_to_end.new.buf.items in
    let opened = c.opened.new.self.events in
    let after = c.held.new.self.events in
    let noted = c.held.ensures ∙ ap (λ bs. held bs ∷ opened) c.deref.ensures.value in
    let P : List ℕ → Type 0 = λ place. IsHeldBy after place bytes in
    let is : IsHeldBy after c.args.place.now bytes = subst P c.in_ok-place.ensures (is_held_by c.in_ok-place.place.now bytes c.args.log.now.events c.stamp_of.new.log.events opened after first.0 first.1 first.2 c.opened.ensures noted) in
    IfOk-weaker c.whole.result _ _ (λ whole same. rw same is) c.whole.ensures.bytes

pub returns-in_err-bytes-clause-later : goal.returns-in_err-bytes-clause-later
returns-in_err-bytes-clause-later c = later_both c.in_ok-before.ensures.later (later_one _ _ _ c.opened.ensures)

pub returns-in_err-read_to_end-clause-later : goal.returns-in_err-read_to_end-clause-later
returns-in_err-read_to_end-clause-later c = later_both c.in_ok-before.ensures.later (later_one _ _ _ c.opened.ensures)

pub returns-in_err-metadata-clause-later : goal.returns-in_err-metadata-clause-later
returns-in_err-metadata-clause-later c = later_both (later_both c.in_ok-before.ensures.later (later_one _ _ _ c.opened.ensures)) (later_one _ _ _ c.held.ensures)

pub returns-clause-later : goal.returns-clause-later
returns-clause-later c = later_both (later_both c.in_ok-before.ensures.later (later_one _ _ _ c.opened.ensures)) (later_one _ _ _ c.held.ensures)
