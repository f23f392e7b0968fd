use Rattle.std.proofs.Common.{ℕ, List, ◌∙◌, map, subst}
use Rattle.dm_folder.specs.Found.{told}
use Rattle.dm_folder.specs.Listed.{IsListed}
use Rattle.dm_folder.proofs.ListedLemmas.{is_listed_by, told_names}
use Rattle.dm_folder.proofs.EventLemmas.{later_both}
use Rattle.dm_folder.proofs.system.list_at.Goals as goal

pub returns-clause-ok : goal.returns-clause-ok
returns-clause-ok c =
    let first = c.in_ok-before.ensures.ok in
    let names = c.in_ok-names.ensures.ok in
    let found = c.in_ok-found.ensures in
    let last = c.in_ok-after.ensures.ok in
    let after = c.stamp_of-2.new.log.events in
    let P : List ℕ → Type 0 = λ place. IsListed after place (map told c.in_ok-found.found.items) in
    subst P c.in_ok-place.ensures
    (is_listed_by c.in_ok-place.place.now c.args.log.now.events c.stamp_of.new.log.events c.names_at.new.log.events c.found_in.new.log.events after
    names.0 names.1 (map (λ name. name.items) c.in_ok-names.names.items) (map told c.in_ok-found.found.items) first.0 last.0
    first.1 first.2 names.2 names.3 names.4 found.asked (told_names c.in_ok-found.found.items ∙ found.names) last.1 last.2)

pub returns-clause-later : goal.returns-clause-later
returns-clause-later c = later_both (later_both (later_both c.in_ok-before.ensures.later c.in_ok-names.ensures.later) c.in_ok-found.ensures.later) c.in_ok-after.ensures.later

pub returns-in_err-names-clause-later : goal.returns-in_err-names-clause-later
returns-in_err-names-clause-later c = later_both c.in_ok-before.ensures.later c.in_err-names.ensures.later

pub returns-in_err-found-clause-later : goal.returns-in_err-found-clause-later
returns-in_err-found-clause-later c = later_both (later_both c.in_ok-before.ensures.later c.in_ok-names.ensures.later) c.in_err-found.ensures.later

pub returns-in_err-after-clause-later : goal.returns-in_err-after-clause-later
returns-in_err-after-clause-later c = later_both (later_both (later_both c.in_ok-before.ensures.later c.in_ok-names.ensures.later) c.in_ok-found.ensures.later) c.in_err-after.ensures.later

pub returns-then-ne-clause-later : goal.returns-then-ne-clause-later
returns-then-ne-clause-later c = later_both (later_both (later_both c.in_ok-before.ensures.later c.in_ok-names.ensures.later) c.in_ok-found.ensures.later) c.in_ok-after.ensures.later
