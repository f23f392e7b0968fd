use Rattle.std.proofs.Common.{[], ◌∷◌, ◌++◌, refl, sym, ap, ◌∙◌, append_assoc, map, rules}
use Rattle.std.proofs.lemmas.List.{map_push}
use Rattle.dm_folder.specs.Found.{told}
use Rattle.dm_folder.specs.Listed.{NoneYet}
use Rattle.dm_folder.specs.declared.found.Found.{Found}
use Rattle.dm_folder.proofs.EventLemmas.{later_both, later_same}
use Rattle.dm_folder.proofs.ListedLemmas.{asked_more}
use Rattle.dm_folder.proofs.system.found_in.Goals as goal

pub loop-name-init : goal.loop-name-init
loop-name-init c = record {
  can_next = tt;
  is_finite = tt;
  asked = rw c.new-found.ensures.items NoneYet;
  names = rw c.new-found.ensures.items refl;
  later = later_same c.args.log.now.events;
  whole = search rules;
}

pub loop-name-preserved : goal.loop-name-preserved
loop-name-preserved c =
    let yielded = c.loop-name.yielded in
    let x = c.in-Some.name in
    let left = c.next.new.self.rest.items in
    let one : Found = record { name = x; kind = c.in_ok-kind.kind } in
    let found = c.loop-name.found.items in
    let asked = c.in_ok-kind.ensures.asked c.args.log.now.events (map told found) c.loop-name.invariant.asked in
    record {
      can_next = tt;
      is_finite = tt;
      asked = asked_more c.args.place.now c.args.log.now.events c.kind_under.new.log.events found c.push.new.self.items one c.deref.result.now asked c.deref.ensures.value c.in_ok-push.ensures.items;
      names = ap (map (λ (f : Found). f.name.items)) c.in_ok-push.ensures.items ∙ map_push (λ (f : Found). f.name.items) found one ∙ ap (λ ns. ns ++ x.items ∷ []) c.loop-name.invariant.names ∙ sym (map_push (λ name. name.items) yielded x);
      later = later_both c.loop-name.invariant.later c.in_ok-kind.ensures.later;
      whole = c.loop-name.invariant.whole ∙ ap (λ z. yielded ++ z) c.in-Some.ensures.steps.0 ∙ sym (append_assoc yielded (x ∷ []) left);
    }

pub returns-in_err-kind-clause-later : goal.returns-in_err-kind-clause-later
returns-in_err-kind-clause-later c = later_both c.loop-name.invariant.later c.in_err-kind.ensures.later

pub returns-in_err-push-clause-later : goal.returns-in_err-push-clause-later
returns-in_err-push-clause-later c = later_both c.loop-name.invariant.later c.in_ok-kind.ensures.later
