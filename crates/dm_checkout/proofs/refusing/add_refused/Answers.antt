use Rattle.std.proofs.Common.{◌≡◌, [], None, Some, refl}
use Rattle.std.specs.Prelude.{Option}
use Rattle.dm_checkout.specs.Places.{place_text}
use Rattle.dm_checkout.specs.Faults.{told}
use Rattle.dm_checkout.specs.Repositories.{why_unsafe}
use Rattle.dm_checkout.specs.declared.fault.Why.{Why}
use Rattle.dm_checkout.proofs.RepositoryLemmas.{none_more, some_more}
use Rattle.dm_checkout.proofs.refusing.add_refused.Goals as goal

pub returns-in-None : goal.returns-in-None
returns-in-None g c paths are =
    let none : ◌≡◌ {A = Option Why} (why_unsafe paths c.args.path.now) None = cc (c.in_ok-why_unsafe.ensures paths are, c.in-None.is) in
    none_more (told c.args.list.now.items) (why_unsafe paths c.args.path.now) (place_text [] c.args.path.now) none

pub returns-in_ok-push-in-Some : goal.returns-in_ok-push-in-Some
returns-in_ok-push-in-Some g c paths are =
    let some : ◌≡◌ {A = Option Why} (why_unsafe paths c.args.path.now) (Some c.in-Some.why) = cc (c.in_ok-why_unsafe.ensures paths are, c.in-Some.is) in
    some_more c.args.list.now.items c.push.new.self.items (why_unsafe paths c.args.path.now) c.in-Some.why (place_text [] c.args.path.now) _ some c.in_ok-push-in-Some.ensures.items c.in_ok-bytes-in-Some.ensures refl
