use Rattle.dm_commands.proofs.AnswerLemmas.{shows_bundle, shows_listing}
use Rattle.dm_commands.proofs.print.push_repo.Goals as goal

pub returns-then-as_bundle : goal.returns-then-as_bundle
returns-then-as_bundle c =
    shows_bundle c.args.as_bundle c.args.repo.now.patches c.args.out.now.items c.push_bundle.new.out.items c.if-as_bundle.true
    (rw c.patches.ensures.value at c.in_ok-push_bundle.ensures.text)

pub returns : goal.returns
returns c =
    shows_listing c.args.as_bundle c.args.repo.now.patches c.tree.result.now c.args.out.now.items c.push_listing.new.out.items c.if-as_bundle.false c.tree.ensures
    c.in_ok-push_listing.ensures
