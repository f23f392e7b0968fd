use Rattle.dm_send.proofs.Sharing.{split_answer}
use Rattle.dm_send.proofs.shared.split_for.Goals as goal

pub returns : goal.returns
returns g c =
    let bundle = c.without_doubles-bundle.ensures in
    let none = c.new.ensures.items in
    split_answer c.args.repo.now.patches c.args.names.now c.in_ok-held.held.items c.in_ok-held.ensures c.split.result (rw (bundle, none) at c.split.ensures.parts) c.split.ensures.folds (rw (bundle, none) at c.split.ensures.refusal)
