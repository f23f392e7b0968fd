use Rattle.dm_told.proofs.answer.verdict_object.Goals as goal

pub returns-in-TakenSome : goal.returns-in-TakenSome
returns-in-TakenSome c = rw c.in-TakenSome.is (c.taken_some.ensures c.args.text.now)

pub returns-in-Malformed : goal.returns-in-Malformed
returns-in-Malformed c = rw c.in-Malformed.is (c.malformed.ensures c.args.repo.now.patches c.args.bundle.now)
