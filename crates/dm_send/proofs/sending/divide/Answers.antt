use Rattle.std.proofs.Common.{◌∙◌}
use Rattle.dm_send.proofs.Sent.{divided, front_alone, new_apart, refuses_front}
use Rattle.dm_send.proofs.sending.divide.Goals as goal

pub repo_of-requires : goal.repo_of-requires
repo_of-requires g c =
    let parted = c.in_ok-parted.parted in
    rw c.in_ok-list.ensures (front_alone c.args.repo.now.patches c.args.theirs.now c.args.most parted.front.items parted.rest.items c.is_lawful.ensures.distinct c.in_ok-parted.ensures.0)

pub returns-in-Err-clause-refusal : goal.returns-in-Err-clause-refusal
returns-in-Err-clause-refusal g c =
    refuses_front c.in-Err.why c.refused_there.result c.refused_there.ensures.memory c.refused_there.ensures.full c.args.repo.now.patches c.args.theirs.now c.in_ok-parted.ensures.0 (rw c.in_ok-list.ensures at c.in-Err.ensures)

pub returns-clause-divided : goal.returns-clause-divided
returns-clause-divided g c =
    let parted = c.in_ok-parted.parted in
    let shared = c.in-Ok.ensures ∙ c.in_ok-list.ensures in
    rw (shared, c.truncate.ensures.items, c.in_ok-new.ensures)
    (divided c.args.repo.now.patches c.args.theirs.now c.args.most parted.front.items parted.rest.items c.is_lawful.ensures.distinct c.in_ok-parted.ensures.0 c.in_ok-parted.ensures.1 (rw shared at c.is_lawful-2.ensures))

pub returns-clause-no_doubles : goal.returns-clause-no_doubles
returns-clause-no_doubles g c =
    let parted = c.in_ok-parted.parted in
    rw (c.truncate.ensures.items, c.in_ok-new.ensures, c.in_ok-names.ensures, c.deref.ensures.value, c.in_ok-list.ensures)
    (new_apart c.args.repo.now.patches c.args.theirs.now c.args.most parted.front.items parted.rest.items c.is_lawful.ensures.distinct c.in_ok-parted.ensures.0)
