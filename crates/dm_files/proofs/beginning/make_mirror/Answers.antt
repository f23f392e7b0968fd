use Rattle.std.proofs.Common.{◌∙◌, refl}
use Rattle.dm_files.proofs.MirrorLemmas.{if_ok_is}
use Rattle.dm_files.proofs.DoneLemmas.{opened_new}
use Rattle.dm_files.proofs.beginning.make_mirror.Goals as goal

pub returns-clause-opened : goal.returns-clause-opened
returns-clause-opened g c = if_ok_is c.begin_store.result (λ store is.
    let begun = (rw is at c.begin_store.ensures.begun) in
    let start = c.in_ok-start.start in
    opened_new c.args.asked.now.mirror.now c.in_ok-file.file store c.new_kinds_of-kinds.result start.base start.repo.patches c.in_ok-file.ensures.fresh begun.0 (rw is at c.begin_store.ensures.kinds) (rw begun.1 refl) begun.2
    (rw is at c.begin_store.ensures.any_moment))

pub returns-clause-begun : goal.returns-clause-begun
returns-clause-begun g c = if_ok_is c.begin_store.result (λ store is none.
    let begun = (rw is at c.begin_store.ensures.begun) in
    let start = c.in_ok-start.ensures none in
    (begun.2 ∙ start.0, rw (rw is at c.begin_store.ensures.kinds, begun.1) start.1))
