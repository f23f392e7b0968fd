use Rattle.std.proofs.Common.{inl, inr, ⊎_elim}
use Rattle.dm_files.proofs.MirrorLemmas.{if_ok_is}
use Rattle.dm_files.proofs.DoneLemmas.{opened_kept}
use Rattle.dm_files.proofs.beginning.open_mirror.Goals as goal

pub returns-in-Some-clause-opened : goal.returns-in-Some-clause-opened
returns-in-Some-clause-opened g c = if_ok_is c.open_store.result (λ store is.
    opened_kept c.args.path.now _ c.in-Some.file store (rw c.in-Some.is at c.in_ok-found.ensures.fresh) (inl (rw is at c.open_store.ensures.keeps)) (rw is at c.open_store.ensures.untouched))

pub returns-clause-opened : goal.returns-clause-opened
returns-clause-opened g c = if_ok_is c.store_of.result (λ store is. record {
  first = c.in_ok-file.file;
  fresh = c.in_ok-file.ensures.fresh;
  had = ⊎_elim (λ mirror. inl mirror) (λ new. inr (new.0, new.2, rw (new.3, new.1) c.in_ok-start.ensures)) (rw is at c.store_of.ensures.kept);
  any_moment = rw is at c.store_of.ensures.opened;
})
