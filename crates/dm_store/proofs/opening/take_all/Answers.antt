use Rattle.std.proofs.Common.{inl, inr, ⊎_elim, refl}
use Rattle.dm_tree.proofs.Fronts.{refuted}
use Rattle.dm_store.proofs.AgainLemmas.{read_taken, read_untaken}
use Rattle.dm_store.proofs.opening.take_all.Goals as goal

pub returns-then-has_taken-clause-ok : goal.returns-then-has_taken-clause-ok
returns-then-has_taken-clause-ok c = λ kinds base text reads.
    read_taken kinds base c.args.repo.now.patches text c.args.bundle c.take_read-verdict.result c.take_read-verdict.new.repo.patches
    (c.if-not-is_empty.ensures.0 refl) (c.if-has_taken.ensures.0 refl) reads c.take_read-verdict.ensures

pub returns-clause-err : goal.returns-clause-err
returns-clause-err c =
    ⊎_elim (λ e. inl e.1)
    (λ e. inr (
      e.1,
      λ kinds base text patches reads. read_untaken kinds base c.args.repo.now.patches text c.args.bundle c.take_read-verdict.result c.take_read-verdict.new.repo.patches patches
          (c.if-not-is_empty.ensures.0 refl) e.0 (refuted c.if-has_taken.ensures) reads c.take_read-verdict.ensures,
    ))
    c.fault_of.ensures
