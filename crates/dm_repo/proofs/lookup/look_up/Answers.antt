use Rattle.std.proofs.Common.{refl}
use Rattle.std.proofs.lemmas.Bool.{false≢true}
use Rattle.std.proofs.lemmas.Result.{err_from_is_err_and}
use Rattle.dm_bundle.specs.Patches.{infos_of}
use Rattle.dm_repo.specs.Repositories.{Holds}
use Rattle.dm_repo.proofs.RefusalLemmas.{split_before}
use Rattle.dm_repo.proofs.Steps.{context_to_split, context_to_weigh, all_marked, not_all_held}
use Rattle.dm_repo.proofs.lookup.look_up.Goals as goal

pub returns-in_err-marks : goal.returns-in_err-marks
returns-in_err-marks g c =
    let p = err_from_is_err_and c.from_residual.result c.from_residual.ensures.1 in rw (p.1, p.2) (split_before c.args.repo.now.patches c.args.bundle.now _ (context_to_split c.args.repo.now.patches c.args.bundle.now _ c.in_err-marks.ensures), λ policy. context_to_weigh c.args.repo.now.patches c.args.bundle.now policy _ c.in_err-marks.ensures)

pub returns-then-are_set : goal.returns-then-are_set
returns-then-are_set g c =
    record { knows = c.in_ok-marks.ensures.knows; all_held = all_marked (infos_of c.args.bundle.now.patches) (Holds c.args.repo.now.patches) c.in_ok-marks.marks.held.items c.in_ok-marks.ensures.held_is (rw c.deref.ensures.value at (c.if-are_set.ensures.0 refl)) }

pub first_missing-requires : goal.first_missing-requires
first_missing-requires g c = c.in_ok-marks.ensures

pub returns-in-None : goal.returns-in-None
returns-in-None g c = record {
  prerequisites = record {
    knows = c.in_ok-marks.ensures.knows;
    is_new = λ h. false≢true (c.if-are_set.ensures.1 (rw c.deref.ensures.value (not_all_held c.args.repo.now.patches c.args.bundle.now.patches c.in_ok-marks.marks.held.items c.in_ok-marks.ensures.held_is h)));
    has_dependencies = rw c.in-None.is at c.in_ok-first_missing.ensures;
  };
  marked = c.in_ok-marks.ensures;
}

pub returns-in-Some : goal.returns-in-Some
returns-in-Some g c = (tt, λ policy. (c.in_ok-marks.ensures.knows, (λ h. false≢true (c.if-are_set.ensures.1 (rw c.deref.ensures.value (not_all_held c.args.repo.now.patches c.args.bundle.now.patches c.in_ok-marks.marks.held.items c.in_ok-marks.ensures.held_is h)))), rw c.in-Some.is at c.in_ok-first_missing.ensures))
