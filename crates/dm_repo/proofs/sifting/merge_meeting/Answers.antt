use Rattle.std.proofs.Common.{refl}
use Rattle.std.proofs.lemmas.Result.{err_from_is_err_and}
use Rattle.dm_repo.proofs.AskedRows.{pass_goes, merge_goes}
use Rattle.dm_repo.proofs.sifting.merge_meeting.Goals as goal

pub returns-in-Some : goal.returns-in-Some
returns-in-Some g c = (c.would_pass_all.ensures.same, refl, refl, rw (c.in-Some.is, c.in_ok-asked.ensures) at c.in_ok-place.ensures.row)

pub returns-in-Some-2 : goal.returns-in-Some-2
returns-in-Some-2 g c =
    let p = rw (c.in_default.is, c.in_ok-asked.ensures) at c.in_ok-place.ensures.row in
    let s = rw c.in-Some-2.is at c.in_ok-place-2.ensures.row in
    (c.would_pass_all.ensures.same, c.would_merge_all.ensures.same, refl {a = c.args.patch.now}, (c.would_pass_all.new.patch, p.0, s.0, s.1, p.1, s.2))

pub unreachable-requires : goal.unreachable-requires
unreachable-requires g c =
    let p = rw (c.in_default.is, c.in_ok-asked.ensures) at c.in_ok-place.ensures.row in
    pass_goes c.in-Err-At.field-0 c.in-Err-At.field-0-0 c.in-Err-At.field-0-is p (rw c.would_pass_all.ensures.same at c.in-Err-At.ensures)

pub unreachable-requires-in-Err-At-merge_past : goal.unreachable-requires-in-Err-At-merge_past
unreachable-requires-in-Err-At-merge_past g c =
    let p = rw (c.in_default.is, c.in_ok-asked.ensures) at c.in_ok-place.ensures.row in
    let m = rw c.in_default-2.is at c.in_ok-place-2.ensures.row in
    let over = rw c.would_pass_all.ensures.same at c.in-Ok.ensures in
    merge_goes c.in-Err-At-merge_past.field-0 c.in-Err-At-merge_past.field-0-0 c.in-Err-At-merge_past.field-0-is p over m (rw c.would_merge_all.ensures.same at c.in-Err-At-merge_past.ensures)

pub returns-in_err-asked : goal.returns-in_err-asked
returns-in_err-asked g c = let p = err_from_is_err_and c.from_residual.result c.from_residual.ensures.1 in rw p.1 tt

pub returns-in_err-place : goal.returns-in_err-place
returns-in_err-place g c = let p = err_from_is_err_and c.from_residual-in_err-place.result c.from_residual-in_err-place.ensures.1 in rw p.1 tt

pub returns-in_err-place-2 : goal.returns-in_err-place-2
returns-in_err-place-2 g c = let p = err_from_is_err_and c.from_residual-in_err-place-2.result c.from_residual-in_err-place-2.ensures.1 in rw p.1 tt

pub returns : goal.returns
returns g c = record {
  between = _;
  passes_skipped = rw c.would_pass_all.ensures.same at c.in-Ok.ensures;
  merges_past = rw c.would_merge_all.ensures.same at c.in-Ok-merge_past.ensures;
}
