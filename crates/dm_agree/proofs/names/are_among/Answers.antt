use Rattle.std.proofs.Common.{List, true, false, sym, subst}
use Rattle.std.specs.List.{Contains}
use Rattle.std.proofs.lemmas.List.{take_all}
use Rattle.dm_info.specs.PatchInfo.{PatchInfo}
use Rattle.dm_bundle.proofs.KnownLemmas.{known}
use Rattle.dm_agree.proofs.Sets.{among_more, member_at}
use Rattle.dm_agree.proofs.names.are_among.Goals as goal

pub returns-then-not-contains : goal.returns-then-not-contains
returns-then-not-contains g c =
    λ f. known c.in_ok-set.set c.info-item.result false c.if-not-contains.ensures
    ((c.in_ok-set.ensures c.info-item.result).1 (f c.info-item.result (member_at c.args.infos.now c.loop-info.info-index c.info-item.result c.loop-info-test.true c.info-item.is)))

pub loop-info-preserved : goal.loop-info-preserved
loop-info-preserved g c =
    among_more c.args.infos.now c.args.others.now c.loop-info.info-index c.info-item.result c.loop-info-test.true c.info-item.is
    ((c.in_ok-set.ensures c.info-item.result).0 (known c.in_ok-set.set c.info-item.result true c.if-not-contains.ensures)) c.loop-info.invariant

pub returns : goal.returns
returns g c i h = c.loop-info.invariant i (subst (λ (xs : List PatchInfo). Contains xs i) (sym (take_all c.loop-info.info-index c.args.infos.now c.loop-info-test.false)) h)
