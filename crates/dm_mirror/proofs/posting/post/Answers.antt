use Rattle.std.proofs.Common.{arith, refl}
use Rattle.dm_mirror.specs.Jobs.{IsBegun, SameLine, EndsLine, EndsNew}
use Rattle.dm_mirror.proofs.ListLemmas.{each_self, each_length, each_join}
use Rattle.dm_mirror.proofs.PostingLemmas.{same_then, same_ends, begun_ends}
use Rattle.dm_mirror.proofs.posting.post.Goals as goal

pub loop-init : goal.loop-init
loop-init g c =
    let many = each_length IsBegun c.args.job.lines.items c.begin_all-lines.result.items c.begin_all-lines.ensures.begun in
    record {
      lines = each_self SameLine c.begin_all-lines.result.items (λ x. ((refl, refl), refl));
      empty = c.requires.empty.1;
      fits = omega (arith, many, c.begin_all-lines.ensures.capacity, c.requires.fits.0);
      fits_room = omega (arith, many, c.requires.fits.1);
    }

pub loop-preserved : goal.loop-preserved
loop-preserved g c =
    let inv = c.loop.invariant in
    let round = c.send_round.ensures in
    let many = each_length SameLine _ _ round.lines in
    record {
      lines = each_join SameLine SameLine SameLine _ _ _ same_then inv.lines round.lines;
      empty = round.empty;
      fits = omega (arith, many, round.capacity.0, inv.fits_room);
      fits_room = omega (arith, many, round.capacity.1, inv.fits);
    }

pub finish_all-requires : goal.finish_all-requires
finish_all-requires g c =
    let begun = each_length IsBegun c.args.job.lines.items c.begin_all-lines.result.items c.begin_all-lines.ensures.begun in
    let many = each_length SameLine _ _ c.loop.invariant.lines in
    (c.requires.empty.2, omega (arith, begun, many, c.requires.fits.2))

pub returns : goal.returns
returns g c =
    each_join IsBegun EndsLine EndsNew _ _ _ begun_ends c.begin_all-lines.ensures.begun (each_join SameLine EndsLine EndsLine _ _ _ same_ends c.loop.invariant.lines c.finish_all.ensures)
