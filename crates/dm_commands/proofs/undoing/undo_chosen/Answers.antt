use Rattle.std.proofs.Common.{refl}
use Rattle.dm_commands.proofs.TagLemmas.{cut_taken}
use Rattle.dm_commands.proofs.undoing.undo_chosen.Goals as goal

pub returns-clause-rolls_back : goal.returns-clause-rolls_back
returns-clause-rolls_back c =
    let repo = c.args.repo.now.patches in
    let r = c.in_ok-bundle.ensures.rolls_back in
    record {
      b = c.in_ok-bundle.bundle;
      rolls_back = r;
      cuts = c.in_ok-cut.ensures;
      is_taken = λ may. cut_taken repo repo c.args.base c.in_ok-bundle.bundle c.in_ok-cut.cut _ c.is_lawful.ensures may refl c.in_ok-cut.ensures r.is_taken;
    }
