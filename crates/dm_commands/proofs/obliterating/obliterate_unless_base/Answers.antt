use Rattle.std.proofs.Common.{◌∙◌, sym}
use Rattle.std.proofs.lemmas.Bool.{false≢true}
use Rattle.dm_commands.proofs.KeptLemmas.{keeps_base}
use Rattle.dm_commands.proofs.TagLemmas.{cut_taken}
use Rattle.dm_commands.proofs.obliterating.obliterate_unless_base.Goals as goal

pub returns-clause-obliterates : goal.returns-clause-obliterates
returns-clause-obliterates c =
    let repo = c.args.repo.now.patches in
    let base = c.args.base in
    let stays = c.in_ok-out.out.repo.patches in
    let o = c.in_ok-out.ensures.obliterates in
    let keeps = keeps_base c.args.chosen.now repo stays o.go c.in_ok-out.out.bound.items base (λ n. false≢true (sym c.if-names_base.false ∙ c.names_base.ensures.1 n)) o.leaves in
    record {
      keeps = keeps;
      gone = c.in_ok-out.out.bundle;
      obliterates = o;
      cuts = c.in_ok-bundle.ensures;
      is_taken = λ may. cut_taken repo stays base c.in_ok-out.out.bundle c.in_ok-bundle.bundle o.go c.is_lawful.ensures may keeps c.in_ok-bundle.ensures o.is_taken;
    }
