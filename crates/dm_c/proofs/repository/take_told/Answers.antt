use Rattle.std.proofs.Common.{◌≡◌, ◌∙◌, false, sym, true≢false}
use Rattle.dm_c.proofs.ToldLemmas.{is_told}
use Rattle.dm_c.proofs.repository.take_told.Goals as goal

pub returns-then-ne : goal.returns-then-ne
returns-then-ne c = record {
  verdict = c.take_within-became.result;
  takes = c.take_within-became.ensures;
  tells = is_told c.take_within-became.result _ _ (λ e. let f : c.ne.result ≡ false = rw (c.from-status.ensures, e) at c.ne.ensures in true≢false (sym c.if-ne.true ∙ f)) c.of.ensures;
  says = c.from-status.ensures;
}
