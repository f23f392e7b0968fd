use Rattle.dm_remarks.proofs.AgreeLemmas.{run_over_base}
use Rattle.dm_remarks.proofs.agreeing.explain_agreement.Goals as goal

pub agreement_of-requires : goal.agreement_of-requires
agreement_of-requires g c = run_over_base c.taking_has_one_outcome.ensures _ _ _ _ _ c.in-Ok.ensures c.requires
