use Rattle.std.proofs.Common.{◌∙◌, sym}
use Rattle.dm_c.proofs.Giving.{given_or_no_memory}
use Rattle.dm_c.proofs.shown.dm_repo_listing.Goals as goal

pub returns-clause-same : goal.returns-clause-same
returns-clause-same c = c.put.ensures ∙ sym c.in-Some.ensures.old

pub returns-clause-text : goal.returns-clause-text
returns-clause-text c =
    given_or_no_memory _ _ _ _ _ _ _ _ _ _ c.in-Some.ensures.old c.give_text.ensures (rw (← c.deref.ensures) c.listing-text.ensures.ok) (c.listing-text.ensures.err)
