use Rattle.dm_c.proofs.shown.listing.Goals as goal

pub returns-clause-ok : goal.returns-clause-ok
returns-clause-ok c = (c.tree.result.now, c.tree.ensures, rw c.new-text.ensures.items at c.in_ok-push_listing.ensures)
