use Rattle.dm_prim.proofs.TableLemmas.{hunk_passes, no_hunk_replace}
use Rattle.dm_prim.proofs.pair.commute_hunk_replace.Goals as goal

pub returns-in_default : goal.returns-in_default
returns-in_default g c = no_hunk_replace c.args.hunk c.args.replace c.requires (rw c.in_default.is at (rw c.tokens.ensures at c.in_ok-turned.ensures.turned))

pub returns : goal.returns
returns g c =
    hunk_passes c.args.hunk c.args.replace c.in-Some.turned c.in_ok-turned.ensures.was_valid (rw c.in-Some.is at c.in_ok-turned.ensures.valid) c.tells_valid.ensures c.requires
    (rw c.in-Some.is at (rw c.tokens.ensures at c.in_ok-turned.ensures.turned))
