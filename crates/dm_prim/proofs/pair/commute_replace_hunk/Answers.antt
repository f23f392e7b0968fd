use Rattle.dm_prim.proofs.TableLemmas.{replace_passes, no_replace_hunk}
use Rattle.dm_prim.proofs.pair.commute_replace_hunk.Goals as goal

pub returns-in_default : goal.returns-in_default
returns-in_default g c =
    no_replace_hunk c.args.hunk c.args.replace c.requires (rw c.in_default.is at (rw (c.tokens.ensures, c.inverse-back.ensures) at c.in_ok-turned.ensures.turned))

pub returns : goal.returns
returns g c = rw (c.inverse.ensures, c.inverse-back.ensures)
    (replace_passes c.args.hunk c.args.replace c.in-Some.turned c.in_ok-turned.ensures.was_valid (rw c.in-Some.is at c.in_ok-turned.ensures.valid) c.tells_valid.ensures c.requires
    (rw c.in-Some.is at (rw (c.tokens.ensures, c.inverse-back.ensures) at c.in_ok-turned.ensures.turned)))
