use Rattle.std.proofs.Common.{ap}
use Rattle.dm_prim.proofs.TableLemmas.{replaces_pass, replaces_stay}
use Rattle.dm_prim.proofs.pair.commute_replaces.Goals as goal

pub swapped-requires-clause-change : goal.swapped-requires-clause-change
swapped-requires-clause-change g c = λ change.
    replaces_pass c.args.first c.args.second c.requires c.tells_valid.ensures c.tells_valid-2.ensures (rw (c.tokens.ensures, c.tokens-2.ensures) at (c.are_apart_tokens-change.ensures.0 change))

pub swapped-requires-clause-stay : goal.swapped-requires-clause-stay
swapped-requires-clause-stay g c = λ stay.
    replaces_stay c.args.first c.args.second c.requires (λ apart. stay (c.are_apart_tokens-change.ensures.1 (rw (c.tokens.ensures, c.tokens-2.ensures) apart)))
