use Rattle.dm_named.specs.Commuting.{NamedCommutes}
use Rattle.dm_repo.proofs.Squares.{named_one}
use Rattle.dm_send.proofs.Rows.{yield_rest}
use Rattle.dm_send.proofs.minimizing.let_go.Goals as goal

pub pass_all-requires-2 : goal.pass_all-requires-2
pass_all-requires-2 g c =
    let past = rw c.in_ok-going.ensures at c.in_ok-pass_all.ensures in
    let way = c.requires.would in
    record { would = (way.1, way.2, yield_rest NamedCommutes named_one way.3 past) }

pub returns : goal.returns
returns g c =
    let past = rw c.in_ok-going.ensures at c.in_ok-pass_all.ensures in
    (c.pass_all-2.new.patch, record { between = c.pass_all.new.patch; past_needed = past; past_sent = c.in_ok-pass_all-2.ensures })
