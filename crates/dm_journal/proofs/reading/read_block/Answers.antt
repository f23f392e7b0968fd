use Rattle.std.proofs.Common.{List, ℕ, get_or, drop, arith, ◌∙◌, ap, subst}
use Rattle.std.proofs.lemmas.List.{take_rest}
use Rattle.dm_journal.specs.Format.{unit}
use Rattle.dm_journal.specs.Journal.{link_bytes, IsLatch}
use Rattle.dm_journal.specs.Reading.{StandsBehind}
use Rattle.dm_journal.proofs.Found.{latch_here, stands_open}
use Rattle.dm_journal.proofs.reading.read_block.Goals as goal

pub returns-then-bytes-eq0 : goal.returns-then-bytes-eq0
returns-then-bytes-eq0 c =
    let bytes = c.args.bytes.now in
    let format = c.args.format in
    let latch = latch_here format bytes (omega (arith, c.unit-unit.ensures.some, c.unit-unit.ensures.is)) (omega (arith, c.unit-unit.ensures.is, c.if-bytes-unit.false)) in
    subst (λ (g : ℕ). IsLatch format g (drop (unit format) bytes) bytes) c.if-bytes-eq0.true latch

pub returns : goal.returns
returns c =
    let bytes = c.args.bytes.now in
    let format = c.args.format in
    let link = link_bytes c.args.link in
    let latch = latch_here format bytes (omega (arith, c.unit-unit.ensures.some, c.unit-unit.ensures.is)) (omega (arith, c.unit-unit.ensures.is, c.if-bytes-unit.false)) in
    let behind = take_rest bytes c.unit-unit.result ∙ ap (λ (k : ℕ). drop k bytes) c.unit-unit.ensures.is in
    let stands = subst (λ (l : List ℕ). StandsBehind format link l c.read_behind.result) behind c.read_behind.ensures in
    stands_open format link (drop (unit format) bytes) bytes (get_or bytes 0 0) c.read_behind.result c.if-bytes-eq0.false latch stands
