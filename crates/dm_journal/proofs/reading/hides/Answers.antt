use Rattle.std.proofs.Common.{List, ℕ, ◌-◌, length, take, drop, ◌∙◌, ap, subst}
use Rattle.std.proofs.lemmas.List.{take_rest}
use Rattle.dm_journal.specs.Format.{unit}
use Rattle.dm_journal.specs.Journal.{link_bytes}
use Rattle.dm_journal.specs.Reading.{IsWhole, StandsBehind, StandsAt}
use Rattle.dm_journal.proofs.Found.{no_first, no_second}
use Rattle.dm_journal.proofs.reading.hides.Goals as goal

pub returns-in_default : goal.returns-in_default
returns-in_default c =
    let bytes = c.args.bytes.now in
    let format = c.args.format in
    let link = link_bytes c.args.link in
    let behind = take_rest bytes c.unit.result ∙ ap (λ (k : ℕ). drop k bytes) c.unit.ensures.is in
    let stands = subst (λ (l : List ℕ). StandsBehind format link l c.read_behind.result) behind c.read_behind.ensures in
    record { yes = λ e. cc; no = λ e. no_first format link (drop (unit format) bytes) c.read_behind.result stands c.in_default.not-Whole }

pub returns-in_default-read_block : goal.returns-in_default-read_block
returns-in_default-read_block c =
    let bytes = c.args.bytes.now in
    let format = c.args.format in
    let link = link_bytes c.args.link in
    let next = link_bytes c.next_link.result in
    let behind = take_rest bytes c.unit.result ∙ ap (λ (k : ℕ). drop k bytes) c.unit.ensures.is in
    let whole = subst (λ (l : List ℕ). IsWhole format link l c.in-Whole.len c.in-Whole.size c.in-Whole.checksum) behind c.in-Whole.ensures in
    let rest = take_rest (take (length bytes - c.unit.result) (drop c.unit.result bytes)) c.in-Whole.size ∙ ap (drop c.in-Whole.size) behind in
    let stands = subst (λ (l : List ℕ). StandsAt format next l c.read_block.result) rest c.read_block.ensures in
    record { yes = λ e. cc; no = λ e. no_second format link next (drop (unit format) bytes) c.in-Whole.len c.in-Whole.size c.in-Whole.checksum whole c.next_link.ensures c.read_block.result stands c.in_default-read_block.not-Whole }
