use Rattle.std.proofs.Common.{rules, ◌≡◌, ◌≢◌, List, ℕ, ◌<◌, ◌≤◌, ◌^◌, length, take, drop, arith, sym, ◌∙◌, ap}
use Rattle.dm_journal.specs.Journal.{checksum_of, link_bytes}
use Rattle.dm_journal.proofs.Found.{is_whole, is_other}
use Rattle.dm_journal.proofs.reading.read_behind.Goals as goal

pub returns-then-ne : goal.returns-then-ne
returns-then-ne c =
    let link = link_bytes c.args.link in
    let rest = c.in-Some.rest.now in
    let small : c.in-Some.len < 2 ^ 64 = search rules in
    let room : 32 ≤ length rest = omega (arith, c.if-rest-lt32.false) in
    let reaches : c.in-Some.len ≤ length (drop 32 rest) = omega (arith, c.if-len-rest.false, ap length c.split_at.ensures.back) in
    let sum = c.checksum-checksum.ensures ∙ ap (λ (l : List ℕ). checksum_of c.args.format link (take c.in-Some.len l)) c.split_at.ensures.back in
    let differ : c.as_slice.result.now ≢ c.split_at.result.0.now = search rules in
    is_other c.args.format link c.args.bytes.now c.in-Some.len c.filled-size.result rest small c.in-Some.ensures.some room reaches c.filled-size.ensures.is c.if-bytes-size.false c.checksum-checksum.result sum (λ same. differ (c.as_slice.ensures ∙ same ∙ sym c.split_at.ensures.front))

pub returns : goal.returns
returns c =
    let link = link_bytes c.args.link in
    let rest = c.in-Some.rest.now in
    let small : c.in-Some.len < 2 ^ 64 = search rules in
    let room : 32 ≤ length rest = omega (arith, c.if-rest-lt32.false) in
    let reaches : c.in-Some.len ≤ length (drop 32 rest) = omega (arith, c.if-len-rest.false, ap length c.split_at.ensures.back) in
    let sum = c.checksum-checksum.ensures ∙ ap (λ (l : List ℕ). checksum_of c.args.format link (take c.in-Some.len l)) c.split_at.ensures.back in
    let same : c.as_slice.result.now ≡ c.split_at.result.0.now = search rules in
    is_whole c.args.format link c.args.bytes.now c.in-Some.len c.filled-size.result rest small c.in-Some.ensures.some room reaches c.filled-size.ensures.is c.if-bytes-size.false c.checksum-checksum.result sum (sym c.as_slice.ensures ∙ same ∙ c.split_at.ensures.front)
