use Rattle.std.proofs.Common.{◌≤◌, inl, inr, arith}
use Rattle.std.proofs.lemmas.Result.{err_from_is_err_and}
use Rattle.dm_tree.specs.Listings.{file_size}
use Rattle.dm_tokens.specs.Sets.{in_table}
use Rattle.dm_prim.specs.Limits.{most_turned}
use Rattle.dm_prim.proofs.TurnedLines.{no_newline_in, new_is_token, token_there, too_large, turned_by}
use Rattle.dm_prim.proofs.turning.turn_lines.Goals as goal

pub returns-in_err-old-in-Other-clause-fault : goal.returns-in_err-old-in-Other-clause-fault
returns-in_err-old-in-Other-clause-fault g c =
    let p = err_from_is_err_and c.from_residual.result c.from_residual.ensures.1 in
    let was : file_size c.args.file.now ≤ most_turned = omega (arith, c.if-bytes.false, c.bytes.ensures) in
    let t = rw c.in-Other.is at (rw (c.old.ensures, c.new_token.ensures) at c.lines_turn.ensures.turned) in
    let small = rw (c.old-in-Other.ensures, c.new_token-in-Other.ensures) at c.in-Some.ensures in
    rw (p.1, p.2) (t.2.0, turned_by c.args.tokens.now (in_table c.token_set-set.result) c.token_set-set.ensures.valid c.token_set-set.ensures.set c.args.file.now t.2.0 t.2.1 c.lines_turn.ensures.some was (small t.2.0 t.2.1))

pub turn_each-requires-clause-turn : goal.turn_each-requires-clause-turn
turn_each-requires-clause-turn g c =
    let t = rw c.in-Other.is at (rw (c.old.ensures, c.new_token.ensures) at c.lines_turn.ensures.turned) in
    rw (c.old-in-Other-2.ensures, c.new_token-in-Other-2.ensures) t.2

pub turn_each-requires-clause-no_newline : goal.turn_each-requires-clause-no_newline
turn_each-requires-clause-no_newline g c = no_newline_in c.args.tokens.now (in_table c.token_set-set.result) c.token_set-set.ensures.valid c.token_set-set.ensures.set

pub turn_each-requires-clause-token : goal.turn_each-requires-clause-token
turn_each-requires-clause-token g c = rw c.new_token-in-Other-2.ensures (new_is_token c.args.tokens.now (in_table c.token_set-set.result) c.token_set-set.ensures.valid c.token_set-set.ensures.set)

pub returns-in_err-new-in-Other-clause-fault : goal.returns-in_err-new-in-Other-clause-fault
returns-in_err-new-in-Other-clause-fault g c =
    let p = err_from_is_err_and c.from_residual-in_err-new-in-Other.result c.from_residual-in_err-new-in-Other.ensures.1 in
    let was : file_size c.args.file.now ≤ most_turned = omega (arith, c.if-bytes.false, c.bytes.ensures) in
    let t = rw c.in-Other.is at (rw (c.old.ensures, c.new_token.ensures) at c.lines_turn.ensures.turned) in
    let small = rw (c.old-in-Other.ensures, c.new_token-in-Other.ensures) at c.in-Some.ensures in
    rw (p.1, p.2) (t.2.0, turned_by c.args.tokens.now (in_table c.token_set-set.result) c.token_set-set.ensures.valid c.token_set-set.ensures.set c.args.file.now t.2.0 t.2.1 c.lines_turn.ensures.some was (small t.2.0 t.2.1))

pub returns-in-Same-clause-same : goal.returns-in-Same-clause-same
returns-in-Same-clause-same g c =
    let was : file_size c.args.file.now ≤ most_turned = omega (arith, c.if-bytes.false, c.bytes.ensures) in
    let t = rw c.in-Same.is at (rw (c.old.ensures, c.new_token.ensures) at c.lines_turn.ensures.turned) in
    turned_by c.args.tokens.now (in_table c.token_set-set.result) c.token_set-set.ensures.valid c.token_set-set.ensures.set c.args.file.now c.args.file.now t c.lines_turn.ensures.some was was

pub returns-in-Nothing-clause-fault : goal.returns-in-Nothing-clause-fault
returns-in-Nothing-clause-fault g c =
    let was : file_size c.args.file.now ≤ most_turned = omega (arith, c.if-bytes.false, c.bytes.ensures) in
    let t = rw c.in-Nothing.is at (rw (c.old.ensures, c.new_token.ensures) at c.lines_turn.ensures.turned) in
    (was, token_there c.args.tokens.now (in_table c.token_set-set.result) c.token_set-set.ensures.valid c.token_set-set.ensures.set c.args.file.now t)

pub returns-then-bytes-clause-fault : goal.returns-then-bytes-clause-fault
returns-then-bytes-clause-fault g c = inl (omega (arith, c.if-bytes.true, c.bytes.ensures))

pub returns-in_default-clause-fault : goal.returns-in_default-clause-fault
returns-in_default-clause-fault g c =
    let was : file_size c.args.file.now ≤ most_turned = omega (arith, c.if-bytes.false, c.bytes.ensures) in
    let t = rw c.in-Other.is at (rw (c.old.ensures, c.new_token.ensures) at c.lines_turn.ensures.turned) in
    let large = rw (c.old-in-Other.ensures, c.new_token-in-Other.ensures) at c.in_default.ensures in
    inr (was, too_large c.args.tokens.now (in_table c.token_set-set.result) c.token_set-set.ensures.valid c.token_set-set.ensures.set c.args.file.now t.2.0 t.2.1 (large t.2.0 t.2.1))

pub returns-in_ok-new-in-Other-clause-turned : goal.returns-in_ok-new-in-Other-clause-turned
returns-in_ok-new-in-Other-clause-turned g c =
    let was : file_size c.args.file.now ≤ most_turned = omega (arith, c.if-bytes.false, c.bytes.ensures) in
    let t = rw (c.old-in-Other-2.ensures, c.new_token-in-Other-2.ensures) at c.in_ok-new-in-Other.ensures in
    let small = rw (c.old-in-Other.ensures, c.new_token-in-Other.ensures) at c.in-Some.ensures in (
      c.in_ok-old-in-Other.ensures,
      turned_by c.args.tokens.now (in_table c.token_set-set.result) c.token_set-set.ensures.valid c.token_set-set.ensures.set c.args.file.now c.in_ok-new-in-Other.new t c.lines_turn.ensures.some was (small c.in_ok-new-in-Other.new t),
    )
