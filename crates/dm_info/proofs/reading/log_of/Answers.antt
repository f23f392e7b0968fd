use Rattle.std.proofs.Common.{◌≡◌, refl, ◌∷◌, ◌++◌, [], map, ap, false, List, ℕ, length, arith}
use Rattle.std.proofs.lemmas.Result.{err_from_is_err_and}
use Rattle.std.proofs.lemmas.List.{map_push}
use Rattle.dm_info.specs.Reading.{Cut, log_from}
use Rattle.dm_info.proofs.LogLemmas.{goes_on, ends, closes, fails, shorter}
use Rattle.dm_info.proofs.reading.log_of.Goals as goal

pub returns-in_err-line : goal.returns-in_err-line
returns-in_err-line g c =
    let p = err_from_is_err_and c.from_residual.result c.from_residual.ensures.1 in
    rw (p.1, p.2) (ends c.in_err-line.field-0.0 (map (λ l. l.items) c.loop-inside.log.items) c.loop-inside.rest.now c.in-Some.inside.now (log_from false c.args.text.now) c.in-Some.ensures c.in_err-line.ensures c.loop-inside.invariant)

pub loop-inside-smaller : goal.loop-inside-smaller
loop-inside-smaller g c =
    let cut : Cut = record { front = c.in_ok-line.line.now; byte = 10; rest = c.in_ok-line.next.now } in
    let s = shorter c.in-Some.inside.now cut c.in_ok-line.ensures in
    omega (arith, ap length c.in-Some.ensures)

pub loop-inside-preserved : goal.loop-inside-preserved
loop-inside-preserved g c =
    let lines : List (List ℕ) = map (λ l. l.items) c.loop-inside.log.items in
    let cut : Cut = record { front = c.in_ok-line.line.now; byte = 10; rest = c.in_ok-line.next.now } in
    let e : map (λ l. l.items) c.push.new.self.items ≡ lines ++ c.in_ok-line.line.now ∷ [] =
    rw (c.in_ok-push.ensures.items, map_push (λ l. l.items) c.loop-inside.log.items c.in_ok-from_slice.field-0, c.in_ok-from_slice.ensures.items) refl in
    rw e (goes_on lines c.loop-inside.rest.now c.in-Some.inside.now cut (log_from false c.args.text.now) c.in-Some.ensures c.in_ok-line.ensures c.loop-inside.invariant)

pub returns-in-Some-strip : goal.returns-in-Some-strip
returns-in-Some-strip g c = closes (map (λ l. l.items) c.loop-inside.log.items) c.loop-inside.rest.now c.in-Some-strip.next.now (log_from false c.args.text.now) c.in-Some-strip.ensures c.loop-inside.invariant

pub returns : goal.returns
returns g c = fails (map (λ l. l.items) c.loop-inside.log.items) c.loop-inside.rest.now (log_from false c.args.text.now) c.in_default.ensures c.in-None.ensures c.loop-inside.invariant
