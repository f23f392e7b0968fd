use Rattle.std.proofs.Common.{◌≤◌, ◌<◌, ◌+◌, ◌^◌, ℕ, List, length, refl, arith, ◌∙◌, ap}
use Rattle.dm_journal.specs.Format.{unit}
use Rattle.dm_journal.specs.Journal.{checksum_of, next_link}
use Rattle.dm_journal.proofs.Moments.{weakened, followed}
use Rattle.dm_journal.proofs.Crash.{first_leaves, staged_by, second_leaves, acknowledged, has_texts, first_front, second_front, cleared}
use Rattle.dm_journal.proofs.journal.Journal.append.Goals as goal

pub returns-in_err-write_synced-clause-any_moment :
    goal.returns-in_err-write_synced-clause-any_moment
returns-in_err-write_synced-clause-any_moment g c texts has =
    let d = g.D.Device in
    let at = ap (λ (n : ℕ). c.args.self.now.end.latch + n) c.unit.ensures.is in
    weakened d.moment d.left_since _ _ _ _ (first_leaves d.seen d.may_leave d.file_may_leave c.args.self.now texts has _ at c.args.text.now _) c.write_synced.ensures.any_moment

pub returns-in_err-write_synced-2-clause-any_moment :
    goal.returns-in_err-write_synced-2-clause-any_moment
returns-in_err-write_synced-2-clause-any_moment g c texts has =
    let d = g.D.Device in
    let at = ap (λ (n : ℕ). c.args.self.now.end.latch + n) c.unit.ensures.is in
    let first = weakened d.moment d.left_since _ _ _ _ (first_leaves d.seen d.may_leave d.file_may_leave c.args.self.now texts has _ at c.args.text.now _) c.write_synced.ensures.any_moment in
    let fits : length c.args.text.now < 2 ^ 64 = omega (arith, c.if-text-gt-MOST_BYTES.false) in
    let some : 1 ≤ unit c.args.self.now.end.format = omega (arith, c.unit.ensures.is, c.unit.ensures.some) in
    let s = staged_by d.seen d.may_leave d.file_may_leave c.args.self.now texts has _ at c.args.text.now c.checksum-checksum.result _ _ _ c.checksum-checksum.ensures c.saturating_sub-room.ensures (c.deref.ensures.value ∙ c.in_ok-staged.ensures.bytes) fits some c.in_ok-write_synced.ensures.written in
    let second = weakened d.moment d.left_since _ _ _ _ (second_leaves c.args.self.now.end.format texts c.args.text.now _ _ _ s) c.write_synced-2.ensures.any_moment in
    followed d.moment d.left_since _ _ _ _ first second

pub returns-clause-acknowledged : goal.returns-clause-acknowledged
returns-clause-acknowledged g c texts has =
    let d = g.D.Device in
    let format = c.args.self.now.end.format in
    let text = c.args.text.now in
    let at = ap (λ (n : ℕ). c.args.self.now.end.latch + n) c.unit.ensures.is in
    let fits : length text < 2 ^ 64 = omega (arith, c.if-text-gt-MOST_BYTES.false) in
    let some : 1 ≤ unit format = omega (arith, c.unit.ensures.is, c.unit.ensures.some) in
    let s = staged_by d.seen d.may_leave d.file_may_leave c.args.self.now texts has _ at text c.checksum-checksum.result _ _ _ c.checksum-checksum.ensures c.saturating_sub-room.ensures (c.deref.ensures.value ∙ c.in_ok-staged.ensures.bytes) fits some c.in_ok-write_synced.ensures.written in
    let links = c.next_link.ensures ∙ ap (next_link format) (c.checksum-checksum.ensures ∙ ap (λ (l : List ℕ). checksum_of format l text) has.end.link) in
    let ends = acknowledged format texts text _ _ _ s _ _ _ _ c.in_ok-write_synced-2.ensures.written links (omega (arith, c.unit.ensures.is, c.filled.ensures.is)) (omega (arith, c.unit.ensures.is, c.len.ensures, c.deref.ensures.len)) in
    has_texts d.seen d.may_leave d.file_may_leave _ _ _ ends refl c.in_ok-write_synced-2.ensures.durable

pub returns-clause-any_moment : goal.returns-clause-any_moment
returns-clause-any_moment g c texts has =
    let d = g.D.Device in
    let at = ap (λ (n : ℕ). c.args.self.now.end.latch + n) c.unit.ensures.is in
    let first = weakened d.moment d.left_since _ _ _ _ (first_leaves d.seen d.may_leave d.file_may_leave c.args.self.now texts has _ at c.args.text.now _) c.write_synced.ensures.any_moment in
    let fits : length c.args.text.now < 2 ^ 64 = omega (arith, c.if-text-gt-MOST_BYTES.false) in
    let some : 1 ≤ unit c.args.self.now.end.format = omega (arith, c.unit.ensures.is, c.unit.ensures.some) in
    let s = staged_by d.seen d.may_leave d.file_may_leave c.args.self.now texts has _ at c.args.text.now c.checksum-checksum.result _ _ _ c.checksum-checksum.ensures c.saturating_sub-room.ensures (c.deref.ensures.value ∙ c.in_ok-staged.ensures.bytes) fits some c.in_ok-write_synced.ensures.written in
    let second = weakened d.moment d.left_since _ _ _ _ (second_leaves c.args.self.now.end.format texts c.args.text.now _ _ _ s) c.write_synced-2.ensures.any_moment in
    followed d.moment d.left_since _ _ _ _ first second

pub returns-in_err-write_synced-2-clause-front : goal.returns-in_err-write_synced-2-clause-front
returns-in_err-write_synced-2-clause-front g c texts has =
    let d = g.D.Device in
    let at = ap (λ (n : ℕ). c.args.self.now.end.latch + n) c.unit.ensures.is in
    let first = weakened d.moment d.left_since _ _ _ _ (first_front d.seen d.may_leave d.file_may_leave c.args.self.now texts has _ at _) c.write_synced.ensures.any_moment in
    let second = weakened d.moment d.left_since _ _ _ _ (λ file. second_front d.seen d.may_leave d.file_may_leave c.args.self.now texts has _ at _ _ file c.in_ok-write_synced.ensures.written) c.write_synced-2.ensures.any_moment in
    followed d.moment d.left_since _ _ _ _ first second

pub returns-clause-front : goal.returns-clause-front
returns-clause-front g c texts has =
    let d = g.D.Device in
    let at = ap (λ (n : ℕ). c.args.self.now.end.latch + n) c.unit.ensures.is in
    let first = weakened d.moment d.left_since _ _ _ _ (first_front d.seen d.may_leave d.file_may_leave c.args.self.now texts has _ at _) c.write_synced.ensures.any_moment in
    let second = weakened d.moment d.left_since _ _ _ _ (λ file. second_front d.seen d.may_leave d.file_may_leave c.args.self.now texts has _ at _ _ file c.in_ok-write_synced.ensures.written) c.write_synced-2.ensures.any_moment in
    followed d.moment d.left_since _ _ _ _ first second

pub returns-clause-cleared : goal.returns-clause-cleared
returns-clause-cleared g c texts has =
    let d = g.D.Device in
    let format = c.args.self.now.end.format in
    let text = c.args.text.now in
    let at = ap (λ (n : ℕ). c.args.self.now.end.latch + n) c.unit.ensures.is in
    let fits : length text < 2 ^ 64 = omega (arith, c.if-text-gt-MOST_BYTES.false) in
    let some : 1 ≤ unit format = omega (arith, c.unit.ensures.is, c.unit.ensures.some) in
    let s = staged_by d.seen d.may_leave d.file_may_leave c.args.self.now texts has _ at text c.checksum-checksum.result _ _ _ c.checksum-checksum.ensures c.saturating_sub-room.ensures (c.deref.ensures.value ∙ c.in_ok-staged.ensures.bytes) fits some c.in_ok-write_synced.ensures.written in
    cleared format texts text _ _ _ s _ _ c.in_ok-write_synced-2.ensures.written (omega (arith, c.unit.ensures.is, c.filled.ensures.is))
