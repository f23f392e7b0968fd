use Rattle.std.proofs.Common.{rules, ◌≡◌, true, false, drop, length, sym, ◌∙◌}
use Rattle.std.specs.List.{Contains}
use Rattle.dm_repo.proofs.Splits.{whole}
use Rattle.dm_send.specs.Leaving.{goes, stays, follows}
use Rattle.dm_send.proofs.Left.{none_of_option, some_below}
use Rattle.dm_send.proofs.leaving.Parting.with.Goals as goal

pub returns-then-is_among : goal.returns-then-is_among
returns-then-is_among g c = λ xs l.
    let chosen : Contains c.args.chosen.now c.args.next.info = rw (c.info.ensures, c.named.ensures) at (c.is_among.ensures.0 c.if-is_among.true) in
    rw c.in_ok-push.ensures.items (goes c.args.next xs c.args.self.stay.items c.args.self.go.items c.args.self.bound.items l chosen)

pub keep-requires : goal.keep-requires
keep-requires g c =
    let row = whole c.stopper.new.row (drop (length c.stopper.new.row) c.args.self.go.items) c.args.self.go.len (search rules) ∙ c.stopper.ensures.same ∙ c.as_mut_slice.ensures.value in
    let passes = rw (c.as_mut_slice.ensures.value, c.named-2.ensures) at (none_of_option _ _ c.in_ok-k.field-0 c.in_default.not-Some c.in_ok-k.ensures.stops) in
    record { would = rw row passes }

pub returns-in_default : goal.returns-in_default
returns-in_default g c = λ xs l.
    let row = whole c.stopper.new.row (drop (length c.stopper.new.row) c.args.self.go.items) c.args.self.go.len (search rules) ∙ c.stopper.ensures.same ∙ c.as_mut_slice.ensures.value in
    let other : Contains c.args.chosen.now c.args.next.info → ⊥ = λ h.
    let t = c.is_among.ensures.1 (rw (c.info.ensures, c.named.ensures) h) in
    let e : false ≡ true = sym c.if-is_among.false ∙ t in absurd (cc) in
    let kept = rw row at c.in_ok-kept.ensures in
    rw (kept.2, kept.3) (stays c.args.next kept.0 xs c.args.self.stay.items c.args.self.go.items c.in_ok-kept.kept.go.items c.args.self.bound.items l other kept.1)

pub bind-requires : goal.bind-requires
bind-requires g c =
    let row = whole c.stopper.new.row (drop (length c.stopper.new.row) c.args.self.go.items) c.args.self.go.len (search rules) ∙ c.stopper.ensures.same ∙ c.as_mut_slice.ensures.value in
    let stop = rw (c.in-Some.is, c.as_mut_slice.ensures.value) at c.in_ok-k.ensures.stops in
    rw row (some_below c.args.self.go.items c.in-Some.k stop.0 stop.1)

pub returns : goal.returns
returns g c = λ xs l.
    let row = whole c.stopper.new.row (drop (length c.stopper.new.row) c.args.self.go.items) c.args.self.go.len (search rules) ∙ c.stopper.ensures.same ∙ c.as_mut_slice.ensures.value in
    let other : Contains c.args.chosen.now c.args.next.info → ⊥ = λ h.
    let t = c.is_among.ensures.1 (rw (c.info.ensures, c.named.ensures) h) in
    let e : false ≡ true = sym c.if-is_among.false ∙ t in absurd (cc) in
    let stop = rw (c.in-Some.is, c.as_mut_slice.ensures.value, c.named-2.ensures) at c.in_ok-k.ensures.stops in
    let bound = (rw row at c.in_ok-bound.ensures) stop.0 stop.1 in
    rw (bound.0, bound.1, bound.2) (follows c.args.next stop.0 xs c.args.self.stay.items c.args.self.go.items c.args.self.bound.items l other stop.2)
