use Rattle.std.proofs.Common.{rules, drop, length, refl}
use Rattle.dm_repo.proofs.Splits.{whole}
use Rattle.dm_send.proofs.leaving.Parting.keep.Goals as goal

pub returns : goal.returns
returns g c =
    let row = whole c.come_past.new.row (drop (length c.come_past.new.row) c.args.self.go.items) c.args.self.go.len (search rules) in
    let passes = rw c.as_mut_slice.ensures.value at c.in_ok-come_past.ensures in
    (_, rw row passes, c.in_ok-push.ensures.items, refl)

pub come_past-requires : goal.come_past-requires
come_past-requires g c = record { would = rw c.as_mut_slice.ensures.value c.requires.would }
