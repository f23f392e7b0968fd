use Rattle.dm_repo.proofs.repo.Repo.make_room.Goals as goal

pub invariant_of-self : goal.invariant_of-self
invariant_of-self g c = rw c.reserve.ensures.items c.self.invariant

pub invariant_of-self-2 : goal.invariant_of-self-2
invariant_of-self-2 g c = rw (c.reserve.ensures.items, c.reserve-2.ensures.items, c.reserve-3.ensures.keys) c.self.invariant
