use Rattle.dm_repo.proofs.weighed.weigh_new.Goals as goal

pub find_nearby-requires : goal.find_nearby-requires
find_nearby-requires g c = rw c.deref-then-kept-len.ensures.value c.requires.common

pub weigh_nearby-requires-clause-within : goal.weigh_nearby-requires-clause-within
weigh_nearby-requires-clause-within g c = rw c.deref.ensures.value at c.kept_in_place-kept.ensures.within

pub weigh_nearby-requires-clause-marked : goal.weigh_nearby-requires-clause-marked
weigh_nearby-requires-clause-marked g c = rw c.deref.ensures.value at c.kept_in_place-kept.ensures.marked

pub weigh_nearby-requires-clause-marks : goal.weigh_nearby-requires-clause-marks
weigh_nearby-requires-clause-marks g c = let n = rw c.in-Some.is at c.in_ok-nearby.ensures in n.0

pub weigh_nearby-requires-clause-nearby : goal.weigh_nearby-requires-clause-nearby
weigh_nearby-requires-clause-nearby g c = let n = rw c.in-Some.is at c.in_ok-nearby.ensures in rw (c.deref-then-kept-len.ensures.value, c.deref-then-kept-len-2.ensures.value) at n.1

pub returns-in-Some : goal.returns-in-Some
returns-in-Some g c = c.weigh_nearby.ensures

pub returns : goal.returns
returns g c = c.weigh_whole.ensures
