use Rattle.dm_repo.proofs.Members.{none_of}
use Rattle.dm_repo.proofs.repo.Repo.to_bundle.Goals as goal

pub without_doubles-requires : goal.without_doubles-requires
without_doubles-requires g c = rw (c.in_ok-patches.ensures, c.patches.ensures.value, c.new.ensures.items) (record { distinct = c.patches.ensures.valid.distinct; apart = λ i h k. none_of k })
