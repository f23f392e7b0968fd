-- What a pointer to a repository owns.
use Rattle.std.specs.Prelude.{Option, Some, None}
use base.Fml.{Fml, ftrue}
use denote.RawPtr.{Ptr}
use Rattle.std_alloc.specs.Box.Ownership.{box_owns}
use Rattle.std_heap.specs.declared.Global.{Global}
use Rattle.std_heap.specs.contracts.Global.{the_row as global}
use Rattle.std_heap.specs.contracts.GlobalAllocator.TheImpl.{ghosts}
use Rattle.dm_repo.specs.Repositories.{Repository}
use Rattle.dm_repo.specs.contracts.repo.Repo.{the_row}

-- the heap, of which there is one
abbrev pub heap : Global
heap = record { memory = record { seal = tt } }

-- a box with this repository, or nothing
abbrev pub owns_kept : Ptr → Option Repository → Fml
owns_kept p (Some repo) = box_owns (ghosts.dealloc_token heap) (the_row global ghosts) p repo
owns_kept p None = ftrue
