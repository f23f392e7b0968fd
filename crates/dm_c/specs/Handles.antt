-- What a handle holds.
use Rattle.std.specs.Prelude.{Bool, true, false, Option, None}
use Rattle.dm_repo.specs.Repositories.{Repository}
use Rattle.dm_c.specs.declared.handle.Handle.{Handle}

-- what is kept, where the flag says that something is
abbrev pub held_if : Bool → Option Repository → Option Repository
held_if true kept = kept
held_if false kept = None

-- the repository that a handle holds, if it holds one
abbrev pub held : Handle → Option Repository
held handle = held_if handle.holds handle.inner.kept
