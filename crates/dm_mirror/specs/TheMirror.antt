-- A mirror of a repository, as contracts see it.
use Rattle.dm_repo.specs.Repositories.{Repository}
use Rattle.dm_mirror.specs.declared.mirror.MirrorOf.{MirrorOf}

-- its repository, its mails, their verdicts, and what each poster sent
abbrev pub Mirror : Type 0
Mirror = MirrorOf Repository
