-- What comes of `dm init`.
use Rattle.std.specs.Prelude.{◌≡◌, List, [], ℕ, None, Some, not, IfOk, IfSome}
use Rattle.dm_disk.specs.Events.{Event}
use Rattle.dm_disk.specs.States.{may_leave}
use Rattle.dm_store.specs.Keeping.{CrashesKeep, KeepsRepo, Kept}
use Rattle.dm_words.specs.declared.request.Init.{Init}
use Rattle.dm_files.specs.declared.outcome.Outcome.{Outcome}
use Rattle.dm_files.specs.Bases.{BeginsAs}
use Rattle.dm_files.specs.Mirrors.{IsDoneTo}
use Rattle.dm_files.specs.Named.{kinds_for}

-- Where there is an answer the mirror's file, which was empty, keeps what it began with, for the kinds that are asked for: the base that is named, unless it begins
-- at a tag. Where the file comes back, a crash at any moment leaves the file empty, or it keeps that.
pub record IsBegun (had : List ℕ → List ℕ → Type 0) (asked : Init) (outcome : Outcome) : Type 0 where
  pub start : Kept
  pub begun : IfOk outcome.answer (λ status. (closed : List Event) × (outcome.file ≡ Some closed) × CrashesKeep (kinds_for (not asked.six_kinds)) may_leave closed start
      × (asked.names ≡ None → (start.base ≡ 0) × BeginsAs had asked.base (kinds_for (not asked.six_kinds)) start.patches))
  pub done : IfSome outcome.file (IsDoneTo asked.mirror.now (λ file. file ≡ []) (λ c. KeepsRepo (kinds_for (not asked.six_kinds)) c start))
