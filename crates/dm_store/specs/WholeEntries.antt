-- The entry of a whole repository, as it is read before it is taken. Only clauses of private functions cite this file.
use Rattle.std.specs.Prelude.{◌≡◌, ◌<◌, ◌^◌, ℕ, List, Option, None, Some}
use Rattle.dm_named.specs.Laws.{with_kinds}
use Rattle.dm_named.specs.Limits.{own}
use Rattle.dm_named.specs.declared.limits.Kinds.{Kinds}
use Rattle.dm_bundle.specs.Bundles.{Contents}
use Rattle.dm_scratch.specs.Taking.{ReadsWithin}
use Rattle.dm_store.specs.Entries.{whole_entry, counted_entry}

-- the entry of the text of a whole repository, whose base its form tells, or this number
abbrev pub IsWholeOf : Option ℕ → List ℕ → List ℕ → Type 0
IsWholeOf None text entry = entry ≡ whole_entry text
IsWholeOf (Some base) text entry = (base < 2 ^ 64) × (entry ≡ counted_entry base text)

-- the entry is that of a whole repository, and its text stands for the bundle
pub record ReadsEntry (kinds : Kinds) (entry : List ℕ) (count : Option ℕ) (b : Contents) : Type 0 where
  pub text : List ℕ
  pub is : IsWholeOf count text entry
  pub reads : ReadsWithin (with_kinds own kinds) text b
