-- Which file a repository begins with.
use Rattle.std.specs.Prelude.{◌≡◌, ℕ, List, Option, None, Some, []}
use Rattle.std.specs.Borrow.{Bor}
use Rattle.dm_named.specs.Laws.{with_kinds}
use Rattle.dm_named.specs.Limits.{own, standard}
use Rattle.dm_named.specs.declared.limits.Kinds.{Kinds}
use Rattle.dm_named.specs.declared.limits.Limits.{Limits}
use Rattle.dm_named.specs.Patches.{Patch}
use Rattle.dm_commands.specs.Applying.{IsStart}
use Rattle.dm_commands.specs.declared.base.Base.{Base}
use Rattle.dm_words.specs.declared.request.BaseWords.{BaseWords}
use Rattle.dm_files.specs.declared.files.BaseFile.{BaseFile}

-- the file that is named: that of a bundle, or else that of a repository of one's own, which is read within wider limits
abbrev pub named_base : Option (Bor (List ℕ)) → Option (Bor (List ℕ)) → Option (List ℕ × Limits)
named_base (Some name) repository = Some (name.now, standard)
named_base None (Some name) = Some (name.now, own)
named_base None None = None

-- what it had was read, within these limits and of these kinds, where one is named
abbrev pub IsReadAs : (List ℕ → List ℕ → Type 0) → Kinds → Option (List ℕ × Limits) → Option BaseFile → Type 0
IsReadAs had kinds None None = Unit {0}
IsReadAs had kinds None (Some file) = ⊥
IsReadAs had kinds (Some named) None = ⊥
IsReadAs had kinds (Some named) (Some file) = had named.0 file.text.items × (file.limits ≡ with_kinds named.1 kinds)

-- the base is the text of this file, within its limits
abbrev pub IsBaseOf : BaseFile → Base → Type 0
IsBaseOf file base = (base.text.now ≡ file.text.items) × (base.limits ≡ file.limits)

-- or there is neither
abbrev pub AreAlike : Option BaseFile → Option Base → Type 0
AreAlike None None = Unit {0}
AreAlike None (Some base) = ⊥
AreAlike (Some file) None = ⊥
AreAlike (Some file) (Some base) = IsBaseOf file base

-- where there is none, a text of no bytes stands for it
abbrev pub IsBaseOrEmpty : Option BaseFile → Base → Type 0
IsBaseOrEmpty None base = base.text.now ≡ []
IsBaseOrEmpty (Some file) base = IsBaseOf file base

-- these are the patches of the base that the words name, or none
pub record BeginsAs (had : List ℕ → List ℕ → Type 0) (words : BaseWords) (kinds : Kinds) (patches : List Patch) : Type 0 where
  pub file : Option BaseFile
  pub file_read : IsReadAs had kinds (named_base words.base words.repository) file
  pub base : Option Base
  pub alike : AreAlike file base
  pub is_start : IsStart base patches
