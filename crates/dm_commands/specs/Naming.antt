-- How a mirror that begins at a tag is named: by the tag.
use Rattle.std.specs.Prelude.{◌≡◌, ℕ, ◌-◌, List, length, min, take, drop}
use Rattle.dm_named.specs.Patches.{Patch}
use Rattle.dm_bundle.specs.Patches.{infos_of}
use Rattle.dm_log.specs.Contexts.{context_text}
use Rattle.dm_begin.specs.Bases.{IsLast}
use Rattle.dm_commands.specs.declared.tag.BaseTag.{BaseTag}

-- the text names the patches of the repository, the newest first: all of them, or down to the last of its base, the tag
abbrev pub NamesFromTag : List Patch → ℕ → List ℕ → Type 0
NamesFromTag repo base text = text ≡ context_text (infos_of (drop (base - 1) repo))

-- the last patch of the base, and how many patches the base has
pub record IsBaseTag (repo : List Patch) (base : ℕ) (tag : BaseTag) : Type 0 where
  pub count : tag.count ≡ min base (length repo)
  pub is_last : IsLast (infos_of (take base repo)) tag.tag.now
