-- What a bundle is, and the texts that stand for it (Darcs manual, "darcs send"; Darcs.Patch.Bundle).
use Rattle.std.specs.Prelude.{◌≡◌, ℕ, List}
use Rattle.std.specs.List.{AllByRecursion}
use Rattle.dm_info.specs.PatchInfo.{PatchInfo, IsInfo}
use Rattle.dm_named.specs.Words.{skipped}
use Rattle.dm_named.specs.Patches.{Patch, IsValidPatch}
use Rattle.dm_named.specs.declared.limits.Kinds.{Kinds}
use Rattle.dm_named.specs.declared.limits.Kinds.TheVariants as these
use Rattle.dm_bundle.specs.Heading.{Heading}
use Rattle.dm_bundle.specs.Patches.{infos_of, Distinct, NewPatches}
use Rattle.dm_bundle.specs.Context.{ContextWord, AreDisjoint, Context}

-- the new patches, oldest first, and the patch infos of the context
pub record Contents : Type 0 where
  pub patches : List Patch
  pub context : List PatchInfo

-- no patch info occurs twice among the new patches, nor both there and in the context
pub record HasNoDoubles (patches : List Patch) (context : List PatchInfo) : Type 0 where
  pub distinct : Distinct (infos_of patches)
  pub apart : AreDisjoint (infos_of patches) context

-- its parts are valid, and none is doubled
pub record IsValidBundle (b : Contents) : Type 0 where
  pub patches : AllByRecursion IsValidPatch b.patches
  pub context : AllByRecursion IsInfo b.context
  pub no_doubles : HasNoDoubles b.patches b.context

-- after the heading: the new patches, of primitives of these kinds, the word `Context:` and the context, each from where the one
-- before it ends
pub record Sections (kinds : Kinds) (text : List ℕ) (b : Contents) : Type 0 where
  pub between : List ℕ
  pub after_word : List ℕ
  pub patches : NewPatches kinds text b.patches between
  pub word : ContextWord between after_word
  pub context : Context (infos_of b.patches) after_word b.context

-- the same, and past the white space behind the context stands this rest
pub record SectionsEndAt (kinds : Kinds) (text : List ℕ) (b : Contents) (rest : List ℕ) : Type 0 where
  pub stands : Sections kinds text b
  pub behind : skipped stands.context.rest ≡ rest

-- the text stands for the bundle, whose primitives are of these kinds: the heading, and the rest after it
pub record BundleTextIn (kinds : Kinds) (text : List ℕ) (b : Contents) : Type 0 where
  pub new : List ℕ
  pub heading : Heading text new
  pub sections : Sections kinds new b

-- the text stands for the bundle, whose primitives are of the six kinds
abbrev pub BundleText : List ℕ → Contents → Type 0
BundleText text b = BundleTextIn these.Six text b

-- the text stands for the bundle, whose primitives are of these kinds, and past the white space behind the context stands this rest
pub record EndsAtIn (kinds : Kinds) (text : List ℕ) (b : Contents) (rest : List ℕ) : Type 0 where
  pub stands : BundleTextIn kinds text b
  pub behind : skipped stands.sections.context.rest ≡ rest

-- the same of the six kinds
abbrev pub EndsAt : List ℕ → Contents → List ℕ → Type 0
EndsAt text b rest = EndsAtIn these.Six text b rest
