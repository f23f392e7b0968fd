-- What a rule asks of the dates of a bundle's new patches.
use Rattle.std.specs.Prelude.{◌≡◌, ◌⊎◌, ◌<◌, ℕ, ◌+◌, true, false, List, ◌∷◌, ◌++◌, codes, length, slice_get, Some, None}
use Rattle.memchr.specs.Find.{FindsNeedle}
use Rattle.dm_date.specs.Readable.{is_readable}
use Rattle.dm_info.specs.PatchInfo.{PatchInfo}
use Rattle.dm_named.specs.Patches.{Patch}
use Rattle.dm_named.specs.declared.limits.Limits.{Limits}
use Rattle.dm_bundle.specs.Bundles.{Contents}
use Rattle.dm_scratch.specs.Taking.{ReadsWithin}
use Rattle.dm_deliver.specs.declared.date_rule.DateRule.{DateRule}
use Rattle.dm_deliver.specs.declared.date_rule.DateRule.TheVariants.{Any, Readable}
use Rattle.dm_deliver.specs.Hashes.{IsNoBundle}

-- Darcs can read the date of each patch
abbrev pub AllReadable : List Patch → Type 0
AllReadable patches = (k : ℕ) (p : Patch) → slice_get patches k ≡ Some p → is_readable p.info.date ≡ true

-- the patch is the first whose date Darcs can't read
pub record IsFirstUnread (patches : List Patch) (patch : Patch) : Type 0 where
  pub place : ℕ
  pub at : slice_get patches place ≡ Some patch
  pub unread : is_readable patch.info.date ≡ false
  pub before : (j : ℕ) (p : Patch) → j < place → slice_get patches j ≡ Some p → is_readable p.info.date ≡ true

-- what stands before the date in the text of a patch info: the name and the author
abbrev pub before_date : PatchInfo → List ℕ
before_date i = ((((91 ∷ i.name) ++ codes "\n") ++ i.author) ++ codes "**")

-- the name, the author and the date
abbrev pub told_date : PatchInfo → List ℕ
told_date i = before_date i ++ i.date

-- here stands the date, where the text has it behind the name and the author for the first time; or this is the text's end, and it has them nowhere
abbrev pub TellsDate : List ℕ → PatchInfo → ℕ → Type 0
TellsDate text i at =
    ((k : ℕ) × FindsNeedle text (told_date i) 0 (Some k) × (at ≡ k + length (before_date i))) ⊎ (FindsNeedle text (told_date i) 0 None × (at ≡ length text))

-- the text is a bundle within the limits, and Darcs can't read the date of a new patch: here the text tells the first such date
pub record HasUnreadDate (limits : Limits) (text : List ℕ) (at : ℕ) : Type 0 where
  pub bundle : Contents
  pub reads : ReadsWithin limits text bundle
  pub patch : Patch
  pub first : IsFirstUnread bundle.patches patch
  pub told : TellsDate text patch.info at

-- the rule refuses that
abbrev pub HasDateFaultWithin : Limits → DateRule → List ℕ → ℕ → Type 0
HasDateFaultWithin limits Any text at = ⊥
HasDateFaultWithin limits Readable text at = HasUnreadDate limits text at

-- the text is a bundle within the limits, and Darcs can read all dates of its new patches
pub record HasReadableDates (limits : Limits) (text : List ℕ) : Type 0 where
  pub bundle : Contents
  pub reads : ReadsWithin limits text bundle
  pub readable : AllReadable bundle.patches

-- the rule refuses no date of the text: it asks nothing, or the text is no bundle, or one whose dates can be read
abbrev pub PassesDatesWithin : Limits → DateRule → List ℕ → Type 0
PassesDatesWithin limits Any text = Unit {0}
PassesDatesWithin limits Readable text = IsNoBundle limits text ⊎ HasReadableDates limits text
