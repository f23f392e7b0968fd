-- Texts on which no terminal acts.
use Rattle.std.specs.Prelude.{◌≡◌, ℕ, ◌==◌, Bool, true, not, ◌||◌, List}
use Rattle.std.specs.List.{list_all}
use Rattle.std.specs.Str.{all_scalars, encode_utf8_all}
use Rattle.dm_info.specs.PatchInfo.{PatchInfo}
use Rattle.dm_named.specs.Patches.{Patch}
use Rattle.dm_log.specs.Shown.{is_escaped}
use Rattle.dm_log.specs.Entries.{log_text}
use Rattle.dm_log.specs.Choices.{entries_text}
use Rattle.dm_log.specs.declared.options.LogOptions.{LogOptions}

-- a newline, a tab, or a character on which no terminal acts
abbrev pub is_plain : ℕ → Bool
is_plain c = c == 10 || not (is_escaped c)

-- the text is characters in UTF-8, and each of them is plain
pub record IsPlain (text : List ℕ) : Type 0 where
  pub characters : List ℕ
  pub scalars : all_scalars characters ≡ true
  pub plain : list_all is_plain characters ≡ true
  pub spells : text ≡ encode_utf8_all characters

-- so is the log of any patches
abbrev pub LogsArePlain : Type 0
LogsArePlain = (infos : List PatchInfo) → IsPlain (log_text infos)

-- and so are the entries that are chosen, however much of each is shown
abbrev pub EntriesArePlain : Type 0
EntriesArePlain = (o : LogOptions) (patches : List Patch) → IsPlain (entries_text o patches)
