-- The text of a log.
use Rattle.std.specs.Prelude.{ℕ, ◌==◌, Bool, List, [], ◌++◌, codes, drop, if◌then◌else◌}
use Rattle.std.specs.List.{flat_map, join_by, concat, starts_with}
use Rattle.sha1.specs.Sha1.{sha1}
use Rattle.dm_info.specs.PatchInfo.{PatchInfo}
use Rattle.dm_log.specs.Shown.{digits, shown}
use Rattle.dm_log.specs.Dates.{date_text}

-- the SHA-1 by which Darcs names a patch: of the name, the author, the date, the lines of the log and an `f`, with nothing between them
abbrev pub patch_hash : PatchInfo → List ℕ
patch_hash i = sha1 ((((i.name ++ i.author) ++ i.date) ++ concat i.log) ++ codes "f")

-- the text begins with these bytes
abbrev pub begins : List ℕ → List ℕ → Bool
begins front text = starts_with ◌==◌ text front

-- a line of a label and a text
abbrev pub labelled : List ℕ → List ℕ → List ℕ
labelled label text = label ++ text ++ codes "\n"

-- a star and the name, or for a tag what was tagged
abbrev pub title : List ℕ → List ℕ
title name = if begins (codes "TAG ") name then labelled (codes "  tagged ") (shown (drop 4 name)) else labelled (codes "  * ") (shown name)

-- a line of the log, or nothing for one that only makes the patch's name unlike any other
abbrev pub line_text : List ℕ → List ℕ
line_text line = if begins (codes "Ignore-this: ") line then [] else labelled (codes "  ") (shown line)

-- the hash, the author, the date, the title and the lines of the log
abbrev pub entry_text : PatchInfo → List ℕ
entry_text i =
    labelled (codes "patch ") (flat_map digits (patch_hash i))
    ++ labelled (codes "Author: ") (shown i.author)
    ++ labelled (codes "Date:   ") (date_text i.date)
    ++ title i.name
    ++ flat_map line_text i.log

-- the entries of patches in their order, with an empty line between each two
abbrev pub log_text : List PatchInfo → List ℕ
log_text infos = join_by entry_text (codes "\n") infos
