-- The words where a primitive may begin. Only clauses of private functions and fields of private types cite these.
use Rattle.std.specs.Prelude.{◌≡◌, ℕ, List, codes}
use Rattle.dm_named.specs.Words.{Among}
use Rattle.dm_named.specs.Patches.{wider_words, prim_words_of, unsupported_words_of}
use Rattle.dm_named.specs.declared.limits.Kinds.{Kinds}
use Rattle.dm_named.specs.declared.limits.Kinds.TheVariants as these
use Rattle.dm_named.specs.declared.reading.words.AtPath.{AtPath}
use Rattle.dm_named.specs.declared.reading.words.AtPath.TheVariants as at
use Rattle.dm_named.specs.declared.reading.words.PrimWord.{PrimWord}
use Rattle.dm_named.specs.declared.reading.words.PrimWord.TheVariants as prim
use Rattle.dm_named.specs.declared.reading.words.BodyWord.{BodyWord}
use Rattle.dm_named.specs.declared.reading.words.BodyWord.TheVariants as body
use Rattle.dm_named.specs.declared.reading.words.ItemWord.{ItemWord}
use Rattle.dm_named.specs.declared.reading.words.ItemWord.TheVariants as item

-- how the word of a primitive with a path is spelled
abbrev pub path_word_of : AtPath → List ℕ
path_word_of at.AddFile = codes "addfile"
path_word_of at.RmFile = codes "rmfile"
path_word_of at.AddDir = codes "adddir"
path_word_of at.RmDir = codes "rmdir"
path_word_of at.Move = codes "move"
path_word_of at.Hunk = codes "hunk"
path_word_of at.Binary = codes "binary"
path_word_of at.Replace = codes "replace"

-- how a primitive's word is spelled
abbrev pub word_of : PrimWord → List ℕ
word_of (prim.AtPath w) = path_word_of w
word_of prim.ChangePref = codes "changepref"

-- the word of one of the further kinds, where primitives of the six kinds are read
abbrev pub IsOneWider : Kinds → List ℕ → Type 0
IsOneWider these.Six word = Among wider_words word
IsOneWider these.All word = ⊥

-- what a word is where a primitive of these kinds may begin
abbrev pub IsBodyWord : Kinds → List ℕ → BodyWord → Type 0
IsBodyWord kinds word (body.Prim w) = (word ≡ word_of w) × Among (prim_words_of kinds) word
IsBodyWord kinds word body.Unsupported = Among (unsupported_words_of kinds) word × (Among (prim_words_of kinds) word → ⊥)
IsBodyWord kinds word body.Other = (Among (prim_words_of kinds) word → ⊥) × (Among (unsupported_words_of kinds) word → ⊥)

-- how the word of an item is spelled
abbrev pub item_word_of : ItemWord → List ℕ
item_word_of (item.Prim w) = word_of w
item_word_of item.Conflictor = codes "conflictor"

-- the word of an item whose primitives are of these kinds
abbrev pub IsItemWord : Kinds → ItemWord → Type 0
IsItemWord kinds (item.Prim w) = Among (prim_words_of kinds) (word_of w)
IsItemWord kinds item.Conflictor = Unit {0}
