-- A replace as contracts see it: a token becomes another one in all lines of a file.
use Rattle.dm_tree.specs.Paths.{Path}
use Rattle.dm_tokens.specs.Validity.{TokenWords}
use Rattle.dm_prim.specs.Primitives.{Prim, At, Replace}

-- the file at a path, and the set and the tokens
pub record ReplaceParts : Type 0 where
  pub path : Path
  pub words : TokenWords

-- the words for the way back
abbrev pub words_back : TokenWords → TokenWords
words_back w = record w { old = w.new; new = w.old }

-- the primitive that a replace is
abbrev pub replace_of : ReplaceParts → Prim
replace_of r = At r.path (Replace r.words.set r.words.old r.words.new)
