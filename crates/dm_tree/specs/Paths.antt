-- Paths, and where a move takes them (Darcs manual, "Patches"; Darcs.Util.Path).
use Rattle.std.specs.Prelude.{◌≡◌, ℕ, true, false, List, [], ◌∷◌, ◌++◌, Option, Some, None}
use Rattle.std.specs.Str.{bytes_eq}

-- a name is a list of bytes
abbrev pub Name : Type 0
Name = List ℕ

-- a path is a list of names, the root the empty list
abbrev pub Path : Type 0
Path = List Name

-- p is a, or lies inside it
abbrev pub Under : Path → Path → Type 0
Under p a = (r : Path) × (p ≡ a ++ r)

-- p is longer than a and begins with all of its names; then a contains p
abbrev pub Inside : Path → Path → Type 0
Inside p a = (n : Name) × (r : Path) × (p ≡ a ++ n ∷ r)

-- neither is the other, nor inside it
pub record Apart (a b : Path) : Type 0 where
  pub left : Under a b → ⊥
  pub right : Under b a → ⊥

-- what follows a in p, where p is under a
unfoldable pub strip : Path → Path → Option Path
strip [] p = Some p
strip (n ∷ a) [] = None
strip (n ∷ a) (m ∷ p) = elim (bytes_eq n m) [ true ↦ strip a p | false ↦ None ]

-- p itself, or what is left of it once put under b
abbrev pub put_under : Path → Path → Option Path → Path
put_under b p None = p
put_under b p (Some r) = b ++ r

-- p forward through a move of a to b: its leading a becomes b, and another path stays; back through it is `forward b a p`
unfoldable pub forward : Path → Path → Path → Path
forward a b p = put_under b p (strip a p)
