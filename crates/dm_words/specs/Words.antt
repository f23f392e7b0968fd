-- What a word of the command line is called, and what it goes with.
use Rattle.std.specs.Prelude.{◌≡◌, ℕ, List, Some, Contains}
use Rattle.std.specs.Borrow.{Bor}
use Rattle.clap.specs.declared.builder.arg.Arg.{Arg}
use Rattle.clap.specs.declared.builder.arg.ArgPredicate.TheVariants.{IsPresent}

-- the word is read back by this name, and is written as two hyphens and the same name
pub record IsNamed (arg : Arg) (name : List ℕ) : Type 0 where
  pub spelling : Bor (List ℕ)
  pub id : arg.id.now ≡ name
  pub long : arg.long ≡ Some spelling
  pub spelled : spelling.now ≡ name

-- the word can't stand beside the one of this name
abbrev pub Excludes : Arg → List ℕ → Type 0
Excludes arg name = (other : Bor (List ℕ)) × Contains arg.conflicts.items other × (other.now ≡ name)

-- the word can't stand without the one of this name
abbrev pub Wants : Arg → List ℕ → Type 0
Wants arg name = (other : Bor (List ℕ)) × Contains arg.needs.items (IsPresent, other) × (other.now ≡ name)
