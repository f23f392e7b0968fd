-- The printed texts of the refusals.
use Rattle.std.specs.Prelude.{ℕ, List, ◌∷◌, ◌++◌, codes}
use Rattle.std.specs.Fmt.{decimal}
use Rattle.dm_repo.specs.declared.refusal.Refusal.{Refusal}
use Rattle.dm_repo.specs.declared.refusal.Refusal.TheVariants.{MissingContext, MissingDependency, ContextDepends, HeldDepends, DoesNotFit, Conflicts, Full, NoMemory}

-- one place after the word
abbrev pub with_place : List ℕ → ℕ → List ℕ
with_place word place = word ++ 32 ∷ decimal place

-- the printed text of a refusal: its word, and its places
abbrev pub refusal_text : Refusal → List ℕ
refusal_text (MissingContext c) = with_place (codes "missing-context") c
refusal_text (MissingDependency n d) = with_place (with_place (codes "missing-dependency") n) d
refusal_text (ContextDepends h r) = with_place (with_place (codes "context-depends") h) r
refusal_text (HeldDepends h n) = with_place (with_place (codes "held-depends") h) n
refusal_text (DoesNotFit n) = with_place (codes "does-not-fit") n
refusal_text (Conflicts n h) = with_place (with_place (codes "conflicts") n) h
refusal_text Full = codes "full"
refusal_text NoMemory = codes "no-memory"
