-- What a word can't stand beside or without.
use Rattle.std.proofs.Common.{ℕ, List, [], ◌∷◌, refl, arith}
use Rattle.std.specs.Borrow.{Bor}
use Rattle.std.proofs.lemmas.List.Elements.{Contains-append_left, Contains-append_right}
use Rattle.clap.specs.declared.builder.arg.Arg.{Arg}
use Rattle.clap.specs.declared.builder.arg.ArgPredicate.{ArgPredicate}
use Rattle.clap.specs.declared.builder.arg.ArgPredicate.TheVariants.{IsPresent}
use Rattle.clap.specs.Adds.{AddsConflicts, AddsRequirements}
use Rattle.dm_words.specs.Words.{Excludes, Wants}

-- what it excluded before
pub excluded_still : (old new : Arg) (xs : List (Bor (List ℕ))) (name : List ℕ) → AddsConflicts old new xs → Excludes old name → Excludes new name
excluded_still old new xs name a (other, c, e) = (other, rw a.1 (Contains-append_left old.conflicts.items xs other c), e)

-- and the one that was added
pub excluded_now : (old new : Arg) (x : Bor (List ℕ)) → AddsConflicts old new (x ∷ []) → Excludes new x.now
excluded_now old new x a = (x, rw a.1 (Contains-append_right old.conflicts.items (x ∷ []) x (0, omega arith, refl)), refl)

-- the one that it wants
pub wanted_now : (old new : Arg) (x : Bor (List ℕ)) → AddsRequirements old new ((IsPresent, x) ∷ []) → Wants new x.now
wanted_now old new x a = (x, rw a.1 (Contains-append_right old.needs.items ((IsPresent, x) ∷ []) (IsPresent, x) (0, omega arith, refl)), refl)

-- a word that wants more excludes what it excluded
pub excluded_after : (old new : Arg) (ys : List (ArgPredicate × Bor (List ℕ))) (name : List ℕ) → AddsRequirements old new ys → Excludes old name → Excludes new name
excluded_after old new ys name a (other, c, e) = (other, rw a.0 c, e)
