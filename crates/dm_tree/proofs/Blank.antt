-- An empty file, which has no part: its lines, and what they begin with.
use Rattle.std.proofs.Common.{◌≡◌, ◌≤◌, ◌-◌, ◌+◌, [], ◌∷◌, ℕ, List, length, drop, ap, refl, arith, length-append, length-drop, nat_eq, true, false}
use Rattle.std.proofs.lemmas.Bool.{eqb-true}
use Rattle.dm_tree.specs.Trees.{Lines}
use Rattle.dm_tree.specs.Files.{joined, lines_of, BeginWith}

pub begin_with_nothing : (p t : Lines) → length t ≡ 0 → BeginWith p t
begin_with_nothing p [] e = (p, refl)
begin_with_nothing p (x ∷ t) e = absurd (omega (arith, e))

pub blank_short : (start : ℕ) (t : Lines) → BeginWith (drop start ([] ∷ [])) t → length t ≤ 1 - start
blank_short start t (r, e) = let s : length (drop {A = List ℕ} start ([] ∷ [])) ≡ length t + length r = simp length-append at (ap length e) in omega (arith, s, length-drop {A = List ℕ} start ([] ∷ []))

pub no_part : (ps : List Lines) → nat_eq (length ps) 0 ≡ true → lines_of ps ≡ [] ∷ []
no_part [] e = refl
no_part (p ∷ ps) e = absurd (omega (arith, eqb-true (length (p ∷ ps)) 0 e))

pub some_part : (ps : List Lines) → nat_eq (length ps) 0 ≡ false → lines_of ps ≡ joined ps
some_part [] e = cc
some_part (p ∷ ps) e = refl
