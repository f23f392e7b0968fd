-- One pair more, one line more, and the value of a line.
use Rattle.std.proofs.Common.{◌≡◌, ◌≤◌, ◌<◌, ◌+◌, ◌∷◌, ◌++◌, [], ℕ, List, arith, false, get_or, length, map, take, Vec, Global, sym, subst, ap, ◌∙◌}
use Rattle.std.specs.Prelude.{codes}
use Rattle.std.proofs.lemmas.List.{map-append, take_more}
use Rattle.serde_json.specs.Data.{array, depth, object, string}
use Rattle.serde_json.specs.View.{items_of, view}
use Rattle.serde_json.specs.declared.value.Value.{Value, Array}
use Rattle.serde_json.proofs.Views.{view-Array}
use Rattle.serde_json.specs.Read.{max_depth}
use Rattle.serde_json.specs.Written.{has_float}
use Rattle.dm_info.specs.PatchInfo.{PatchInfo}
use Rattle.dm_named.specs.Patches.{Patch}
use Rattle.dm_log.specs.Finding.{hash_text}
use Rattle.dm_log.specs.Json.{patch_members, texts}
use Rattle.dm_log.proofs.JsonShapes.{MembersFit, fit_object, fit_patch_members, fit_put, fit_texts}
use Rattle.dm_rests.specs.Rests.{Directly, LinesOf, one, another, more, with_rests}

-- the pair that comes next
next_pair : {X : Type 0} (xs : List X) (k : ℕ) (x : X) → k < length xs → x ≡ get_or xs k x → take k xs ++ x ∷ [] ≡ take (k + 1) xs
next_pair xs k x lt is = ap (λ y. take k xs ++ y ∷ []) is ∙ sym (take_more xs k x lt)

pub one_more : (info : PatchInfo) (pairs : List (PatchInfo × PatchInfo)) (k : ℕ) (p : PatchInfo × PatchInfo) (names : List PatchInfo) → k < length pairs → p ≡ get_or pairs k p →
    Directly info (take k pairs) names → p.1 ≡ info → Directly info (take (k + 1) pairs) (names ++ p.0 ∷ [])
one_more info pairs k p names lt is d same = subst (λ (ps : List (PatchInfo × PatchInfo)). Directly info ps (names ++ p.0 ∷ [])) (next_pair pairs k p lt is) (one (take k pairs) names p d same)

pub another_more : (info : PatchInfo) (pairs : List (PatchInfo × PatchInfo)) (k : ℕ) (p : PatchInfo × PatchInfo) (names : List PatchInfo) → k < length pairs → p ≡ get_or pairs k p →
    Directly info (take k pairs) names → (p.1 ≡ info → ⊥) → Directly info (take (k + 1) pairs) names
another_more info pairs k p names lt is d other = subst (λ (ps : List (PatchInfo × PatchInfo)). Directly info ps names) (next_pair pairs k p lt is) (another (take k pairs) names p d other)

-- the line that comes next
pub line_more : (IsLine : (ℕ × Patch) → List ℕ → Type 0) (ps : List (ℕ × Patch)) (k : ℕ) (p : ℕ × Patch) (text line : List ℕ) → k < length ps → get_or ps k p ≡ p →
    LinesOf IsLine (take k ps) text → IsLine p line → LinesOf IsLine (take (k + 1) ps) (text ++ line)
line_more IsLine ps k p text line lt is so_far last = subst (λ (qs : List (ℕ × Patch)). LinesOf IsLine qs (text ++ line)) (next_pair ps k p lt (sym is)) (more (take k ps) text p line so_far last)

rests_fit : (n : ℕ) (p : Patch) (names : List PatchInfo) → MembersFit 3 (with_rests n p names)
rests_fit n p names = fit_put 3 (codes "needed_by") (texts hash_text names) (patch_members n p) (fit_texts 2 hash_text names) (fit_patch_members n p)

-- its text is known, and reads back
pub no_float : (n : ℕ) (p : Patch) (names : List PatchInfo) → has_float (object (with_rests n p names)) ≡ false
no_float n p names = (fit_object 3 (with_rests n p names) (rests_fit n p names)).0

pub shallow : (n : ℕ) (p : Patch) (names : List PatchInfo) → depth (object (with_rests n p names)) ≤ max_depth
shallow n p names = omega (arith, (fit_object 3 (with_rests n p names) (rests_fit n p names)).1)

-- the value of all hashes
pub hashes_told : (names : List PatchInfo) (vs : Vec Value Global) → map view vs.items ≡ map (λ i. string (hash_text i)) names → view (Array vs) ≡ texts hash_text names
hashes_told names vs h = view-Array vs ∙ ap (λ l. array (items_of l)) h
