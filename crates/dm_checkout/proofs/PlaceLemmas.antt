-- What validity says of the names of a path, and what a place is when it is split at its slashes.
use Rattle.std.proofs.Common.{◌≡◌, ◌≢◌, ◌<◌, ℕ, Bool, true, false, ◌||◌, cond, List, [], ◌∷◌, ◌++◌, length, refl, sym, ap, ◌∙◌, subst, Some, None, nat_lt, ◌==◌, arith}
use Rattle.std.proofs.lemmas.List.{append-nil}
use Rattle.std.proofs.lemmas.Bool.{false≢true}
use Rattle.std.specs.Prelude.{Option, codes}
use Rattle.std.specs.List.{AllByRecursion, flat_map, list_any, slice_split}
use Rattle.dm_tree.specs.Paths.{Name, Path}
use Rattle.dm_tree.specs.Validity.{is_bad_name, is_name, names_fault}
use Rattle.dm_tree.specs.declared.fault.PathFault.{PathFault}
use Rattle.dm_tree.specs.declared.fault.PathFault.TheVariants as path
use Rattle.dm_tree.proofs.ValidityLemmas.{valid_parts}
use Rattle.dm_checkout.specs.Places.{EachStaysInside, IsStepDown, is_slash}

left_false : (a b : Bool) → (a || b) ≡ false → a ≡ false
left_false true b e = e
left_false false b e = refl

right_false : (a b : Bool) → (a || b) ≡ false → b ≡ false
right_false true b e = absurd (false≢true (sym e))
right_false false b e = e

-- a name without a slash, whole as one part, or with what follows after a slash
split_name : (name : Name) → list_any is_slash name ≡ false → slice_split is_slash name ≡ name ∷ []
split_name [] e = refl
split_name (x ∷ xs) e =
    rw (left_false (is_slash x) (list_any is_slash xs) e, split_name xs (right_false (is_slash x) (list_any is_slash xs) e)) refl

split_more : (name : Name) (rest : List ℕ) → list_any is_slash name ≡ false → slice_split is_slash (name ++ 47 ∷ rest) ≡ name ∷ slice_split is_slash rest
split_more [] rest e = refl
split_more (x ∷ xs) rest e =
    rw (left_false (is_slash x) (list_any is_slash xs) e, split_more xs rest (right_false (is_slash x) (list_any is_slash xs) e)) refl

bad_apart : (name other : Name) → is_name name other ≡ false → is_name other other ≡ true → name ≢ other
bad_apart name other e same is =
    let P : Name → Type 0 = λ n. is_name n other ≡ false in
    false≢true (sym (subst P is e) ∙ same)

step_down : (name : Name) → is_bad_name name ≡ false → IsStepDown name
step_down name e =
    let one = right_false (is_name name []) _ e in
    let two = right_false (is_name name (codes ".")) _ one in (
      bad_apart name [] (left_false (is_name name []) _ e) refl,
      bad_apart name (codes ".") (left_false (is_name name (codes ".")) _ one) refl,
      bad_apart name (codes "..") (left_false (is_name name (codes "..")) _ two) refl,
    )

no_slash : (name : Name) → is_bad_name name ≡ false → list_any is_slash name ≡ false
no_slash name e =
    let one = right_false (is_name name []) _ e in
    let two = right_false (is_name name (codes ".")) _ one in
    let three = right_false (is_name name (codes "..")) _ two in
    let four = right_false (is_name name (codes "_darcs")) _ three in
    left_false (list_any (λ y. y == 47) name) (list_any (λ y. y == 0) name) four

unbad : (b : Bool) (f : Option PathFault) → cond b (Some path.BadName) f ≡ None → (b ≡ false) × (f ≡ None)
unbad true f e = cc
unbad false f e = (refl, e)

unlong : (b : Bool) (f : Option PathFault) → cond b (Some path.TooLong) f ≡ None → f ≡ None
unlong true f e = cc
unlong false f e = e

steps_down : (names : Path) → names_fault names ≡ None → AllByRecursion IsStepDown names
steps_down [] e = tt
steps_down (n ∷ ns) e =
    let first = unbad (is_bad_name n) _ e in
    (step_down n first.0, steps_down ns (unlong (nat_lt 255 (length n)) _ first.1))

split_names : (name : Name) (names : Path) → names_fault (name ∷ names) ≡ None → slice_split is_slash (name ++ flat_map (λ n. 47 ∷ n) names) ≡ name ∷ names
split_names name [] e =
    let first = unbad (is_bad_name name) _ e in
    rw append-nil (split_name name (no_slash name first.0))
split_names name (n ∷ ns) e =
    let first = unbad (is_bad_name name) _ e in
    split_more name (n ++ flat_map (λ m. 47 ∷ m) ns) (no_slash name first.0) ∙ ap (λ parts. name ∷ parts) (split_names n ns (unlong (nat_lt 255 (length name)) _ first.1))

split_place : (names : Path) → 0 < length names → names_fault names ≡ None → slice_split is_slash (flat_map (λ n. 47 ∷ n) names) ≡ [] ∷ names
split_place [] h e = absurd (omega arith)
split_place (n ∷ ns) h e = ap (λ parts. [] ∷ parts) (split_names n ns e)

pub each_stays_inside : EachStaysInside
each_stays_inside folder p valid =
    let parts = valid_parts p valid in
    record { rest = flat_map (λ n. 47 ∷ n) p; begins = refl; parts = split_place p parts.not_root parts.named; names = steps_down p parts.named }
