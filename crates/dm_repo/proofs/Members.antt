-- Members of lists of patches.
use Rattle.std.proofs.Common.{◌≡◌, ℕ, zero, suc, ◌+◌, ◌<◌, List, [], ◌∷◌, ◌++◌, length, take, get_or, slice_get, Some, ◌⊎◌, inl, inr, refl, sym, ap, ap₂, ◌∙◌, arith, append_assoc, append-nil}
use Rattle.std.proofs.lemmas.List.{take_more}
use Rattle.std.specs.List.{Contains}
use Rattle.dm_info.specs.PatchInfo.{PatchInfo}
use Rattle.dm_named.specs.Patches.{Patch}
use Rattle.dm_bundle.specs.Patches.{infos_of, Distinct}
use Rattle.dm_repo.specs.Repositories.{Holds, NamesEarlier}
use Rattle.std.proofs.lemmas.List.Elements.{Contains-append_left, Contains-append_cases}

module _ {X : Type 0} where
  pub here : (x : X) (xs : List X) → Contains (x ∷ xs) x
  here x xs = (0, omega arith, refl)

  pub more : (y : X) (xs : List X) {x : X} → Contains xs x → Contains (y ∷ xs) x
  more y xs (k, l, e) = (suc k, omega arith, e)

  pub one_of : (y : X) (xs : List X) {x : X} → Contains (y ∷ xs) x → (y ≡ x) ⊎ Contains xs x
  one_of y xs (zero, l, e) = inl e
  one_of y xs (suc k, l, e) = inr (k, omega arith, e)

  pub none_of : {x : X} → Contains [] x → ⊥
  none_of (k, l, e) = absurd (omega arith)

  pub from_at : (xs : List X) {x : X} (k : ℕ) → slice_get xs k ≡ Some x → Contains xs x
  from_at [] k e = absurd (cc)
  from_at (y ∷ ys) {x} zero e = let f : x ≡ y = cc in rw f (here y ys)
  from_at (y ∷ ys) (suc k) e = more y ys (from_at ys k e)

-- one more copy
module _ {X : Type 0} where
  pub copied_more : (xs : List X) (k : ℕ) (x : X) (copies : List X) (y : X) {copies' : List X} → k < length xs → x ≡ get_or xs k x → copies ≡ take k xs → y ≡ x → copies' ≡ copies ++ y ∷ [] → copies' ≡ take (k + 1) xs
  copied_more xs k x copies y l e c s new = new ∙ ap₂ (λ a b. a ++ b ∷ []) c (s ∙ e) ∙ sym (take_more xs k x l)

-- the name of a member
pub in_infos : (xs : List Patch) {x : Patch} → Contains xs x → Holds xs x.info
in_infos [] c = absurd (none_of c)
in_infos (y ∷ ys) c = elim (one_of y ys c) [ inl e ↦ rw (← e) (here y.info (infos_of ys)) | inr d ↦ more y.info (infos_of ys) (in_infos ys d) ]

pub infos_of-append : (xs ys : List Patch) → infos_of (xs ++ ys) ≡ infos_of xs ++ infos_of ys
infos_of-append [] ys = refl
infos_of-append (x ∷ xs) ys = ap (λ l. x.info ∷ l) (infos_of-append xs ys)

pub info_at : (xs : List Patch) (k : ℕ) (x : Patch) → k < length xs → x ≡ get_or xs k x → slice_get (infos_of xs) k ≡ Some x.info
info_at [] k x l e = absurd (omega arith)
info_at (y ∷ ys) zero x l e = ap (λ z. Some z.info) (sym e)
info_at (y ∷ ys) (suc k) x l e = info_at ys k x (omega arith) e

-- what a member names is held, or a member's name
pub dep_held : (held : List PatchInfo) (xs : List Patch) {x : Patch} {d : PatchInfo} → NamesEarlier held xs → Contains xs x → Contains x.deps d → Contains (held ++ infos_of xs) d
dep_held held [] n c k = absurd (none_of c)
dep_held held (y ∷ ys) {x} {d} n c k = elim (one_of y ys c) [
  | inl e ↦ Contains-append_left held (y.info ∷ infos_of ys) d (n.0 d (rw (← e) at k))
  | inr m ↦ rw (append_assoc held (y.info ∷ []) (infos_of ys)) at (dep_held (held ++ y.info ∷ []) ys n.1 m k)
]

pub earlier_on : (held : List PatchInfo) (xs ys : List Patch) → NamesEarlier held xs → NamesEarlier (held ++ infos_of xs) ys → NamesEarlier held (xs ++ ys)
earlier_on held [] ys n m = rw (append-nil held) at m
earlier_on held (x ∷ xs) ys n m = (n.0, earlier_on (held ++ x.info ∷ []) xs ys n.1 (rw (append_assoc held (x.info ∷ []) (infos_of xs)) m))

pub distinct_on : (xs ys : List PatchInfo) → Distinct xs → Distinct ys → ((i : PatchInfo) → Contains xs i → Contains ys i → ⊥) → Distinct (xs ++ ys)
distinct_on [] ys d e apart = e
distinct_on (x ∷ xs) ys d e apart = (
  λ c. elim (Contains-append_cases xs ys x c) [ inl h ↦ d.0 h | inr h ↦ apart x (here x xs) h ],
  distinct_on xs ys d.1 e (λ i h k. apart i (more x xs h) k),
)
