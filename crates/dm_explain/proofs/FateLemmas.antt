-- What became of a patch, by the place at which it is found.
use Rattle.std.proofs.Common.{◌≡◌, ◌≤◌, ℕ, zero, suc, ◌<◌, ◌+◌, List, [], ◌∷◌, ◌++◌, length, take, get_or, slice_get, Some, inl, inr, ap, sym, ◌∙◌, subst, arith}
use Rattle.std.specs.List.{Contains}
use Rattle.std.specs.Borrow.{Bor}
use Rattle.std.proofs.lemmas.List.{take_more, map-append}
use Rattle.std.proofs.lemmas.Bool.{ltb-true}
use Rattle.dm_info.specs.PatchInfo.{PatchInfo}
use Rattle.dm_named.specs.Patches.{Patch}
use Rattle.dm_bundle.specs.Patches.{infos_of, Distinct}
use Rattle.dm_repo.proofs.Members.{here, more, one_of, none_of, from_at, infos_of-append}
use Rattle.dm_repo.proofs.NameLemmas.{is_before}
use Rattle.dm_explain.specs.Fates.{AreChosen, HasFate, lent}
use Rattle.dm_explain.proofs.ChoiceLemmas.{chosen_more, left_more}
use Rattle.dm_explain.specs.declared.fates.Fate.TheVariants.{Held, Taken, Skipped}

in_front : (is : List PatchInfo) (n : ℕ) {i : PatchInfo} → Contains (take n is) i → Contains is i
in_front [] zero c = absurd (none_of c)
in_front [] (suc n) c = absurd (none_of c)
in_front (j ∷ is) zero c = absurd (none_of c)
in_front (j ∷ is) (suc n) c = elim (one_of j (take n is) c) [
  | inl e ↦ subst (λ (x : PatchInfo). Contains (j ∷ is) x) e (here j is)
  | inr d ↦ more j is (in_front is n d)
]

-- new patches so far, each in the list that its fate says
pub record SoFar (repo : List Patch) (n : ℕ) (is held taken skipped : List PatchInfo) : Type 0 where
  pub held_is : AreChosen (HasFate repo n Held) is held
  pub taken_is : AreChosen (HasFate repo n Taken) is taken
  pub skipped_is : AreChosen (HasFate repo n Skipped) is skipped

pub next_held : (repo : List Patch) (n : ℕ) (is held taken skipped : List PatchInfo) (i : PatchInfo) → HasFate repo n Held i → SoFar repo n is held taken skipped →
    SoFar repo n (is ++ i ∷ []) (held ++ i ∷ []) taken skipped
next_held repo n is held taken skipped i f s = record {
  held_is = chosen_more (HasFate repo n Held) is held i s.held_is f;
  taken_is = left_more (HasFate repo n Taken) is taken i s.taken_is (λ t. t.1 f);
  skipped_is = left_more (HasFate repo n Skipped) is skipped i s.skipped_is (λ k. k (in_front (infos_of repo) n f));
}

pub next_taken : (repo : List Patch) (n : ℕ) (is held taken skipped : List PatchInfo) (i : PatchInfo) → HasFate repo n Taken i → SoFar repo n is held taken skipped →
    SoFar repo n (is ++ i ∷ []) held (taken ++ i ∷ []) skipped
next_taken repo n is held taken skipped i f s = record {
  held_is = left_more (HasFate repo n Held) is held i s.held_is f.1;
  taken_is = chosen_more (HasFate repo n Taken) is taken i s.taken_is f;
  skipped_is = left_more (HasFate repo n Skipped) is skipped i s.skipped_is (λ k. k f.0);
}

pub next_skipped : (repo : List Patch) (n : ℕ) (is held taken skipped : List PatchInfo) (i : PatchInfo) → HasFate repo n Skipped i → SoFar repo n is held taken skipped →
    SoFar repo n (is ++ i ∷ []) held taken (skipped ++ i ∷ [])
next_skipped repo n is held taken skipped i f s = record {
  held_is = left_more (HasFate repo n Held) is held i s.held_is (λ h. f (in_front (infos_of repo) n h));
  taken_is = left_more (HasFate repo n Taken) is taken i s.taken_is (λ t. f t.0);
  skipped_is = chosen_more (HasFate repo n Skipped) is skipped i s.skipped_is f;
}

-- one more name of a list, one more patch, and one more name that is lent
pub names_more : (is : List PatchInfo) (k : ℕ) (i : PatchInfo) → k < length is → i ≡ get_or is k i → take (k + 1) is ≡ take k is ++ i ∷ []
names_more is k i l e = take_more is k i l ∙ ap (λ j. take k is ++ j ∷ []) (sym e)

pub infos_more : (xs : List Patch) (k : ℕ) (x : Patch) (i : PatchInfo) → k < length xs → x ≡ get_or xs k x → i ≡ x.info → infos_of (take (k + 1) xs) ≡ infos_of (take k xs) ++ i ∷ []
infos_more xs k x i l e s = ap infos_of (take_more xs k x l) ∙ infos_of-append (take k xs) (get_or xs k x ∷ []) ∙ ap (λ j. infos_of (take k xs) ++ j ∷ []) (ap (λ y. y.info) (sym e) ∙ sym s)

pub lent_more : (names : List (Bor PatchInfo)) (name : Bor PatchInfo) {new : List (Bor PatchInfo)} → new ≡ names ++ name ∷ [] → lent new ≡ lent names ++ name.now ∷ []
lent_more names name e = ap lent e ∙ map-append (λ n. n.now) names (name ∷ [])

-- what is found after the first ones was taken
pub taken_at : (repo : List Patch) (n k : ℕ) (i : PatchInfo) → Distinct (infos_of repo) → slice_get (infos_of repo) k ≡ Some i → n ≤ k → HasFate repo n Taken i
taken_at repo n k i d e after = (from_at (infos_of repo) k e, λ c. let before = ltb-true k n ((is_before (infos_of repo) i k n d e).1 c) in absurd (omega (arith, after, before)))
