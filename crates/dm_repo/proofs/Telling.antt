-- Going over a repository to tell its patches apart.
use Rattle.std.proofs.Common.{◌≡◌, ◌≤◌, ◌+◌, ◌<◌, ℕ, zero, suc, Bool, true, false, IsTrue, List, [], ◌∷◌, length, get_or, slice_get, set, Some, ◌⊎◌, inl, inr, refl, sym, ap, ◌∙◌, subst, arith}
use Rattle.std.specs.List.{All}
use Rattle.dm_info.specs.PatchInfo.{PatchInfo}
use Rattle.dm_tree.specs.Paths.{Path}
use Rattle.dm_prim.proofs.TouchLemmas.{holds_of}
use Rattle.dm_named.specs.Patches.{Patch}
use Rattle.dm_bundle.specs.Patches.{infos_of, Distinct}
use Rattle.dm_repo.specs.Aside.{StandsAside, StandsNear}
use Rattle.dm_repo.specs.Repositories.{Holds}
use Rattle.dm_repo.specs.Nearby.{IsSet, StandsAt, IsToldApart, AreToldApart, IsNamedMarked, AreNamedMarked, AreNeededMarked}
use Rattle.dm_repo.proofs.MarksLemmas.{at_place, one_place, some_same, within, set_here, set_there}
use Rattle.dm_repo.proofs.Members.{from_at, in_infos}
use Rattle.dm_repo.proofs.Splits.{mark_at}

-- the patches before place n are told apart
pub record ToldUpTo (repo : List Patch) (kept : ℕ) (common near : List Bool) (ps : List Path) (n : ℕ) : Type 0 where
  pub each : (k : ℕ) (x : Patch) → k < n → StandsAt repo kept k x → IsToldApart common near ps k x

-- what common ones of them name is marked
pub record NeededUpTo (repo : List Patch) (kept : ℕ) (common near : List Bool) (n : ℕ) : Type 0 where
  pub each : (k : ℕ) (x : Patch) → k < n → StandsAt repo kept k x → IsSet common k → AreNamedMarked repo near x.deps

same_or : (j k : ℕ) → (j ≡ k) ⊎ (j ≡ k → ⊥)
same_or zero zero = inl refl
same_or zero (suc k) = inr (λ e. omega (arith, e))
same_or (suc j) zero = inr (λ e. omega (arith, e))
same_or (suc j) (suc k) = elim (same_or j k) [ inl e ↦ inl (ap suc e) | inr n ↦ inr (λ e. n (omega (arith, e))) ]

module _ (repo : List Patch) (kept : ℕ) (common near : List Bool) where
  module _ (ps : List Path) where
    pub told_none : ToldUpTo repo kept common near ps kept
    told_none = record { each = λ k x l s. let b = s.behind in absurd (omega (arith, l, b)) }

    pub told_more : (n : ℕ) (x : Patch) → n < length repo → x ≡ get_or repo n x → IsToldApart common near ps n x → ToldUpTo repo kept common near ps n → ToldUpTo repo kept common near ps (n + 1)
    told_more n x l e t h = record {
      each = λ k y m s. elim (same_or k n) [
        | inl f ↦
            let g : x ≡ y = some_same (sym (at_place repo n x l e) ∙ ap (slice_get repo) (sym f) ∙ s.at) in
            subst (λ z. IsToldApart common near ps k z) g (subst (λ z. IsToldApart common near ps z x) (sym f) t)
        | inr f ↦ h.each k y (omega (arith, m, f)) s
      ];
    }

    pub told_all : (n : ℕ) → length repo ≤ n → ToldUpTo repo kept common near ps n → AreToldApart repo kept common near ps
    told_all n l h = record { each = λ k x s. let m = within repo k s.at in h.each k x (omega (arith, l, m)) s }

  pub needed_none : NeededUpTo repo kept common near kept
  needed_none = record { each = λ k x l s. let b = s.behind in absurd (omega (arith, l, b)) }

  pub needed_more : (n : ℕ) (x : Patch) → n < length repo → x ≡ get_or repo n x → (IsSet common n → AreNamedMarked repo near x.deps) → NeededUpTo repo kept common near n → NeededUpTo repo kept common near (n + 1)
  needed_more n x l e t h = record {
    each = λ k y m s i. elim (same_or k n) [
      | inl f ↦
          let g : x ≡ y = some_same (sym (at_place repo n x l e) ∙ ap (slice_get repo) (sym f) ∙ s.at) in
          subst (λ (z : Patch). AreNamedMarked repo near z.deps) g (t (subst (IsSet common) f i))
      | inr f ↦ h.each k y (omega (arith, m, f)) s i
    ];
  }

  pub needed_past : (n : ℕ) → (IsSet common n → ⊥) → NeededUpTo repo kept common near n → NeededUpTo repo kept common near (n + 1)
  needed_past n t h = record { each = λ k y m s i. elim (same_or k n) [ inl f ↦ absurd (t (subst (IsSet common) f i)) | inr f ↦ h.each k y (omega (arith, m, f)) s i ] }

  pub needed_all : (n : ℕ) → length repo ≤ n → NeededUpTo repo kept common near n → AreNeededMarked repo kept common near
  needed_all n l h = record { each = λ k x s i. let m = within repo k s.at in h.each k x (omega (arith, l, m)) s i }

-- what patch infos name
infos_get : (xs : List Patch) (j : ℕ) {y : Patch} → slice_get xs j ≡ Some y → slice_get (infos_of xs) j ≡ Some y.info
infos_get [] j e = absurd (cc)
infos_get (x ∷ xs) zero e = ap (λ (z : Patch). Some z.info) (some_same e)
infos_get (x ∷ xs) (suc j) e = infos_get xs j e

module _ (repo : List Patch) (near : List Bool) (i : PatchInfo) where
  -- there is none
  pub named_nowhere : (Holds repo i → ⊥) → IsNamedMarked repo near i
  named_nowhere n = record { each = λ j y f g. absurd (n (subst (Holds repo) (sym g) (in_infos repo (from_at repo j f)))) }

  -- there is one, and it is marked
  pub named_here : (k : ℕ) → Distinct (infos_of repo) → slice_get (infos_of repo) k ≡ Some i → IsSet near k → IsNamedMarked repo near i
  named_here k d p s = record { each = λ j y f g. subst (IsSet near) (one_place (infos_of repo) k j d p (infos_get repo j f ∙ ap Some (sym g))) s }

pub named_all : (repo : List Patch) (near : List Bool) (infos : List PatchInfo) → All (IsNamedMarked repo near) infos → AreNamedMarked repo near infos
named_all repo near infos h = record { each = λ j y e c. (holds_of (IsNamedMarked repo near) infos h c).each j y e refl }

-- a mark is set behind those that were gone over
pub told_marked : (repo : List Patch) (kept : ℕ) (common near : List Bool) (ps : List Path) (n : ℕ) → ToldUpTo repo kept common near ps n → ToldUpTo repo kept common (set near n true) ps n
told_marked repo kept common near ps n h = record {
  each = λ k x l s.
      let t = h.each k x l s in
      let e = set_there near k n (λ f. omega (arith, l, f)) in
      record {
        stays = λ m. t.stays (sym e ∙ m);
        aside = λ u. t.aside (λ m. u (e ∙ m));
        uncommon = λ u i. t.uncommon (λ m. u (e ∙ m)) i;
      };
}

-- one that stands near and is marked
pub tell_near : (common near : List Bool) (ps : List Path) (n : ℕ) (x : Patch) → n < length near → StandsNear ps x → IsToldApart common (set near n true) ps n x
tell_near common near ps n x l h = record {
  stays = λ m. h;
  aside = λ u. absurd (u (set_here near n l));
  uncommon = λ u i. u (set_here near n l);
}

-- one that stands aside, and is neither marked nor common
pub tell_aside : (common near : List Bool) (ps : List Path) (k : ℕ) (x : Patch) (d e : Bool) → k < length common → k < length near → get_or common k d ≡ false → get_or near k e ≡ false →
    StandsAside ps x → IsToldApart common near ps k x
tell_aside common near ps k x d e lc ln c n h = record {
  stays = λ s. let b : false ≡ true = some_same (sym (mark_at near k false e ln n) ∙ s) in absurd (cc);
  aside = λ u. h;
  uncommon = λ u i. let b : false ≡ true = some_same (sym (mark_at common k false d lc c) ∙ i) in absurd (cc);
}
