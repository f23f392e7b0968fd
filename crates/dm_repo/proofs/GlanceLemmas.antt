-- What the patches of a repository touch at a glance, more of them, and one of them.
use Rattle.std.proofs.Common.{◌≡◌, ◌<◌, ◌+◌, ℕ, zero, suc, List, [], ◌∷◌, ◌++◌, length, get_or, slice_get, Some, ap, subst, arith, refl, sym, take}
use Rattle.std.proofs.lemmas.List.{take_more}
use Rattle.dm_prim.specs.Glances.{IsGlanceOf}
use Rattle.dm_prim.specs.declared.glance.Glance.{Glance}
use Rattle.dm_named.specs.Patches.{Patch}
use Rattle.dm_repo.specs.Glances.{AreGlancesOf}
use Rattle.dm_repo.proofs.MarksLemmas.{some_same}

pub glances_both : (xs ys : List Patch) (gs hs : List Glance) → AreGlancesOf xs gs → AreGlancesOf ys hs → AreGlancesOf (xs ++ ys) (gs ++ hs)
glances_both [] ys [] hs a b = b
glances_both [] ys (g ∷ gs) hs a b = absurd a
glances_both (x ∷ xs) ys [] hs a b = absurd a
glances_both (x ∷ xs) ys (g ∷ gs) hs a b = (a.0, glances_both xs ys gs hs a.1 b)

pub glances_length : (xs : List Patch) (gs : List Glance) → AreGlancesOf xs gs → length gs ≡ length xs
glances_length [] [] a = refl
glances_length [] (g ∷ gs) a = absurd a
glances_length (x ∷ xs) [] a = absurd a
glances_length (x ∷ xs) (g ∷ gs) a = ap suc (glances_length xs gs a.1)

pub glance_at : (xs : List Patch) (gs : List Glance) (k : ℕ) (g : Glance) → AreGlancesOf xs gs → k < length gs → g ≡ get_or gs k g → (x : Patch) → slice_get xs k ≡ Some x → IsGlanceOf x.prims g
glance_at [] gs k g a l e x f = absurd (cc)
glance_at (y ∷ ys) [] k g a l e x f = absurd a
glance_at (y ∷ ys) (h ∷ hs) zero g a l e x f =
    let s : y ≡ x = some_same f in
    subst (λ (z : Patch). IsGlanceOf z.prims g) s (subst (IsGlanceOf y.prims) (sym e) a.0)
glance_at (y ∷ ys) (h ∷ hs) (suc k) g a l e x f = glance_at ys hs k g a.1 (omega (arith, l)) e x f

pub glances_more : (xs : List Patch) (i : ℕ) (x : Patch) (gs : List Glance) (g : Glance) → i < length xs → x ≡ get_or xs i x → AreGlancesOf (take i xs) gs → IsGlanceOf x.prims g → AreGlancesOf (take (i + 1) xs) (gs ++ g ∷ [])
glances_more xs i x gs g l e a h =
    subst (λ zs. AreGlancesOf zs (gs ++ g ∷ [])) (sym (take_more xs i x l))
    (glances_both (take i xs) (get_or xs i x ∷ []) gs (g ∷ []) a (subst (λ (z : Patch). IsGlanceOf z.prims g) e h, tt))
