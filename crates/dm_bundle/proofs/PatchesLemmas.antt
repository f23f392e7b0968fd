-- The new patches, one after the other.
use Rattle.std.proofs.Common.{◌≡◌, ◌<◌, ◌≤◌, ◌↔◌, ◌⊎◌, ℕ, List, [], ◌∷◌, ◌++◌, length, refl, sym, subst, inl, inr, arith}
use Rattle.std.specs.Prelude.{Contains}
use Rattle.std.specs.List.{AllByRecursion}
use Rattle.std.proofs.lemmas.List.{length-append}
use Rattle.std.proofs.lemmas.List.Elements.{Contains-push_cases, Contains-append_left, Contains-push}
use Rattle.dm_info.specs.PatchInfo.{PatchInfo}
use Rattle.dm_info.specs.Spelling.{Stands}
use Rattle.dm_info.proofs.SpellingLemmas.{one_info, not_both}
use Rattle.dm_named.specs.Words.{skipped, Begins}
use Rattle.dm_named.specs.Patches.{Patch, PatchTextIn}
use Rattle.dm_named.specs.Faults.{InfoFaultAt, info}
use Rattle.dm_named.specs.declared.fault.FaultKind.{FaultKind}
use Rattle.dm_named.specs.declared.fault.FaultKind.TheVariants as K
use Rattle.dm_named.specs.declared.limits.Limits.{Limits}
use Rattle.dm_named.specs.declared.limits.Kinds.{Kinds}
use Rattle.dm_named.proofs.ManyLemmas.{many_more}
use Rattle.dm_bundle.specs.Patches.{infos_of, Distinct, SameMembers, NextPatch, NewPatches, HasFewReplaces, AreFewWithin}
use Rattle.dm_bundle.specs.Faults.{IsDoubled, DueFaultWithin, in_patch, too_many_replaces, no_memory, NewPatchesFaultWithin}
use Rattle.dm_bundle.proofs.Members.{distinct_more, infos_more}

pub same_more : (s n is : List PatchInfo) (k : PatchInfo) → SameMembers s is → ((i : PatchInfo) → Contains n i ↔ (Contains s i ⊎ (i ≡ k))) → SameMembers n (is ++ k ∷ [])
same_more s n is k same noted i = (
  λ h. elim ((noted i).0 h) [ inl m ↦ Contains-append_left is (k ∷ []) i ((same i).0 m) | inr e ↦ subst (λ (j : PatchInfo). Contains (is ++ k ∷ []) j) (sym e) (Contains-push is k) ],
  λ h. (noted i).1 (elim (Contains-push_cases is k i h) [ inl m ↦ inl ((same i).1 m) | inr e ↦ inr (sym e) ]),
)

pub new_more : (kinds : Kinds) (text : List ℕ) (ps : List Patch) (mid here : List ℕ) (p : Patch) (after : List ℕ) → NewPatches kinds text ps mid → here ≡ skipped mid → PatchTextIn kinds here p after → (Contains (infos_of ps) p.info → ⊥) → NewPatches kinds text (ps ++ p ∷ []) after
new_more kinds text ps mid here p after r e s none =
    record {
      read = many_more (NextPatch kinds) text ps mid p after r.read (subst (λ (t : List ℕ). PatchTextIn kinds t p after) e s);
      distinct = subst Distinct (sym (infos_more ps p)) (distinct_more (infos_of ps) p.info r.distinct none);
    }

few_all : (limits : Limits) (ps : List Patch) (p : Patch) → AllByRecursion (λ q. length q.prims ≤ limits.prims) ps → length p.prims ≤ limits.prims → AllByRecursion (λ q. length q.prims ≤ limits.prims) (ps ++ p ∷ [])
few_all limits [] p a f = (f, tt)
few_all limits (q ∷ ps) p a f = (a.0, few_all limits ps p a.1 f)

pub few_more : (limits : Limits) (ps : List Patch) (p : Patch) → AreFewWithin limits ps → length ps < limits.patches → length p.prims ≤ limits.prims → HasFewReplaces limits (ps ++ p ∷ []) → AreFewWithin limits (ps ++ p ∷ [])
few_more limits ps p few room prims all = record { count = omega (arith, room, length-append ps (p ∷ [])); prims = few_all limits ps p few.prims prims; replaces = all }

-- a fault of the patch info where a patch begins
pub info_due : (limits : Limits) (kind : FaultKind) (ps : List Patch) (text here : List ℕ) → Begins 91 text → length ps < limits.patches → InfoFaultAt kind text here → DueFaultWithin limits kind ps text here
info_due limits K.BadInfo ps text here b room f = in_patch b room (λ d. f.1.none d.info d.rest d.stands) (info f)
info_due limits K.Inverted ps text here b room f = in_patch b room (λ d. not_both text d.info d.rest d.stands f.1) (info f)
info_due limits K.NoMemory ps text here b room f = no_memory refl
info_due limits kind ps text here b room f = absurd f

-- the patch info that stands in front of a named patch is its own
pub one_front : (kinds : Kinds) (text : List ℕ) (i : PatchInfo) (rest : List ℕ) (p : Patch) (after : List ℕ) → Stands text i rest → PatchTextIn kinds text p after → i ≡ p.info
one_front kinds text i rest p after s t = (one_info text i p.info rest t.after s t.info).0

-- a patch info that is new is no double
pub not_doubled : (known : List PatchInfo) (text : List ℕ) (i : PatchInfo) (rest : List ℕ) → Stands text i rest → (Contains known i → ⊥) → IsDoubled known text → ⊥
not_doubled known text i rest s none d = none (subst (Contains known) (one_info text d.info i d.rest rest d.stands s).0 d.is_known)

pub new_wrong : (limits : Limits) (kind : FaultKind) (text mid next here : List ℕ) (ps : List Patch) → NewPatches limits.kinds text ps mid → AreFewWithin limits ps → next ≡ skipped mid → DueFaultWithin limits kind ps next here → NewPatchesFaultWithin limits kind text here
new_wrong limits kind text mid next here ps r few e w = record { patches = ps; mid = mid; read = r; few = few; wrong = subst (λ (t : List ℕ). DueFaultWithin limits kind ps t here) e w }

-- a patch that is new, and within the limits but for its replaces
pub replaces_due : (limits : Limits) (ps : List Patch) (text : List ℕ) (p : Patch) (rest : List ℕ) → PatchTextIn limits.kinds text p rest → length ps < limits.patches → length p.prims ≤ limits.prims → (Contains (infos_of ps) p.info → ⊥) → (HasFewReplaces limits (ps ++ p ∷ []) → ⊥) → DueFaultWithin limits K.TooMany ps text rest
replaces_due limits ps text p rest t room short none many =
    too_many_replaces refl room (not_doubled (infos_of ps) text p.info t.after t.info none) (record { patch = p; stands = t; short = short; many = many })
