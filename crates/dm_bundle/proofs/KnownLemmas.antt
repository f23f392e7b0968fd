-- What a set of patch infos tells.
use Rattle.std.proofs.Common.{◌≡◌, ◌↔◌, ◌⊎◌, Bool, true, false, refl, sym, subst, ◌∙◌, rules, inl, inr}
use Rattle.std.specs.Prelude.{Contains, MatchBool, not, cond}
use Rattle.std.specs.BTreeSet.{BTreeSet, contains}
use Rattle.std.specs.BTreeMap.{is_at}
use Rattle.std.specs.Cmp.{IsTotalOrder}
use Rattle.std.specs.Cmp.Rules.{comparing}
use Rattle.std.proofs.lemmas.Bool.{false≢true}
use Rattle.std.proofs.lemmas.Map.Lookups.{CmpEqualImpliesEq}
use Rattle.std.proofs.lemmas.Map.Views.{btree_set_contains_iff}
use Rattle.dm_info.specs.PatchInfo.{PatchInfo}
use Rattle.dm_info.specs.Compared.{info_cmp}
use Rattle.dm_info.specs.ComparedLaws.{info_ties, info_same, same_info}

parts_total : IsTotalOrder info_cmp
parts_total = Prim.search (comparing, rules) depth 9

parts_exact : CmpEqualImpliesEq info_cmp
parts_exact x y e = info_same x y (info_ties x y ∙ rw e refl)

pub known_iff : (s : BTreeSet PatchInfo) (i : PatchInfo) → (contains info_cmp s i ≡ true) ↔ Contains s.keys i
known_iff s i = btree_set_contains_iff parts_total parts_exact s i

step : (s : BTreeSet PatchInfo) (i : PatchInfo) (b : Bool) → contains info_cmp s i ≡ b → MatchBool b (Contains s.keys i) (Contains s.keys i → ⊥)
step s i true e = (known_iff s i).0 e
step s i false e = λ h. false≢true (sym e ∙ (known_iff s i).1 h)

pub known : (s : BTreeSet PatchInfo) (i : PatchInfo) (r : Bool) → r ≡ contains info_cmp s i → MatchBool r (Contains s.keys i) (Contains s.keys i → ⊥)
known s i r e = step s i r (sym e)

not_step : (s : BTreeSet PatchInfo) (i : PatchInfo) (b : Bool) → contains info_cmp s i ≡ b → MatchBool (not b) (Contains s.keys i → ⊥) (Contains s.keys i)
not_step s i true e = (known_iff s i).0 e
not_step s i false e = λ h. false≢true (sym e ∙ (known_iff s i).1 h)

pub not_known : (s : BTreeSet PatchInfo) (i : PatchInfo) (r : Bool) → r ≡ not (contains info_cmp s i) → MatchBool r (Contains s.keys i → ⊥) (Contains s.keys i)
not_known s i r e = rw e (not_step s i (contains info_cmp s i) refl)

at_same : (k : PatchInfo) → is_at (info_cmp k) k ≡ true
at_same k = sym (info_ties k k) ∙ same_info k k refl

now_in : (n : BTreeSet PatchInfo) (k i : PatchInfo) (s t : Bool) → is_at (info_cmp k) i ≡ t → contains info_cmp n i ≡ cond t true s → ((i ≡ k) → t ≡ true) → (s ≡ true) ⊎ (i ≡ k) → contains info_cmp n i ≡ true
now_in n k i s true is e same h = e
now_in n k i true false is e same h = e
now_in n k i false false is e same (inl h) = e ∙ h
now_in n k i false false is e same (inr h) = e ∙ same h

was_in : (n : BTreeSet PatchInfo) (k i : PatchInfo) (s t : Bool) → is_at (info_cmp k) i ≡ t → contains info_cmp n i ≡ cond t true s → contains info_cmp n i ≡ true → (s ≡ true) ⊎ (i ≡ k)
was_in n k i s true is e h = inr (sym (info_same k i (info_ties k i ∙ is)))
was_in n k i s false is e h = inl (sym e ∙ h)

in_set : (s : BTreeSet PatchInfo) (k i : PatchInfo) → Contains s.keys i ⊎ (i ≡ k) → (contains info_cmp s i ≡ true) ⊎ (i ≡ k)
in_set s k i (inl h) = inl ((known_iff s i).1 h)
in_set s k i (inr e) = inr e

-- the set has what it had, and the one that was noted
pub noted : (s n : BTreeSet PatchInfo) (k : PatchInfo) → ((i : PatchInfo) → contains info_cmp n i ≡ cond (is_at (info_cmp k) i) true (contains info_cmp s i)) → (i : PatchInfo) → Contains n.keys i ↔ (Contains s.keys i ⊎ (i ≡ k))
noted s n k e i = (
  λ h. elim (was_in n k i (contains info_cmp s i) (is_at (info_cmp k) i) refl (e i) ((known_iff n i).1 h)) [ inl x ↦ inl ((known_iff s i).0 x) | inr x ↦ inr x ],
  λ h. (known_iff n i).0 (now_in n k i (contains info_cmp s i) (is_at (info_cmp k) i) refl (e i) (λ (x : i ≡ k). subst (λ (j : PatchInfo). is_at (info_cmp k) j ≡ true) (sym x) (at_same k)) (in_set s k i h)),
)
