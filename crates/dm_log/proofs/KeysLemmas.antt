-- What a set of texts tells.
use Rattle.std.proofs.Common.{◌≡◌, ◌↔◌, ◌⊎◌, ℕ, Bool, true, false, List, refl, sym, subst, ◌∙◌, rules, inl, inr}
use Rattle.std.specs.Prelude.{Contains, MatchBool, not, cond}
use Rattle.std.specs.BTreeSet.{BTreeSet, contains}
use Rattle.std.specs.BTreeMap.{is_at}
use Rattle.std.specs.Cmp.{IsTotalOrder}
use Rattle.std.specs.Cmp.Rules.{comparing}
use Rattle.std.specs.Cmp.Lexicographic.{texts_ties}
use Rattle.std.proofs.lemmas.Bool.{false≢true}
use Rattle.std.proofs.lemmas.Map.Lookups.{CmpEqualImpliesEq}
use Rattle.std.proofs.lemmas.Map.Views.{btree_set_contains_iff}
use lib.Pointwise.{bytes_decides}
use Rattle.dm_info.specs.Compared.{text_cmp, text_eq}

texts_total : IsTotalOrder text_cmp
texts_total = Prim.search (comparing, rules) depth 9

-- texts that rank the same are the same
same : (x y : List ℕ) → text_eq x y ≡ true → x ≡ y
same x y = (bytes_decides x y).0

texts_exact : CmpEqualImpliesEq text_cmp
texts_exact x y e = same x y (texts_ties x y ∙ rw e refl)

known_iff : (s : BTreeSet (List ℕ)) (w : List ℕ) → (contains text_cmp s w ≡ true) ↔ Contains s.keys w
known_iff s w = btree_set_contains_iff texts_total texts_exact s w

not_step : (s : BTreeSet (List ℕ)) (w : List ℕ) (b : Bool) → contains text_cmp s w ≡ b → MatchBool (not b) (Contains s.keys w → ⊥) (Contains s.keys w)
not_step s w true e = (known_iff s w).0 e
not_step s w false e = λ h. false≢true (sym e ∙ (known_iff s w).1 h)

-- what was added is told to be new where it wasn't there
pub not_known : (s : BTreeSet (List ℕ)) (w : List ℕ) (r : Bool) → r ≡ not (contains text_cmp s w) → MatchBool r (Contains s.keys w → ⊥) (Contains s.keys w)
not_known s w r e = rw e (not_step s w (contains text_cmp s w) refl)

at_same : (k : List ℕ) → is_at (text_cmp k) k ≡ true
at_same k = sym (texts_ties k k) ∙ (bytes_decides k k).1 refl

now_in : (n : BTreeSet (List ℕ)) (k w : List ℕ) (s t : Bool) → is_at (text_cmp k) w ≡ t → contains text_cmp n w ≡ cond t true s → ((w ≡ k) → t ≡ true) → (s ≡ true) ⊎ (w ≡ k) → contains text_cmp n w ≡ true
now_in n k w s true is e at h = e
now_in n k w true false is e at h = e
now_in n k w false false is e at (inl h) = e ∙ h
now_in n k w false false is e at (inr h) = e ∙ at h

was_in : (n : BTreeSet (List ℕ)) (k w : List ℕ) (s t : Bool) → is_at (text_cmp k) w ≡ t → contains text_cmp n w ≡ cond t true s → contains text_cmp n w ≡ true → (s ≡ true) ⊎ (w ≡ k)
was_in n k w s true is e h = inr (sym (same k w (texts_ties k w ∙ is)))
was_in n k w s false is e h = inl (sym e ∙ h)

in_set : (s : BTreeSet (List ℕ)) (k w : List ℕ) → Contains s.keys w ⊎ (w ≡ k) → (contains text_cmp s w ≡ true) ⊎ (w ≡ k)
in_set s k w (inl h) = inl ((known_iff s w).1 h)
in_set s k w (inr e) = inr e

-- the set has what it had, and the text that was added
pub noted : (s n : BTreeSet (List ℕ)) (k : List ℕ) → ((w : List ℕ) → contains text_cmp n w ≡ cond (is_at (text_cmp k) w) true (contains text_cmp s w)) → (w : List ℕ) → Contains n.keys w ↔ (Contains s.keys w ⊎ (w ≡ k))
noted s n k e w = (
  λ h. elim (was_in n k w (contains text_cmp s w) (is_at (text_cmp k) w) refl (e w) ((known_iff n w).1 h)) [ inl x ↦ inl ((known_iff s w).0 x) | inr x ↦ inr x ],
  λ h. (known_iff n w).0 (now_in n k w (contains text_cmp s w) (is_at (text_cmp k) w) refl (e w) (λ (x : w ≡ k). subst (λ (j : List ℕ). is_at (text_cmp k) j ≡ true) (sym x) (at_same k)) (in_set s k w h)),
)
