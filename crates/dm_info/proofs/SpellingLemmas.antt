-- What the spelling of a patch info says by itself.
use Rattle.std.proofs.Common.{◌≡◌, ℕ, List, [], ◌∷◌, ◌++◌, refl, sym, ap, ◌∙◌, append_assoc, inl, inr, ◌<◌, length, arith}
use Rattle.std.proofs.lemmas.List.{length-append}
use Rattle.dm_info.specs.PatchInfo.{PatchInfo, IsInfo}
use Rattle.dm_info.specs.Spelling.{opening, log_text, canonical, canonical_end, IsInfoText, Stands, StandsInverted}
use Rattle.dm_info.proofs.ReadingLemmas.{ok_pair, info_again, inverted_again}

-- a text has at most one patch info at its front
pub one_info : (text : List ℕ) (i j : PatchInfo) (r s : List ℕ) → Stands text i r → Stands text j s → (i ≡ j) × (r ≡ s)
one_info text i j r s a b = ok_pair i j r s (sym (info_again text i r a) ∙ info_again text j s b)

-- and not an inverted one beside it
pub not_both : (text : List ℕ) (i : PatchInfo) (rest : List ℕ) → Stands text i rest → StandsInverted text → ⊥
not_both text i rest a b = let both = sym (info_again text i rest a) ∙ inverted_again text b in cc

pub stands_opens : (text : List ℕ) (i : PatchInfo) (rest : List ℕ) → Stands text i rest → (after : List ℕ) × (text ≡ 91 ∷ after)
stands_opens text i rest s =
    elim s.spelled [
      | inl e ↦ (_, s.parts ∙ ap (λ (o : List ℕ). o ++ rest) e)
      | inr e ↦ (_, s.parts ∙ ap (λ (o : List ℕ). o ++ rest) e.1)
    ]

-- what is left is shorter
pub stands_shorter : (text : List ℕ) (i : PatchInfo) (rest : List ℕ) → Stands text i rest → length rest < length text
stands_shorter text i rest s =
    elim s.spelled [
      | inl e ↦ omega (arith, ap length s.parts, length-append s.own rest, ap length e, length-append (opening i) (10 ∷ log_text i.log))
      | inr e ↦ omega (arith, ap length s.parts, length-append s.own rest, ap length e.1, length-append (opening i) (93 ∷ []))
    ]

canonical_spelled : (i : PatchInfo) (log : List (List ℕ)) → i.log ≡ log → IsInfoText (opening i ++ canonical_end log) i
canonical_spelled i [] e = inr (e, refl)
canonical_spelled i (line ∷ lines) e = inl (ap (λ (l : List (List ℕ)). opening i ++ 10 ∷ log_text l) (sym e))

pub canonical_stands : (i : PatchInfo) (rest : List ℕ) → IsInfo i → Stands (canonical i ++ rest) i (32 ∷ rest)
canonical_stands i rest valid = record { own = opening i ++ canonical_end i.log; valid = valid; spelled = canonical_spelled i i.log refl; parts = append_assoc (opening i ++ canonical_end i.log) (32 ∷ []) rest }
