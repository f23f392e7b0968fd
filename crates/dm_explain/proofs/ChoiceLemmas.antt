-- Names that are chosen from a list, one after the other.
use Rattle.std.proofs.Common.{List, [], ◌∷◌, ◌++◌, inl, inr, refl}
use Rattle.dm_info.specs.PatchInfo.{PatchInfo}
use Rattle.dm_explain.specs.Fates.{AreChosen}

-- one more of the list, which is chosen
pub chosen_more : (P : PatchInfo → Type 0) (is chosen : List PatchInfo) (i : PatchInfo) → AreChosen P is chosen → P i → AreChosen P (is ++ i ∷ []) (chosen ++ i ∷ [])
chosen_more P [] chosen i e p = inl (p, ([], rw e refl, refl))
chosen_more P (j ∷ is) chosen i (inl (q, (more, e, c))) p = inl (q, (more ++ i ∷ [], rw e refl, chosen_more P is more i c p))
chosen_more P (j ∷ is) chosen i (inr (n, c)) p = inr (n, chosen_more P is chosen i c p)

-- one more, which isn't
pub left_more : (P : PatchInfo → Type 0) (is chosen : List PatchInfo) (i : PatchInfo) → AreChosen P is chosen → (P i → ⊥) → AreChosen P (is ++ i ∷ []) chosen
left_more P [] chosen i e n = inr (n, e)
left_more P (j ∷ is) chosen i (inl (q, (more, e, c))) n = inl (q, (more, e, left_more P is more i c n))
left_more P (j ∷ is) chosen i (inr (m, c)) n = inr (m, left_more P is chosen i c n)
