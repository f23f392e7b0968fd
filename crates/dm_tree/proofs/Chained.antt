-- A range of lists that stand one after another.
use Rattle.std.proofs.Common.{◌≡◌, ℕ, ◌-◌, ◌≤◌, List, [], ◌∷◌, ◌++◌, length, take, drop, zero, suc, ap, ◌∙◌, arith, length-drop}

take-both : {X : Type 0} (n : ℕ) (xs ys : List X) → take n (xs ++ ys) ≡ take n xs ++ take (n - length xs) ys
take-both zero xs ys = let e : 0 ≡ 0 - length xs = omega arith in ap (λ k. take k ys) e
take-both (suc n) [] ys = let e : suc n ≡ suc n - 0 = omega arith in ap (λ k. take k ys) e
take-both (suc n) (x ∷ xs) ys =
    let e : n - length xs ≡ suc n - suc (length xs) = omega arith in
    ap (λ z. x ∷ z) (take-both n xs ys ∙ ap (λ k. take n xs ++ take k ys) e)

drop-both : {X : Type 0} (n : ℕ) (xs ys : List X) → drop n (xs ++ ys) ≡ drop n xs ++ drop (n - length xs) ys
drop-both zero xs ys = let e : 0 ≡ 0 - length xs = omega arith in ap (λ k. xs ++ drop k ys) e
drop-both (suc n) [] ys = let e : suc n ≡ suc n - 0 = omega arith in ap (λ k. drop k ys) e
drop-both (suc n) (x ∷ xs) ys =
    let e : n - length xs ≡ suc n - suc (length xs) = omega arith in
    drop-both n xs ys ∙ ap (λ k. drop n xs ++ drop k ys) e

pub range-both : {X : Type 0} (xs ys : List X) (s e : ℕ) → s ≤ e → take (e - s) (drop s (xs ++ ys)) ≡ take (e - s) (drop s xs) ++ take (e - length xs - (s - length xs)) (drop (s - length xs) ys)
range-both xs ys s e le =
    ap (take (e - s)) (drop-both s xs ys) ∙ take-both (e - s) (drop s xs) (drop (s - length xs) ys)
    ∙ ap (λ k. take (e - s) (drop s xs) ++ take k (drop (s - length xs) ys)) (omega (arith, le, length-drop s xs))

pub range-chain : {X : Type 0} (xs ys zs : List X) (s e : ℕ) → s ≤ e
    → take (e - s) (drop s (xs ++ (ys ++ zs))) ≡ take (e - s) (drop s xs) ++ (take (e - length xs - (s - length xs)) (drop (s - length xs) ys) ++ take (e - length xs - length ys - (s - length xs - length ys)) (drop (s - length xs - length ys) zs))
range-chain xs ys zs s e le =
    range-both xs (ys ++ zs) s e le ∙ ap (λ z. take (e - s) (drop s xs) ++ z) (range-both ys zs (s - length xs) (e - length xs) (omega (arith, le)))
