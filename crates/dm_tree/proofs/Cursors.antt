-- A place among the lines of parts, and the lines from it on.
use Rattle.std.proofs.Common.{◌≡◌, ℕ, ◌+◌, ◌-◌, ◌<◌, ◌≤◌, List, [], ◌∷◌, ◌++◌, length, drop, get_or, sym, ap, ◌∙◌, arith}
use Rattle.std.proofs.lemmas.List.{drop_all, drop_more, drop-append-le}
use Rattle.std.proofs.Math.Seq.{drop-append-add}
use Rattle.dm_tree.specs.Trees.{Lines}
use Rattle.dm_tree.specs.Files.{joined}

module _ (all : List Lines) (p : Lines) (ps : List Lines) (n : ℕ) (is : all ≡ p ∷ ps) where
  -- a line of the first part is the next one
  pub next_here : (line : List ℕ) → n < length p → line ≡ get_or p n [] → drop n (joined all) ≡ line ∷ drop (n + 1) (joined all)
  next_here line l e =
      let more : drop n p ≡ line ∷ drop (n + 1) p = drop_more p n [] l ∙ ap (λ z. z ∷ drop (n + 1) p) (sym e) in
      let here : drop n (joined all) ≡ drop n p ++ joined ps = ap (λ z. drop n (joined z)) is ∙ drop-append-le n p (joined ps) (omega arith) in
      let after : drop (n + 1) (joined all) ≡ drop (n + 1) p ++ joined ps = ap (λ z. drop (n + 1) (joined z)) is ∙ drop-append-le (n + 1) p (joined ps) (omega arith) in
      here ∙ ap (λ (z : Lines). z ++ joined ps) more ∙ ap (λ z. line ∷ z) (sym after)

  -- behind the first part
  pub next_later : length p ≤ n → drop n (joined all) ≡ drop (n - length p) (joined ps)
  next_later l =
      let parted : n ≡ length p + (n - length p) = omega arith in
      ap (λ z. drop n (joined z)) is ∙ ap (λ z. drop z (p ++ joined ps)) parted ∙ drop-append-add p (joined ps) (n - length p)

-- where there is no part
pub next_nowhere : (all : List Lines) (n : ℕ) → length all ≡ 0 → drop n (joined all) ≡ []
next_nowhere [] n is = drop_all n [] (omega arith)
next_nowhere (p ∷ ps) n is = absurd (omega (arith, is))
