-- A list undone twice is that list.
use Rattle.std.proofs.Common.{◌≡◌, List, [], ◌∷◌, ◌++◌, refl, sym, ap, ap₂, ◌∙◌, append-nil, append_assoc}
use Rattle.dm_prim.specs.Primitives.{Work, AddFile, RmFile, AddDir, RmDir, Hunk, Binary, Replace, Prim, At, Move, ChangePref, inv_work, inv, inv_all}

inv_work-inv_work : (w : Work) → inv_work (inv_work w) ≡ w
inv_work-inv_work AddFile = refl
inv_work-inv_work RmFile = refl
inv_work-inv_work AddDir = refl
inv_work-inv_work RmDir = refl
inv_work-inv_work (Hunk l old new) = refl
inv_work-inv_work (Binary old new) = refl
inv_work-inv_work (Replace set old new) = refl

inv-inv : (p : Prim) → inv (inv p) ≡ p
inv-inv (At p w) = ap (λ v. At p v) (inv_work-inv_work w)
inv-inv (Move a b) = refl
inv-inv (ChangePref name old new) = refl

pub inv_all-append : (xs ys : List Prim) → inv_all (xs ++ ys) ≡ inv_all ys ++ inv_all xs
inv_all-append [] ys = sym (append-nil (inv_all ys))
inv_all-append (x ∷ xs) ys = rw (inv_all-append xs ys) (append_assoc (inv_all ys) (inv_all xs) (inv x ∷ []))

pub inv_all-inv_all : (xs : List Prim) → inv_all (inv_all xs) ≡ xs
inv_all-inv_all [] = refl
inv_all-inv_all (x ∷ xs) = inv_all-append (inv_all xs) (inv x ∷ []) ∙ ap₂ (λ a b. a ∷ b) (inv-inv x) (inv_all-inv_all xs)
