-- The laws of pairs and of lists.
use Rattle.std.proofs.Common.{◌≡◌, ◌≢◌, [], ◌∷◌, ◌++◌, List, refl, sym, ap₂, ◌∙◌, append_assoc, append-nil, arith}
use Rattle.dm_tree.specs.Validity.{IsValidPath}
use Rattle.dm_tree.specs.Paths.{Path}
use Rattle.dm_prim.specs.InTurn.{done, step}
use Rattle.dm_prim.specs.Rectangles.{CellRow, none, next, empty, row}
use Rattle.dm_prim.specs.Primitives.{AddFile, RmFile, AddDir, RmDir, Hunk, Binary, Replace, Prim, At, Move, ChangePref, inv, inv_all, LawfulMap, Leads, LeadsAll}
use Rattle.dm_prim.specs.Commuting.{IsValidPrim, Commutes, ListsCommute}
use Rattle.dm_prim.specs.Laws.{PairLaws, ListLaws, CommutedPairsEndAlike, PairsCommuteBack, PairsCommutePastAnInverse, CommutedListsEndAlike, ListsCommuteBack, ListsCommutePastAnInverse, RectanglesTurn, InversesLeadBack, ListInversesLeadBack, OneWayToApply, OneWayToCommute, OneWayToCommuteLists}
use Rattle.dm_prim.proofs.TurnedLines.{tokens_turned}
use Rattle.dm_prim.proofs.Undoing.{OffRoot, undone, kept}
use Rattle.dm_prim.proofs.TableRows.{square_from, row_turn, row_inv}
use Rattle.dm_prim.proofs.Ends.{square_runs, inv_inv}
use Rattle.dm_prim.proofs.Single.{applies_one, commutes_one, lists_one, same_map}
use Rattle.dm_prim.proofs.RectangleLemmas.{beside, one, rectangle_turn, rectangle_runs, runs_on}

not_root : (f : Path) → IsValidPath f → f ≢ []
not_root f h e = let k : IsValidPath [] = rw e at h in cc

pub off_root : (p : Prim) → IsValidPrim p → OffRoot p
off_root (At f w) h = not_root f h.0
off_root (Move a b) h = tt
off_root (ChangePref name old new) h = tt

pub valid_inv : (p : Prim) → IsValidPrim p → IsValidPrim (inv p)
valid_inv (At f AddFile) h = h
valid_inv (At f RmFile) h = h
valid_inv (At f AddDir) h = h
valid_inv (At f RmDir) h = h
valid_inv (At f (Hunk l o n)) h = (h.0, (h.1.0, omega arith, h.1.3, h.1.2))
valid_inv (At f (Binary o n)) h = (h.0, (h.1.1, h.1.0, h.1.3, h.1.2))
valid_inv (At f (Replace s o n)) h = (h.0, tokens_turned s o n h.1)
valid_inv (Move a b) h = (h.1, h.0)
valid_inv (ChangePref name old new) h = (h.0, h.1, h.3, h.2)

-- pairs
pub pairs_end_alike : CommutedPairsEndAlike
pairs_end_alike p q q' p' c s u z h k =
    let r = square_runs (square_from c.row) (off_root p c.valid_p) (off_root q c.valid_q) (off_root q' c.valid_q') s.map u.map z.map s.lawful h.applies k.applies in
    (record { map = r.0; lawful = kept q' s.map r.0 (off_root q' c.valid_q') s.lawful r.1 }, record { applies = r.1 }, record { applies = r.2 })

pub pairs_back : PairsCommuteBack
pairs_back p q q' p' c = record { valid_p = c.valid_q'; valid_q = c.valid_p'; valid_q' = c.valid_p; valid_p' = c.valid_q; row = row_turn c.row }

pub pairs_past_inverse : PairsCommutePastAnInverse
pairs_past_inverse p q q' p' c = record { valid_p = valid_inv p c.valid_p; valid_q = c.valid_q'; valid_q' = c.valid_q; valid_p' = valid_inv p' c.valid_p'; row = row_inv c.row }

pub pair_laws : {p q q' p' : Prim} → Commutes p q q' p' → PairLaws p q q' p'
pair_laws {p} {q} {q'} {p'} c = record { ends_alike = pairs_end_alike p q q' p' c; back = pairs_back p q q' p' c; past_inverse = pairs_past_inverse p q q' p' c }

-- lists
pub lists_end_alike : CommutedListsEndAlike
lists_end_alike xs ys ys' xs' g s u z h k = rectangle_runs Prim LawfulMap Commutes Leads pairs_end_alike g h k

pub lists_back : ListsCommuteBack
lists_back xs ys ys' xs' g = rectangle_turn Prim Commutes pairs_back g

cells_past_inverse : {x x' : Prim} {ys ys' : List Prim} → CellRow Commutes x ys ys' x' → CellRow Commutes (inv x) ys' ys (inv x')
cells_past_inverse none = none
cells_past_inverse (next {x} {y} {y'} {x1} c s) = next (pairs_past_inverse x y y' x1 c) (cells_past_inverse s)

past_inverse : {xs ys ys' xs' : List Prim} → ListsCommute xs ys ys' xs' → ListsCommute (inv_all xs) ys' ys (inv_all xs')
past_inverse empty = empty
past_inverse (row g s) = beside Prim Commutes (one Prim Commutes (cells_past_inverse s)) (past_inverse g)

pub lists_past_inverse : ListsCommutePastAnInverse
lists_past_inverse xs ys ys' xs' g = past_inverse g

pub list_laws : {xs ys ys' xs' : List Prim} → ListsCommute xs ys ys' xs' → ListLaws xs ys ys' xs'
list_laws {xs} {ys} {ys'} {xs'} h = record { ends_alike = lists_end_alike xs ys ys' xs' h; back = lists_back xs ys ys' xs' h; past_inverse = lists_past_inverse xs ys ys' xs' h }

-- inverses
leads_back : (p : Prim) (s t : LawfulMap) → Leads p s t → Leads (inv p) t s
leads_back p s t h = record { applies = undone p s.map t.map s.lawful t.lawful h.applies }

pub inverses_lead_back : InversesLeadBack
inverses_lead_back p s t = (leads_back p s t, λ h. rw (inv_inv p) at (leads_back (inv p) t s h))

all_lead_back : (ps : List Prim) (s t : LawfulMap) → LeadsAll ps s t → LeadsAll (inv_all ps) t s
all_lead_back [] s t done = done
all_lead_back (p ∷ ps) s t (step {u = u} h r) = runs_on Prim LawfulMap Leads (all_lead_back ps u t r) (step (leads_back p s u h) done)

inv_all-append : (xs ys : List Prim) → inv_all (xs ++ ys) ≡ inv_all ys ++ inv_all xs
inv_all-append [] ys = sym (append-nil (inv_all ys))
inv_all-append (x ∷ xs) ys = rw (inv_all-append xs ys) (append_assoc (inv_all ys) (inv_all xs) (inv x ∷ []))

pub inv_all-inv_all : (xs : List Prim) → inv_all (inv_all xs) ≡ xs
inv_all-inv_all [] = refl
inv_all-inv_all (x ∷ xs) = inv_all-append (inv_all xs) (inv x ∷ []) ∙ ap₂ (λ a b. a ∷ b) (inv_inv x) (inv_all-inv_all xs)

pub list_inverses_lead_back : ListInversesLeadBack
list_inverses_lead_back ps s t = (all_lead_back ps s t, λ h. rw (inv_all-inv_all ps) at (all_lead_back (inv_all ps) t s h))

-- two lists that start at one state, turned round: past an inverse, back, and past an inverse
pub rectangles_turn : RectanglesTurn
rectangles_turn r n n' r' g =
    let a : ListsCommute r n' n r' = rw (inv_all-inv_all r, inv_all-inv_all r') at (lists_past_inverse (inv_all r) n n' (inv_all r') g) in
    lists_past_inverse n r' r n' (lists_back r n' n r' a)

-- one answer
pub one_map : OneWayToApply
one_map p t u v l h k = same_map u v (applies_one p t u v l h k)

pub one_pair : OneWayToCommute
one_pair p q q1 p1 q2 p2 g h = commutes_one p q q1 p1 q2 p2 g h

pub one_pair_of_lists : OneWayToCommuteLists
one_pair_of_lists xs ys ys1 xs1 ys2 xs2 g h = lists_one g h
