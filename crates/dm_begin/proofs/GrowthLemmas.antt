-- The primitives that make a tree, applied in turn from the root alone.
use Rattle.std.proofs.Common.{◌≡◌, ◌≢◌, Bool, true, false, ◌&&◌, ◌==◌, cond, List, [], ◌∷◌, ◌++◌, length, refl, sym, ap, ap₂, ◌∙◌, Some, None, append-nil, append_assoc}
use Rattle.std.specs.FinMap.{entries, get, get-entries, entries_sorted, find}
use Rattle.std.specs.FinMap.Entries.{find-append}
use Rattle.std.specs.Ordering.{eq_by_cmp}
use Rattle.dm_tree.specs.Limits.{most_names}
use Rattle.dm_tree.specs.Paths.{Path}
use Rattle.dm_tree.specs.Trees.{Lines, Entry, Dir, File, Map, Tree, HasParent, IsLawful, Deep, empty_file, path_cmp}
use Rattle.dm_tree.specs.Walks.{InOrder}
use Rattle.dm_tree.proofs.Trees.{path_total}
use Rattle.dm_prim.specs.InTurn.{InTurn, done, step}
use Rattle.dm_prim.specs.Primitives.{Prim, At, AddFile, Hunk, LawfulMap}
use Rattle.dm_prim.proofs.Single.{same_map}
use Rattle.dm_prim.proofs.Undoing.{parent_of}
use Rattle.dm_repo.specs.Folds.{LeadsShallowly}
use Rattle.std.proofs.lemmas.Bool.{eqb-true}
use Rattle.dm_repo.proofs.NameLemmas.{no_length}
use Rattle.dm_repo.proofs.Making.{not_below}
use Rattle.dm_repo.proofs.Staircases.{runs_on}
use Rattle.dm_begin.specs.Making.{is_blank, making, making_all}
use Rattle.dm_begin.proofs.OrderLemmas.{Rows, before_child, in_order, none_sooner, found_here, found_sooner}
use Rattle.dm_begin.proofs.StepLemmas.{put, MayAdd, put_shallow, adds_dir, adds_file, fills_file, dir_lawful, file_lawful, filled_lawful}

-- primitives lead on from a map, and make this one
pub record LeadsTo (ps : List Prim) (s : LawfulMap) (m : Map) : Type 0 where
  pub end : LawfulMap
  pub is : end.map ≡ m
  pub leads : InTurn LeadsShallowly ps s end

-- an empty file has one line without a byte
blank_same : (ls : Lines) → is_blank ls ≡ true → ls ≡ [] ∷ []
blank_same [] e = cc
blank_same (l ∷ ls) e =
    let a = both_so (length l == 0) (length ls == 0) e in
    ap₂ (λ x y. x ∷ y) (no_length l (eqb-true (length l) 0 a.0)) (no_length ls (eqb-true (length ls) 0 a.1))
  where
    both_so : (a b : Bool) → (a && b) ≡ true → (a ≡ true) × (b ≡ true)
    both_so true b e = (refl, e)
    both_so false b e = (cc, cc)

module _ (s : LawfulMap) (p : Path) (a : MayAdd s.map p) where
  with_dir : LeadsTo (making p Dir) s (put s.map p Dir)
  with_dir = record {
    end = record { map = put s.map p Dir; lawful = dir_lawful s.map p a };
    is = refl;
    leads = step (record { leads = record { applies = adds_dir s.map p a }; shallow = put_shallow s.map p a Dir; small = λ l. l }) done;
  }

  empty_there : LawfulMap
  empty_there = record { map = put s.map p empty_file; lawful = file_lawful s.map p a }

  file_added : LeadsShallowly (At p AddFile) s empty_there
  unfolding empty_there
  file_added = record { leads = record { applies = adds_file s.map p a }; shallow = put_shallow s.map p a empty_file; small = λ l. l }

  filled : (ls : Lines) → ls ≢ [] → (b : Bool) → is_blank ls ≡ b → LeadsTo (cond b [] (At p (Hunk 1 ([] ∷ []) ls) ∷ [])) empty_there (put s.map p (File ls))
  unfolding empty_there
  filled ls some true e = record { end = empty_there; is = ap (λ l. put s.map p (File l)) (sym (blank_same ls e)); leads = done }
  filled ls some false e = record {
    end = record { map = put s.map p (File ls); lawful = filled_lawful s.map p a ls some };
    is = refl;
    leads = step (record { leads = record { applies = fills_file s.map p a ls some }; shallow = put_shallow s.map p a (File ls); small = λ l. l }) done;
  }

  with_entry : (e : Entry) → ((ls : Lines) → e ≡ File ls → ls ≢ []) → LeadsTo (making p e) s (put s.map p e)
  with_entry Dir some = with_dir
  with_entry (File ls) some = let f = filled ls (some ls refl) (is_blank ls) refl in record { end = f.end; is = f.is; leads = step file_added f.leads }

-- a tree that is lawful and not too deep
module _ (t : Tree) (lawful : IsLawful (get t)) (shallow : Deep (get t) → ⊥) where
  -- so many of its entries are there
  pub record Stands (made : Rows) (s : LawfulMap) : Type 0 where
    pub is : (q : Path) → s.map q ≡ find path_cmp q made
    pub shallow_so_far : Deep s.map → ⊥

  -- the next one may be added
  module _ (made : Rows) (y : Path × Entry) (left : Rows) (all : entries t ≡ made ++ y ∷ left) (s : LawfulMap) (so_far : Stands made s) where
    order : InOrder (made ++ y ∷ left)
    order = rw all at (in_order (entries t) (entries_sorted t))

    there : get t y.0 ≡ Some y.1
    there = get-entries t y.0 ∙ ap (find path_cmp y.0) all ∙ found_here made y left order

    absent : s.map y.0 ≡ None
    absent = so_far.is y.0 ∙ none_sooner made y left order

    off_root : y.0 ≢ []
    off_root e = let r : s.map [] ≡ Some Dir = s.lawful.root in let n : s.map [] ≡ None = ap s.map (sym e) ∙ absent in let clash : Some Dir ≡ None = sym r ∙ n in absurd (cc)

    some_there : get t y.0 ≢ None
    some_there n = let clash : Some y.1 ≡ None = sym there ∙ n in absurd (cc)

    parent : HasParent y.0 (get t) → HasParent y.0 s.map
    parent (q, n, e, d) =
        let sooner : find path_cmp q (made ++ y ∷ left) ≡ find path_cmp q made = found_sooner q made y left order (rw e (before_child q n)) in
        (q, n, e, so_far.is q ∙ sym sooner ∙ ap (find path_cmp q) (sym all) ∙ sym (get-entries t q) ∙ d)

    may_add : MayAdd s.map y.0
    may_add = record {
      lawful = s.lawful;
      shallow = so_far.shallow_so_far;
      parent = parent (parent_of (get t) lawful y.0 off_root some_there);
      absent = absent;
      short = not_below most_names (length y.0) (λ l. shallow (y.0, l, some_there));
    }

    has_lines : (ls : Lines) → y.1 ≡ File ls → ls ≢ []
    has_lines ls e = lawful.lines y.0 ls (there ∙ ap Some e)

    one_more : LeadsTo (making y.0 y.1) s (put s.map y.0 y.1)
    one_more = with_entry s y.0 may_add y.1 has_lines

    stands_more : Stands (made ++ y ∷ []) one_more.end
    stands_more = record {
      is = λ q. ap (λ (m : Map). m q) one_more.is ∙ ap (λ x. cond (eq_by_cmp path_cmp q y.0) (Some y.1) x) (so_far.is q) ∙ sym (find-append path_cmp path_total made y.0 y.1 q (none_sooner made y left order));
      shallow_so_far = λ d. put_shallow s.map y.0 may_add y.1 (rw one_more.is at d);
    }

  pub grows : (made left : Rows) → entries t ≡ made ++ left → (s : LawfulMap) → Stands made s → LeadsTo (making_all left) s (get t)
  grows made [] all s so_far = record {
    end = s;
    is = same_map s.map (get t) (λ q. so_far.is q ∙ ap (find path_cmp q) (sym (append-nil made)) ∙ ap (find path_cmp q) (sym all) ∙ sym (get-entries t q));
    leads = done;
  }
  grows made (y ∷ left) all s so_far =
      let one = one_more made y left all s so_far in
      let rest = grows (made ++ y ∷ []) left (all ∙ sym (append_assoc made (y ∷ []) left)) one.end (stands_more made y left all s so_far) in
      record { end = rest.end; is = rest.is; leads = runs_on one.leads rest.leads }
