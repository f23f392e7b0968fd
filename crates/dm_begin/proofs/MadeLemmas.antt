-- The primitives of the rows of a tree, made one row after the other.
use Rattle.std.proofs.Common.{◌≡◌, List, [], ◌∷◌, ◌++◌, map, drop, refl, sym, ap, ap₂, subst, ◌∙◌, Some, None, append-nil, append_assoc, Result, Ok, Err, IfOk}
use Rattle.std.proofs.lemmas.List.{map-append}
use Rattle.std.specs.FinMap.{entries, get, get-entries, entries_sorted, find}
use Rattle.dm_tree.specs.Paths.{Path}
use Rattle.dm_tree.specs.Listings.{listed_entry}
use Rattle.dm_tree.specs.declared.listing.Listed.{Listed}
use Rattle.dm_tree.specs.Trees.{Lines, Entry, File, Tree, path_cmp}
use Rattle.dm_tree.specs.Walks.{InOrder}
use Rattle.dm_prim.specs.Primitives.{Prim, At, AddFile}
use Rattle.dm_prim.specs.Prims.{prim_of, prims_of}
use Rattle.dm_prim.specs.declared.primitive.Primitive.{Primitive}
use Rattle.dm_begin.specs.Making.{filling, making, making_all, rows, tree_prims}
use Rattle.dm_begin.proofs.OrderLemmas.{Rows, in_order, found_here}

-- a file is added, and filled if there is something to fill it with
pub file_made : {Z T E : Type 0} (r : Result T E) (ps ps' qs : List (Primitive Z)) (p : Path) (ls : Lines) (x : Primitive Z) → ps' ≡ ps ++ x ∷ [] → prim_of x ≡ At p AddFile →
    IfOk r (λ _. prims_of qs ≡ prims_of ps' ++ filling p ls) → IfOk r (λ _. prims_of qs ≡ prims_of ps ++ making p (File ls))
file_made (Ok y) ps ps' qs p ls x new is h =
    h ∙ ap (λ l. l ++ filling p ls) (ap (map prim_of) new ∙ map-append prim_of ps (x ∷ []) ∙ ap (λ z. prims_of ps ++ z ∷ []) is) ∙ append_assoc (prims_of ps) (At p AddFile ∷ []) (filling p ls)
file_made (Err e) ps ps' qs p ls x new is h = h

making_on : (rs : Rows) (y : Path × Entry) → making_all (rs ++ y ∷ []) ≡ making_all rs ++ making y.0 y.1
making_on [] y = append-nil (making y.0 y.1)
making_on (r ∷ rs) y = ap (λ l. making r.0 r.1 ++ l) (making_on rs y) ∙ sym (append_assoc (making r.0 r.1) (making_all rs) (making y.0 y.1))

none_in : (xs : Rows) (y : Path × Entry) (ys : Rows) → [] ≡ xs ++ y ∷ ys → ⊥
none_in [] y ys e = absurd (cc)
none_in (x ∷ xs) y ys e = absurd (cc)

found_among : (es made : Rows) (y : Path × Entry) (left : Rows) → InOrder es → drop 1 es ≡ made ++ y ∷ left → find path_cmp y.0 es ≡ Some y.1
found_among [] made y left o e = absurd (none_in made y left e)
found_among (r ∷ es) made y left o e =
    subst (λ (l : Rows). find path_cmp y.0 (r ∷ l) ≡ Some y.1) (sym e) (found_here (r ∷ made) y left (subst (λ (l : Rows). InOrder (r ∷ l)) e o))

-- a row has what the tree has at its path
row_there : (t : Tree) (made : Rows) (y : Path × Entry) (left : Rows) → rows t ≡ made ++ y ∷ left → get t y.0 ≡ Some y.1
row_there t made y left at = get-entries t y.0 ∙ found_among (entries t) made y left (in_order (entries t) (entries_sorted t)) at

module _ {A : Type 0} (t : Tree) where
  -- these rows of the listing are to come, and the primitives of those before them are made
  pub record Made (rest : List (Listed A)) (ps : List Prim) : Type 0 where
    pub made : Rows
    pub left : Rows
    pub all : rows t ≡ made ++ left
    pub listed : rest ≡ map listed_entry left
    pub so_far : ps ≡ making_all made

  pub made_first : (rest : List (Listed A)) (ps : List Prim) → rest ≡ map listed_entry (rows t) → ps ≡ [] → Made rest ps
  made_first rest ps e none = record { made = []; left = rows t; all = refl; listed = e; so_far = none }

  module _ (rest rest' : List (Listed A)) (row : Listed A) (at : rest ≡ row ∷ rest') where
    -- the row that comes
    record Next (made left : Rows) : Type 0 where
      pub y : Path × Entry
      pub after : Rows
      pub next : left ≡ y ∷ after
      pub there : get t row.path ≡ Some y.1
      pub path : row.path ≡ y.0
      pub listed : rest' ≡ map listed_entry after

    next_row : (made left : Rows) → rows t ≡ made ++ left → rest ≡ map listed_entry left → Next made left
    next_row made [] all l = let e : row ∷ rest' ≡ [] = sym at ∙ l in absurd (cc)
    next_row made (y ∷ left) all l =
        let e : row ∷ rest' ≡ listed_entry y ∷ map listed_entry left = sym at ∙ l in
        let r : row ≡ listed_entry y = cc in
        let q : rest' ≡ map listed_entry left = cc in
        let p : row.path ≡ y.0 = ap (λ (x : Listed A). x.path) r in
        record { y = y; after = left; next = refl; there = ap (get t) p ∙ row_there t made y left all; path = p; listed = q }

    -- it stands in the tree
    pub never_missing : (ps : List Prim) → Made rest ps → get t row.path ≡ None → ⊥
    never_missing ps m none =
        let n = next_row m.made m.left m.all m.listed in
        let clash : Some n.y.1 ≡ None = sym n.there ∙ none in
        absurd (cc)

    pub made_more : (ps ps' : List Prim) (e : Entry) → Made rest ps → get t row.path ≡ Some e → ps' ≡ ps ++ making row.path e → Made rest' ps'
    made_more ps ps' e m here new =
        let n = next_row m.made m.left m.all m.listed in
        let same : Some e ≡ Some n.y.1 = sym here ∙ n.there in
        let is : e ≡ n.y.1 = cc in
        record {
          made = m.made ++ n.y ∷ [];
          left = n.after;
          all = m.all ∙ ap (λ l. m.made ++ l) n.next ∙ sym (append_assoc m.made (n.y ∷ []) n.after);
          listed = n.listed;
          so_far = new ∙ ap₂ (λ a b. a ++ b) m.so_far (ap₂ making n.path is) ∙ sym (making_on m.made n.y);
        }

  pub made_all : (rest : List (Listed A)) (ps : List Prim) → Made rest ps → rest ≡ [] → ps ≡ tree_prims t
  made_all rest ps m e = by m.left m.all m.listed
    where
      by : (left : Rows) → rows t ≡ m.made ++ left → rest ≡ map listed_entry left → ps ≡ tree_prims t
      by [] all l = m.so_far ∙ ap making_all (sym (append-nil m.made) ∙ sym all)
      by (y ∷ left) all l = let clash : [] ≡ listed_entry y ∷ map listed_entry left = sym e ∙ l in absurd (cc)
