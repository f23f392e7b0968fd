-- How a walk grows by a listing and by a row.
use Rattle.std.proofs.Common.{◌≡◌, ◌<◌, ◌≤◌, ◌+◌, ℕ, Bool, true, false, List, [], ◌∷◌, ◌++◌, length, take, drop, get_or, refl, sym, ap, ◌∙◌, subst, arith}
use Rattle.std.proofs.lemmas.List.{append-nil, drop_more, get_or-map, get_or_default, length-append, length-map, map_push, take-append-drop, take-append-le, take_all, take_more}
use Rattle.std.proofs.lemmas.List.Concat.{flat_map-append}
use Rattle.std.specs.List.{flat_map}
use Rattle.dm_tree.specs.Paths.{Path}
use Rattle.dm_checkout.specs.Places.{place_text}
use Rattle.dm_folder.specs.Found.{Told}
use Rattle.dm_folder.specs.Walks.{AreTold, IsWalk, Listing, dirs, refused_of_listing, rows_in, rows_of_listing}
use Rattle.dm_folder.specs.Faults.{IsNext, Then}
use Rattle.dm_folder.specs.declared.fault.Why.{Why}
use Rattle.dm_folder.specs.declared.row.Row.{Row}
use Rattle.dm_folder.specs.declared.walking.Special.{Special}

flat_push : {X A : Type 0} (f : X → List A) (xs : List X) (x : X) → flat_map f (xs ++ x ∷ []) ≡ flat_map f xs ++ f x
flat_push f xs x = flat_map-append f xs (x ∷ []) ∙ ap (λ ys. flat_map f xs ++ ys) (append-nil (f x))

told_push : (lists : List ℕ → List Told → Type 0) (top : List ℕ) (ls : List Listing) (l : Listing) → AreTold lists top ls → lists (place_text top l.0) l.1 → AreTold lists top (ls ++ l ∷ [])
told_push lists top [] l all one = (one, tt)
told_push lists top (m ∷ ls) l all one = (all.0, told_push lists top ls l all.1 one)

-- a directory more at the end
dirs_more : (rows : List (Path × Bool)) (p : Path) → dirs (rows ++ (p, true) ∷ []) ≡ dirs rows ++ p ∷ []
dirs_more [] p = refl
dirs_more ((q, true) ∷ rows) p = ap (λ ps. q ∷ ps) (dirs_more rows p)
dirs_more ((q, false) ∷ rows) p = dirs_more rows p

-- a file more at the end
dirs_same : (rows : List (Path × Bool)) (p : Path) → dirs (rows ++ (p, false) ∷ []) ≡ dirs rows
dirs_same [] p = refl
dirs_same ((q, true) ∷ rows) p = ap (λ ps. q ∷ ps) (dirs_same rows p)
dirs_same ((q, false) ∷ rows) p = dirs_same rows p

-- the folder itself is listed
pub walk_first : (lists : List ℕ → List Told → Type 0) (s : Special) (top : List ℕ) (found : List Told) (rows : List (Path × Bool)) (refused : List (List ℕ × Why)) → lists (place_text top []) found → rows ≡ rows_of_listing s ([], found) → refused ≡ refused_of_listing s top ([], found) → IsWalk lists s top [] rows refused
walk_first lists s top found rows refused said r f = record {
  listings = ([], found) ∷ [];
  are_told = (said, tt);
  in_turn = refl;
  rows_are = r ∙ sym (append-nil (rows_of_listing s ([], found)));
  refused_are = f ∙ sym (append-nil (refused_of_listing s top ([], found)));
}

-- the next row is a directory, which is listed
pub walk_more : (lists : List ℕ → List Told → Type 0) (s : Special) (top : List ℕ) (i : ℕ) (d : Path × Bool) (p : Path) (found : List Told) (rows more : List (Path × Bool)) (refused now : List (List ℕ × Why)) → IsWalk lists s top (take i rows) rows refused → i < length rows → get_or rows i d ≡ (p, true) → lists (place_text top p) found → more ≡ rows ++ rows_of_listing s (p, found) → now ≡ refused ++ refused_of_listing s top (p, found) → IsWalk lists s top (take (i + 1) more) more now
walk_more lists s top i d p found rows more refused now w lt at said r f =
    let l : Listing = (p, found) in
    let taken : take (i + 1) more ≡ take i rows ++ (p, true) ∷ [] =
    ap (take (i + 1)) r ∙ take-append-le (i + 1) rows (rows_of_listing s l) (omega arith) ∙ take_more rows i d lt ∙ ap (λ x. take i rows ++ x ∷ []) at in
    record {
      listings = w.listings ++ l ∷ [];
      are_told = told_push lists top w.listings l w.are_told said;
      in_turn = map_push (λ (x : Listing). x.0) w.listings l ∙ ap (λ ps. ps ++ p ∷ []) w.in_turn ∙ ap (λ ps. [] ∷ ps) (sym (ap dirs taken ∙ dirs_more (take i rows) p));
      rows_are = r ∙ ap (λ xs. xs ++ rows_of_listing s l) w.rows_are ∙ sym (flat_push (rows_of_listing s) w.listings l);
      refused_are = f ∙ ap (λ xs. xs ++ refused_of_listing s top l) w.refused_are ∙ sym (flat_push (refused_of_listing s top) w.listings l);
    }

-- the next row is a file
pub walk_on : (lists : List ℕ → List Told → Type 0) (s : Special) (top : List ℕ) (i : ℕ) (d : Path × Bool) (p : Path) (rows : List (Path × Bool)) (refused : List (List ℕ × Why)) → IsWalk lists s top (take i rows) rows refused → i < length rows → get_or rows i d ≡ (p, false) → IsWalk lists s top (take (i + 1) rows) rows refused
walk_on lists s top i d p rows refused w lt at =
    let taken : take (i + 1) rows ≡ take i rows ++ (p, false) ∷ [] = take_more rows i d lt ∙ ap (λ x. take i rows ++ x ∷ []) at in
    record {
      listings = w.listings;
      are_told = w.are_told;
      in_turn = w.in_turn ∙ ap (λ ps. [] ∷ ps) (sym (ap dirs taken ∙ dirs_same (take i rows) p));
      rows_are = w.rows_are;
      refused_are = w.refused_are;
    }

-- no row is left
pub walk_end : (lists : List ℕ → List Told → Type 0) (s : Special) (top : List ℕ) (i : ℕ) (rows : List (Path × Bool)) (refused : List (List ℕ × Why)) → IsWalk lists s top (take i rows) rows refused → length rows ≤ i → IsWalk lists s top rows rows refused
walk_end lists s top i rows refused w end = rw (take_all i rows end) at w

-- the row at a place, and those before and after it
pub parted : (i : ℕ) (d : Path × Bool) (p : Path) (rows : List (Path × Bool)) → i < length rows → get_or rows i d ≡ (p, true) → rows ≡ take i rows ++ (p, true) ∷ drop (i + 1) rows
parted i d p rows lt at = sym (take-append-drop i rows) ∙ ap (λ xs. take i rows ++ xs) (drop_more rows i d lt) ∙ ap (λ x. take i rows ++ x ∷ drop (i + 1) rows) at

-- the next directory
pub next : (lists : List ℕ → List Told → Type 0) (s : Special) (top : List ℕ) (i : ℕ) (d : Path × Bool) (p : Path) (rows : List (Path × Bool)) (refused : List (List ℕ × Why)) → IsWalk lists s top (take i rows) rows refused → i < length rows → get_or rows i d ≡ (p, true) → IsNext lists s top p
next lists s top i d p rows refused w lt at =
    let P : List (Path × Bool) → Type 0 = λ xs. IsWalk lists s top (take i rows) xs refused in
    Then (take i rows) (drop (i + 1) rows) refused (subst P (parted i d p rows lt at) w)

-- as long as the code's rows
pub as_many : (rows : List Row) → length (rows_in rows) ≡ length rows
as_many rows = length-map rows (λ (r : Row). (r.path, r.is_dir))

-- the row at a place of the code's rows
pub row_here : (rows : List Row) (i : ℕ) (x : Row) → i < length rows → x ≡ get_or rows i x → (d : Path × Bool) → get_or (rows_in rows) i d ≡ (x.path, x.is_dir)
row_here rows i x lt is d = get_or-map (λ (r : Row). (r.path, r.is_dir)) rows i x d lt ∙ ap (λ (r : Row). (r.path, r.is_dir)) (sym is)

-- and it is a directory, whose path was copied
pub dir_here : (rows : List Row) (i : ℕ) (x y : Row) (p : Path) → i < length rows → x ≡ get_or rows i x → x.is_dir ≡ true → y ≡ get_or rows i y → p ≡ y.path → get_or (rows_in rows) i (p, true) ≡ (p, true)
dir_here rows i x y p lt is dir also path =
    let one : y ≡ x = also ∙ get_or_default rows i y x lt ∙ sym is in
    row_here rows i x lt is (p, true) ∙ cc (path, dir, one)

-- the rows up to and with that at a place
pub row_taken : (rows : List Row) (i : ℕ) (x : Row) → i < length rows → x ≡ get_or rows i x → take (i + 1) (rows_in rows) ≡ take i (rows_in rows) ++ (x.path, x.is_dir) ∷ []
row_taken rows i x lt is =
    take_more (rows_in rows) i (x.path, x.is_dir) (omega (arith, as_many rows, lt))
    ∙ ap (λ r. take i (rows_in rows) ++ r ∷ []) (row_here rows i x lt is (x.path, x.is_dir))

-- rows do not get fewer
pub grown : (rows now : List Row) (more : List (Path × Bool)) → rows_in now ≡ rows_in rows ++ more → length rows ≤ length now
grown rows now more e =
    omega (arith, as_many rows, as_many now, length-append (rows_in rows) more, ap length e)

-- the rows before and after that at a place
pub row_parted : (rows : List Row) (i : ℕ) (x : Row) → i < length rows → x ≡ get_or rows i x → rows_in rows ≡ take i (rows_in rows) ++ (x.path, x.is_dir) ∷ drop (i + 1) (rows_in rows)
row_parted rows i x lt is =
    sym (take-append-drop i (rows_in rows))
    ∙ ap (λ xs. take i (rows_in rows) ++ xs) (drop_more (rows_in rows) i (x.path, x.is_dir) (omega (arith, as_many rows, lt)))
    ∙ ap (λ r. take i (rows_in rows) ++ r ∷ drop (i + 1) (rows_in rows)) (row_here rows i x lt is (x.path, x.is_dir))
