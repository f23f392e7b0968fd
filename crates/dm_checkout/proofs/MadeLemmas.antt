-- What is made for one row after the other, and how far a checkout came.
use Rattle.std.proofs.Common.{◌≡◌, ◌<◌, inl, inr, ℕ, ◌+◌, List, [], ◌∷◌, ◌++◌, length, get_or, take, drop, map, refl, sym, ap, ◌∙◌, Some, None, Result, Ok, Err, OnErr, append_assoc, append-nil, arith}
use Rattle.std.proofs.lemmas.List.{drop_more, length-map, map-append, map_more, take-append-drop}
use Rattle.std.specs.Prelude.{Option}
use Rattle.std.specs.FinMap.{get}
use Rattle.dm_tree.specs.Paths.{Path}
use Rattle.dm_tree.specs.Trees.{Entry, Tree, Dir, File}
use Rattle.dm_tree.specs.Listings.{listed_entry}
use Rattle.dm_tree.specs.declared.listing.Listed.{Listed}
use Rattle.dm_checkout.specs.Places.{place_text}
use Rattle.dm_checkout.specs.Contents.{IsContent}
use Rattle.dm_checkout.specs.Made.{Made, Taken, MadeFile, MadePart, IsBegun, made_all, made_of, rows}
use Rattle.dm_checkout.specs.Faults.{HasBegun, HasFault, IsAllowed, IsFolderFault, IsNamesFault, IsPartOf, IsUtf8Fault, IsWriteFault, made_content, made_item, refused_in}
use Rattle.dm_checkout.specs.declared.item.Item.{Item}
use Rattle.dm_checkout.specs.declared.item.Content.{Content}
use Rattle.dm_checkout.specs.declared.item.Content.TheVariants as content
use Rattle.dm_checkout.specs.declared.fault.CheckoutFault.{CheckoutFault}
use Rattle.dm_checkout.specs.declared.fault.CheckoutFault.TheVariants.{Folder, NotUtf8, UnsafeNames, Unwritten, NoMemory}
use Rattle.dm_checkout.specs.declared.names.Names.{Names}
use Rattle.dm_checkout.specs.declared.names.Names.TheVariants.{Safe, All}
use Rattle.dm_checkout.proofs.RowLemmas.{listed_path, row_at}

pub on_err : {T E : Type 0} (r : Result T E) (P : Type 0) → P → OnErr r P
on_err (Ok x) P p = tt
on_err (Err e) P p = p

content_made : (folder : List ℕ) (p : Path) (e : Entry) (place : List ℕ) (c : Option Content) → place ≡ place_text folder p → IsContent (Some e) c → made_content place c ≡ made_of folder (p, e) ∷ []
content_made folder p Dir place None is h = absurd h
content_made folder p Dir place (Some content.Folder) is h = rw is refl
content_made folder p Dir place (Some (content.File bytes)) is h = absurd h
content_made folder p (File lines) place None is h = absurd h
content_made folder p (File lines) place (Some content.Folder) is h = absurd h
content_made folder p (File lines) place (Some (content.File bytes)) is h = rw (is, h) refl

pub rows_long : {A : Type 0} (rs : List (Path × Entry)) (ls : List (Listed A)) (k : ℕ) → ls ≡ map listed_entry rs → k < length ls → k < length rs
rows_long {A = A} rs ls k is lt = omega (arith, lt, ap length is, length-map rs (listed_entry {A = A}))

-- an item of the path of a row is what is made for the row
pub item_made : {A : Type 0} (folder : List ℕ) (t : Tree) (k : ℕ) (d : Path × Entry) (ls : List (Listed A)) (l : Listed A) (item : Item) → ls ≡ map listed_entry (rows t) → k < length ls → item.place.items ≡ place_text folder (get_or ls k l).path → IsContent (get t (get_or ls k l).path) item.content → made_item item ≡ made_of folder (get_or (rows t) k d) ∷ []
item_made folder t k d ls l item is lt place h =
    let row : Path × Entry = get_or (rows t) k d in
    let within : k < length (rows t) = rows_long (rows t) ls k is lt in
    let path : (get_or ls k l).path ≡ row.0 = ap (λ x. x.path) (listed_path (rows t) ls k d l is within) in
    let found : get t (get_or ls k l).path ≡ Some row.1 = rw path (row_at t k d within) in
    content_made folder row.0 row.1 item.place.items item.content (place ∙ ap (place_text folder) path) (rw found at h)

-- one row more
pub row_more : (f : Path × Entry → Made) (rs : List (Path × Entry)) (k : ℕ) (d : Path × Entry) (start before after one : List Made) → k < length rs → before ≡ start ++ map f (take k rs) → one ≡ f (get_or rs k d) ∷ [] → after ≡ before ++ one → after ≡ start ++ map f (take (k + 1) rs)
row_more f rs k d start before after one lt b o a = rw (map_more f rs k d lt) (rw (a, b, o) (append_assoc start (map f (take k rs)) (f (get_or rs k d) ∷ [])))

-- the rows so far are the first of all
pub rows_begun : (f : Path × Entry → Made) (rs : List (Path × Entry)) (k : ℕ) (start before : List Made) → before ≡ start ++ map f (take k rs) → (done : List Made) × (before ≡ start ++ done) × IsBegun (map f rs) done
rows_begun f rs k start before b =
    (map f (take k rs), b, inl (map f (drop k rs), ap (map f) (sym (take-append-drop k rs)) ∙ map-append f (take k rs) (drop k rs)))

-- and so they are where the next row failed
pub part_begun : (f : Path × Entry → Made) (rs : List (Path × Entry)) (k : ℕ) (d : Path × Entry) (start before after : List Made) (item : Item) → k < length rs → before ≡ start ++ map f (take k rs) → made_item item ≡ f (get_or rs k d) ∷ [] → IsPartOf item before after → (done : List Made) × (after ≡ start ++ done) × IsBegun (map f rs) done
part_begun f rs k d start before after item lt b o (inl same) = rows_begun f rs k start after (same ∙ b)
part_begun f rs k d start before after item lt b o (inr part) =
    let place : List ℕ = item.place.items in
    let all : map f rs ≡ map f (take k rs) ++ f (get_or rs k d) ∷ map f (drop (k + 1) rs) =
    ap (map f) (sym (take-append-drop k rs)) ∙ map-append f (take k rs) (drop k rs) ∙ ap (λ xs. map f (take k rs) ++ map f xs) (drop_more rs k d lt) in
    let one : f (get_or rs k d) ∷ [] ≡ MadeFile place part.0 ∷ [] = sym o ∙ part.1 in
    let first : f (get_or rs k d) ≡ MadeFile place part.0 = cc in (
      map f (take k rs) ++ MadePart place ∷ [],
      part.2 ∙ ap (λ xs. xs ++ MadePart place ∷ []) b ∙ append_assoc start (map f (take k rs)) (MadePart place ∷ []),
      inr (map f (take k rs), place, part.0, map f (drop (k + 1) rs), all ∙ ap (λ x. map f (take k rs) ++ x ∷ map f (drop (k + 1) rs)) first, refl),
    )

-- with the folder before them
more_begun : (m : Made) (all done : List Made) → IsBegun all done → IsBegun (m ∷ all) (m ∷ done)
more_begun m all done (inl x) = inl (x.0, ap (λ xs. m ∷ xs) x.1)
more_begun m all done (inr x) = inr (m ∷ x.0, x.1, x.2, x.3, ap (λ xs. m ∷ xs) x.4, ap (λ xs. m ∷ xs) x.5)

none_begun : (folder : List ℕ) (t : Tree) (before : List Made) → HasBegun folder t before before
none_begun folder t before = ([], sym (append-nil before), inl (made_all folder t, refl))

pub paths_listed : (A : Type 0) (rs : List (Path × Entry)) → map (λ (row : Listed A). row.path) (map listed_entry rs) ≡ map (λ row. row.0) rs
paths_listed A [] = refl
paths_listed A (r ∷ rs) = ap (λ ps. r.0 ∷ ps) (paths_listed A rs)

pub allowed : (names : Names) (t : Tree) → (names ≡ Safe → refused_in t ≡ []) → IsAllowed names t
allowed Safe t h = h refl
allowed All t h = tt

pub names_fault : (names : Names) (folder : List ℕ) (t : Tree) (before : List Made) (e : CheckoutFault) → IsNamesFault names (refused_in t) e → HasFault names folder t before before e
names_fault names folder t before (UnsafeNames places) h = (h.0, h.1, h.2, refl)
names_fault names folder t before (NotUtf8 place) h = absurd h
names_fault names folder t before (Folder error) h = absurd h
names_fault names folder t before (Unwritten place error) h = absurd h
names_fault names folder t before NoMemory h = none_begun folder t before

pub utf8_fault : (names : Names) (folder : List ℕ) (t : Tree) (before : List Made) (e : CheckoutFault) → IsAllowed names t → IsUtf8Fault e → HasFault names folder t before before e
utf8_fault names folder t before (UnsafeNames places) may h = absurd h
utf8_fault names folder t before (NotUtf8 place) may h = (may, refl)
utf8_fault names folder t before (Folder error) may h = absurd h
utf8_fault names folder t before (Unwritten place error) may h = absurd h
utf8_fault names folder t before NoMemory may h = none_begun folder t before

pub folder_fault : (names : Names) (folder : List ℕ) (t : Tree) (before after : List Made) (e : CheckoutFault) → IsAllowed names t → after ≡ before → IsFolderFault e → HasFault names folder t before after e
folder_fault names folder t before after (UnsafeNames places) may same h = absurd h
folder_fault names folder t before after (NotUtf8 place) may same h = absurd h
folder_fault names folder t before after (Folder error) may same h = (may, same)
folder_fault names folder t before after (Unwritten place error) may same h = absurd h
folder_fault names folder t before after NoMemory may same h = absurd h

rows_more : (folder : List ℕ) (t : Tree) (before taken after : List Made) → taken ≡ before ++ Taken folder ∷ [] → (done : List Made) × (after ≡ taken ++ done) × IsBegun (map (made_of folder) (rows t)) done → HasBegun folder t before after
rows_more folder t before taken after is x =
    (Taken folder ∷ x.0, rw is at x.1 ∙ append_assoc before (Taken folder ∷ []) x.0, more_begun (Taken folder) (map (made_of folder) (rows t)) x.0 x.2)

pub write_fault : (names : Names) (folder : List ℕ) (t : Tree) (before taken after : List Made) (e : CheckoutFault) → IsAllowed names t → taken ≡ before ++ Taken folder ∷ [] → (done : List Made) × (after ≡ taken ++ done) × IsBegun (map (made_of folder) (rows t)) done → IsWriteFault e → HasFault names folder t before after e
write_fault names folder t before taken after (UnsafeNames places) may is x h = absurd h
write_fault names folder t before taken after (NotUtf8 place) may is x h = absurd h
write_fault names folder t before taken after (Folder error) may is x h = absurd h
write_fault names folder t before taken after (Unwritten place error) may is x h = (may, rows_more folder t before taken after is x)
write_fault names folder t before taken after NoMemory may is x h = rows_more folder t before taken after is x
