-- What is told of folders that git takes for a repository.
use Rattle.std.proofs.Common.{◌≡◌, ◌<◌, ◌+◌, ℕ, Bool, true, false, ◌&&◌, ◌||◌, cond, List, [], ◌∷◌, ◌++◌, length, take, get_or, map, refl, sym, ap, ◌∙◌, Some, None}
use Rattle.std.specs.Prelude.{Option, codes, if◌then◌else◌}
use Rattle.std.specs.List.{flat_map, list_any}
use Rattle.std.specs.Str.{bytes_eq}
use Rattle.std.proofs.lemmas.Bool.{false≢true}
use Rattle.std.proofs.lemmas.List.{append-nil, map_more, map_push}
use Rattle.std.proofs.lemmas.List.Concat.{flat_map-append}
use Rattle.std.proofs.lemmas.List.Folds.{list_any-append}
use Rattle.dm_tree.specs.Paths.{Path}
use Rattle.dm_tree.specs.declared.listing.Listed.{Listed}
use Rattle.dm_checkout.specs.Places.{place_text}
use Rattle.dm_checkout.specs.Repositories.{AreParts, folder_text, has_beside, has_inside, is_called, is_head, refused_among, refused_when, why_unsafe}
use Rattle.dm_checkout.specs.Faults.{told}
use Rattle.dm_checkout.specs.declared.repositories.Parts.{Parts}
use Rattle.dm_checkout.specs.declared.fault.Refused.{Refused}
use Rattle.dm_checkout.specs.declared.fault.Why.{Why}
use Rattle.dm_checkout.specs.declared.fault.Why.TheVariants.{Obeyed, Repository}

and_true : (b y : Bool) → b ≡ true → y ≡ (b && y)
and_true true y e = refl
and_true false y e = absurd (false≢true e)

or_false : (b : Bool) → (b || false) ≡ b
or_false true = refl
or_false false = refl

or_turned : (b s : Bool) → cond b true s ≡ (s || b)
or_turned true true = refl
or_turned true false = refl
or_turned false true = refl
or_turned false false = refl

beside : (a b c d e f : Bool) → a ≡ d → b ≡ e → c ≡ f → (a || (b && c)) ≡ (d || (e && f))
beside a b c d e f p q r = cc (p, q, r)

-- a `HEAD` is told by what is beside it
pub head_told : (parts : Parts) (paths : List Path) (path : Path) (r : Bool) (folder : List ℕ) → is_called (codes "head") path ≡ true → folder ≡ folder_text path → AreParts paths parts → r ≡ has_beside parts folder → r ≡ is_head paths path
head_told parts paths path r folder called f are e =
    let at : r ≡ has_beside parts (folder_text path) = rw f at e in
    at
    ∙ beside _ _ _ _ _ _ (are.2 (folder_text path)) (are.0 (folder_text path)) (are.1 (folder_text path))
    ∙ and_true (is_called (codes "head") path) _ called

pub head_why : (o h : Bool) → o ≡ false → h ≡ true → ◌≡◌ {A = Option Why} (Some Repository) (if o then Some Obeyed else if h then Some Repository else None)
head_why o h p q = rw (p, q) refl

pub no_why : (o h : Bool) → o ≡ false → h ≡ false → ◌≡◌ {A = Option Why} None (if o then Some Obeyed else if h then Some Repository else None)
no_why o h p q = rw (p, q) refl

-- the paths of one row more
rows_more : {A : Type 0} (rows : List (Listed A)) (i : ℕ) (x : Listed A) → i < length rows → x ≡ get_or rows i x → map (λ (row : Listed A). row.path) (take (i + 1) rows) ≡ map (λ (row : Listed A). row.path) (take i rows) ++ x.path ∷ []
rows_more {A = A} rows i x lt is = map_more (λ (row : Listed A). row.path) rows i x lt ∙ ap (λ (y : Listed A). map (λ (row : Listed A). row.path) (take i rows) ++ y.path ∷ []) (sym is)

pub inside_more : {A : Type 0} (word : List ℕ) (rows : List (Listed A)) (i : ℕ) (x : Listed A) (folder : List ℕ) → i < length rows → x ≡ get_or rows i x → has_inside word (map (λ (row : Listed A). row.path) (take (i + 1) rows)) folder ≡ (has_inside word (map (λ (row : Listed A). row.path) (take i rows)) folder || (is_called word x.path && bytes_eq (folder_text x.path) folder))
inside_more {A = A} word rows i x folder lt is =
    let f : Path → Bool = λ path. is_called word path && bytes_eq (folder_text path) folder in
    let before : List Path = map (λ (row : Listed A). row.path) (take i rows) in
    ap (λ ps. list_any f ps) (rows_more rows i x lt is)
    ∙ list_any-append f before (x.path ∷ [])
    ∙ ap (λ b. list_any f before || b) (or_false (f x.path))

-- the folder of a path that is called so is added
pub folder_added : (now was so_far called same : Bool) → now ≡ cond same true was → was ≡ so_far → called ≡ true → now ≡ (so_far || (called && same))
folder_added now was so_far called same n w c = rw (n, w, c) (or_turned same so_far)

-- and that of another isn't
pub folder_passed : (was so_far called same : Bool) → was ≡ so_far → called ≡ false → was ≡ (so_far || (called && same))
folder_passed was so_far called same w c = rw (w, c) (sym (or_false so_far))

pub refused_more : {A : Type 0} (all : List Path) (rows : List (Listed A)) (i : ℕ) (x : Listed A) → i < length rows → x ≡ get_or rows i x → refused_among all (map (λ (row : Listed A). row.path) (take (i + 1) rows)) ≡ refused_among all (map (λ (row : Listed A). row.path) (take i rows)) ++ refused_when (why_unsafe all x.path) (place_text [] x.path)
refused_more {A = A} all rows i x lt is =
    let f : Path → List (List ℕ × Why) = λ path. refused_when (why_unsafe all path) (place_text [] path) in
    let before : List Path = map (λ (row : Listed A). row.path) (take i rows) in
    ap (flat_map f) (rows_more rows i x lt is)
    ∙ flat_map-append f before (x.path ∷ [])
    ∙ ap (λ xs. flat_map f before ++ xs) (append-nil (f x.path))

-- a path that is written tells nothing
pub none_more : (old : List (List ℕ × Why)) (why : Option Why) (place : List ℕ) → why ≡ None → old ≡ old ++ refused_when why place
none_more old why place e = rw e (sym (append-nil old))

-- and one that isn't, its place and why
pub some_more : (old now : List Refused) (why : Option Why) (w : Why) (place : List ℕ) (one : Refused) → why ≡ Some w → now ≡ old ++ one ∷ [] → one.place.bytes.items ≡ place → one.why ≡ w → told now ≡ told old ++ refused_when why place
some_more old now why w place one e n p k =
    rw e (ap told n ∙ map_push (λ (o : Refused). (o.place.bytes.items, o.why)) old one ∙ ap (λ x. told old ++ (x, one.why) ∷ []) p ∙ ap (λ y. told old ++ (place, y) ∷ []) k)
