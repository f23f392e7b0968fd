-- The value of a patch has no float, and isn't deep.
use Rattle.std.proofs.Common.{◌≡◌, ◌≤◌, ℕ, suc, Bool, true, false, List, [], ◌∷◌, ◌++◌, map, Ordering, Less, Equal, Greater, nat_cmp, refl, arith}
use Rattle.std.proofs.lemmas.Bool.{or_parts}
use Rattle.std.specs.Prelude.{codes}
use Rattle.std.specs.Cmp.Lexicographic.{slice_cmp}
use Rattle.std.specs.List.{list_all}
use Rattle.std.specs.Ordering.{match_ordering}
use Rattle.std.specs.Str.{is_utf8}
use Rattle.serde_json.specs.Data.{Data, array, boolean, number, object, string, unsigned, Items, Members, no_members, member, put, depth, items_depth, members_depth}
use Rattle.serde_json.specs.Read.{max_depth}
use Rattle.serde_json.specs.View.{items_of}
use Rattle.serde_json.specs.Written.{has_float, items_have_float, members_have_float}
use Rattle.dm_hex.specs.Contents.{content}
use Rattle.dm_info.specs.PatchInfo.{PatchInfo}
use Rattle.dm_tree.specs.Paths.{Path}
use Rattle.dm_prim.specs.Primitives.{Prim, At, ChangePref, Move, Work, AddDir, AddFile, Binary, Hunk, Replace, RmDir, RmFile}
use Rattle.dm_named.specs.Patches.{Patch}
use Rattle.dm_named.specs.Replaces.{bracketed}
use Rattle.dm_log.specs.Dates.{iso_date}
use Rattle.dm_log.specs.Entries.{begins}
use Rattle.dm_log.specs.Finding.{hash_text}
use Rattle.dm_log.specs.Json.{array_of, at_path, change_data, change_members, dotted, hex_beside, in_hex, info_members, of_kind, patch_data, patch_members, readable, texts, told, with_lines, with_text, work_members}

-- no float, and so deep at most
abbrev pub Fits : ℕ → Data → Type 0
Fits n d = (has_float d ≡ false) × (depth d ≤ n)

abbrev ItemsFit : ℕ → Items → Type 0
ItemsFit n ds = (items_have_float ds ≡ false) × (items_depth ds ≤ n)

abbrev pub MembersFit : ℕ → Members → Type 0
MembersFit n ms = (members_have_float ms ≡ false) × (members_depth ms ≤ n)

pub fit_string : (n : ℕ) (s : List ℕ) → Fits n (string s)
fit_string n s = (refl, omega arith)

pub fit_none : (n : ℕ) → MembersFit n no_members
fit_none n = (refl, omega arith)

fit_member : (n : ℕ) (k : List ℕ) (d : Data) (ms : Members) → Fits n d → MembersFit n ms → MembersFit n (member k d ms)
fit_member n k d ms p q = (rw p.0 q.0, omega (arith, p.1, q.1))

fit_ordered : (n : ℕ) (o : Ordering) (a b c : Members) → MembersFit n a → MembersFit n b → MembersFit n c → MembersFit n (match_ordering o a b c)
fit_ordered n Less a b c p q r = p
fit_ordered n Equal a b c p q r = q
fit_ordered n Greater a b c p q r = r

pub fit_put : (n : ℕ) (k : List ℕ) (d : Data) (ms : Members) → Fits n d → MembersFit n ms → MembersFit n (put k d ms)
fit_put n k d no_members p q = fit_member n k d no_members p q
fit_put n k d (member l e ms) p q =
    let parts = or_parts (has_float e) (members_have_float ms) q.0 in
    let here : Fits n e = (parts.0, omega (arith, q.1)) in
    let rest : MembersFit n ms = (parts.1, omega (arith, q.1)) in
    fit_ordered n (slice_cmp nat_cmp k l) (member k d (member l e ms)) (member l d ms) (member l e (put k d ms))
    (fit_member n k d (member l e ms) p q) (fit_member n l d ms p rest) (fit_member n l e (put k d ms) here (fit_put n k d ms p rest))

fit_items : {X : Type 0} (n : ℕ) (f : X → Data) (xs : List X) → ((x : X) → Fits n (f x)) → ItemsFit n (items_of (map f xs))
fit_items n f [] h = (refl, omega arith)
fit_items n f (x ∷ xs) h = let p = h x in let q = fit_items n f xs h in (rw p.0 q.0, omega (arith, p.1, q.1))

fit_array : {X : Type 0} (n : ℕ) (f : X → Data) (xs : List X) → ((x : X) → Fits n (f x)) → Fits (suc n) (array_of f xs)
fit_array n f xs h = let q = fit_items n f xs h in (q.0, omega (arith, q.1))

pub fit_object : (n : ℕ) (ms : Members) → MembersFit n ms → Fits (suc n) (object ms)
fit_object n ms q = (q.0, omega (arith, q.1))

pub fit_texts : {X : Type 0} (n : ℕ) (f : X → List ℕ) (xs : List X) → Fits (suc n) (texts f xs)
fit_texts n f xs = fit_array n (λ x. string (f x)) xs (λ x. fit_string n (f x))

fit_hex : (n : ℕ) (b : Bool) (name : List ℕ) (hex : Data) (ms : Members) → Fits n hex → MembersFit n ms → MembersFit n (hex_beside b name hex ms)
fit_hex n true name hex ms p q = q
fit_hex n false name hex ms p q = fit_put n (name ++ codes "_hex") hex ms p q

pub fit_text : (n : ℕ) (name text : List ℕ) (ms : Members) → MembersFit n ms → MembersFit n (with_text name text ms)
fit_text n name text ms q =
    fit_hex n (is_utf8 text) name (string (in_hex text)) (put name (string (readable text)) ms) (fit_string n (in_hex text)) (fit_put n name (string (readable text)) ms (fit_string n (readable text)) q)

fit_lines : (n : ℕ) (name : List ℕ) (lines : List (List ℕ)) (ms : Members) → MembersFit (suc n) ms → MembersFit (suc n) (with_lines name lines ms)
fit_lines n name lines ms q =
    fit_hex (suc n) (list_all is_utf8 lines) name (texts in_hex lines) (put name (texts readable lines) ms) (fit_texts n in_hex lines) (fit_put (suc n) name (texts readable lines) ms (fit_texts n readable lines) q)

fit_kind : (n : ℕ) (word : List ℕ) → MembersFit n (of_kind word)
fit_kind n word = fit_put n (codes "kind") (string word) no_members (fit_string n word) (fit_none n)

fit_path : (n : ℕ) (word : List ℕ) (p : Path) → MembersFit n (at_path word p)
fit_path n word p = fit_text n (codes "path") (dotted p) (of_kind word) (fit_kind n word)

pub fit_number : (n k : ℕ) → Fits n (number (unsigned k))
fit_number n k = (refl, omega arith)

fit_work : (p : Path) (w : Work) → MembersFit 1 (work_members p w)
fit_work p AddFile = fit_path 1 (codes "addfile") p
fit_work p RmFile = fit_path 1 (codes "rmfile") p
fit_work p AddDir = fit_path 1 (codes "adddir") p
fit_work p RmDir = fit_path 1 (codes "rmdir") p
fit_work p (Hunk n old new) =
    let line = fit_put 1 (codes "line") (number (unsigned n)) (at_path (codes "hunk") p) (fit_number 1 n) (fit_path 1 (codes "hunk") p) in
    fit_lines 0 (codes "new") new _ (fit_lines 0 (codes "old") old _ line)
fit_work p (Binary old new) =
    let first = fit_put 1 (codes "old_hex") (string (in_hex (content old))) (at_path (codes "binary") p) (fit_string 1 (in_hex (content old))) (fit_path 1 (codes "binary") p) in
    fit_put 1 (codes "new_hex") (string (in_hex (content new))) _ (fit_string 1 (in_hex (content new))) first
fit_work p (Replace set old new) = fit_text 1 (codes "new") new _ (fit_text 1 (codes "old") old _ (fit_text 1 (codes "tokens") (bracketed set) _ (fit_path 1 (codes "replace") p)))

fit_change : (p : Prim) → Fits 2 (change_data p)
fit_change (At p w) = fit_object 1 _ (fit_work p w)
fit_change (Move p q) = fit_object 1 _ (fit_text 1 (codes "to") (dotted q) _ (fit_path 1 (codes "move") p))
fit_change (ChangePref name old new) = fit_object 1 _ (fit_text 1 (codes "new") new _ (fit_text 1 (codes "old") old _ (fit_text 1 (codes "name") name (of_kind (codes "changepref")) (fit_kind 1 (codes "changepref")))))

fit_info : (i : PatchInfo) → MembersFit 3 (info_members i)
fit_info i =
    let author = fit_text 3 (codes "author") i.author no_members (fit_none 3) in
    let date = fit_text 3 (codes "date") (iso_date i.date) _ author in
    let name = fit_text 3 (codes "name") i.name _ date in
    let hash = fit_put 3 (codes "hash") (string (hash_text i)) _ (fit_string 3 (hash_text i)) name in
    let log = fit_lines 2 (codes "log") (told i.log) _ hash in
    fit_put 3 (codes "tag") (boolean (begins (codes "TAG ") i.name)) _ (refl, omega arith) log

pub fit_patch_members : (n : ℕ) (p : Patch) → MembersFit 3 (patch_members n p)
fit_patch_members n p =
    let changes = fit_put 3 (codes "changes") (array_of change_data p.prims) (info_members p.info) (fit_array 2 change_data p.prims fit_change) (fit_info p.info) in
    let depends = fit_put 3 (codes "depends") (texts hash_text p.deps) _ (fit_texts 2 hash_text p.deps) changes in
    fit_put 3 (codes "place") (number (unsigned n)) _ (fit_number 3 n) depends

fit_patch : (n : ℕ) (p : Patch) → Fits 4 (patch_data n p)
fit_patch n p = fit_object 3 (patch_members n p) (fit_patch_members n p)

-- so its text is known
pub no_float : (n : ℕ) (p : Patch) → has_float (patch_data n p) ≡ false
no_float n p = (fit_patch n p).0

-- and reads back
pub shallow : (n : ℕ) (p : Patch) → depth (patch_data n p) ≤ max_depth
shallow n p = omega (arith, (fit_patch n p).1)
