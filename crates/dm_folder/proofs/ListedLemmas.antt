-- What the system's answers say of a directory.
use Rattle.std.proofs.Common.{◌≡◌, ℕ, List, [], ◌∷◌, ◌++◌, map, refl, sym, ap, ◌∙◌, subst}
use Rattle.std.proofs.lemmas.List.{map_push}
use Rattle.std.specs.List.Sorted.{IsPermutation}
use Rattle.dm_tree.specs.Paths.{Name}
use Rattle.std.specs.Str.{IsUtf8}
use Rattle.dm_folder.specs.Events.{Event, began, ended, gave, held, opened, stood}
use Rattle.dm_folder.specs.Found.{Told, told}
use Rattle.dm_folder.specs.Listed.{Began, Gave, IsAsked, IsHeldBy, IsListed, IsReading, Known, kind_of_mode, names_in}
use Rattle.dm_folder.specs.Walks.{name_place}
use Rattle.dm_folder.specs.declared.found.Kind.{Kind}
use Rattle.dm_folder.specs.declared.found.Found.{Found}
use Rattle.dm_folder.specs.declared.found.Kind.TheVariants as kind

-- the names of what was found
pub told_names : (found : List Found) → map (λ (one : Told). one.0) (map told found) ≡ map (λ (one : Found). one.name.items) found
told_names [] = refl
told_names (x ∷ xs) = ap (λ ns. x.name.items ∷ ns) (told_names xs)

-- a directory was listed in five steps
pub is_listed_by : (place : List ℕ) (e0 e1 e2 e3 e4 read : List Event) (bytes : List ℕ) (names : List Name) (found : List Told) (first last : ℕ)
    → kind_of_mode first ≡ kind.Dir → e1 ≡ stood place first ∷ e0
    → e2 ≡ ended ∷ read → IsReading place e1 read bytes → IsPermutation (names_in bytes) names
    → IsAsked place e2 e3 found → map (λ (one : Told). one.0) found ≡ names
    → kind_of_mode last ≡ kind.Dir → e4 ≡ stood place last ∷ e3 → IsListed e4 place found
is_listed_by place e0 e1 e2 e3 e4 read bytes names found first last was at1 at2 reading perm asked are is at4 = record {
  earlier = e0;
  read = read;
  asked = e3;
  later = [];
  first = first;
  last = last;
  bytes = bytes;
  was_dir = was;
  is_read = let P : List Event → Type 0 = λ es. IsReading place es read bytes in subst P at1 reading;
  is_asked = let P : List Event → Type 0 = λ es. IsAsked place es e3 found in subst P at2 asked;
  is_dir = is;
  events_are = at4;
  names_are = let P : List Name → Type 0 = λ ns. IsPermutation (names_in bytes) ns in subst P (sym are) perm;
}

-- a file was read in three steps
pub is_held_by : (place bytes : List ℕ) (e0 e1 e2 e3 : List Event) (mode : ℕ) → kind_of_mode mode ≡ kind.File → e1 ≡ stood place mode ∷ e0 → e2 ≡ opened place ∷ e1 → e3 ≡ held bytes ∷ e2 → IsHeldBy e3 place bytes
is_held_by place bytes e0 e1 e2 e3 mode was at1 at2 at3 = record {
  earlier = e0;
  later = [];
  mode = mode;
  was_file = was;
  events_are = at3 ∙ ap (λ es. held bytes ∷ es) (at2 ∙ ap (λ es. opened place ∷ es) at1);
}

-- a name more was asked for
pub known_more : (place name shown : List ℕ) (earlier events more : List Event) (found : List Told) (mode : ℕ) (k : Kind) → IsUtf8 name → shown ≡ name_place place name → k ≡ kind_of_mode mode → more ≡ stood shown mode ∷ events
    → IsAsked place earlier events found → IsAsked place earlier more (found ++ (name, k) ∷ [])
known_more place name shown earlier events more found mode k utf8 at is new asked = rw (new, at, is) (Known events found name mode asked utf8)

-- the directory was opened
pub began_reading : (place : List ℕ) (earlier now : List Event) (bytes : List ℕ) → now ≡ began place ∷ earlier → bytes ≡ [] → IsReading place earlier now bytes
began_reading place earlier now bytes new none = rw (new, none) Began

-- it gave more bytes
pub gave_more : (place : List ℕ) (earlier events now : List Event) (before more bytes : List ℕ) → IsReading place earlier events before → now ≡ gave more ∷ events → bytes ≡ before ++ more → IsReading place earlier now bytes
gave_more place earlier events now before more bytes reading new is = rw (new, is) (Gave events before more reading)

-- it is found
pub asked_more : (place : List ℕ) (earlier now : List Event) (found more : List Found) (one : Found) (name : List ℕ) → IsAsked place earlier now (map told found ++ (name, one.kind) ∷ []) → name ≡ one.name.items → more ≡ found ++ one ∷ [] → IsAsked place earlier now (map told more)
asked_more place earlier now found more one name asked at is =
    let e : map told more ≡ map told found ++ (name, one.kind) ∷ [] = ap (map told) is ∙ map_push told found one ∙ ap (λ n. map told found ++ (n, one.kind) ∷ []) (sym at) in
    let P : List Told → Type 0 = λ ts. IsAsked place earlier now ts in subst P (sym e) asked
