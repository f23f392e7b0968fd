-- One more word that names a patch alone.
use Rattle.std.proofs.Common.{◌≡◌, ◌<◌, ◌+◌, ℕ, List, [], ◌∷◌, ◌++◌, length, map, take, get_or, slice_get, Option, Some, None, ap, refl, ◌∙◌, arith}
use Rattle.std.specs.Borrow.{Bor}
use Rattle.std.specs.Option.{unwrap_or}
use Rattle.std.proofs.lemmas.List.{length-map, map_push, take_more}
use Rattle.dm_info.specs.PatchInfo.{PatchInfo}
use Rattle.dm_named.specs.Patches.{Patch}
use Rattle.dm_bundle.specs.Patches.{infos_of}
use Rattle.dm_log.specs.Finding.{Finds}
use Rattle.dm_log.specs.declared.finding.Found.TheVariants.{One}
use Rattle.dm_send.proofs.Left.{some_below}
use Rattle.dm_words.specs.Requests.{texts_in}
use Rattle.dm_files.specs.Choosing.{Chooses, one_more}

abbrev pub bytes_of : Bor (List ℕ) → List ℕ
bytes_of word = word.now

pub choose_more : (infos : List PatchInfo) (words : List (Bor (List ℕ))) (k : ℕ) (other : Bor (List ℕ)) (names : List PatchInfo) (name : PatchInfo) (place : ℕ) → k < length words →
    Chooses infos (map bytes_of (take k words)) names → Finds infos (get_or words k other).now (One place) → slice_get infos place ≡ Some name → Chooses infos (map bytes_of (take (k + 1) words)) (names ++ name ∷ [])
choose_more infos words k other names name place l c f at =
    let w = get_or words k other in
    let mapped : map bytes_of (take (k + 1) words) ≡ map bytes_of (take k words) ++ w.now ∷ [] = ap (map bytes_of) (take_more words k other l) ∙ map_push bytes_of (take k words) w in
    rw mapped (one_more w.now (map bytes_of (take k words)) name names place c f at)

-- the patch that was found stands there
pub is_there : (patches : List Patch) (word : List ℕ) (place : ℕ) → Finds (infos_of patches) word (One place) → place < length patches
is_there patches word place f =
    let n = f.0 in
    let b = some_below (infos_of patches) place n.0 n.1 in
    omega (arith, b, length-map patches (λ (p : Patch). p.info))

-- the words that choose, or none
pub choosing : (words : Option (Bor (List (Bor (List ℕ))))) (none : Bor (List (Bor (List ℕ)))) → none.now ≡ [] → map bytes_of (unwrap_or words none).now ≡ texts_in words
choosing None none is = ap (λ (l : List (Bor (List ℕ))). map bytes_of l) is
choosing (Some words) none is = refl
