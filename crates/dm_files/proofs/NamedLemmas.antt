-- Which names the words have, and which texts were read from the first of them.
use Rattle.std.proofs.Common.{◌≡◌, ◌++◌, ℕ, List, [], ◌∷◌, Option, Some, None, option_map, refl, ap, ◌∙◌}
use Rattle.std.specs.Borrow.{Bor}
use Rattle.std.specs.Option.{unwrap_or}
use Rattle.dm_words.specs.declared.request.Apply.{Apply}
use Rattle.dm_files.specs.Bundles.{Reads, names_in}
use Rattle.dm_files.specs.Named.{CameAsNamed, CameAtMost}

abbrev pub texts_of : Bor (List (Bor (List ℕ))) → List (List ℕ)
texts_of names = names_in names.now

-- those of the words, or one where they have none
pub as_named : (found : Option (Bor (List (Bor (List ℕ))))) (otherwise : Bor (List (Bor (List ℕ)))) (values : Option (List (List ℕ))) (one : List ℕ) → option_map texts_of found ≡ values → texts_of otherwise ≡ one ∷ [] →
    texts_of (unwrap_or found otherwise) ≡ unwrap_or values (one ∷ [])
as_named None otherwise values one is single = single ∙ ap (λ (v : Option (List (List ℕ))). unwrap_or v (one ∷ [])) is
as_named (Some names) otherwise values one is single = ap (λ (v : Option (List (List ℕ))). unwrap_or v (one ∷ [])) is

-- all were read, from the files that were given
pub all_read : {F : Type 0} (had : F → List ℕ → List ℕ → Type 0) (given files : F) (names there : List (Bor (List ℕ))) (texts left : List (List ℕ)) → files ≡ given → there ≡ names → left ≡ [] →
    Reads (had files) (names_in there) texts left → Reads (had given) (names_in names) texts []
all_read had given files names there texts left same is done read = rw (same, is, done) at read

-- or the first of them
pub some_read : {F : Type 0} (had : F → List ℕ → List ℕ → Type 0) (given files : F) (names there : List (Bor (List ℕ))) (texts left : List (List ℕ)) → files ≡ given → there ≡ names →
    Reads (had files) (names_in there) texts left → (more : List (List ℕ)) × Reads (had given) (names_in names) texts more
some_read had given files names there texts left same is read = (left, rw (same, is) at read)

-- all but the last were read from the first
but_last_read : (had : List ℕ → List ℕ → Type 0) (names texts : List (List ℕ)) (last : List ℕ) (left : List (List ℕ)) → Reads had names (texts ++ last ∷ []) left → (more : List (List ℕ)) × Reads had names texts more
but_last_read had names [] last left read = (names, refl)
but_last_read had [] (t ∷ ts) last left read = absurd read
but_last_read had (n ∷ ns) (t ∷ ts) last left read = let rest = but_last_read had ns ts last left read.1 in (rest.0, (read.0, rest.1))

pub fewer : (had : List ℕ → List ℕ → Type 0) (asked : Apply) (texts : List (List ℕ)) (last : List ℕ) → CameAtMost had asked (texts ++ last ∷ []) → CameAtMost had asked texts
fewer had asked texts last came off = but_last_read had _ texts last _ (came off).1

pub at_most : (had : List ℕ → List ℕ → Type 0) (asked : Apply) (texts : List (List ℕ)) → CameAsNamed had asked texts → CameAtMost had asked texts
at_most had asked texts came off = ([], came off)
