-- Posters and words as the code holds them. The clauses of private functions cite these.
use Rattle.std.specs.Prelude.{ℕ, List, map}
use Rattle.std.specs.Borrow.{Bor}
use Rattle.std.specs.Global.{Vec}
use Rattle.indexmap.specs.IndexMap.{IndexMap}
use Rattle.dm_commands.specs.Running.{NamedPoster}
use Rattle.dm_tool.specs.Posters.{Poster, bytes_of}

-- the bytes of texts that are owned
abbrev pub items_of : List (Vec ℕ) → List (List ℕ)
items_of texts = map (λ text. text.items) texts

-- posters with texts that are owned
abbrev pub held : List (Bor (List ℕ) × Vec (Vec ℕ)) → List Poster
held posters = map {B = Poster} (λ p. (p.0.now, items_of p.1.items)) posters

-- the posters of a map, each with its texts
abbrev pub posters_in : {S : Type 0} → IndexMap (Bor (List ℕ)) (Vec (Vec ℕ)) S → List Poster
posters_in posters = held posters.entries

-- posters with lists of their texts
abbrev pub listed : List (Bor (List ℕ) × Vec (Bor (List ℕ))) → List Poster
listed lists = map {B = Poster} (λ l. (l.0.now, bytes_of l.1.items)) lists

-- posters as a run takes them
abbrev pub named : List NamedPoster → List Poster
named posters = map {B = Poster} (λ p. (p.0.now, bytes_of p.1.now)) posters

-- the values of posters and files that are borrowed
abbrev pub words_in : List (Bor (List ℕ) × Bor (List ℕ)) → List (List ℕ × List ℕ)
words_in pairs = map {B = List ℕ × List ℕ} (λ p. (p.0.now, p.1.now)) pairs
