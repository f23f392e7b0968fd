-- Skips that are named one after the other.
use Rattle.std.proofs.Common.{ℕ, ◌<◌, ◌+◌, List, [], ◌∷◌, ◌++◌, length, take, get_or, inl, inr, refl}
use Rattle.std.proofs.lemmas.List.{take_more}
use Rattle.dm_named.specs.Patches.{Patch}
use Rattle.dm_bundle.specs.Bundles.{Contents}
use Rattle.dm_repo.specs.declared.skip.Skip.{Skip}
use Rattle.dm_explain.specs.declared.skips.NamedSkip.{NamedSkip}
use Rattle.dm_explain.specs.Skips.{NamesEach, NamesSkip, StandsNowhere}

module _ (repo : List Patch) (b : Contents) where
  -- one more that is named
  named_more : (told : List Skip) (list : List NamedSkip) (skip : Skip) (named : NamedSkip) → NamesEach repo b told list → NamesSkip repo b skip named → NamesEach repo b (told ++ skip ∷ []) (list ++ named ∷ [])
  named_more [] list skip named e n = inl (named, [], rw e refl, n, refl)
  named_more (s ∷ told) list skip named (inl (first, more, e, m, c)) n = inl (first, more ++ named ∷ [], rw e refl, m, named_more told more skip named c n)
  named_more (s ∷ told) list skip named (inr (m, c)) n = inr (m, named_more told list skip named c n)

  -- one more that stands nowhere
  nowhere_more : (told : List Skip) (list : List NamedSkip) (skip : Skip) → NamesEach repo b told list → StandsNowhere repo b skip → NamesEach repo b (told ++ skip ∷ []) list
  nowhere_more [] list skip e n = inr (n, e)
  nowhere_more (s ∷ told) list skip (inl (first, more, e, m, c)) n = inl (first, more, e, m, nowhere_more told more skip c n)
  nowhere_more (s ∷ told) list skip (inr (m, c)) n = inr (m, nowhere_more told list skip c n)

  -- the next of a list, which is named or stands nowhere
  pub next_named : (told : List Skip) (k : ℕ) (d : Skip) (list : List NamedSkip) (named : NamedSkip) → k < length told → NamesEach repo b (take k told) list → NamesSkip repo b (get_or told k d) named → NamesEach repo b (take (k + 1) told) (list ++ named ∷ [])
  next_named told k d list named l c n = rw (take_more told k d l) (named_more (take k told) list (get_or told k d) named c n)

  pub next_nowhere : (told : List Skip) (k : ℕ) (d : Skip) (list : List NamedSkip) → k < length told → NamesEach repo b (take k told) list → StandsNowhere repo b (get_or told k d) → NamesEach repo b (take (k + 1) told) list
  next_nowhere told k d list l c n = rw (take_more told k d l) (nowhere_more (take k told) list (get_or told k d) c n)
