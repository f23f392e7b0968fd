-- What is given of a repository as text.
use Rattle.std.specs.Prelude.{◌≡◌, ◌≤◌, ℕ, List, [], length, Some, slice_get}
use Rattle.dm_tree.specs.Trees.{Tree}
use Rattle.dm_info.specs.Spelling.{canonical}
use Rattle.dm_named.specs.Patches.{Patch}
use Rattle.dm_bundle.specs.Canonical.{bundle_text}
use Rattle.dm_bundle.specs.Patches.{infos_of}
use Rattle.dm_log.specs.Contexts.{context_text}
use Rattle.dm_repo.specs.Repositories.{IsTreeOf}
use Rattle.dm_scratch.specs.Printing.{listing_text}
use Rattle.dm_c.specs.declared.status.Status.{Status}
use Rattle.dm_c.specs.declared.status.Status.TheVariants.{Nothing}

-- the listing of the tree that the patches make
abbrev pub IsListing : List Patch → List ℕ → Type 0
IsListing repo text = (tree : Tree) × IsTreeOf repo tree × (text ≡ listing_text tree)

-- the patch info of the patch at this place
abbrev pub IsNameAt : ℕ → List Patch → List ℕ → Type 0
IsNameAt place repo text = (patch : Patch) × (slice_get repo place ≡ Some patch) × (text ≡ canonical patch.info)

-- no patch is at this place
abbrev pub IsNoPlace : ℕ → List Patch → Status → Type 0
IsNoPlace place repo why = (why ≡ Nothing) × (length repo ≤ place)

-- the context that names all patches
abbrev pub IsContext : List Patch → List ℕ → Type 0
IsContext repo text = text ≡ context_text (infos_of repo)

-- the canonical bundle of all patches with an empty context
abbrev pub IsAllInOne : List Patch → List ℕ → Type 0
IsAllInOne repo text = text ≡ bundle_text (record { patches = repo; context = [] })
