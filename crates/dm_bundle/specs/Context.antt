-- The context of a bundle: the patch infos that it rests on.
use Rattle.std.specs.Prelude.{◌≡◌, ℕ, List, codes, Contains}
use Rattle.dm_info.specs.PatchInfo.{PatchInfo}
use Rattle.dm_info.specs.Spelling.{open_bracket}
use Rattle.dm_named.specs.Many.{Many}
use Rattle.dm_named.specs.Words.{skipped, Begins, Word}
use Rattle.dm_named.specs.Patches.{NextInfo}

-- the word that ends the new patches
abbrev pub context_word : List ℕ
context_word = codes "Context:"

-- that word, after white space
abbrev pub ContextWord : List ℕ → List ℕ → Type 0
ContextWord text rest = Word (skipped text) context_word rest

-- no patch info is in both
abbrev pub AreDisjoint : List PatchInfo → List PatchInfo → Type 0
AreDisjoint new context = (i : PatchInfo) → Contains new i → Contains context i → ⊥

-- all patch infos that follow one another, each after white space, and none of a new patch; what follows them is left unread
pub record Context (new : List PatchInfo) (text : List ℕ) (context : List PatchInfo) : Type 0 where
  pub rest : List ℕ
  pub read : Many NextInfo text context rest
  pub ends : Begins open_bracket (skipped rest) → ⊥
  pub apart : AreDisjoint new context

-- they are the context, and past the white space behind it stands this rest
pub record ContextEndsAt (new : List PatchInfo) (text : List ℕ) (context : List PatchInfo) (rest : List ℕ) : Type 0 where
  pub stands : Context new text context
  pub behind : skipped stands.rest ≡ rest
