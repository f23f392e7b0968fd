-- What a rule asks of the hash with which a bundle may end.
use Rattle.std.specs.Prelude.{◌≡◌, ◌⊎◌, ℕ, List, drop, codes}
use Rattle.memchr.specs.Find.{OccursAt}
use Rattle.dm_bundle.specs.Bundles.{Contents, EndsAtIn}
use Rattle.dm_named.specs.declared.limits.Limits.{Limits}
use Rattle.dm_scratch.specs.Taking.{ReadsWithin}
use Rattle.dm_hash.specs.declared.trailer.Trailer.{Trailer}
use Rattle.dm_hash.specs.declared.trailer.Trailer.TheVariants.{NoHash, Right as IsRight, Wrong}
use Rattle.dm_hash.specs.Trailers.{trailer_mark, TrailerSays}
use Rattle.dm_deliver.specs.declared.hash_rule.HashRule.{HashRule}
use Rattle.dm_deliver.specs.declared.hash_rule.HashRule.TheVariants.{Any, NotWrong, Right}
use Rattle.dm_deliver.specs.declared.hash_rule.HashFault.{HashFault}
use Rattle.dm_deliver.specs.declared.hash_rule.HashFaultKind.{HashFaultKind}
use Rattle.dm_deliver.specs.declared.hash_rule.HashFaultKind.TheVariants.{WrongHash, NoHash as Missing}

-- the printed word of a fault
abbrev pub hash_word : HashFaultKind → List ℕ
hash_word WrongHash = codes "wrong-hash"
hash_word Missing = codes "no-hash"

-- the rule refuses a bundle with this trailer, for this reason: a wrong hash, but where nothing is asked; and none where it is to be right
abbrev pub RefusesTrailer : HashRule → Trailer → HashFaultKind → Type 0
RefusesTrailer Any trailer kind = ⊥
RefusesTrailer NotWrong Wrong kind = kind ≡ WrongHash
RefusesTrailer NotWrong NoHash kind = ⊥
RefusesTrailer NotWrong IsRight kind = ⊥
RefusesTrailer Right Wrong kind = kind ≡ WrongHash
RefusesTrailer Right NoHash kind = kind ≡ Missing
RefusesTrailer Right IsRight kind = ⊥

-- the text is a bundle within the limits, and at this place, past the context and white space, its trailer says this
pub record HasTrailer (limits : Limits) (text : List ℕ) (trailer : Trailer) (at : ℕ) : Type 0 where
  pub bundle : Contents
  pub reads : ReadsWithin limits text bundle
  pub ends : EndsAtIn limits.kinds text bundle (drop at text)
  pub says : TrailerSays bundle.patches (drop at text) trailer

-- the text is a bundle within the limits whose trailer the rule refuses, for this reason and at this place
pub record HasHashFaultWithin (limits : Limits) (rule : HashRule) (text : List ℕ) (fault : HashFault) : Type 0 where
  pub trailer : Trailer
  pub has : HasTrailer limits text trailer fault.at
  pub refused : RefusesTrailer rule trailer fault.kind

-- the text is a bundle within the limits whose trailer the rule allows
pub record HasAllowedTrailer (limits : Limits) (rule : HashRule) (text : List ℕ) : Type 0 where
  pub trailer : Trailer
  pub at : ℕ
  pub has : HasTrailer limits text trailer at
  pub allowed : (kind : HashFaultKind) → RefusesTrailer rule trailer kind → ⊥

-- the text is no bundle within the limits
abbrev pub IsNoBundle : Limits → List ℕ → Type 0
IsNoBundle limits text = (b : Contents) → ReadsWithin limits text b → ⊥

-- the rule asks nothing of the text: nothing of any; or only that no hash is wrong, and what begins a trailer stands nowhere in the text
pub data AsksNothing (rule : HashRule) (text : List ℕ) : Type 0 where
  of_any : rule ≡ Any → AsksNothing rule text
  of_this : rule ≡ NotWrong → ((i : ℕ) → OccursAt text trailer_mark i → ⊥) → AsksNothing rule text

-- the rule refuses nothing of the text: it is a bundle whose trailer is allowed, or no bundle, or nothing is asked of it
abbrev pub PassesRuleWithin : Limits → HashRule → List ℕ → Type 0
PassesRuleWithin limits rule text = HasAllowedTrailer limits rule text ⊎ (IsNoBundle limits text ⊎ AsksNothing rule text)
