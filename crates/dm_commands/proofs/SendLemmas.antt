-- What `dm send` answers, by what was done.
use Rattle.std.proofs.Common.{◌≡◌, ◌≢◌, ◌⊎◌, ◌+◌, ℕ, Bool, true, false, List, [], ◌∷◌, ◌++◌, Option, Some, None, inl, inr, arith, length-append}
use Rattle.dm_info.specs.PatchInfo.{PatchInfo}
use Rattle.dm_named.specs.declared.fault.FaultKind.TheVariants as kind
use Rattle.dm_named.specs.declared.fault.ReadFault.{ReadFault}
use Rattle.dm_named.specs.declared.limits.Kinds.{Kinds}
use Rattle.dm_named.specs.declared.limits.Limits.{Limits}
use Rattle.dm_named.specs.Patches.{Patch}
use Rattle.dm_bundle.specs.Bundles.{Contents}
use Rattle.dm_repo.specs.Repositories.{Holds, IsRepo}
use Rattle.dm_begin.specs.Bases.{CutsBase, KnowsBase}
use Rattle.dm_send.specs.Sending.{Parts, no_names, inside, outside}
use Rattle.dm_send.specs.Telling.{IsNamesFault}
use Rattle.dm_commands.specs.declared.fault.ToolFault.{ToolFault}
use Rattle.dm_commands.specs.declared.fault.ToolFault.TheVariants.{Read, Write, NoMemory, BadBase, BadNames, TooManyToSend, BadPlan, NoThread}
use Rattle.dm_commands.specs.declared.base.Base.{Base}
use Rattle.dm_commands.specs.Sending.{CountsUnheld, IsPastLimits, RefusesNames, RefusesTexts, RefusesTheirs, SendsBehind, SendsFor, TheirNames}
use Rattle.dm_commands.proofs.TagLemmas.{cut_taken, shared_base}

pub refuses_names : (limits : Limits) (text : List ℕ) (fault : ReadFault) (e : ToolFault) → (fault.kind ≢ kind.NoMemory → IsNamesFault limits text fault)
    → ((fault.kind ≡ kind.NoMemory) × (e ≡ NoMemory)) ⊎ ((fault.kind ≢ kind.NoMemory) × (e ≡ BadNames fault)) → RefusesNames limits text e
refuses_names limits text fault e is (inl x) = rw x.1 tt
refuses_names limits text fault e is (inr x) = rw x.1 (is x.0)

-- one name more that is in the set, and one that isn't
inside_more : {In : PatchInfo → Type 0} (i : PatchInfo) {all those others : List PatchInfo} → In i → Parts In all those others
    → Parts In (all ++ i ∷ []) (those ++ i ∷ []) others
inside_more i h no_names = inside h no_names
inside_more i h (inside g p) = inside g (inside_more i h p)
inside_more i h (outside g p) = outside g (inside_more i h p)

outside_more : {In : PatchInfo → Type 0} (i : PatchInfo) {all those others : List PatchInfo} → (In i → ⊥) → Parts In all those others
    → Parts In (all ++ i ∷ []) those (others ++ i ∷ [])
outside_more i h no_names = outside h no_names
outside_more i h (inside g p) = inside g (outside_more i h p)
outside_more i h (outside g p) = outside g (outside_more i h p)

-- one turn of a loop that counts the names that aren't held
pub held_more : (repo : List Patch) (names : List PatchInfo) (i : PatchInfo) (count : ℕ) → Holds repo i → CountsUnheld repo names count
    → CountsUnheld repo (names ++ i ∷ []) count
held_more repo names i count h c = (c.0 ++ i ∷ [], c.1, inside_more i h c.2, c.3)

pub unheld_more : (repo : List Patch) (names : List PatchInfo) (i : PatchInfo) (count : ℕ) → (Holds repo i → ⊥) → CountsUnheld repo names count
    → CountsUnheld repo (names ++ i ∷ []) (count + 1)
unheld_more repo names i count h c = (c.0, c.1 ++ i ∷ [], outside_more i h c.2, omega (arith, c.3, length-append c.1 (i ∷ [])))

-- why there is no answer, by why there are no names, or no bundle
pub by_names : (kinds : Kinds) (is_minimal : Bool) (repo : List Patch) (base : ℕ) (theirs : Option Base) (most : ℕ) (e : ToolFault) → RefusesTheirs theirs e
    → RefusesTexts kinds is_minimal repo base theirs most e
by_names kinds is_minimal repo base None most e h = absurd h
by_names kinds is_minimal repo base (Some t) most NoMemory h = tt
by_names kinds is_minimal repo base (Some t) most (BadNames fault) h = h
by_names kinds is_minimal repo base (Some t) most Read h = absurd h
by_names kinds is_minimal repo base (Some t) most Write h = absurd h
by_names kinds is_minimal repo base (Some t) most (BadBase v) h = absurd h
by_names kinds is_minimal repo base (Some t) most TooManyToSend h = absurd h
by_names kinds is_minimal repo base (Some t) most (BadPlan fault) h = absurd h
by_names kinds is_minimal repo base (Some t) most NoThread h = absurd h

pub by_bundle : (kinds : Kinds) (is_minimal : Bool) (repo : List Patch) (base : ℕ) (theirs : Option Base) (most : ℕ) (e : ToolFault) (names : List PatchInfo) → TheirNames theirs names
    → (e ≡ NoMemory) ⊎ ((e ≡ TooManyToSend) × IsPastLimits kinds is_minimal repo base names most) → RefusesTexts kinds is_minimal repo base theirs most e
by_bundle kinds is_minimal repo base theirs most e names tells (inl x) = rw x tt
by_bundle kinds is_minimal repo base theirs most e names tells (inr x) = rw x.0 (names, tells, x.1)

-- a bundle of which the base was cut, by what was to be sent
pub sends_behind : (is_minimal : Bool) (repo : List Patch) (base : ℕ) (names : List PatchInfo) (most : ℕ) (b cut : Contents) → IsRepo repo → KnowsBase repo base names → SendsFor is_minimal repo base names most b → CutsBase repo base b cut →
    SendsBehind is_minimal repo base names most cut
sends_behind true repo base names most b cut r k s c = record {
  b = b;
  sends = s;
  cuts = c;
  shared = s.shared;
  new = s.new;
  divided = s.divided;
  is_taken = λ may. cut_taken repo s.shared base b cut s.new r may (shared_base repo base names most s.shared s.new k s.divided) c s.is_taken;
}
sends_behind false repo base names most b cut r k s c = record {
  b = b;
  sends = s;
  cuts = c;
  shared = s.shared;
  new = s.new;
  divided = s.divided;
  is_taken = λ may. cut_taken repo s.shared base b cut s.new r may (shared_base repo base names most s.shared s.new k s.divided) c s.is_taken;
}
