-- What can be wrong with the text of a named patch in whose body conflictors may stand, and where: as in Faults, `here` is the text
-- from the fault's place on.
use Rattle.std.specs.Prelude.{◌≤◌, ◌<◌, ◌⊎◌, ℕ, List, ◌∷◌, codes}
use Rattle.dm_info.specs.PatchInfo.{PatchInfo}
use Rattle.dm_info.specs.Spelling.{Stands}
use Rattle.dm_named.specs.Many.{Many}
use Rattle.dm_named.specs.Words.{skipped, Begins, NextByte, Word, WordAmong}
use Rattle.dm_named.specs.Patches.{Dependencies, prim_words_of}
use Rattle.dm_named.specs.Faults.{InfoFaultAt, DepsFaultAt, CountFaultWithin, PrimFaultOf, BraceFaultAt, RunFaultAt}
use Rattle.dm_named.specs.ConflictorFaults.{less, ConflictorFault}
use Rattle.dm_named.specs.MergedPatches.{Item, NextItem, body_size}
use Rattle.dm_named.specs.declared.limits.Limits.{Limits}
use Rattle.dm_named.specs.declared.limits.Kinds.{Kinds}
use Rattle.dm_named.specs.declared.fault.FaultKind.{FaultKind}

-- the words that an item begins with
abbrev pub item_words_of : Kinds → List (List ℕ)
item_words_of kinds = codes "conflictor" ∷ prim_words_of kinds

-- where an item begins: a primitive is one too many, or there is a fault in it, or there is a fault in a conflictor
pub data ItemFault (limits : Limits) (kind : FaultKind) (text here : List ℕ) : Type 0 where
  plain : CountFaultWithin limits kind 0 text here ⊎ ((0 < limits.prims) × PrimFaultOf limits.kinds kind text here) → ItemFault limits kind text here
  conflicted : (after : List ℕ) → Word text (codes "conflictor") after → ConflictorFault limits kind text here → ItemFault limits kind text here

-- after items, of no more primitives than the limits allow, one more begins, and there is a fault in it
pub record ItemsFault (limits : Limits) (kind : FaultKind) (text here : List ℕ) : Type 0 where
  pub items : List Item
  pub mid : List ℕ
  pub read : Many (NextItem limits.kinds) text items mid
  pub few : body_size items ≤ limits.prims
  pub wrong : ItemFault (less limits (body_size items)) kind (skipped mid) here

-- after items, of no more primitives than the limits allow, none begins, and something is wrong
pub record AfterItems (limits : Limits) (Wrong : List ℕ → Type 0) (text : List ℕ) : Type 0 where
  pub items : List Item
  pub mid : List ℕ
  pub read : Many (NextItem limits.kinds) text items mid
  pub few : body_size items ≤ limits.prims
  pub none : WordAmong (item_words_of limits.kinds) (skipped mid) → ⊥
  pub wrong : Wrong (skipped mid)

-- the body: a fault in one of its items, or in what follows them
pub data ItemBodyFault (limits : Limits) (kind : FaultKind) (text here : List ℕ) : Type 0 where
  in_braces : (inside : List ℕ) → NextByte 123 text inside → ItemsFault limits kind inside here ⊎ AfterItems limits (λ next. BraceFaultAt limits.kinds kind next here) inside
      → ItemBodyFault limits kind text here
  in_run : (Begins 123 (skipped text) → ⊥) → ItemsFault limits kind text here ⊎ AfterItems limits (λ next. RunFaultAt limits.kinds kind next here) text
      → ItemBodyFault limits kind text here

-- a named patch of items, read within these limits: a fault in its patch info, its dependencies or its body
pub data MergedFault (limits : Limits) (kind : FaultKind) (text here : List ℕ) : Type 0 where
  info : InfoFaultAt kind text here → MergedFault limits kind text here
  deps : (i : PatchInfo) (after : List ℕ) → Stands text i after → DepsFaultAt kind after here → MergedFault limits kind text here
  body : (i : PatchInfo) (ds : List PatchInfo) (after start : List ℕ) → Stands text i after → Dependencies after ds start
      → ItemBodyFault limits kind start here → MergedFault limits kind text here
