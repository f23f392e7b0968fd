-- When named patches commute (Darcs.Patch.Named).
use Rattle.std.specs.Prelude.{◌≡◌, List, Option, Some, None, Contains}
use Rattle.dm_prim.specs.Primitives.{Prim}
use Rattle.dm_prim.specs.Touch.{TouchedPaths, Touches}
use Rattle.dm_prim.specs.Commuting.{ListsCommute}
use Rattle.dm_prim.specs.Laws.{ListLaws}
use Rattle.dm_named.specs.Patches.{Patch}

-- the patch keeps its patch info and its dependencies
pub record Stays (x x' : Patch) : Type 0 where
  pub info : x'.info ≡ x.info
  pub deps : x'.deps ≡ x.deps

-- x then y commute to y' then x': neither names the other among its dependencies, and their primitives commute
pub record NamedCommutes (x y y' x' : Patch) : Type 0 where
  pub x_named : Contains y.deps x.info → ⊥
  pub y_named : Contains x.deps y.info → ⊥
  pub x_stays : Stays x x'
  pub y_stays : Stays y y'
  pub prims : ListsCommute x.prims y.prims y'.prims x'.prims

-- x then y commute to the pair that is returned; if there is none, they commute to no pair
abbrev pub NamedCommutesTo : Patch → Patch → Option (Patch × Patch) → Type 0
NamedCommutesTo x y None = (y' x' : Patch) → NamedCommutes x y y' x' → ⊥
NamedCommutesTo x y (Some r) = NamedCommutes x y r.0 r.1

-- the laws of lists that commute hold of the primitives of the pair that is returned
abbrev pub NamedLawsHold : Patch → Patch → Option (Patch × Patch) → Type 0
NamedLawsHold x y None = Unit {0}
NamedLawsHold x y (Some r) = ListLaws x.prims y.prims r.0.prims r.1.prims

-- the pair that is returned commutes back
abbrev pub NamedCommutesBack : Patch → Patch → Option (Patch × Patch) → Type 0
NamedCommutesBack x y None = Unit {0}
NamedCommutesBack x y (Some r) = NamedCommutes r.0 r.1 x y

-- if it is known what these primitives touch, it is this
abbrev pub IsTouchKnown : List Prim → Option TouchedPaths → Type 0
IsTouchKnown ps None = Unit {0}
IsTouchKnown ps (Some t) = Touches ps t

-- if lists that touch this commute, each touches afterwards what it touched before
abbrev pub StayKnown : Option TouchedPaths → Option TouchedPaths → Type 0
StayKnown t u = (xs ys ys' xs' : List Prim) → IsTouchKnown xs t → IsTouchKnown ys u → ListsCommute xs ys ys' xs' →
    IsTouchKnown xs' t × IsTouchKnown ys' u
