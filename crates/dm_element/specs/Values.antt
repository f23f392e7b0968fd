-- Which element a value of the code is, and what commuting such values returns.
use Rattle.std.specs.Prelude.{List, Vec, map, Option, Some, None}
use Rattle.dm_prim.specs.Prims.{prim_of}
use Rattle.dm_prim.specs.Rectangles.{CellRow}
use Rattle.dm_element.specs.Elements as elements
use Rattle.dm_element.specs.Elements.{Conflict, ElementCommutes, ElementListsCommute}
use Rattle.dm_element.specs.Laws.{ElementLaws, ElementListLaws}
use Rattle.dm_element.specs.declared.element.Element.{Element}
use Rattle.dm_element.specs.Settled as settled
use Rattle.dm_element.specs.declared.element.Element.TheVariants.{Plain, Conflicted}
use Rattle.dm_element.specs.declared.settled.Patch.{Patch}

-- the element that a value is
abbrev pub element_of : {Z : Type 0} → Element Z → elements.Element
element_of (Plain p) = elements.Plain (prim_of p)
element_of (Conflicted c) = elements.Conflicted c

abbrev pub elements_of : {Z : Type 0} → List (Element Z) → List elements.Element
elements_of es = map element_of es

-- c then d change places to the conflicts that are returned; where none are, they change places to nothing
abbrev pub ConflictsCommuteTo : Conflict → Conflict → Option (Conflict × Conflict) → Type 0
ConflictsCommuteTo c d None = (d' c' : Conflict) → ElementCommutes (elements.Conflicted c) (elements.Conflicted d) (elements.Conflicted d') (elements.Conflicted c') → ⊥
ConflictsCommuteTo c d (Some r) = ElementCommutes (elements.Conflicted c) (elements.Conflicted d) (elements.Conflicted r.0) (elements.Conflicted r.1)

-- e then f change places to the pair that is returned; where none is, they change places to nothing
abbrev pub ElementsCommuteTo : {Z : Type 0} → elements.Element → elements.Element → Option (Element Z × Element Z) → Type 0
ElementsCommuteTo e f None = (f' e' : elements.Element) → ElementCommutes e f f' e' → ⊥
ElementsCommuteTo e f (Some r) = ElementCommutes e f (element_of r.0) (element_of r.1)

-- the laws hold of the pair that is returned
abbrev pub ElementLawsHold : {Z : Type 0} → elements.Element → elements.Element → Option (Element Z × Element Z) → Type 0
ElementLawsHold e f None = Unit {0}
ElementLawsHold e f (Some r) = ElementLaws e f (element_of r.0) (element_of r.1)

-- e passes all of fs, which become fs', and is then the one that is returned; where none is, it does not pass
abbrev pub ElementPassesTo : {Z : Type 0} → elements.Element → List elements.Element → List elements.Element → Option (Element Z) → Type 0
ElementPassesTo e fs fs' None = (ys : List elements.Element) (x : elements.Element) → CellRow ElementCommutes e fs ys x → ⊥
ElementPassesTo e fs fs' (Some e') = CellRow ElementCommutes e fs fs' (element_of e')

-- es then fs change places to the lists that are returned; where none are, they change places to nothing
abbrev pub ElementListsCommuteTo : {Z Y : Type 0} → List elements.Element → List elements.Element → Option (Vec (Element Z) Y × Vec (Element Z) Y) → Type 0
ElementListsCommuteTo es fs None = (fs' es' : List elements.Element) → ElementListsCommute es fs fs' es' → ⊥
ElementListsCommuteTo es fs (Some r) = ElementListsCommute es fs (elements_of r.0.items) (elements_of r.1.items)

-- the laws hold of the lists that are returned
abbrev pub ElementListLawsHold : {Z Y : Type 0} → List elements.Element → List elements.Element → Option (Vec (Element Z) Y × Vec (Element Z) Y) → Type 0
ElementListLawsHold es fs None = Unit {0}
ElementListLawsHold es fs (Some r) = ElementListLaws es fs (elements_of r.0.items) (elements_of r.1.items)

-- e passes all of fs and is then the one that is returned; where none is, it does not pass
abbrev pub PassesOver : {Z : Type 0} → elements.Element → List elements.Element → Option (Element Z) → Type 0
PassesOver e fs None = (ys : List elements.Element) (x : elements.Element) → CellRow ElementCommutes e fs ys x → ⊥
PassesOver e fs (Some e') = (ys : List elements.Element) × CellRow ElementCommutes e fs ys (element_of e')

-- the patch that a value is
abbrev pub patch_of : {Z : Type 0} → Patch Z → settled.Patch
patch_of p = record { elements = elements_of p.elements.now; names = p.names.now }

abbrev pub patches_of : {Z : Type 0} → List (Patch Z) → List settled.Patch
patches_of ps = map patch_of ps
