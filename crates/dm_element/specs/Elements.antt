-- Elements of patches, and when they change places.
use Rattle.std.specs.Prelude.{◌≡◌, List, [], ◌∷◌, ◌++◌, All}
use Rattle.dm_prim.specs.Primitives.{Prim, inv, inv_all}
use Rattle.dm_prim.specs.Commuting.{ListsCommute}
use Rattle.dm_prim.specs.Rectangles.{Rectangle}
use Rattle.dm_element.specs.declared.side.Side.{Side}
use Rattle.dm_element.specs.declared.side.Side.TheVariants.{After, Before}

-- a conflict that was merged: what it does to a tree, and its shadows, lists of primitives that all start at the tree on this side of it
pub record Conflict : Type 0 where
  pub side : Side
  pub effect : List Prim
  pub shadows : List (List Prim)

-- an element of a patch
pub data Element : Type 0 where
  Plain : Prim → Element
  Conflicted : Conflict → Element

-- what an element does to a tree
abbrev pub effect_of : Element → List Prim
effect_of (Plain p) = p ∷ []
effect_of (Conflicted c) = c.effect

-- the effects of a list, in turn
abbrev pub effects_of : List Element → List Prim
effects_of [] = []
effects_of (e ∷ es) = effect_of e ++ effects_of es

-- its shadows; a primitive has none
abbrev pub shadows_of : Element → List (List Prim)
shadows_of (Plain p) = []
shadows_of (Conflicted c) = c.shadows

-- where they stand
abbrev pub side_of : Element → Side
side_of (Plain p) = After
side_of (Conflicted c) = c.side

abbrev pub other : Side → Side
other After = Before
other Before = After

-- the inverse: a conflict's shadows stay at their tree, which is on its other side
abbrev pub inv_element : Element → Element
inv_element (Plain p) = Plain (inv p)
inv_element (Conflicted c) = Conflicted (record { side = other c.side; effect = inv_all c.effect; shadows = c.shadows })

-- the inverse of a list: the inverses, in reversed order
abbrev pub inv_elements : List Element → List Element
inv_elements [] = []
inv_elements (e ∷ es) = inv_elements es ++ inv_element e ∷ []

-- both are plain, or both are conflicted and have their shadows on the same side
abbrev pub AreAlike : Element → Element → Type 0
AreAlike (Plain p) (Plain q) = Unit {0}
AreAlike (Conflicted c) (Conflicted d) = c.side ≡ d.side
AreAlike e f = ⊥

-- xs then m is m' then something
pub record Passes (xs m m' : List Prim) : Type 0 where
  pub passed : List Prim
  pub commute : ListsCommute xs m m' passed

-- xs then each of some lists, which become these, one for one and in order
pub data EachPasses (xs : List Prim) : List (List Prim) → List (List Prim) → Type 0 where
  none : EachPasses xs [] []
  next : {m m' : List Prim} {ms ms' : List (List Prim)} → Passes xs m m' → EachPasses xs ms ms' → EachPasses xs (m ∷ ms) (m' ∷ ms')

-- two lists that start at one tree merge: the inverse of m then k commute
pub record Merge (m k : List Prim) : Type 0 where
  pub second : List Prim
  pub first : List Prim
  pub commute : ListsCommute (inv_all m) k second first

-- each of the one with each of the other
abbrev pub EachMerges : List (List Prim) → List (List Prim) → Type 0
EachMerges ms ks = All (λ m. All (λ k. Merge m k) ks) ms

-- of the two that stand before and after an element, the one on the side of its shadows
abbrev pub at_side : {X : Type 0} → Side → X → X → X
at_side Before before after = before
at_side After before after = after

abbrev pub beside : Element → Element → Element → Element
beside e before after = at_side (side_of e) before after

-- e then f change places, to f' then e'. f' stands where e begins and f where e ends: the shadows of e pass the one of them on their side, backwards.
-- e stands where f begins and e' where it ends: the shadows of f pass the one on their side. Of these two the shadows stand at one tree, and merge
pub record ElementCommutes (e f f' e' : Element) : Type 0 where
  pub effects : ListsCommute (effect_of e) (effect_of f) (effect_of f') (effect_of e')
  pub first_alike : AreAlike e e'
  pub second_alike : AreAlike f f'
  pub first_passes : EachPasses (inv_all (effect_of (beside e f' f))) (shadows_of e) (shadows_of e')
  pub second_passes : EachPasses (effect_of (beside f e e')) (shadows_of f) (shadows_of f')
  pub merge : EachMerges (shadows_of (beside f e e')) (shadows_of (beside e f' f))

-- the lists es then fs change places, to fs' then es': there is a rectangle of pairs that do
abbrev pub ElementListsCommute : List Element → List Element → List Element → List Element → Type 0
ElementListsCommute es fs fs' es' = Rectangle ElementCommutes es fs fs' es'
