-- Why a tree was not written, and what was made then.
use Rattle.std.specs.Prelude.{◌≡◌, ◌≢◌, ◌⊎◌, ℕ, List, [], ◌∷◌, ◌++◌, map, Option, Some, None}
use Rattle.dm_tree.specs.Trees.{Tree}
use Rattle.dm_checkout.specs.Repositories.{refused}
use Rattle.dm_checkout.specs.Made.{Made, MadeDir, MadeFile, MadePart, IsBegun, made_all, rows}
use Rattle.dm_checkout.specs.declared.fault.Refused.{Refused}
use Rattle.dm_checkout.specs.declared.fault.Why.{Why}
use Rattle.dm_checkout.specs.declared.item.Item.{Item}
use Rattle.dm_checkout.specs.declared.item.Content.{Content}
use Rattle.dm_checkout.specs.declared.item.Content.TheVariants as content
use Rattle.dm_checkout.specs.declared.fault.CheckoutFault.{CheckoutFault}
use Rattle.dm_checkout.specs.declared.fault.CheckoutFault.TheVariants.{Folder, NotUtf8, UnsafeNames, Unwritten, NoMemory}
use Rattle.dm_checkout.specs.declared.names.Names.{Names}
use Rattle.dm_checkout.specs.declared.names.Names.TheVariants.{Safe, All}

-- what of a tree isn't written by default, in the order of its paths
abbrev pub refused_in : Tree → List (List ℕ × Why)
refused_in t = refused (map (λ row. row.0) (rows t))

-- what the code tells as refused
abbrev pub told : List Refused → List (List ℕ × Why)
told list = map (λ one. (one.place.bytes.items, one.why)) list

-- the names are as they were asked for: any, or none that other programs obey
abbrev pub IsAllowed : Names → Tree → Type 0
IsAllowed Safe t = refused_in t ≡ []
IsAllowed All t = Unit {0}

-- what was made before, and then a part of the checkout
abbrev pub HasBegun : List ℕ → Tree → List Made → List Made → Type 0
HasBegun folder t before after = (done : List Made) × (after ≡ before ++ done) × IsBegun (made_all folder t) done

-- what is made for a content at a place
abbrev pub made_content : List ℕ → Option Content → List Made
made_content place None = []
made_content place (Some content.Folder) = MadeDir place ∷ []
made_content place (Some (content.File bytes)) = MadeFile place bytes.items ∷ []

-- why nothing more was made: what was made since, and whether the names were refused
abbrev pub HasFault : Names → List ℕ → Tree → List Made → List Made → CheckoutFault → Type 0
HasFault names folder t before after (UnsafeNames list) = (names ≡ Safe) × (refused_in t ≢ []) × (told list.items ≡ refused_in t) × (after ≡ before)
HasFault names folder t before after (NotUtf8 place) = IsAllowed names t × (after ≡ before)
HasFault names folder t before after (Folder error) = IsAllowed names t × (after ≡ before)
HasFault names folder t before after (Unwritten place error) = IsAllowed names t × HasBegun folder t before after
HasFault names folder t before after NoMemory = HasBegun folder t before after

-- the fault of the names: all that is refused, where they were to be safe
abbrev pub IsNamesFault : Names → List (List ℕ × Why) → CheckoutFault → Type 0
IsNamesFault names all (UnsafeNames list) = (names ≡ Safe) × (all ≢ []) × (told list.items ≡ all)
IsNamesFault names all NoMemory = Unit {0}
IsNamesFault names all fault = ⊥

-- a path that is no UTF-8, or no memory
abbrev pub IsUtf8Fault : CheckoutFault → Type 0
IsUtf8Fault (NotUtf8 place) = Unit {0}
IsUtf8Fault NoMemory = Unit {0}
IsUtf8Fault fault = ⊥

-- the folder can't be taken
abbrev pub IsFolderFault : CheckoutFault → Type 0
IsFolderFault (Folder error) = Unit {0}
IsFolderFault fault = ⊥

-- a place that can't be written, or no memory
abbrev pub IsWriteFault : CheckoutFault → Type 0
IsWriteFault (Unwritten place error) = Unit {0}
IsWriteFault NoMemory = Unit {0}
IsWriteFault fault = ⊥

-- what is made for an item
abbrev pub made_item : Item → List Made
made_item item = made_content item.place.items item.content

-- what is left of an item that failed: nothing, or a part of its file
abbrev pub IsPartOf : Item → List Made → List Made → Type 0
IsPartOf item before after = (after ≡ before) ⊎ ((bytes : List ℕ) × (made_item item ≡ MadeFile item.place.items bytes ∷ []) × (after ≡ before ++ MadePart item.place.items ∷ []))
