-- Lines that turn, as they are computed. For the clauses of private functions alone.
use Rattle.std.specs.Prelude.{◌≢◌, ◌≤◌, ◌<◌, ◌⊎◌, ℕ, List, Contains}
use Rattle.dm_tree.specs.declared.fault.TreeFault.{TreeFault}
use Rattle.dm_tree.specs.declared.fault.TreeFault.TheVariants.{TokenThere, TooLarge, NoMemory}
use Rattle.dm_tree.specs.Trees.{Lines}
use Rattle.dm_tree.specs.Listings.{file_size}
use Rattle.dm_tokens.specs.Sets.{ByteSet}
use Rattle.dm_tokens.specs.Pieces.{HasPiece}
use Rattle.dm_tokens.specs.Turning.{TurnAll}
use Rattle.dm_tokens.specs.Validity.{TokenWords}
use Rattle.dm_tokens.specs.declared.turning.Turned.{Turned}
use Rattle.dm_tokens.specs.declared.turning.Turned.TheVariants.{Same, Other, Nothing}
use Rattle.dm_prim.specs.Limits.{most_turned}
use Rattle.dm_prim.specs.Applying.{HasNewToken, GrowsTooLarge, TurnsWithin}

-- lines turn to others by these words, and neither are too large
abbrev pub TurnsBy : TokenWords → Lines → Lines → Type 0
TurnsBy w ls ls' = TurnsWithin w.set w.old w.new ls ls'

-- what lines turn to: themselves; others, since the old token stands in one of them; nothing, since the new token does
abbrev pub LinesTurnAs : ByteSet → List ℕ → List ℕ → Lines → Turned → Type 0
LinesTurnAs set old new ls Same = TurnAll set old new ls ls
LinesTurnAs set old new ls Other = (old ≢ new) × ((line : List ℕ) × Contains ls line × HasPiece set line old) × ((ls' : Lines) × TurnAll set old new ls ls')
LinesTurnAs set old new ls Nothing = (old ≢ new) × ((line : List ℕ) × Contains ls line × HasPiece set line new)

-- why they don't turn: they are too large; the new token stands there; they would be too large; or they do turn, and memory ran out
abbrev pub FailsToTurn : TokenWords → Lines → TreeFault → Type 0
FailsToTurn w ls TokenThere = (file_size ls ≤ most_turned) × HasNewToken w.set w.old w.new ls
FailsToTurn w ls TooLarge = (most_turned < file_size ls) ⊎ ((file_size ls ≤ most_turned) × GrowsTooLarge w.set w.old w.new ls)
FailsToTurn w ls NoMemory = (ls' : Lines) × TurnsBy w ls ls'
FailsToTurn w ls e = ⊥
