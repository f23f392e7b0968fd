-- The replaces of a file as a heap: each has a height, one above the highest of those that it leans on. Replaces that don't lean on each other can
-- change places, and in any order they make the same heap. A line of such a file is a symbol, which the heap spells.
use Rattle.std.specs.Prelude.{◌≡◌, ℕ, ◌+◌, max, Bool, not, cond, ◌||◌, List, [], ◌∷◌, Option, Some, None}
use Rattle.std.specs.List.{Contains}
use Rattle.std.specs.declared.cmp.Ordering.{Ordering}
use Rattle.std.specs.declared.cmp.Ordering.TheVariants.{Less}
use Rattle.std.specs.Ordering.{is_lt, nat_cmp}
use Rattle.std.specs.Cmp.Lexicographic.{slice_cmp}
use Rattle.std.specs.Str.{bytes_eq}
use Rattle.dm_tokens.specs.Sets.{ByteSet, set_of}
use Rattle.dm_tokens.specs.Validity.{TokenWords, AreOfSet}
use Rattle.dm_tokens.specs.Exchanging.{exchanged}

-- the words of the replace that undoes one
abbrev pub undoing : TokenWords → TokenWords
undoing w = record { set = w.set; old = w.new; new = w.old }

-- two replaces lean on each other: the texts of their sets differ, or a token of the one is a token of the other
abbrev pub leans : TokenWords → TokenWords → Bool
leans v w = not (bytes_eq v.set w.set) || (bytes_eq v.old w.old || (bytes_eq v.old w.new || (bytes_eq v.new w.old || bytes_eq v.new w.new)))

-- a replace in a heap
pub record HeapEntry : Type 0 where
  pub height : ℕ
  pub words : TokenWords

-- heaps are lists of them; which lists are heaps is said below
abbrev pub Heap : Type 0
Heap = List HeapEntry

-- one above the highest entry that a replace leans on; 1 if it leans on none
abbrev pub height_on : TokenWords → Heap → ℕ
height_on w [] = 1
height_on w (e ∷ h) = cond (leans e.words w) (max (e.height + 1) (height_on w h)) (height_on w h)

-- what entries are sorted by: their heights, then their words
abbrev pub key : HeapEntry → List (List ℕ)
key e = (e.height ∷ []) ∷ e.words.set ∷ e.words.old ∷ e.words.new ∷ []

-- how two entries compare
abbrev pub compared : HeapEntry → HeapEntry → Ordering
compared d e = slice_cmp (slice_cmp nat_cmp) (key d) (key e)

-- the first stands before the second
abbrev pub Precedes : HeapEntry → HeapEntry → Type 0
Precedes d e = compared d e ≡ Less

-- an entry put in at its place
unfoldable pub put_in : HeapEntry → Heap → Heap
put_in e [] = e ∷ []
put_in e (d ∷ h) = cond (is_lt (compared e d)) (e ∷ d ∷ h) (d ∷ put_in e h)

-- the entry that a replace is on a heap
abbrev pub entry_on : TokenWords → Heap → HeapEntry
entry_on w h = record { height = height_on w h; words = w }

-- the heap with it on
abbrev pub put_on : TokenWords → Heap → Heap
put_on w h = put_in (entry_on w h) h

-- a heap is sorted, and both words of each entry are tokens of the set that its text means
abbrev pub IsHeap : Heap → Type 0
IsHeap [] = Unit {0}
IsHeap (e ∷ h) = AreOfSet e.words.set e.words.old e.words.new × ((d : HeapEntry) → Contains h d → Precedes e d) × IsHeap h

-- a text with two tokens of a set exchanged, if there is one
abbrev pub exchange_in : Option ByteSet → TokenWords → List ℕ → List ℕ
exchange_in None w x = x
exchange_in (Some set) w x = exchanged set w.old w.new x

-- a text with the two tokens of a replace exchanged
unfoldable pub exchange : TokenWords → List ℕ → List ℕ
exchange w x = exchange_in (set_of w.set) w x

-- what a symbol is in a file with these replaces: sent through the exchange of each, the lowest first
unfoldable pub spelled : Heap → List ℕ → List ℕ
spelled [] x = x
spelled (e ∷ h) x = spelled h (exchange e.words x)
