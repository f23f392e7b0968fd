-- A file as a chain of tokens: its lines and the gaps between them. Each token has a port on its left and one on its right;
-- where one token ends the next begins, so the two have that port in common. Ports are of any type: they are the identities.
use Rattle.std.specs.Prelude.{◌≡◌, ◌≢◌, ℕ, ◌+◌, List, [], ◌∷◌, ◌++◌, length, map}
use Rattle.std.specs.List.{Contains}
use Rattle.dm_tree.specs.Trees.{Lines}

-- what stands between two ports: a gap, or a line with its text
pub data Kind : Type 0 where
  Gap : Kind
  Line : List ℕ → Kind

-- a gap or a line, with the ports that it stands between
pub record Token (I : Type 0) : Type 0 where
  pub left : I
  pub kind : Kind
  pub right : I

-- gaps and lines take turns
pub data Turn : Type 0 where
  gap_next : Turn
  line_next : Turn

-- the other turn
abbrev pub other : Turn → Turn
other gap_next = line_next
other line_next = gap_next

-- whose turn it is where this stands
abbrev pub turn_of : Kind → Turn
turn_of Gap = gap_next
turn_of (Line x) = line_next

-- a place in a file: a port, and whose turn it is there
pub record Place (I : Type 0) : Type 0 where
  pub port : I
  pub next : Turn

-- the place where a token begins, and the one where it ends
abbrev pub begin_of : {I : Type 0} → Token I → Place I
begin_of t = record { port = t.left; next = turn_of t.kind }

abbrev pub end_of : {I : Type 0} → Token I → Place I
end_of t = record { port = t.right; next = other (turn_of t.kind) }

-- the tokens lead from p to q, each from where the one before it ended
abbrev pub LeadFrom : {I : Type 0} → Place I → List (Token I) → Place I → Type 0
LeadFrom p [] q = p ≡ q
LeadFrom p (t ∷ ts) q = (p ≡ begin_of t) × LeadFrom (end_of t) ts q

-- the text of a line, and nothing of a gap
abbrev pub text_of : Kind → Lines
text_of Gap = []
text_of (Line x) = x ∷ []

-- the texts of the lines, in order
abbrev pub lines_of : {I : Type 0} → List (Token I) → Lines
lines_of [] = []
lines_of (t ∷ ts) = text_of t.kind ++ lines_of ts

-- a file from its first port to its last: gap, line, gap and so on to a last gap, with at least one line
pub record IsChain {I : Type 0} (first : I) (c : List (Token I)) (last : I) : Type 0 where
  pub leads : LeadFrom (record { port = first; next = gap_next }) c (record { port = last; next = line_next })
  pub has_lines : lines_of c ≢ []

-- whose turn it is where a hunk begins to cut: one with old and new lines takes what stands from its first line to its last; any other takes the gaps around that too
abbrev pub cuts_at : Lines → Lines → Turn
cuts_at [] new = gap_next
cuts_at (x ∷ old) [] = gap_next
cuts_at (x ∷ old) (y ∷ new) = line_next

-- a hunk at line l with these old and new lines makes d of c: `taken`, whose lines are old, gives way to `added`, whose lines are new;
-- both lead from one place to another, and both files have a line
pub record HunkSteps {I : Type 0} (l : ℕ) (old new : Lines) (taken added c d : List (Token I)) : Type 0 where
  pub front : List (Token I)
  pub back : List (Token I)
  pub from : I
  pub to : I
  pub at : length (lines_of front) + 1 ≡ l
  pub before : c ≡ front ++ (taken ++ back)
  pub after : d ≡ front ++ (added ++ back)
  pub takes : LeadFrom (record { port = from; next = cuts_at old new }) taken (record { port = to; next = other (cuts_at old new) })
  pub adds : LeadFrom (record { port = from; next = cuts_at old new }) added (record { port = to; next = other (cuts_at old new) })
  pub old_is : lines_of taken ≡ old
  pub new_is : lines_of added ≡ new
  pub had_lines : lines_of c ≢ []
  pub has_lines : lines_of d ≢ []

-- the left ports of the tokens
abbrev pub lefts : {I : Type 0} → List (Token I) → List I
lefts ts = map (λ t. t.left) ts

-- the ports between the tokens
abbrev pub inner : {I : Type 0} → List (Token I) → List I
inner [] = []
inner (t ∷ ts) = lefts ts

-- no two are the same
abbrev pub Distinct : {X : Type 0} → List X → Type 0
Distinct [] = Unit {0}
Distinct (x ∷ xs) = (Contains xs x → ⊥) × Distinct xs

-- no port is the left port of two tokens
abbrev pub HasOnePortEach : {I : Type 0} → List (Token I) → Type 0
HasOnePortEach c = Distinct (lefts c)
