-- Which identities a step introduces, and when they are new.
use Rattle.std.specs.Prelude.{◌≡◌, ℕ, ◌*◌, ◌⊎◌, List, [], ◌∷◌, ◌++◌, length, Some}
use Rattle.std.specs.List.{Contains}
use Rattle.dm_tree.specs.Paths.{Path}
use Rattle.dm_prim.specs.Primitives.{Work, AddFile, RmFile, AddDir, RmDir, Hunk, Binary, Replace, Prim, At, Move, ChangePref}
use Rattle.dm_chain.specs.Chains.{lefts, Distinct}
use Rattle.dm_facts.specs.Nodes.{Node, Folder, FileWith, NodeMap}
use Rattle.dm_facts.specs.Facts.{Fact, FolderIn, FileIn, TokenOf, Turned, Effect}

-- what a fact is about: an entry, or the port where a gap or line begins; a replace has no identity, so it is about none
abbrev pub subject : {I : Type 0} → Fact I → List I
subject (FolderIn x d n) = x ∷ []
subject (FileIn x d n) = x ∷ []
subject (TokenOf x t) = t.left ∷ []
subject (Turned x r) = []

-- what some facts are about
abbrev pub subjects_of : {I : Type 0} → List (Fact I) → List I
subjects_of [] = []
subjects_of (f ∷ fs) = subject f ++ subjects_of fs

-- an effect introduces x: a fact that it adds is about x, and none that it takes away
abbrev pub Introduces : {I : Type 0} → Effect I → I → Type 0
Introduces e x = Contains (subjects_of e.added) x × (Contains (subjects_of e.taken) x → ⊥)

-- each fact that is added is about what a fact is about that is taken away, or about one of these identities
abbrev pub UsesOf : {I : Type 0} → List I → Effect I → Type 0
UsesOf {I} ids e = (x : I) → Contains (subjects_of e.added) x → Contains (subjects_of e.taken) x ⊎ Contains ids x

-- x is the identity of the node, or the port where one of its gaps and lines begins
abbrev pub IsOf : {I : Type 0} → I → Node I → Type 0
IsOf x (Folder y) = y ≡ x
IsOf x (FileWith y h c) = (y ≡ x) ⊎ Contains (lefts c) x

-- x is an identity in s
abbrev pub IsIn : {I : Type 0} → I → NodeMap I → Type 0
IsIn {I} x s = (p : Path) × (y : Node I) × (s p ≡ Some y) × IsOf x y

-- the ports where gaps and lines begin, of some facts
abbrev pub ports_of : {I : Type 0} → List (Fact I) → List I
ports_of [] = []
ports_of (FolderIn x d n ∷ fs) = ports_of fs
ports_of (FileIn x d n ∷ fs) = ports_of fs
ports_of (TokenOf x t ∷ fs) = t.left ∷ ports_of fs
ports_of (Turned x r ∷ fs) = ports_of fs

-- what e introduces isn't in s, and no two gaps or lines that it adds begin at one port
pub record AddsNew {I : Type 0} (e : Effect I) (s : NodeMap I) : Type 0 where
  pub new : (x : I) → Introduces e x → IsIn x s → ⊥
  pub apart : Distinct (ports_of e.added)

-- how many new identities are enough for work, and for a primitive
abbrev pub enough_for : Work → ℕ
enough_for AddFile = 4
enough_for RmFile = 0
enough_for AddDir = 1
enough_for RmDir = 0
enough_for (Hunk l old new) = 2 * length new
enough_for (Binary old new) = 2 * length new
enough_for (Replace set old new) = 0

abbrev pub enough : Prim → ℕ
enough (At p w) = enough_for w
enough (Move a b) = 0
enough (ChangePref name old new) = 0
