-- What a primitive does to a tree with identities, and which facts it takes away and adds.
use Rattle.std.specs.Prelude.{◌≡◌, ◌≢◌, ◌⊎◌, ℕ, List, [], ◌∷◌, ◌++◌, map, Option, Some, None}
use Rattle.dm_tree.specs.Paths.{Name, Path, Under, Apart}
use Rattle.dm_tree.specs.Trees.{Lines}
use Rattle.dm_tokens.specs.Validity.{TokenWords}
use Rattle.dm_prim.specs.Primitives.{Work, AddFile, RmFile, AddDir, RmDir, Hunk, Binary, Replace, Prim, At, Move, ChangePref, TurnsLines}
use Rattle.dm_prim.specs.Table.{IsDirectoryWork}
use Rattle.dm_chain.specs.Chains.{Token, HunkSteps}
use Rattle.dm_facts.specs.Heaps.{Heap, undoing, entry_on, put_on, spelled}
use Rattle.dm_facts.specs.Nodes.{Node, FileWith, NodeMap, texts_of, IsFolder, IsFile, IsEmptyFile, IsNameIn}
use Rattle.dm_facts.specs.Facts.{TokenOf, Turned, stands, facts_of, Effect, inverse}

-- where nothing stood, a node of this kind stands in the directory d under the name n, and its facts are added
pub record Creates {I : Type 0} (Is : Node I → Type 0) (d : I) (n : Name) (before after : Option (Node I)) (e : Effect I) : Type 0 where
  pub node : Node I
  pub is : Is node
  pub nothing : before ≡ None
  pub there : after ≡ Some node
  pub effect : e ≡ record { taken = []; added = facts_of node d n }

-- a file keeps its identity and its replaces while lines of it are replaced; the heap spells the old and the new lines
pub record Edits {I : Type 0} (l : ℕ) (old new : Lines) (before after : Option (Node I)) (e : Effect I) : Type 0 where
  pub file : I
  pub heap : Heap
  pub tokens : List (Token I)
  pub tokens' : List (Token I)
  pub taken : List (Token I)
  pub added : List (Token I)
  pub was : Lines
  pub is : Lines
  pub stood : before ≡ Some (FileWith file heap tokens)
  pub there : after ≡ Some (FileWith file heap tokens')
  pub is_file : IsFile file heap tokens
  pub old_is : map (spelled heap) was ≡ old
  pub new_is : map (spelled heap) is ≡ new
  pub replaced : HunkSteps l was is taken added tokens tokens'
  pub effect : e ≡ record { taken = map (TokenOf file) taken; added = map (TokenOf file) added }

-- a file keeps its identity and its replaces while all its gaps and lines give way to others
pub record Rewrites {I : Type 0} (old new : Lines) (before after : Option (Node I)) (e : Effect I) : Type 0 where
  pub file : I
  pub heap : Heap
  pub tokens : List (Token I)
  pub tokens' : List (Token I)
  pub stood : before ≡ Some (FileWith file heap tokens)
  pub there : after ≡ Some (FileWith file heap tokens')
  pub was_file : IsFile file heap tokens
  pub is_file : IsFile file heap tokens'
  pub old_is : texts_of heap tokens ≡ old
  pub new_is : texts_of heap tokens' ≡ new
  pub effect : e ≡ record { taken = map (TokenOf file) tokens; added = map (TokenOf file) tokens' }

-- a replace is put on the heap of a file
pub record PutsOn {I : Type 0} (file : I) (words : TokenWords) (heap heap' : Heap) (e : Effect I) : Type 0 where
  pub on : heap' ≡ put_on words heap
  pub effect : e ≡ record { taken = []; added = Turned file (entry_on words heap) ∷ [] }

-- a replace changes the heap of a file: it is put on, or it undoes one on which nothing leans, and that one is taken off
abbrev pub ChangesHeap : {I : Type 0} → I → TokenWords → Heap → Heap → Effect I → Type 0
ChangesHeap file words heap heap' e = PutsOn file words heap heap' e ⊎ PutsOn file (undoing words) heap' heap (inverse e)

-- a file keeps its identity, its gaps and its symbols while its heap changes, and so its lines turn
pub record TurnsFile {I : Type 0} (set_text old new : List ℕ) (before after : Option (Node I)) (e : Effect I) : Type 0 where
  pub file : I
  pub heap : Heap
  pub heap' : Heap
  pub tokens : List (Token I)
  pub stood : before ≡ Some (FileWith file heap tokens)
  pub there : after ≡ Some (FileWith file heap' tokens)
  pub was_file : IsFile file heap tokens
  pub is_file : IsFile file heap' tokens
  pub turned : TurnsLines set_text old new (texts_of heap tokens) (texts_of heap' tokens)
  pub change : ChangesHeap file (record { set = set_text; old = old; new = new }) heap heap' e

-- what work finds under the name n of the directory d, and what it leaves there
abbrev pub Makes : {I : Type 0} → Work → I → Name → Option (Node I) → Option (Node I) → Effect I → Type 0
Makes AddFile d n before after e = Creates IsEmptyFile d n before after e
Makes RmFile d n before after e = Creates IsEmptyFile d n after before (inverse e)
Makes AddDir d n before after e = Creates IsFolder d n before after e
Makes RmDir d n before after e = Creates IsFolder d n after before (inverse e)
Makes (Hunk l old new) d n before after e = Edits l old new before after e
Makes (Binary old new) d n before after e = Rewrites old new before after e
Makes (Replace set old new) d n before after e = TurnsFile set old new before after e

-- work w at p makes t of s: the directory of p is there, and nothing is in a directory that is added or removed
pub record StepsAt {I : Type 0} (p : Path) (w : Work) (e : Effect I) (s t : NodeMap I) : Type 0 where
  pub directory : I
  pub name : Name
  pub placed : IsNameIn p directory name s
  pub empty : IsDirectoryWork w → (n : Name) (r : Path) → s (p ++ n ∷ r) ≡ None
  pub here : Makes w directory name (s p) (t p) e
  pub elsewhere : (q : Path) → q ≢ p → t q ≡ s q

-- `move a b` makes t of s: one node changes its directory and its name, and all inside it goes along
pub record StepsMove {I : Type 0} (a b : Path) (e : Effect I) (s t : NodeMap I) : Type 0 where
  pub apart : Apart a b
  pub node : Node I
  pub stood : s a ≡ Some node
  pub from : I
  pub old_name : Name
  pub placed : IsNameIn a from old_name s
  pub to : I
  pub new_name : Name
  pub place : IsNameIn b to new_name s
  pub free : (r : Path) → s (b ++ r) ≡ None
  pub there : (r : Path) → t (b ++ r) ≡ s (a ++ r)
  pub gone : (r : Path) → t (a ++ r) ≡ None
  pub elsewhere : (q : Path) → (Under q a → ⊥) → (Under q b → ⊥) → t q ≡ s q
  pub effect : e ≡ record { taken = stands node from old_name ∷ []; added = stands node to new_name ∷ [] }

-- p makes t of s with this effect; another value for a preference has none
abbrev pub Steps : {I : Type 0} → Prim → Effect I → NodeMap I → NodeMap I → Type 0
Steps (At p w) e s t = StepsAt p w e s t
Steps (Move a b) e s t = StepsMove a b e s t
Steps (ChangePref name old new) e s t = (s ≡ t) × (e ≡ record { taken = []; added = [] })
