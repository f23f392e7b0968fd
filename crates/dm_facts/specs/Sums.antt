-- All facts of a tree as a list.
use Rattle.std.specs.Prelude.{◌≡◌, ◌≢◌, List, [], ◌∷◌, ◌++◌, Some, None}
use Rattle.std.specs.List.{Contains}
use Rattle.dm_tree.specs.Paths.{Name, Path}
use Rattle.dm_chain.specs.Chains.{Distinct}
use Rattle.dm_facts.specs.Nodes.{Node, NodeMap, IsNameIn}
use Rattle.dm_facts.specs.Facts.{Fact, facts_of}

-- fs are the facts of what stands at these paths of s, path after path
abbrev pub FactsAt : {I : Type 0} → NodeMap I → List Path → List (Fact I) → Type 0
FactsAt s [] fs = fs ≡ []
FactsAt {I} s (p ∷ ps) fs = (x : Node I) × (d : I) × (n : Name) × (rest : List (Fact I)) × (s p ≡ Some x) × IsNameIn p d n s × (fs ≡ facts_of x d n ++ rest) × FactsAt s ps rest

-- fs are all facts of s
pub record AreFacts {I : Type 0} (s : NodeMap I) (fs : List (Fact I)) : Type 0 where
  pub paths : List Path
  pub distinct : Distinct paths
  pub all : (p : Path) → p ≢ [] → s p ≢ None → Contains paths p
  pub listed : FactsAt s paths fs
