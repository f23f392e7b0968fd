-- What holds of all chains of tokens, and of all hunks that step from one to another.
use Rattle.std.specs.Prelude.{◌≡◌, ◌≢◌, ℕ, ◌*◌, ◌≤◌, ◌↔◌, ◌⊎◌, List, [], ◌∷◌, ◌++◌, length, map}
use Rattle.std.specs.List.{Contains}
use Rattle.std.specs.List.Sorted.{IsPermutation}
use Rattle.dm_tree.specs.Paths.{Path}
use Rattle.dm_tree.specs.Trees.{Lines}
use Rattle.dm_tree.specs.Changes.{ReplacesLines}
use Rattle.dm_prim.specs.Primitives.{At, Hunk}
use Rattle.dm_prim.specs.Table.{TableRow}
use Rattle.dm_chain.specs.Chains.{Token, IsChain, HunkSteps, lines_of, inner, Distinct, lefts, HasOnePortEach}
use Rattle.dm_chain.specs.Sums.{Change, all_added, ComesTo}
use Rattle.dm_chain.specs.HunksInTurn.{FileHunk, StepsByAll, changes_of, ports_of}

-- a step replaces the old lines by the new, as the hunk does with the lines of a file
abbrev pub StepsReplaceLines : Type 0 → Type 0
StepsReplaceLines I = (l : ℕ) (old new : Lines) (taken added c d : List (Token I)) → HunkSteps l old new taken added c d →
    ReplacesLines l old new (lines_of c) (lines_of d)

-- the inverse of a hunk steps back, and what was added is taken, what was taken is added
abbrev pub InversesStepBack : Type 0 → Type 0
InversesStepBack I = (l : ℕ) (old new : Lines) (taken added c d : List (Token I)) →
    HunkSteps l old new taken added c d ↔ HunkSteps l new old added taken d c

-- a step from a chain leads to a chain, with the same first and last port
abbrev pub StepsKeepChains : Type 0 → Type 0
StepsKeepChains I = (first last : I) (l : ℕ) (old new : Lines) (taken added c d : List (Token I)) →
    IsChain first c last → HunkSteps l old new taken added c d → IsChain first d last

-- where two hunks of a file change places, each takes and adds in its new place what it did in its old one
abbrev pub CommutedHunksStepAlike : Type 0 → Type 0
CommutedHunksStepAlike I = (first last : I) (f : Path) (l1 l2 m k : ℕ) (o1 n1 o2 n2 o1' n1' o2' n2' : Lines) (t1 a1 t2 a2 c d e : List (Token I)) →
    TableRow (At f (Hunk l1 o1 n1)) (At f (Hunk l2 o2 n2)) (At f (Hunk m o2' n2')) (At f (Hunk k o1' n1')) →
    IsChain first c last → HunkSteps l1 o1 n1 t1 a1 c d → HunkSteps l2 o2 n2 t2 a2 d e →
    (d' : List (Token I)) × HunkSteps m o2' n2' t2 a2 c d' × HunkSteps k o1' n1' t1 a1 d' e

-- a hunk that replaces lines of a chain steps from it, with ports of a list that has two for each new line, the first first
abbrev pub ReplacedLinesHaveAStep : Type 0 → Type 0
ReplacedLinesHaveAStep I = (first last : I) (l : ℕ) (old new ls : Lines) (c : List (Token I)) (ports : List I) →
    IsChain first c last → ReplacesLines l old new (lines_of c) ls → 2 * length new ≤ length ports →
    (taken : List (Token I)) × (added : List (Token I)) × (d : List (Token I)) × (rest : List I) ×
    HunkSteps l old new taken added c d × (lines_of d ≡ ls) × (ports ≡ inner added ++ rest)

-- any lines, one at least, are those of a chain from one port to another, with ports of a list that has two for each line, the first first
abbrev pub LinesHaveAChain : Type 0 → Type 0
LinesHaveAChain I = (first last : I) (ls : Lines) (ports : List I) → ls ≢ [] → 2 * length ls ≤ length ports →
    (c : List (Token I)) × (rest : List I) × IsChain first c last × (lines_of c ≡ ls) × (ports ≡ inner c ++ rest)

-- a hunk steps from a chain in one way only, but for the ports within what it adds
abbrev pub OneWayToStep : Type 0 → Type 0
OneWayToStep I = (first last : I) (l : ℕ) (old new : Lines) (taken added c d taken' added' e : List (Token I)) → IsChain first c last →
    HunkSteps l old new taken added c d → HunkSteps l old new taken' added' c e → inner added ≡ inner added' → (taken ≡ taken') × (added ≡ added') × (d ≡ e)

-- what a hunk takes from a chain and adds determines the hunk and what it makes
abbrev pub TokensDetermineTheHunk : Type 0 → Type 0
TokensDetermineTheHunk I = (first last : I) (taken added c : List (Token I)) → IsChain first c last → HasOnePortEach c →
    (l : ℕ) (old new : Lines) (d : List (Token I)) (m : ℕ) (old' new' : Lines) (e : List (Token I)) →
    HunkSteps l old new taken added c d → HunkSteps m old' new' taken added c e → (l ≡ m) × (old ≡ old') × (new ≡ new') × (d ≡ e)

-- two chains of the same tokens that begin at the same port, no port the left port of two tokens, are the same
abbrev pub TokensDetermineTheChain : Type 0 → Type 0
TokensDetermineTheChain I = (first last last' : I) (c d : List (Token I)) → IsChain first c last → IsChain first d last' →
    HasOnePortEach c → HasOnePortEach d → ((t : Token I) → Contains c t ↔ Contains d t) → c ≡ d

-- what is there after a step: what was added, and what was there and was not taken
abbrev pub StepsChangeTheSet : Type 0 → Type 0
StepsChangeTheSet I = (l : ℕ) (old new : Lines) (taken added c d : List (Token I)) → HasOnePortEach c → HunkSteps l old new taken added c d →
    (t : Token I) → Contains d t ↔ (Contains added t ⊎ (Contains c t × (Contains taken t → ⊥)))

-- a step whose inner ports are new leaves no port the left port of two tokens
abbrev pub StepsKeepPortsApart : Type 0 → Type 0
StepsKeepPortsApart I = (l : ℕ) (old new : Lines) (taken added c d : List (Token I)) → HasOnePortEach c → HunkSteps l old new taken added c d →
    Distinct (inner added) → ((p : I) → Contains (inner added) p → Contains (lefts c) p → ⊥) → HasOnePortEach d

-- a step is a sum: what was there with what was added is what is there with what was taken, each as often
abbrev pub StepsKeepTheSum : Type 0 → Type 0
StepsKeepTheSum I = (l : ℕ) (old new : Lines) (taken added c d : List (Token I)) → HunkSteps l old new taken added c d →
    IsPermutation (c ++ added) (d ++ taken)

-- the left ports of a chain are its first port and the ports between its tokens
abbrev pub LeftPortsOfAChain : Type 0 → Type 0
LeftPortsOfAChain I = (first last : I) (c : List (Token I)) → IsChain first c last → lefts c ≡ first ∷ inner c

-- hunks in turn are a sum, of tokens and of left ports
abbrev pub HunksInTurnAddUp : Type 0 → Type 0
HunksInTurnAddUp I = (hs : List (FileHunk I)) (c d : List (Token I)) → StepsByAll hs c d →
    ComesTo c (changes_of hs) d × ComesTo (lefts c) (map ports_of (changes_of hs)) (lefts d)

-- one sum after another is a sum of all changes
abbrev pub SumsJoin : Type 0 → Type 0
SumsJoin X = (xs ys zs : List X) (cs ds : List (Change X)) → ComesTo xs cs ys → ComesTo ys ds zs → ComesTo xs (cs ++ ds) zs

-- the same changes in any order come to the same elements, each as often
abbrev pub SumsForgetOrder : Type 0 → Type 0
SumsForgetOrder X = (xs ys zs : List X) (cs ds : List (Change X)) → IsPermutation cs ds → ComesTo xs cs ys → ComesTo xs ds zs → IsPermutation ys zs

-- two lists of hunks that take and add the same tokens, in any order and at any lines, make the same file of a chain, as long as each port that is added is new
abbrev pub SameChangesSameFile : Type 0 → Type 0
SameChangesSameFile I = (first last : I) (hs ks : List (FileHunk I)) (c d e : List (Token I)) → IsChain first c last → StepsByAll hs c d → StepsByAll ks c e →
    IsPermutation (changes_of hs) (changes_of ks) → Distinct (lefts c ++ all_added (map ports_of (changes_of hs))) → d ≡ e
