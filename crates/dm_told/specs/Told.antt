-- Answers as JSON, for programs.
use Rattle.std.specs.Prelude.{◌≡◌, ◌+◌, ◌-◌, ℕ, List, [], ◌++◌, codes, drop, length, map, slice_get, take, Option, None, Some}
use Rattle.std.specs.Fmt.{decimal}
use Rattle.std.specs.Option.{option_and_then}
use Rattle.serde_json.specs.Data.{Data, number, object, string, Members, no_members, put, unsigned}
use Rattle.serde_json.specs.Read.{read}
use Rattle.serde_json.specs.Written.{compact_text}
use Rattle.dm_info.specs.PatchInfo.{PatchInfo}
use Rattle.dm_named.specs.FaultWords.{fault_word}
use Rattle.dm_named.specs.Patches.{Patch}
use Rattle.dm_bundle.specs.Bundles.{Contents}
use Rattle.dm_bundle.specs.Patches.{infos_of}
use Rattle.dm_repo.specs.Repositories.{Holds}
use Rattle.dm_repo.specs.declared.refusal.Refusal.{Refusal}
use Rattle.dm_repo.specs.declared.refusal.Refusal.TheVariants.{MissingContext, MissingDependency, ContextDepends, HeldDepends, DoesNotFit, Conflicts, Full, NoMemory}
use Rattle.dm_scratch.specs.declared.verdict.Verdict.{Verdict as Outcome}
use Rattle.dm_scratch.specs.declared.verdict.Verdict.TheVariants.{Taken, TakenSome, NothingNew, Malformed, Refused}
use Rattle.dm_deliver.specs.Answering.{answer_text}
use Rattle.dm_deliver.specs.Hashes.{hash_word}
use Rattle.dm_deliver.specs.declared.answers.Answer.{Answer}
use Rattle.dm_deliver.specs.declared.answers.Answer.TheVariants.{Verdict, Hash, Date, BeforeBase}
use Rattle.dm_log.specs.Finding.{hash_text}
use Rattle.dm_log.specs.Json.{texts, with_text}
use Rattle.dm_explain.specs.Accounts.{held_at, new_at}
use Rattle.dm_explain.specs.Fates.{AreChosen}
use Rattle.dm_explain.specs.Places.{IsLineStart, newlines}

-- the members, and a word under a name
abbrev pub with_word : List ℕ → List ℕ → Members → Members
with_word name word ms = put name (string word) ms

-- the members, and a number under a name
abbrev pub with_number : List ℕ → ℕ → Members → Members
with_number name n ms = put name (number (unsigned n)) ms

-- the members, and the hashes of patches under a name
abbrev pub with_hashes : List ℕ → List PatchInfo → Members → Members
with_hashes name infos ms = put name (texts hash_text infos) ms

-- what each answer has: the word of its verdict, and its plain text
abbrev pub of_verdict : List ℕ → Answer → Members
of_verdict word answer = with_word (codes "text") (answer_text answer) (with_word (codes "verdict") word no_members)

-- a patch at a place: the place, its hash and its name
abbrev pub placed : ℕ → PatchInfo → Data
placed n i = object (with_text (codes "name") i.name (with_word (codes "hash") (hash_text i) (with_number (codes "place") n no_members)))

-- the members, and under a name the patch at a place, if one stands there
abbrev pub with_patch : List ℕ → ℕ → Option PatchInfo → Members → Members
with_patch name n None ms = ms
with_patch name n (Some i) ms = put name (placed n i) ms

-- the dependency that a new patch names at a place of its list, if it does
abbrev pub dependency_at : Contents → ℕ → ℕ → Option PatchInfo
dependency_at b n d = option_and_then (λ p. slice_get p.deps d) (slice_get b.patches n)

-- the word of a refusal, which its text begins with
abbrev pub refusal_word : Refusal → List ℕ
refusal_word (MissingContext c) = codes "missing-context"
refusal_word (MissingDependency n d) = codes "missing-dependency"
refusal_word (ContextDepends h r) = codes "context-depends"
refusal_word (HeldDepends h n) = codes "held-depends"
refusal_word (DoesNotFit n) = codes "does-not-fit"
refusal_word (Conflicts n h) = codes "conflicts"
refusal_word Full = codes "full"
refusal_word NoMemory = codes "no-memory"

-- the members, and the patches that a refusal is about: new ones and held ones, each under its place in the text
abbrev pub with_refusal : List Patch → Contents → Refusal → Members → Members
with_refusal repo b (MissingContext c) ms = with_patch (codes "missing") c (slice_get b.context c) ms
with_refusal repo b (MissingDependency n d) ms = with_patch (codes "missing") d (dependency_at b n d) (with_patch (codes "new") n (new_at b n) ms)
with_refusal repo b (ContextDepends h r) ms = with_patch (codes "needed") r (held_at repo r) (with_patch (codes "held") h (held_at repo h) ms)
with_refusal repo b (HeldDepends h n) ms = with_patch (codes "needed") n (new_at b n) (with_patch (codes "new") h (new_at b h) ms)
with_refusal repo b (DoesNotFit n) ms = with_patch (codes "new") n (new_at b n) ms
with_refusal repo b (Conflicts n h) ms = with_patch (codes "held") h (held_at repo h) (with_patch (codes "new") n (new_at b n) ms)
with_refusal repo b Full ms = ms
with_refusal repo b NoMemory ms = ms

-- what is refused, and by which word
abbrev pub refused : List ℕ → Answer → Members
refused word answer = with_word (codes "why") word (of_verdict (codes "refused") answer)

-- what is wrong with a text, and at which byte; the text before it ends in a line that begins at this start
abbrev pub malformed : List ℕ → ℕ → List ℕ → ℕ → Answer → Members
malformed word at before start answer =
    with_number (codes "column") (length before - start + 1)
    (with_number (codes "line") (newlines before + 1)
    (with_number (codes "offset") at
    (with_word (codes "why") word (of_verdict (codes "malformed") answer))))

-- these members tell a fault of a text at a byte
abbrev pub TellsFault : List ℕ → List ℕ → ℕ → Answer → Members → Type 0
TellsFault word text at answer ms = (start : ℕ) × IsLineStart (take at text) start × (ms ≡ malformed word at (take at text) start answer)

-- the names of the last patches of a repository, so many
abbrev pub newest : List Patch → ℕ → List PatchInfo
newest repo count = infos_of (drop (length repo - count) repo)

-- what is taken: the hashes of the patches that were appended
abbrev pub taken : List ℕ → List Patch → ℕ → Answer → Members
taken word repo count answer = with_hashes (codes "hashes") (newest repo count) (of_verdict word answer)

-- these members tell a verdict on a text that stands for the bundle, in the repository that it left
abbrev pub TellsVerdict : List Patch → Contents → List ℕ → Outcome → Members → Type 0
TellsVerdict repo b text (Taken count) ms = ms ≡ taken (codes "taken") repo count (Verdict (Taken count))
TellsVerdict repo b text (TakenSome count skipped) ms = (names : List PatchInfo) × AreChosen (λ i. Holds repo i → ⊥) (infos_of b.patches) names ×
    (ms ≡ with_hashes (codes "skipped") names (taken (codes "taken") repo count (Verdict (TakenSome count skipped))))
TellsVerdict repo b text NothingNew ms = ms ≡ with_hashes (codes "hashes") [] (of_verdict (codes "nothing-new") (Verdict NothingNew))
TellsVerdict repo b text (Malformed fault) ms = TellsFault (fault_word fault.kind) text fault.at (Verdict (Malformed fault)) ms
TellsVerdict repo b text (Refused why) ms = ms ≡ with_refusal repo b why (refused (refusal_word why) (Verdict (Refused why)))

-- these members tell an answer
abbrev pub Tells : List Patch → Contents → List ℕ → Answer → Members → Type 0
Tells repo b text (Verdict verdict) ms = TellsVerdict repo b text verdict ms
Tells repo b text (Hash fault) ms = TellsFault (hash_word fault.kind) text fault.at (Hash fault) ms
Tells repo b text (Date at) ms = TellsFault (codes "bad-date") text at (Date at) ms
Tells repo b text BeforeBase ms = ms ≡ refused (codes "before-base") BeforeBase

-- the members, and the text of a bundle, if it is told
abbrev pub with_bundle : Option (List ℕ) → Members → Members
with_bundle None ms = ms
with_bundle (Some text) ms = with_text (codes "bundle") text ms

-- what is told of a bundle, by a word: the hashes of its new patches, and its text, unless that is elsewhere
abbrev pub made : List ℕ → Contents → Option (List ℕ) → Members
made word b text = with_bundle text (with_hashes (codes "hashes") (infos_of b.patches) (with_word (codes "verdict") word no_members))

-- the plain text where patches are bound to the chosen ones
abbrev pub bound_text : List (PatchInfo × PatchInfo) → List ℕ
bound_text bound = codes "refused depends " ++ decimal (length bound)

-- what is told of patches that are bound to the chosen ones: their hashes
abbrev pub bound : List (PatchInfo × PatchInfo) → Members
bound pairs = with_hashes (codes "bound") (map (λ p. p.0) pairs)
    (with_word (codes "why") (codes "depends") (with_word (codes "text") (bound_text pairs) (with_word (codes "verdict") (codes "refused") no_members)))

-- what is told of a mirror that began with so many patches
abbrev pub begun : List ℕ → ℕ → List ℕ → Members
begun path count text =
    with_number (codes "patches") count (with_word (codes "mirror") path (with_word (codes "text") text (with_word (codes "verdict") (codes "begun") no_members)))

-- a line is the compact text of a value that has such members, and reads back as that value
pub record IsLineOf (IsTold : Members → Type 0) (line : List ℕ) : Type 0 where
  pub members : Members
  pub told : IsTold members
  pub text : line ≡ compact_text (object members) ++ codes "\n"
  pub reads_back : read (compact_text (object members)) ≡ Some (object members)

-- the line of an answer
abbrev pub TellsLine : List Patch → Contents → List ℕ → Answer → List ℕ → Type 0
TellsLine repo b text answer line = IsLineOf (Tells repo b text answer) line

-- the line of an answer that no repository has a part in
abbrev pub TellsText : List ℕ → Answer → List ℕ → Type 0
TellsText text answer line = TellsLine [] (record { patches = []; context = [] }) text answer line

-- the line of an answer in which no text has a part
abbrev pub TellsOwn : List Patch → Answer → List ℕ → Type 0
TellsOwn repo answer line = TellsLine repo (record { patches = []; context = [] }) [] answer line

-- the line of a bundle, by a word
abbrev pub IsMadeLine : List ℕ → Contents → Option (List ℕ) → List ℕ → Type 0
IsMadeLine word b text line = IsLineOf (λ ms. ms ≡ made word b text) line

-- the line of a bundle in which nothing is wrong
abbrev pub IsSoundLine : Contents → List ℕ → Type 0
IsSoundLine b line = IsMadeLine (codes "sound") b None line

-- the line of patches that are bound to the chosen ones
abbrev pub IsBoundLine : List (PatchInfo × PatchInfo) → List ℕ → Type 0
IsBoundLine pairs line = IsLineOf (λ ms. ms ≡ bound pairs) line

-- the line of a mirror that began
abbrev pub IsBegunLine : List ℕ → ℕ → List ℕ → List ℕ → Type 0
IsBegunLine path count text line = IsLineOf (λ ms. ms ≡ begun path count text) line
