-- What a plan is made of, as the words of `dm run` say.
use Rattle.std.proofs.Common.{◌≡◌, ◌≢◌, ℕ, List, Option, None, Some, IfOk, MatchOption, subst, sym}
use Rattle.std.specs.Borrow.{Bor}
use Rattle.dm_commands.specs.Alike.{IsRanAs}
use Rattle.dm_commands.specs.declared.alike.Mirrors.{Mirrors}
use Rattle.dm_commands.specs.declared.running.Ran.{Ran}
use Rattle.dm_named.specs.declared.limits.Kinds.TheVariants.{Six}
use Rattle.dm_files.specs.Bases.{IsBaseOrEmpty, IsReadAs, named_base}
use Rattle.dm_files.specs.declared.files.BaseFile.{BaseFile}
use Rattle.dm_files.specs.Named.{policy_for}
use Rattle.dm_words.specs.Requests.{texts_in}
use Rattle.dm_words.specs.declared.request.Apply.{Apply}
use Rattle.dm_words.specs.declared.request.Run.{Run}
use Rattle.dm_words.specs.declared.request.Request.TheVariants as requests
use Rattle.dm_files.specs.Mirrors.{IsApplied}
use Rattle.dm_files.specs.declared.outcome.Outcome.{Outcome}
use Rattle.dm_tool.specs.Answers.{AsksMore, IsAnswered, IsRun, IsTaken}
use Rattle.dm_tool.specs.Held.{words_in}
use Rattle.dm_tool.specs.Posters.{AreRead, AreSplit, Poster, ReadWord, by_poster, texts_sent}

-- what was read, and what came of it
pub is_run : (had : List ℕ → List ℕ → Type 0) (asked : Run) (status : ℕ) (pairs : List (Bor (List ℕ) × Bor (List ℕ))) (words : List (List ℕ)) (posters : List Poster) (read : List ReadWord) (file : Option BaseFile) (mirrors : Mirrors) (ran : Ran) →
    words ≡ texts_in asked.posters → AreSplit words (words_in pairs) → AreRead had pairs read → posters ≡ by_poster read → IsReadAs had Six (named_base asked.base.base asked.base.repository) file → IsBaseOrEmpty file mirrors.base →
    mirrors.policy ≡ policy_for asked.skip → mirrors.count ≡ asked.mirrors → mirrors.bound ≡ asked.bound →
    IsRanAs (texts_sent posters) mirrors ran → ran.status ≡ status → IsRun had asked status
is_run had asked status pairs words posters read file mirrors ran same split are_read made file_read base policy count bound is exit = record {
  pairs = pairs;
  split = rw same at split;
  read = read;
  are_read = are_read;
  file = file;
  file_read = file_read;
  mirrors = mirrors;
  base = base;
  policy = policy;
  count = count;
  bound = bound;
  ran = ran;
  is_ran = rw made at is;
  exit = sym exit;
}

-- `dm apply` with a mirror, and without one
pub with_mirror : (had : List ℕ → List ℕ → Type 0) (asked : Apply) (outcome : Outcome) (name : Bor (List ℕ)) → asked.mirror ≡ Some name → IsApplied had asked name.now outcome → IsAnswered had (requests.Apply asked) outcome
with_mirror had asked outcome name is applied =
    subst (λ (m : Option (Bor (List ℕ))). MatchOption m (IfOk outcome.answer (λ status. status ≢ 2 → AsksMore asked → IsTaken had asked status)) (λ n. IsApplied had asked n.now outcome)) (sym is) applied

pub without_mirror : (had : List ℕ → List ℕ → Type 0) (asked : Apply) (outcome : Outcome) → asked.mirror ≡ None → IfOk outcome.answer (λ status. status ≢ 2 → AsksMore asked → IsTaken had asked status) → IsAnswered had (requests.Apply asked) outcome
without_mirror had asked outcome none taken =
    subst (λ (m : Option (Bor (List ℕ))). MatchOption m (IfOk outcome.answer (λ status. status ≢ 2 → AsksMore asked → IsTaken had asked status)) (λ n. IsApplied had asked n.now outcome)) (sym none) taken
