-- What `dm run` answers.
use Rattle.std.specs.Prelude.{◌≡◌, ◌⊎◌, ℕ, suc, List, [], ◌∷◌, ◌++◌, codes, map}
use Rattle.std.specs.Borrow.{Bor}
use Rattle.std.specs.Fmt.{decimal}
use Rattle.dm_named.specs.declared.limits.Limits.{Limits}
use Rattle.dm_named.specs.Patches.{Patch}
use Rattle.dm_repo.specs.declared.policy.Policy.{Policy}
use Rattle.dm_scratch.specs.Printing.{line_of}
use Rattle.dm_mirror.specs.declared.outcome.Outcome.{Outcome}
use Rattle.dm_mirror.specs.Plans.{AreStarts, IsPlannable}
use Rattle.dm_mirror.specs.Runs.{AllAccepted, IsRunOf}
use Rattle.dm_mirror.specs.Report.{IsReport}
use Rattle.dm_commands.specs.declared.running.Ran.{Ran}

-- the bytes of texts that are borrowed
abbrev pub bytes_of : List (Bor (List ℕ)) → List (List ℕ)
bytes_of texts = map (λ text. text.now) texts

-- a poster that is handed in: its name and the texts of its bundles
abbrev pub NamedPoster : Type 0
NamedPoster = Bor (List ℕ) × Bor (List (Bor (List ℕ)))

-- the names of posters
abbrev pub names_in : List NamedPoster → List (List ℕ)
names_in posters = map (λ p. p.0.now) posters

-- the texts of each poster
abbrev pub texts_in : List NamedPoster → List (List (List ℕ))
texts_in posters = map (λ p. bytes_of p.1.now) posters

-- the line of a poster: its number and its name
abbrev pub poster_line : ℕ → List ℕ → List ℕ
poster_line number name = line_of (codes "poster " ++ (decimal number ++ 32 ∷ name))

-- a line for each poster, numbered from n on
abbrev pub posters_text : ℕ → List (List ℕ) → List ℕ
posters_text n [] = []
posters_text n (name ∷ names) = poster_line n name ++ posters_text (suc n) names

-- the exit status: 0 where each mirror took all of every bundle or had its patches already, else 1
abbrev pub IsStatusOf : Outcome → ℕ → Type 0
IsStatusOf o status = (AllAccepted o × (status ≡ 0)) ⊎ ((AllAccepted o → ⊥) × (status ≡ 1))

-- a run of posters of these names, which send these texts, to mirrors of these bases, read within these limits, and of these policies, at each of
-- which so many mails may wait, is answered by these bytes and this exit status
pub record RunsTo (names : List (List ℕ)) (texts : List (List (List ℕ))) (bases : List (List ℕ)) (limits : Limits) (policies : List Policy) (bound : ℕ) (out : List ℕ) (status : ℕ) : Type 0 where
  pub plannable : IsPlannable texts bases policies bound
  pub starts : List (List Patch)
  pub are_starts : AreStarts limits bases starts
  pub outcome : Outcome
  pub is_run : IsRunOf texts starts policies bound outcome
  pub report : List ℕ
  pub is_report : IsReport outcome report
  pub bytes : out ≡ posters_text 0 names ++ report
  pub exit : IsStatusOf outcome status

-- what is told of it: a run of posters that send these texts, to mirrors of these bases, read within these limits, and of these policies, at each of
-- which so many mails may wait, left this outcome
pub record IsRan (texts : List (List (List ℕ))) (bases : List (List ℕ)) (limits : Limits) (policies : List Policy) (bound : ℕ) (ran : Ran) : Type 0 where
  pub starts : List (List Patch)
  pub are_starts : AreStarts limits bases starts
  pub is_run : IsRunOf texts starts policies bound ran.outcome
  pub exit : IsStatusOf ran.outcome ran.status
