-- What comes of taking mails one after the other, without threads.
use Rattle.std.specs.Prelude.{◌≡◌, ℕ, List, [], ◌∷◌, Option, Some, None}
use Rattle.std.specs.List.{flat_map}
use Rattle.dm_named.specs.Patches.{Patch}
use Rattle.dm_repo.specs.declared.policy.Policy.{Policy}
use Rattle.dm_scratch.specs.declared.verdict.Verdict.{Verdict}
use Rattle.dm_scratch.specs.Taking.{Takes, TakesEach}
use Rattle.dm_mail.specs.declared.mail.Mail.{Mail}
use Rattle.dm_mail.specs.declared.mail.Body.{Body}
use Rattle.dm_mail.specs.declared.mail.Body.TheVariants.{Bundle, Close}

-- the text of a bundle; a mark has none
abbrev pub body_texts : Body → List (List ℕ)
body_texts (Bundle text) = text ∷ []
body_texts Close = []

-- the texts of the bundles among these mails, in order
abbrev pub bundle_texts : List Mail → List (List ℕ)
bundle_texts mails = flat_map (λ m. body_texts m.body) mails

-- the verdict, if there is one
abbrev pub verdict_list : Option Verdict → List Verdict
verdict_list None = []
verdict_list (Some verdict) = verdict ∷ []

-- the verdicts that there are, in order
abbrev pub verdicts_given : List (Option Verdict) → List Verdict
verdicts_given verdicts = flat_map verdict_list verdicts

-- a bundle has a verdict, a mark has none
abbrev pub IsAnswered : Body → Option Verdict → Type 0
IsAnswered (Bundle text) None = ⊥
IsAnswered (Bundle text) (Some verdict) = Unit {0}
IsAnswered Close None = Unit {0}
IsAnswered Close (Some verdict) = ⊥

-- each bundle among these mails has its verdict, and each mark none
abbrev pub AreAnswered : List Mail → List (Option Verdict) → Type 0
AreAnswered [] [] = Unit {0}
AreAnswered [] (v ∷ vs) = ⊥
AreAnswered (m ∷ ms) [] = ⊥
AreAnswered (m ∷ ms) (v ∷ vs) = IsAnswered m.body v × AreAnswered ms vs

-- the plain fold: from this repository the bundles were taken one after the other, in the order of the mails and under this policy, with these
-- verdicts; a mark changes nothing
pub record IsPlainFold (start : List Patch) (mails : List Mail) (policy : Policy) (verdicts : List (Option Verdict)) (after : List Patch) : Type 0 where
  pub answered : AreAnswered mails verdicts
  pub taken : TakesEach start (bundle_texts mails) policy (verdicts_given verdicts) after

-- what one mail does to a repository
abbrev pub TakesBody : List Patch → Body → Policy → Option Verdict → List Patch → Type 0
TakesBody repo (Bundle text) policy None after = ⊥
TakesBody repo (Bundle text) policy (Some verdict) after = Takes repo text policy verdict after
TakesBody repo Close policy None after = after ≡ repo
TakesBody repo Close policy (Some verdict) after = ⊥
