-- What `dm apply` is asked for: which bundles are named, what is asked of them, and in which form they are answered.
use Rattle.std.specs.Prelude.{◌≡◌, ℕ, Bool, false, List, [], ◌∷◌, codes, option_map, if◌then◌else◌}
use Rattle.std.specs.Option.{unwrap_or}
use Rattle.dm_named.specs.Laws.{with_kinds}
use Rattle.dm_named.specs.Limits.{standard}
use Rattle.dm_named.specs.declared.limits.Kinds.{Kinds}
use Rattle.dm_named.specs.declared.limits.Kinds.TheVariants.{All, Six}
use Rattle.dm_repo.specs.declared.policy.Policy.{Policy}
use Rattle.dm_repo.specs.declared.policy.Policy.TheVariants.{Refuse, Skip}
use Rattle.dm_deliver.specs.declared.bundle_rule.BundleRule.{BundleRule}
use Rattle.dm_deliver.specs.declared.date_rule.DateRule.TheVariants.{Any as AnyDate, Readable}
use Rattle.dm_deliver.specs.declared.hash_rule.HashRule.TheVariants.{Any as AnyHash, NotWrong, Right}
use Rattle.dm_told.specs.declared.form.AnswerForm.{AnswerForm}
use Rattle.dm_told.specs.declared.form.AnswerForm.TheVariants.{Plain, Json}
use Rattle.dm_words.specs.declared.request.Apply.{Apply}
use Rattle.dm_files.specs.Bundles.{Reads, names_in}

-- all kinds of primitives are read where that is asked for, or six
abbrev pub kinds_for : Bool → Kinds
kinds_for all_kinds = if all_kinds then All else Six

-- patches that conflict are skipped where that is asked for, or refused
abbrev pub policy_for : Bool → Policy
policy_for skip = if skip then Skip else Refuse

-- nothing is asked of a bundle
abbrev pub any_rule : BundleRule
any_rule = record { hash = AnyHash; date = AnyDate }

-- its hash isn't wrong, and darcs can read its dates
abbrev pub darcs_rule : BundleRule
darcs_rule = record { hash = NotWrong; date = Readable }

-- a right hash is asked for besides, where that is wanted
abbrev pub rule_for : Bool → BundleRule → BundleRule
rule_for wants_hash otherwise = if wants_hash then record otherwise { hash = Right } else otherwise

-- answers are told as JSON where that is asked for, of texts that are read with these kinds of primitives
abbrev pub form_for : Bool → Kinds → AnswerForm
form_for is_json kinds = if is_json then Json (with_kinds standard kinds) else Plain

-- the names of the files of bundles, or that of standard input where none is named
abbrev pub named_bundles : Apply → List (List ℕ)
named_bundles asked = unwrap_or (option_map (λ names. names_in names.now) asked.bundles) (codes "-" ∷ [])

-- the texts that came were read from the files that are named, all of them in their order, unless they were to come as a stream
abbrev pub CameAsNamed : (List ℕ → List ℕ → Type 0) → Apply → List (List ℕ) → Type 0
CameAsNamed had asked texts = asked.stream ≡ false → Reads had (named_bundles asked) texts []

-- they were read from the first of these files
abbrev pub CameAtMost : (List ℕ → List ℕ → Type 0) → Apply → List (List ℕ) → Type 0
CameAtMost had asked texts = asked.stream ≡ false → (left : List (List ℕ)) × Reads had (named_bundles asked) texts left
