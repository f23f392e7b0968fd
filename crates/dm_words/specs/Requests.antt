-- What the words of the command line ask for.
use Rattle.std.specs.Prelude.{◌≡◌, ◌⊎◌, ℕ, Bool, true, false, List, [], Option, None, Some, codes, map, option_map}
use Rattle.std.specs.Borrow.{Bor}
use Rattle.std.specs.Str.Parse.{ParsesUnsigned, ExplainsUnsignedError, HasUnsignedDigitsIfOk}
use Rattle.clap.specs.Words.{ReadsOne, first_value, found_of, matched_of, one_text, raw_values, rows_of, subcommand_name_of, subcommand_rows_of}
use Rattle.clap.specs.declared.parser.matches.ArgMatches.{ArgMatches}
use Rattle.dm_words.specs.declared.request.BaseWords.{BaseWords}
use Rattle.dm_words.specs.declared.request.Apply.{Apply}
use Rattle.dm_words.specs.declared.request.Check.{Check}
use Rattle.dm_words.specs.declared.request.Checkout.{Checkout}
use Rattle.dm_words.specs.declared.request.Init.{Init}
use Rattle.dm_words.specs.declared.request.Log.{Log}
use Rattle.dm_words.specs.declared.request.Obliterate.{Obliterate}
use Rattle.dm_words.specs.declared.request.Rollback.{Rollback}
use Rattle.dm_words.specs.declared.request.Run.{Run}
use Rattle.dm_words.specs.declared.request.Send.{Send}
use Rattle.dm_words.specs.declared.request.Upgrade.{Upgrade}
use Rattle.dm_words.specs.declared.request.Request.{Request}
use Rattle.dm_words.specs.declared.request.Request.TheVariants as requests

-- the words have this flag
abbrev pub IsOn : ArgMatches → List ℕ → Type 0
IsOn words name = one_text (found_of words) name ≡ Some (codes "true")

-- they don't have it
abbrev pub IsOff : ArgMatches → List ℕ → Type 0
IsOff words name = (one_text (found_of words) name ≡ None) ⊎ (one_text (found_of words) name ≡ Some (codes "false"))

-- the flag of this name is true where the words have it, and false where they don't
abbrev pub IsFlag : ArgMatches → List ℕ → Bool → Type 0
IsFlag words name flag = (IsOn words name → flag ≡ true) × (IsOff words name → flag ≡ false)

-- this is the text of the word of this name, if it is there
abbrev pub IsText : ArgMatches → List ℕ → Option (Bor (List ℕ)) → Type 0
IsText words name text = option_map (λ t. t.now) text ≡ first_value (found_of words) name

-- this is the text of a word that has to be there
abbrev pub IsNeeded : ArgMatches → List ℕ → Bor (List ℕ) → Type 0
IsNeeded words name text = first_value (found_of words) name ≡ Some text.now

-- the word isn't there
abbrev pub Lacks : ArgMatches → List ℕ → Type 0
Lacks words name = first_value (found_of words) name ≡ None

-- these are the texts of the word, in their order, if it is there
abbrev pub AreTexts : ArgMatches → List ℕ → Option (Bor (List (Bor (List ℕ)))) → Type 0
AreTexts words name texts = option_map (λ ts. map (λ t. t.now) ts.now) texts ≡ option_map raw_values (matched_of (found_of words) name)

-- the texts of a word that may stand often: none where it isn't there
abbrev pub texts_in : Option (Bor (List (Bor (List ℕ)))) → List (List ℕ)
texts_in None = []
texts_in (Some texts) = map (λ t. t.now) texts.now

-- the text is this number in decimal digits, below 2^32, or is no such number
abbrev pub ReadsNumber : List ℕ → Option ℕ → Type 0
ReadsNumber text number = ReadsOne (λ t r. ParsesUnsigned 32 10 t r × ExplainsUnsignedError 10 t r × HasUnsignedDigitsIfOk t r) text number

-- this is the number of the word, if it is there
abbrev pub IsNumber : ArgMatches → List ℕ → Option ℕ → Type 0
IsNumber words name number = (one_text (found_of words) name ≡ None → number ≡ None)
    × ((text : List ℕ) → one_text (found_of words) name ≡ Some text → ReadsNumber text number)

-- this is the number of a word that has to be there
abbrev pub IsNeededNumber : ArgMatches → List ℕ → ℕ → Type 0
IsNeededNumber words name number = IsNumber words name (Some number)

-- the word isn't there, or is no number
abbrev pub LacksNumber : ArgMatches → List ℕ → Type 0
LacksNumber words name = IsNumber words name None

-- these are the files that a repository begins with
pub record IsBase (words : ArgMatches) (asked : BaseWords) : Type 0 where
  pub base : IsText words (codes "base") asked.base
  pub repository : IsText words (codes "repository") asked.repository

-- what the words of `dm apply` say
pub record IsApply (words : ArgMatches) (asked : Apply) : Type 0 where
  pub bundles : AreTexts words (codes "bundles") asked.bundles
  pub mirror : IsText words (codes "mirror") asked.mirror
  pub base : IsBase words asked.base
  pub no_wait : IsFlag words (codes "no-wait") asked.no_wait
  pub dry_run : IsFlag words (codes "dry-run") asked.dry_run
  pub bundle : IsFlag words (codes "bundle") asked.bundle
  pub quiet : IsFlag words (codes "quiet") asked.quiet
  pub json : IsFlag words (codes "json") asked.json
  pub hash : IsFlag words (codes "hash") asked.hash
  pub all_kinds : IsFlag words (codes "all-kinds") asked.all_kinds
  pub six_kinds : IsFlag words (codes "six-kinds") asked.six_kinds
  pub explain : IsFlag words (codes "explain") asked.explain
  pub skip : IsFlag words (codes "skip") asked.skip
  pub stream : IsFlag words (codes "stream") asked.stream

-- what the words of `dm check` say
pub record IsCheck (words : ArgMatches) (asked : Check) : Type 0 where
  pub bundle : IsText words (codes "bundle") asked.bundle
  pub paths : IsFlag words (codes "paths") asked.paths
  pub json : IsFlag words (codes "json") asked.json
  pub hash : IsFlag words (codes "hash") asked.hash
  pub all_kinds : IsFlag words (codes "all-kinds") asked.all_kinds
  pub explain : IsFlag words (codes "explain") asked.explain

-- what the words of `dm checkout` say
pub record IsCheckout (words : ArgMatches) (asked : Checkout) : Type 0 where
  pub mirror : IsNeeded words (codes "mirror") asked.mirror
  pub folder : IsNeeded words (codes "folder") asked.folder
  pub no_wait : IsFlag words (codes "no-wait") asked.no_wait
  pub all_names : IsFlag words (codes "all-names") asked.all_names

-- what the words of `dm init` say
pub record IsInit (words : ArgMatches) (asked : Init) : Type 0 where
  pub mirror : IsNeeded words (codes "mirror") asked.mirror
  pub base : IsBase words asked.base
  pub names : IsText words (codes "names") asked.names
  pub folder : IsText words (codes "folder") asked.folder
  pub six_kinds : IsFlag words (codes "six-kinds") asked.six_kinds
  pub skip_special : IsFlag words (codes "skip-special") asked.skip_special
  pub json : IsFlag words (codes "json") asked.json
  pub no_wait : IsFlag words (codes "no-wait") asked.no_wait
  pub explain : IsFlag words (codes "explain") asked.explain

-- what the words of `dm log` say
pub record IsLog (words : ArgMatches) (asked : Log) : Type 0 where
  pub mirror : IsText words (codes "mirror") asked.mirror
  pub base : IsBase words asked.base
  pub bundle : IsText words (codes "bundle") asked.bundle
  pub last : IsNumber words (codes "last") asked.last
  pub reverse : IsFlag words (codes "reverse") asked.reverse
  pub verbose : IsFlag words (codes "verbose") asked.verbose
  pub places : IsFlag words (codes "places") asked.places
  pub json : IsFlag words (codes "json") asked.json
  pub rests : IsFlag words (codes "rests") asked.rests
  pub count : IsFlag words (codes "count") asked.count
  pub context : IsFlag words (codes "context") asked.context
  pub kinds : IsFlag words (codes "kinds") asked.kinds
  pub all_kinds : IsFlag words (codes "all-kinds") asked.all_kinds
  pub no_wait : IsFlag words (codes "no-wait") asked.no_wait

-- what the words of `dm obliterate` say
pub record IsObliterate (words : ArgMatches) (asked : Obliterate) : Type 0 where
  pub mirror : IsNeeded words (codes "mirror") asked.mirror
  pub patches : AreTexts words (codes "patches") asked.patches
  pub output : IsText words (codes "output") asked.output
  pub with_dependents : IsFlag words (codes "with-dependents") asked.with_dependents
  pub dry_run : IsFlag words (codes "dry-run") asked.dry_run
  pub json : IsFlag words (codes "json") asked.json
  pub no_wait : IsFlag words (codes "no-wait") asked.no_wait
  pub explain : IsFlag words (codes "explain") asked.explain

-- what the words of `dm rollback` say
pub record IsRollback (words : ArgMatches) (asked : Rollback) : Type 0 where
  pub mirror : IsNeeded words (codes "mirror") asked.mirror
  pub patches : AreTexts words (codes "patches") asked.patches
  pub author : IsNeeded words (codes "author") asked.author
  pub date : IsText words (codes "date") asked.date
  pub name : IsText words (codes "name") asked.name
  pub log : IsText words (codes "log") asked.log
  pub json : IsFlag words (codes "json") asked.json
  pub no_wait : IsFlag words (codes "no-wait") asked.no_wait

-- what the words of `dm run` say
pub record IsRun (words : ArgMatches) (asked : Run) : Type 0 where
  pub mirrors : IsNeededNumber words (codes "mirrors") asked.mirrors
  pub bound : IsNeededNumber words (codes "bound") asked.bound
  pub base : IsBase words asked.base
  pub explain : IsFlag words (codes "explain") asked.explain
  pub skip : IsFlag words (codes "skip") asked.skip
  pub posters : AreTexts words (codes "posters") asked.posters

-- what the words of `dm send` say
pub record IsSend (words : ArgMatches) (asked : Send) : Type 0 where
  pub mirror : IsText words (codes "mirror") asked.mirror
  pub base : IsBase words asked.base
  pub to : IsText words (codes "to") asked.to
  pub output : IsText words (codes "output") asked.output
  pub first : IsNumber words (codes "first") asked.first
  pub minimal : IsFlag words (codes "minimal") asked.minimal
  pub all_kinds : IsFlag words (codes "all-kinds") asked.all_kinds
  pub json : IsFlag words (codes "json") asked.json
  pub no_wait : IsFlag words (codes "no-wait") asked.no_wait
  pub explain : IsFlag words (codes "explain") asked.explain

-- what the words of `dm upgrade` say
pub record IsUpgrade (words : ArgMatches) (asked : Upgrade) : Type 0 where
  pub mirror : IsNeeded words (codes "mirror") asked.mirror
  pub no_wait : IsFlag words (codes "no-wait") asked.no_wait

-- a word that the command needs isn't there
abbrev pub LacksCheckout : ArgMatches → Type 0
LacksCheckout words = Lacks words (codes "mirror") ⊎ Lacks words (codes "folder")

abbrev pub LacksInit : ArgMatches → Type 0
LacksInit words = Lacks words (codes "mirror")

abbrev pub LacksObliterate : ArgMatches → Type 0
LacksObliterate words = Lacks words (codes "mirror")

abbrev pub LacksRollback : ArgMatches → Type 0
LacksRollback words = Lacks words (codes "mirror") ⊎ Lacks words (codes "author")

abbrev pub LacksUpgrade : ArgMatches → Type 0
LacksUpgrade words = Lacks words (codes "mirror")

abbrev pub LacksRun : ArgMatches → Type 0
LacksRun words = LacksNumber words (codes "mirrors") ⊎ LacksNumber words (codes "bound")

-- these are the words of the command of this name, which all words name
abbrev pub AreOf : ArgMatches → List ℕ → ArgMatches → Type 0
AreOf all name words = (subcommand_name_of all ≡ Some name) × (option_map (λ s. s.1) (subcommand_rows_of all) ≡ Some (rows_of (found_of words)))

-- all words ask for this
abbrev pub IsAsked : ArgMatches → Request → Type 0
IsAsked all (requests.Apply asked) = (words : ArgMatches) × AreOf all (codes "apply") words × IsApply words asked
IsAsked all (requests.Check asked) = (words : ArgMatches) × AreOf all (codes "check") words × IsCheck words asked
IsAsked all (requests.Checkout asked) = (words : ArgMatches) × AreOf all (codes "checkout") words × IsCheckout words asked
IsAsked all (requests.Init asked) = (words : ArgMatches) × AreOf all (codes "init") words × IsInit words asked
IsAsked all (requests.Log asked) = (words : ArgMatches) × AreOf all (codes "log") words × IsLog words asked
IsAsked all (requests.Obliterate asked) = (words : ArgMatches) × AreOf all (codes "obliterate") words × IsObliterate words asked
IsAsked all (requests.Rollback asked) = (words : ArgMatches) × AreOf all (codes "rollback") words × IsRollback words asked
IsAsked all (requests.Run asked) = (words : ArgMatches) × AreOf all (codes "run") words × IsRun words asked
IsAsked all (requests.Send asked) = (words : ArgMatches) × AreOf all (codes "send") words × IsSend words asked
IsAsked all (requests.Upgrade asked) = (words : ArgMatches) × AreOf all (codes "upgrade") words × IsUpgrade words asked
IsAsked all requests.Version = subcommand_name_of all ≡ Some (codes "version")

-- all words name this command, and the words of it lack something
abbrev pub OnlyLacking : ArgMatches → List ℕ → (ArgMatches → Type 0) → Type 0
OnlyLacking all name Lacking = subcommand_name_of all ≡ Some name → (words : ArgMatches) × AreOf all name words × Lacking words

-- all words ask for nothing: they name no command, or one of which a word that it needs isn't there
pub record AsksNothing (all : ArgMatches) : Type 0 where
  pub apply : subcommand_name_of all ≡ Some (codes "apply") → ⊥
  pub check : subcommand_name_of all ≡ Some (codes "check") → ⊥
  pub log : subcommand_name_of all ≡ Some (codes "log") → ⊥
  pub send : subcommand_name_of all ≡ Some (codes "send") → ⊥
  pub version : subcommand_name_of all ≡ Some (codes "version") → ⊥
  pub checkout : OnlyLacking all (codes "checkout") LacksCheckout
  pub init : OnlyLacking all (codes "init") LacksInit
  pub obliterate : OnlyLacking all (codes "obliterate") LacksObliterate
  pub rollback : OnlyLacking all (codes "rollback") LacksRollback
  pub run : OnlyLacking all (codes "run") LacksRun
  pub upgrade : OnlyLacking all (codes "upgrade") LacksUpgrade
