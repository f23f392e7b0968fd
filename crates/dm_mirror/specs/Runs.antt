-- What a run of a plan leaves.
use Rattle.std.specs.Prelude.{◌≡◌, ℕ, Bool, true, List, [], Option, Some, None, length, map, slice_get}
use Rattle.std.specs.List.{All}
use Rattle.dm_named.specs.Patches.{Patch}
use Rattle.dm_repo.specs.declared.policy.Policy.{Policy}
use Rattle.dm_repo.specs.Repositories.{Repository}
use Rattle.dm_scratch.specs.declared.verdict.Verdict.{Verdict}
use Rattle.dm_scratch.specs.Taking.{IsAccepted}
use Rattle.dm_mail.specs.declared.mail.Mail.{Mail}
use Rattle.dm_mail.specs.declared.ends.Inlet.{Inlet}
use Rattle.dm_mail.specs.Mails.{mails_of, is_closed, AllBelow}
use Rattle.dm_mail.specs.Ends.{inlet_bound, all_taken}
use Rattle.dm_mirror.specs.TheMirror.{Mirror}
use Rattle.dm_mirror.specs.declared.outcome.Outcome.{Outcome}
use Rattle.dm_mirror.specs.Deliveries.{all_mails}
use Rattle.dm_mirror.specs.PlainFolds.{IsPlainFold}

-- how many mirrors there are
abbrev pub mirror_count : Outcome → ℕ
mirror_count o = length o.mirrors.items

-- the mirror of this number
abbrev pub IsAt : Outcome → ℕ → Mirror → Type 0
IsAt o m mirror = slice_get o.mirrors.items m ≡ Some mirror

-- the mirror of this number took out of this inlet
abbrev pub IsInletAt : Outcome → ℕ → Inlet → Type 0
IsInletAt o m inlet = slice_get (map (λ kept. kept.inlet) o.kept.value.items) m ≡ Some inlet

-- the mails of a mirror, if there is one
abbrev pub mirror_mails : Option Mirror → List Mail
mirror_mails None = []
mirror_mails (Some mirror) = mirror.mails.items

-- the mails that the mirror of this number took
abbrev pub mails_at : Outcome → ℕ → List Mail
mails_at o m = mirror_mails (slice_get o.mirrors.items m)

-- there is a mirror of this number, and it took these mails
abbrev pub HasMails : Outcome → ℕ → List Mail → Type 0
HasMails o m mails = (mirror : Mirror) × IsAt o m mirror × (mails ≡ mirror.mails.items)

-- there is such a mirror, and at this place among its mails it has this verdict, or none
abbrev pub HasVerdict : Outcome → ℕ → ℕ → Option Verdict → Type 0
HasVerdict o m k verdict = (mirror : Mirror) × IsAt o m mirror × (slice_get mirror.verdicts.items k ≡ Some verdict)

-- there is such a mirror, and this says whether it took the mark of this poster
abbrev pub HasClosed : Outcome → ℕ → ℕ → Bool → Type 0
HasClosed o m poster closed = (mirror : Mirror) × IsAt o m mirror × (closed ≡ is_closed (mails_of poster mirror.mails.items))

-- there is such a mirror, and this is its repository
abbrev pub HasRepo : Outcome → ℕ → Repository → Type 0
HasRepo o m repo = (mirror : Mirror) × IsAt o m mirror × (repo ≡ mirror.repo)

-- the poster of this number sends these texts
abbrev pub SendsTexts : List (List (List ℕ)) → ℕ → List (List ℕ) → Type 0
SendsTexts texts poster sent = slice_get texts poster ≡ Some sent

-- what a mirror is after a run, of posters that send these texts, from this repository and under this policy
pub record IsServed (texts : List (List (List ℕ))) (start : List Patch) (policy : Policy) (mirror : Mirror) : Type 0 where
  -- of each poster it took all bundles, each once and in the poster's order, then the mark, and nothing after it
  pub delivered : (poster : ℕ) (sent : List (List ℕ)) → SendsTexts texts poster sent → mails_of poster mirror.mails.items ≡ all_mails poster sent
  -- it took the mark of each poster
  pub closed : (poster : ℕ) (sent : List (List ℕ)) → SendsTexts texts poster sent → is_closed (mails_of poster mirror.mails.items) ≡ true
  -- it took no mail of anyone else
  pub known : AllBelow (length texts) mirror.mails.items
  -- each poster says that all its bundles and its mark were accepted
  pub accepted : (poster : ℕ) (sent : List (List ℕ)) → SendsTexts texts poster sent → slice_get mirror.receipts.items poster ≡ Some (length sent, true)
  -- its verdicts and its repository are those of taking the bundles one after the other, in the order in which it took them and under its policy
  pub folded : IsPlainFold start mirror.mails.items policy mirror.verdicts.items mirror.repo.patches

-- the mirror of this number took its mails out of one inlet, in this order, and no more than the bound could wait there
pub record IsFedWithin (bound : ℕ) (o : Outcome) (m : ℕ) (mirror : Mirror) : Type 0 where
  pub inlet : Inlet
  pub is_inlet : IsInletAt o m inlet
  pub bound_is : inlet_bound inlet ≡ bound
  pub taken : all_taken inlet ≡ mirror.mails.items

-- what a run leaves: each mirror is served, and was fed within the bound
pub record IsRunOf (texts : List (List (List ℕ))) (starts : List (List Patch)) (policies : List Policy) (bound : ℕ) (o : Outcome) : Type 0 where
  pub posters : o.posters ≡ length texts
  pub mirrors : length o.mirrors.items ≡ length starts
  pub as_many : length policies ≡ length starts
  pub each : (m : ℕ) (start : List Patch) (policy : Policy) (mirror : Mirror) → slice_get starts m ≡ Some start → slice_get policies m ≡ Some policy → IsAt o m mirror →
      IsServed texts start policy mirror
  pub fed : (m : ℕ) (mirror : Mirror) → IsAt o m mirror → IsFedWithin bound o m mirror

-- a bundle was taken or brought nothing new; a mark has no verdict
abbrev pub IsFine : Option Verdict → Type 0
IsFine None = Unit {0}
IsFine (Some verdict) = IsAccepted verdict

-- each bundle that a mirror took was taken into its repository, or brought nothing new
abbrev pub AllAccepted : Outcome → Type 0
AllAccepted o = All (λ mirror. All IsFine mirror.verdicts.items) o.mirrors.items

-- what a poster says that it sent to a mirror; nothing is said of a poster or a mirror that isn't there
abbrev pub receipt_of : Option Mirror → ℕ → Option (ℕ × Bool)
receipt_of None poster = None
receipt_of (Some mirror) poster = slice_get mirror.receipts.items poster

abbrev pub IsReceipt : Outcome → ℕ → ℕ → Option (ℕ × Bool) → Type 0
IsReceipt o poster m receipt = receipt ≡ receipt_of (slice_get o.mirrors.items m) poster
