-- What the threads of a run are given, and what they hand back. For the clauses of private functions and the fields of private types alone.
use Rattle.std.specs.Prelude.{◌≡◌, ◌≤◌, ℕ, true, List, [], length, map, vec_capacity}
use Rattle.dm_mail.specs.Mails.{mails_of, AllBelow}
use Rattle.dm_mail.specs.declared.ends.Outlet.{Outlet}
use Rattle.dm_mail.specs.declared.ends.Sent.{Sent}
use Rattle.dm_mail.specs.declared.ends.Inlet.{Inlet}
use Rattle.dm_repo.specs.declared.policy.Policy.{Policy}
use Rattle.dm_mail.specs.Ends.{MailId, EndsAs, SameInlet, SameOutlet, outlet_of, outlet_id, outlet_poster, sent_id, sent_poster, sent_mails, inlet_id, inlet_posters, inlet_bound, all_taken}
use Rattle.dm_mirror.specs.declared.jobs.Line.{Line}
use Rattle.dm_mirror.specs.declared.jobs.NewLine.{NewLine}
use Rattle.dm_mirror.specs.declared.jobs.PostJob.{PostJob}
use Rattle.dm_mirror.specs.declared.jobs.TakeJob.{TakeJob}
use Rattle.dm_mirror.specs.declared.jobs.Kept.{Kept}
use Rattle.dm_mirror.specs.declared.poster.Poster.{Poster}
use Rattle.dm_mirror.specs.TheMirror.{Mirror}
use Rattle.dm_mirror.specs.Deliveries.{all_mails, mails_in}
use Rattle.dm_mirror.specs.Lists.{EachWith, EachFrom}
use Rattle.dm_mirror.specs.PlainFolds.{IsPlainFold}
use Rattle.dm_mirror.specs.Runs.{SendsTexts}

-- the line of an outlet, for these texts
abbrev pub IsLine : List (List ℕ) → Outlet → NewLine → Type 0
IsLine texts outlet line = (line.outlet ≡ outlet) × (line.left.items ≡ texts)

-- a line, before anything is sent on it
abbrev pub IsBegun : NewLine → Line → Type 0
IsBegun a b = (b.outlet ≡ a.outlet) × (b.texts.value.items ≡ a.left.items)

-- all bundles of a new line and then the mark were sent
abbrev pub EndsNew : NewLine → Sent → Type 0
EndsNew line end = EndsAs line.outlet end × (sent_mails end ≡ all_mails (outlet_poster line.outlet) line.left.items)

-- one line, before and after
abbrev pub SameLine : Line → Line → Type 0
SameLine a b = SameOutlet a.outlet b.outlet × (b.texts.value.items ≡ a.texts.value.items)

-- all bundles of the line and then the mark were sent
abbrev pub EndsLine : Line → Sent → Type 0
EndsLine line end = EndsAs line.outlet end × (sent_mails end ≡ all_mails (outlet_poster line.outlet) line.texts.value.items)

-- so it was on each line of a poster
abbrev pub DoesPost : PostJob → List Sent → Type 0
DoesPost job ends = EachWith EndsNew job.lines.items ends

-- the job of a mirror, with mail that was opened for so many posters and within this bound
abbrev pub IsOpened : ℕ → ℕ → ℕ → Mirror → TakeJob → Type 0
IsOpened posters expected bound mirror job = (job.mirror ≡ mirror) × (job.expected ≡ expected) × (inlet_posters job.inlet ≡ posters) × (inlet_bound job.inlet ≡ bound)

-- the line of the poster with this number to the mirror of this job
abbrev pub IsLineTo : ℕ → Poster → TakeJob → NewLine → Type 0
IsLineTo p poster job line = (outlet_id line.outlet ≡ outlet_of (inlet_id job.inlet) p) × (outlet_poster line.outlet ≡ p) × (line.left.items ≡ poster.texts.value.items)

-- the job of the poster with this number: a line to each mirror
abbrev pub IsJobOf : List TakeJob → ℕ → Poster → PostJob → Type 0
IsJobOf mirrors p poster job = EachWith (IsLineTo p poster) mirrors job.lines.items

-- the poster with this number sent these texts and then its mark in the mail of this mirror
abbrev pub IsSentIn : MailId → ℕ → List (List ℕ) → Sent → Type 0
IsSentIn id p texts end = (sent_id end ≡ outlet_of id p) × (sent_poster end ≡ p) × (sent_mails end ≡ all_mails p texts)

-- so each poster did with its texts in the mail of this mirror
abbrev pub AreSent : MailId → List (List (List ℕ)) → List Sent → Type 0
AreSent id texts ends = EachFrom (IsSentIn id) 0 texts ends

-- so each poster, from the number n on, did with its texts in the mail of each of these mirrors
abbrev pub AreRowsFrom : ℕ → List MailId → List (List (List ℕ)) → List (List Sent) → Type 0
AreRowsFrom n ids texts rows = EachFrom (λ p ts row. EachWith (λ id end. IsSentIn id p ts end) ids row) n texts rows

abbrev pub AreRowsSent : List MailId → List (List (List ℕ)) → List (List Sent) → Type 0
AreRowsSent ids texts rows = AreRowsFrom 0 ids texts rows

-- a mirror that took as many mails as posters of these texts send, and none of anyone else, where no more than the bound could wait; it has room
-- for their receipts
pub record IsKept (texts : List (List (List ℕ))) (bound : ℕ) (kept : Kept) : Type 0 where
  pub bound_is : inlet_bound kept.inlet ≡ bound
  pub taken : all_taken kept.inlet ≡ kept.mirror.mails.items
  pub count : length kept.mirror.mails.items ≡ mails_in texts
  pub below : AllBelow (length texts) kept.mirror.mails.items
  pub no_receipts : kept.mirror.receipts.items ≡ []
  pub room_for_receipts : length texts ≤ vec_capacity kept.mirror.receipts

-- a mirror that took all that posters of these texts sent, and has their receipts
pub record IsSettled (texts : List (List (List ℕ))) (kept : Kept) (mirror : Mirror) : Type 0 where
  pub delivered : (p : ℕ) (sent : List (List ℕ)) → SendsTexts texts p sent → mails_of p mirror.mails.items ≡ all_mails p sent
  pub receipts : mirror.receipts.items ≡ map (λ sent. (length sent, true)) texts
  pub mails : mirror.mails ≡ kept.mirror.mails
  pub verdicts : mirror.verdicts ≡ kept.mirror.verdicts
  pub repo : mirror.repo ≡ kept.mirror.repo

-- an inlet and a mirror once as many mails were taken as were expected, and their bundles under the policy into the mirror's repository
pub record TakesInto (policy : Policy) (inlet : Inlet) (mirror : Mirror) (expected : ℕ) (done : Inlet × Mirror) : Type 0 where
  pub same : SameInlet inlet done.0
  pub taken : all_taken done.0 ≡ done.1.mails.items
  pub count : length done.1.mails.items ≡ expected
  pub below : AllBelow (inlet_posters inlet) done.1.mails.items
  pub fold : IsPlainFold mirror.repo.patches done.1.mails.items policy done.1.verdicts.items done.1.repo.patches
  pub receipts : done.1.receipts ≡ mirror.receipts

-- so it was done with what the job has
abbrev pub DoesTake : TakeJob → Kept → Type 0
DoesTake job done = TakesInto job.policy job.inlet job.mirror job.expected (done.inlet, done.mirror)
