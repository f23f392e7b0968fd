-- What the ends of a mirror's mail show: of which mail they are, what a poster sent, and what was taken from each poster.
use Rattle.std.specs.Prelude.{◌≡◌, ℕ, suc, ◌<◌, true, false, List, [], ◌∷◌, ◌++◌, length}
use Rattle.crossbeam_channel.specs.Claims.{Pass, view}
use Rattle.crossbeam_channel.specs.Ends.{receives_on, ruled_capacity}
use Rattle.crossbeam_channel.specs.declared.flavors.array.Key.{Key}
use Rattle.atomic_table.specs.Seated.{TableId}
use Rattle.atomic_table.specs.declared.badge.Badge.{Badge}
use Rattle.dm_mail.specs.declared.mail.Mail.{Mail}
use Rattle.dm_mail.specs.declared.mail.Body.{Body}
use Rattle.dm_mail.specs.declared.view.View.{View}
use Rattle.dm_mail.specs.declared.ends.Outlet.{Outlet}
use Rattle.dm_mail.specs.declared.ends.Sent.{Sent}
use Rattle.dm_mail.specs.declared.ends.Inlet.{Inlet}
use Rattle.dm_mail.specs.Mails.{mails_of, next_mail, is_closed}

-- which mirror's mail it is: the channel's
abbrev pub MailId : Type 0
MailId = TableId × Badge (Key Mail)

-- which outlet it is: of which mail, and whose
abbrev pub OutletId : Type 0
OutletId = MailId × ℕ

-- the outlet of a poster in a mirror's mail
abbrev pub outlet_of : MailId → ℕ → OutletId
outlet_of id poster = (id, poster)

-- of which mail a pass is
abbrev pub pass_id : Pass Mail View → MailId
pass_id pass = (pass.table_id, pass.me.0.of)

-- which mirror's mail is taken here
abbrev pub inlet_id : Inlet → MailId
inlet_id i = pass_id i.pass

-- whose outlet this is
abbrev pub outlet_poster : Outlet → ℕ
outlet_poster o = (view o.pass).poster

-- whose outlet this was
abbrev pub sent_poster : Sent → ℕ
sent_poster s = (view s.pass).poster

-- which outlet this is
abbrev pub outlet_id : Outlet → OutletId
outlet_id o = outlet_of (pass_id o.pass) (outlet_poster o)

-- which outlet this was
abbrev pub sent_id : Sent → OutletId
sent_id s = outlet_of (pass_id s.pass) (sent_poster s)

-- how many posters there are
abbrev pub inlet_posters : Inlet → ℕ
inlet_posters i = (view i.pass).posters

-- how many mails may wait: the capacity of its channel
abbrev pub inlet_bound : Inlet → ℕ
inlet_bound i = ruled_capacity (receives_on i.receiver)

-- what the poster has sent
abbrev pub outlet_mails : Outlet → List Mail
outlet_mails o = (view o.pass).sent

-- what the poster sent
abbrev pub sent_mails : Sent → List Mail
sent_mails s = (view s.pass).sent

-- what was taken from all posters, in the order in which it was
abbrev pub all_taken : Inlet → List Mail
all_taken i = (view i.pass).taken

-- what was taken from a poster
abbrev pub taken_of : Inlet → ℕ → List Mail
taken_of i poster = mails_of poster (all_taken i)

-- the poster's next mail
abbrev pub next_mail_of : Outlet → Body → Mail
next_mail_of o body = next_mail (outlet_poster o) (outlet_mails o) body

-- one outlet, before and after
abbrev pub SameOutlet : Outlet → Outlet → Type 0
SameOutlet a b = (outlet_id b ≡ outlet_id a) × (outlet_poster b ≡ outlet_poster a)

-- this outlet ends as this
abbrev pub EndsAs : Outlet → Sent → Type 0
EndsAs a b = (sent_id b ≡ outlet_id a) × (sent_poster b ≡ outlet_poster a)

-- one inlet, before and after
abbrev pub SameInlet : Inlet → Inlet → Type 0
SameInlet a b = (inlet_id b ≡ inlet_id a) × (inlet_posters b ≡ inlet_posters a) × (inlet_bound b ≡ inlet_bound a)

-- no mail was taken
abbrev pub SameTaken : Inlet → Inlet → Type 0
SameTaken a b = (poster : ℕ) → taken_of b poster ≡ taken_of a poster

-- this mail was taken
abbrev pub TakesMail : Inlet → Mail → Inlet → Type 0
TakesMail a m b = (poster : ℕ) → taken_of b poster ≡ taken_of a poster ++ mails_of poster (m ∷ [])

-- the next mail of one of the posters, which has not closed
pub record IsNextOf (i : Inlet) (m : Mail) : Type 0 where
  pub poster : m.poster < inlet_posters i
  pub number : m.number ≡ length (taken_of i m.poster)
  pub unclosed : is_closed (taken_of i m.poster) ≡ false

-- every poster's mark was taken
abbrev pub AllClosed : Inlet → Type 0
AllClosed i = (poster : ℕ) → poster < inlet_posters i → is_closed (taken_of i poster) ≡ true

-- the outlets of the posters from n on, which have sent nothing
abbrev pub AreNewOutlets : Inlet → ℕ → List Outlet → Type 0
AreNewOutlets i n [] = Unit {0}
AreNewOutlets i n (o ∷ os) = ((outlet_poster o ≡ n) × (outlet_id o ≡ outlet_of (inlet_id i) n) × (outlet_mails o ≡ [])) × AreNewOutlets i (suc n) os
