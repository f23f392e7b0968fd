-- The rule of a mirror's channel, with a pass for each poster and one for the mirror: what waits and what the passes say are one world. And what each step does to a pass.
use Rattle.std.specs.Prelude.{◌≡◌, ◌⊎◌, ℕ, ◌+◌, ◌<◌, ◌≤◌, true, false, List, [], ◌∷◌, ◌++◌, length, Any, Contains}
use mathlib.Core.Option.{Option, some, none}
use lib.ListN.{get_elem?}
use Rattle.dm_mail.specs.declared.mail.Mail.{Mail}
use Rattle.dm_mail.specs.declared.view.View.{View}
use Rattle.dm_mail.specs.declared.view.Settled.{Settled}
use Rattle.dm_mail.specs.Mails.{mails_of, is_closed}
use Rattle.dm_mail.specs.World.{World, empty_world, IsReached, ShareWorld}

-- the mirror's pass at first: there is no poster, nothing was taken, and no bound is said
abbrev pub first_view : View
first_view = record { is_poster = false; poster = 0; sent = []; is_mirror = true; posters = 0; taken = []; settled = []; is_told = false; bound = 0 }

-- a pass that says nothing any more
abbrev pub spent_view : View
spent_view = record { is_poster = false; poster = 0; sent = []; is_mirror = false; posters = 0; taken = []; settled = []; is_told = false; bound = 0 }

-- the pass of the poster that comes next, which has sent nothing
abbrev pub poster_view : ℕ → View → View
poster_view bound mirror = record { is_poster = true; poster = mirror.posters; sent = []; is_mirror = false; posters = 0; taken = []; settled = []; is_told = true; bound = bound }

-- the mirror's pass with a poster more
abbrev pub view_after_split : ℕ → View → View
view_after_split bound v = record { is_poster = v.is_poster; poster = v.poster; sent = v.sent; is_mirror = v.is_mirror; posters = v.posters + 1; taken = v.taken; settled = v.settled; is_told = true; bound = bound }

-- what the poster of this pass had sent
abbrev pub settled_by : View → Settled
settled_by v = record { poster = v.poster; sent = v.sent }

-- the mirror's pass with a settled poster more
abbrev pub view_after_join : View → View → View
view_after_join v other = record { is_poster = v.is_poster; poster = v.poster; sent = v.sent; is_mirror = v.is_mirror; posters = v.posters; taken = v.taken; settled = settled_by other ∷ v.settled; is_told = v.is_told; bound = v.bound }

-- a poster's pass with this mail more
abbrev pub view_after_send : View → Mail → View
view_after_send v m = record { is_poster = v.is_poster; poster = v.poster; sent = v.sent ++ m ∷ []; is_mirror = v.is_mirror; posters = v.posters; taken = v.taken; settled = v.settled; is_told = v.is_told; bound = v.bound }

-- the mirror's pass with this mail more
abbrev pub view_after_receive : View → Mail → View
view_after_receive v m = record { is_poster = v.is_poster; poster = v.poster; sent = v.sent; is_mirror = v.is_mirror; posters = v.posters; taken = v.taken ++ m ∷ []; settled = v.settled; is_told = v.is_told; bound = v.bound }

-- this mail was accepted
abbrev pub IsAccepted : View → Mail → View → Type 0
IsAccepted v m new = new ≡ view_after_send v m

-- this mail was received: the next one of a poster that there is, and that had not closed
pub record IsReceived (v : View) (m : Mail) (new : View) : Type 0 where
  pub new_is : new ≡ view_after_receive v m
  pub poster : m.poster < v.posters
  pub number : m.number ≡ length (mails_of m.poster v.taken)
  pub unclosed : is_closed (mails_of m.poster v.taken) ≡ false

-- what the first of these posters sent, and what was taken from it, are those of one world
abbrev pub FirstShares : ℕ → List Mail → List Settled → Type 0
FirstShares bound taken [] = Unit {0}
FirstShares bound taken (s ∷ ss) = ShareWorld bound s.poster s.sent (mails_of s.poster taken)

-- what the poster that was settled last sent, and what was taken from it, are those of one world
abbrev pub IsLastSettled : View → Type 0
IsLastSettled v = FirstShares v.bound v.taken v.settled

-- a poster has one pass, which says what it sent
abbrev pub SaysSent : (ℕ → Option ℕ) → World → ℕ → View → Type 0
SaysSent pass_of w pass v = v.is_poster ≡ true → (pass_of v.poster ≡ some pass) × (v.sent ≡ w.sent v.poster)

-- these posters have no pass any more, and sent just this
abbrev pub AreSettled : (ℕ → Option ℕ) → World → ℕ → List Settled → Type 0
AreSettled pass_of w posters [] = Unit {0}
AreSettled pass_of w posters (s ∷ ss) = ((pass_of s.poster ≡ none) × (s.poster < posters) × (s.sent ≡ w.sent s.poster)) × AreSettled pass_of w posters ss

-- the mirror has one pass, which says what was taken, how many posters there are, and what each settled one sent
abbrev pub SaysTaken : ℕ → (ℕ → Option ℕ) → World → ℕ → View → Type 0
SaysTaken mirror pass_of w pass v =
    v.is_mirror ≡ true
    → (pass ≡ mirror) × (v.taken ≡ w.taken)
    × ((poster : ℕ) → v.posters ≤ poster → (pass_of poster ≡ none) × (w.sent poster ≡ []))
    × AreSettled pass_of w v.posters v.settled

-- this is the poster's pass, and says that it sent these
abbrev pub IsPassOf : ℕ → List Mail → View → Type 0
IsPassOf poster sent v = (v.is_poster ≡ true) × (v.poster ≡ poster) × (v.sent ≡ sent)

-- this is the mirror's pass, and says that the poster was settled, and that it sent these
abbrev pub HasSettled : ℕ → List Mail → View → Type 0
HasSettled poster sent v = (v.is_mirror ≡ true) × Contains v.settled (record { poster = poster; sent = sent })

-- the poster has its pass, which says that it sent these; or it was settled, and the mirror's pass says that it sent these; or it has sent nothing
abbrev pub IsKnown : List View → ℕ → List Mail → Type 0
IsKnown views poster sent = Any (IsPassOf poster sent) views ⊎ Any (HasSettled poster sent) views ⊎ (sent ≡ [])

-- where a pass says a bound, it says this one; the mirror's says one
abbrev pub SaysBound : ℕ → View → Type 0
SaysBound bound v = (v.is_told ≡ true → v.bound ≡ bound) × (v.is_mirror ≡ true → v.is_told ≡ true)

-- each pass says this bound, or none
abbrev pub AllSayBound : ℕ → List View → Type 0
AllSayBound bound views = (pass : ℕ) (v : View) → get_elem? views pass ≡ some v → SaysBound bound v

-- no pass says a bound yet
abbrev pub NoneSaysBound : List View → Type 0
NoneSaysBound views = (pass : ℕ) (v : View) → get_elem? views pass ≡ some v → v.is_told ≡ false

-- the rule: what waits, what the posters' passes say and what the mirror's says are a world that events allowed at a bound lead to; the passes say this bound, and until they do nothing has happened
pub record IsInOrder (waiting : List Mail) (views : List View) : Type 0 where
  -- which pass is the mirror's
  pub mirror : ℕ
  -- which pass is a poster's, if it has one
  pub pass_of : ℕ → Option ℕ
  pub world : World
  pub bound : ℕ
  pub is_reached : IsReached bound world
  pub queue_is : world.queue ≡ waiting
  pub views_are : (pass : ℕ) (v : View) → get_elem? views pass ≡ some v → SaysSent pass_of world pass v × SaysTaken mirror pass_of world pass v
  -- the other way round: the mirror has its pass, and no poster has sent a mail that no pass knows of
  pub mirror_is : Any (λ v. v.is_mirror ≡ true) views
  pub sent_is : (poster : ℕ) → IsKnown views poster (world.sent poster)
  pub bound_is : ((world ≡ empty_world) × NoneSaysBound views) ⊎ AllSayBound bound views
