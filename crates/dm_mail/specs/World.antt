-- The mail of one mirror, of any number of posters: what each poster sent, what waits, and what was taken.
use Rattle.std.specs.Prelude.{◌≡◌, ℕ, ◌<◌, false, List, [], ◌∷◌, ◌++◌, length, if◌then◌else◌, ◌==◌}
use Rattle.dm_mail.specs.declared.mail.Mail.{Mail}
use Rattle.dm_mail.specs.declared.mail.Body.{Body}
use Rattle.dm_mail.specs.Limits.{most_bundles}
use Rattle.dm_mail.specs.Mails.{bundle, mark, next_mail, mails_of, is_closed}

-- the mail of one mirror at one moment
pub record World : Type 0 where
  -- what each poster sent, in order
  pub sent : ℕ → List Mail
  -- what was sent and not yet taken
  pub queue : List Mail
  -- what the mirror took, in order
  pub taken : List Mail

-- nothing was sent yet
abbrev pub empty_world : World
empty_world = record { sent = λ poster. []; queue = []; taken = [] }

-- a poster sends a bundle of this text, or its mark; or the mirror takes a mail
pub data Event : Type 0 where
  Posts : ℕ → List ℕ → Event
  Closes : ℕ → Event
  Takes : Event

-- the world once a poster's next mail is appended to what it sent and to the queue
abbrev pub world_after_post : World → ℕ → Body → World
world_after_post w poster body = record {
  sent = λ p. if poster == p then w.sent p ++ next_mail poster (w.sent poster) body ∷ [] else w.sent p;
  queue = w.queue ++ next_mail poster (w.sent poster) body ∷ [];
  taken = w.taken;
}

-- the world once the front of this queue was moved to the end of what was taken
abbrev pub world_after_take : World → List Mail → World
world_after_take w [] = w
world_after_take w (m ∷ ms) = record { sent = w.sent; queue = ms; taken = w.taken ++ m ∷ [] }

-- the world after an event
abbrev pub world_after : Event → World → World
world_after (Posts poster text) w = world_after_post w poster (bundle text)
world_after (Closes poster) w = world_after_post w poster mark
world_after Takes w = world_after_take w w.queue

-- a poster that has not closed and has sent fewer than `most_bundles` sends one where the queue is below the bound;
-- one that has not closed sends its mark where the queue is below the bound; the mirror takes a mail that waits
abbrev pub IsAllowed : ℕ → World → Event → Type 0
IsAllowed bound w (Posts poster text) = (is_closed (w.sent poster) ≡ false) × (length (w.sent poster) < most_bundles) × (length w.queue < bound)
IsAllowed bound w (Closes poster) = (is_closed (w.sent poster) ≡ false) × (length w.queue < bound)
IsAllowed bound w Takes = 0 < length w.queue

-- the world after all these events, from this one on
abbrev pub world_after_all : List Event → World → World
world_after_all [] w = w
world_after_all (e ∷ es) w = world_after_all es (world_after e w)

-- each event is allowed where it comes
abbrev pub AllAllowed : ℕ → World → List Event → Type 0
AllAllowed bound w [] = Unit {0}
AllAllowed bound w (e ∷ es) = IsAllowed bound w e × AllAllowed bound (world_after e w) es

-- allowed events lead from the empty world to this one
pub record IsReached (bound : ℕ) (w : World) : Type 0 where
  pub events : List Event
  pub allowed : AllAllowed bound empty_world events
  pub is_after : world_after_all events empty_world ≡ w

-- in one world that allowed events lead to, a poster sent these, and these were taken from it
pub record ShareWorld (bound poster : ℕ) (sent taken : List Mail) : Type 0 where
  pub world : World
  pub is_reached : IsReached bound world
  pub sent_is : world.sent poster ≡ sent
  pub taken_is : mails_of poster world.taken ≡ taken
