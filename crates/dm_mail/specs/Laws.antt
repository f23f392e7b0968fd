-- What holds of the mail of any mirror, whatever the order of its events.
use Rattle.std.specs.Prelude.{◌≡◌, ℕ, zero, suc, ◌+◌, ◌<◌, ◌≤◌, true, List, ◌++◌, length}
use mathlib.Core.List.{IsPrefix}
use Rattle.dm_mail.specs.declared.mail.Mail.{Mail}
use Rattle.dm_mail.specs.Mails.{mails_of, is_closed, IsNumbered, IsMarkLast, AllBelow}
use Rattle.dm_mail.specs.World.{World, IsReached}

-- the mails of a poster, those taken and then those that wait, are what it sent
abbrev pub IsDelivered : Type 0
IsDelivered = (bound : ℕ) (w : World) (poster : ℕ) → IsReached bound w → mails_of poster (w.taken ++ w.queue) ≡ w.sent poster

-- what a poster sent has the numbers 0, 1, ..
abbrev pub SentIsNumbered : Type 0
SentIsNumbered = (bound : ℕ) (w : World) (poster : ℕ) → IsReached bound w → IsNumbered (w.sent poster)

-- a poster's mark is the last that it sent
abbrev pub SentEndsAtMark : Type 0
SentEndsAtMark = (bound : ℕ) (w : World) (poster : ℕ) → IsReached bound w → IsMarkLast (w.sent poster)

-- no more mails wait than the bound
abbrev pub QueueIsBounded : Type 0
QueueIsBounded = (bound : ℕ) (w : World) → IsReached bound w → length w.queue ≤ bound

-- the sum of f over the posters below n
abbrev pub total : ℕ → (ℕ → ℕ) → ℕ
total zero f = 0
total (suc n) f = total n f + f n

-- what was taken from each poster below n is a prefix of what it sent
abbrev pub TakesPrefixes : ℕ → List Mail → (ℕ → List Mail) → Type 0
TakesPrefixes n taken sent = (poster : ℕ) → poster < n → IsPrefix (mails_of poster taken) (sent poster)

-- where as many mails were taken as all posters sent, all of each was taken
abbrev pub AllTakenIsAllSent : Type 0
AllTakenIsAllSent = (n : ℕ) (taken : List Mail) (sent : ℕ → List Mail) → AllBelow n taken → TakesPrefixes n taken sent →
    length taken ≡ total n (λ p. length (sent p)) → (poster : ℕ) → poster < n → mails_of poster taken ≡ sent poster

-- where a poster's mark was taken, all that it sent was
abbrev pub ClosedIsAllSent : Type 0
ClosedIsAllSent = (taken sent : List Mail) → IsMarkLast sent → IsPrefix taken sent → is_closed taken ≡ true → taken ≡ sent
