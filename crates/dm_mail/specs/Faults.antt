-- When each fault comes.
use Rattle.std.specs.Prelude.{◌≡◌, ◌⊎◌, ℕ, ◌<◌, ◌≤◌}
use Rattle.dm_mail.specs.declared.opening.MailFault.{MailFault}
use Rattle.dm_mail.specs.declared.opening.MailFault.TheVariants.{BadPosters, BadBound, NoMemory}
use Rattle.dm_mail.specs.declared.outlet.Why.{Why}
use Rattle.dm_mail.specs.declared.outlet.Why.TheVariants.{Limit, Gone}
use Rattle.dm_mail.specs.Limits.{most_posters, most_bundles, most_waiting}

-- a mirror's mail has 1 to `most_posters` posters, and 1 to `most_waiting` mails may wait
abbrev pub IsOpenable : ℕ → ℕ → Type 0
IsOpenable posters bound = ((0 < posters) × (posters ≤ most_posters)) × (0 < bound) × (bound ≤ most_waiting)

-- the fault is the first that there is
abbrev pub IsFirstFault : ℕ → ℕ → MailFault → Type 0
IsFirstFault posters bound BadPosters = (posters ≡ 0) ⊎ (most_posters < posters)
IsFirstFault posters bound BadBound = ((0 < posters) × (posters ≤ most_posters)) × ((bound ≡ 0) ⊎ (most_waiting < bound))
IsFirstFault posters bound NoMemory = IsOpenable posters bound

-- why a poster that has sent so many bundles can't send one more
abbrev pub IsReason : ℕ → Why → Type 0
IsReason count Limit = count ≡ most_bundles
IsReason count Gone = count < most_bundles
