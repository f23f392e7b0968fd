-- What was checked is given.
use Rattle.std.proofs.Common.{◌≡◌, ℕ, List, Option, subst}
use Rattle.dm_named.specs.declared.fault.ReadFault.{ReadFault}
use Rattle.dm_named.specs.declared.limits.Limits.{Limits}
use Rattle.dm_c.specs.declared.check.Checked.{Checked}
use Rattle.dm_c.specs.declared.numbers.VerdictNumbers.{VerdictNumbers}
use Rattle.dm_c.specs.Calls.{ChecksWithin, bundle, malformed}
use Rattle.dm_c.specs.Checking.{GivesChecked, GivesFor, IsChecked, is_bundle, is_malformed}

module _ (limits : Limits) (text : List ℕ) (checked : Checked) (out out' : List ℕ) (needed needed' : ℕ) (verdict verdict' : VerdictNumbers) (status : ℕ) where
  given_of : (fault : Option ReadFault) (t : List ℕ) → checked.fault ≡ fault → checked.text.items ≡ t → GivesChecked checked out out' needed' verdict verdict' status
      → GivesFor fault t out out' needed' verdict verdict' status
  given_of fault t e f g =
      subst (λ (x : List ℕ). GivesFor fault x out out' needed' verdict verdict' status) f
      (subst (λ (o : Option ReadFault). GivesFor o checked.text.items out out' needed' verdict verdict' status) e g)

  pub given_checks : IsChecked limits text checked → GivesChecked checked out out' needed' verdict verdict' status → ChecksWithin limits text out out' needed needed' verdict verdict' status
  given_checks (is_bundle b r t f) g = let h = given_of _ _ f t g in bundle b r h.0 h.1
  given_checks (is_malformed fault at u) g = let h = given_of _ _ u.tells u.line g in malformed fault at h.0 h.1
