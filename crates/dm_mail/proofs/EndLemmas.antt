-- What a step leaves in the pass of an end.
use Rattle.std.proofs.Common.{◌≡◌, ◌+◌, ◌||◌, ℕ, suc, Bool, true, false, cond, List, ◌∷◌, ◌++◌, [], length, ap, ◌∙◌, sym, subst, arith}
use mathlib.Core.List.{IsPrefix}
use Rattle.dm_mail.specs.declared.mail.Mail.{Mail}
use Rattle.dm_mail.specs.declared.view.View.{View}
use Rattle.dm_mail.specs.declared.ends.Outlet.{Outlet}
use Rattle.dm_mail.specs.Mails.{is_closed, is_mark, count_bundles, count_marks, mails_of}
use Rattle.dm_mail.specs.Rule.{view_after_join, IsAccepted, IsReceived, IsLastSettled}
use Rattle.dm_mail.specs.World.{ShareWorld}
use Rattle.dm_mail.specs.Ends.{outlet_id, outlet_of, outlet_poster, outlet_mails, MailId}
use Rattle.dm_mail.proofs.MailLemmas.{mails_of-append, is_closed-append, all_bundles, count_bundles-mark, count_marks-append}
use Rattle.dm_mail.proofs.WorldLemmas.{prefix_of}

-- what an accepted mail makes of a mark
pub accepted_closed : (v new : View) (m : Mail) (b c : Bool) → IsAccepted v m new → is_closed v.sent ≡ b → is_mark m.body ≡ c → is_closed new.sent ≡ b || c
accepted_closed v new m b c is was mark = ap (λ (x : View). is_closed x.sent) is ∙ (is_closed-append v.sent m ∙ (λ i. was i || mark i))

-- a mark more leaves the count of bundles
pub accepted_mark : (v new : View) (m : Mail) (n : ℕ) → IsAccepted v m new → is_mark m.body ≡ true → is_closed v.sent ≡ false → length v.sent ≡ n → count_bundles new.sent ≡ n
accepted_mark v new m n is mark unclosed counted = ap (λ (x : View). count_bundles x.sent) is ∙ (count_bundles-mark v.sent m mark ∙ (all_bundles v.sent unclosed ∙ counted))

-- a mark that is received is one more
pub received_marks : (v new : View) (m : Mail) (n k : ℕ) → IsReceived v m new → count_marks v.taken ≡ n → cond (is_mark m.body) 1 0 ≡ k → count_marks new.taken ≡ n + k
received_marks v new m n k is counted more = ap (λ (x : View). count_marks x.taken) is.new_is ∙ (count_marks-append v.taken m ∙ (λ i. counted i + more i))

-- the outlets of the posters from n on, all of one mail, which have sent nothing
abbrev pub AreNew : MailId → ℕ → List Outlet → Type 0
AreNew id n [] = Unit {0}
AreNew id n (o ∷ os) = ((outlet_poster o ≡ n) × (outlet_id o ≡ outlet_of id n) × (outlet_mails o ≡ [])) × AreNew id (suc n) os

-- an outlet more
pub new_more : (id : MailId) (n : ℕ) (os : List Outlet) (o : Outlet) → AreNew id n os → outlet_poster o ≡ n + length os →
    outlet_id o ≡ outlet_of id (n + length os) → outlet_mails o ≡ [] → AreNew id n (os ++ o ∷ [])
new_more id n [] o h a b c = (
  (
    (omega arith),
    b ∙ ap (outlet_of id) (let e : n + 0 ≡ n = omega arith in e),
    c,
  ),
  tt,
)
new_more id n (x ∷ os) o h a b c = (
  h.0,
  new_more id (suc n) os o h.1 (omega arith) (b ∙ ap (outlet_of id) (let e : n + suc (length os) ≡ suc n + length os = omega arith in e)) c,
)

-- a mail that is received is one of its poster's more
pub received_more : (v new : View) (m : Mail) → IsReceived v m new → (p : ℕ) → mails_of p new.taken ≡ mails_of p v.taken ++ mails_of p (m ∷ [])
received_more v new m is p = ap (λ (x : View). mails_of p x.taken) is.new_is ∙ mails_of-append p v.taken (m ∷ [])

-- what was taken from the poster that was settled last is a prefix of what it sent
pub settled_prefix : (v other joined shown : View) → joined ≡ view_after_join v other → shown ≡ joined → IsLastSettled joined → IsPrefix (mails_of other.poster shown.taken) other.sent
settled_prefix v other joined shown is same last =
    let share : ShareWorld v.bound other.poster other.sent (mails_of other.poster v.taken) = subst IsLastSettled is last in
    subst (λ (x : View). IsPrefix (mails_of other.poster x.taken) other.sent) (sym (same ∙ is)) (prefix_of _ _ _ _ share)
