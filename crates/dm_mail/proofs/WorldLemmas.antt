-- Each allowed event keeps the order of the mail.
use Rattle.std.proofs.Common.{◌≡◌, ℕ, suc, ◌+◌, ◌<◌, ◌≤◌, Bool, true, false, cond, eqb, eq-eqb, List, [], ◌∷◌, ◌++◌, length, refl, sym, ap, ◌∙◌, subst, arith, append_assoc, length-append}
use Rattle.std.proofs.lemmas.Bool.{eqb-true}
use Rattle.dm_mail.specs.declared.mail.Mail.{Mail}
use Rattle.dm_mail.specs.declared.mail.Body.{Body}
use Rattle.dm_mail.specs.Mails.{bundle, mark, next_mail, mails_of, is_closed, IsNumberedFrom, IsNumbered, IsMarkLast}
use Rattle.dm_mail.specs.World.{World, Event, Posts, Closes, Takes, empty_world, world_after_post, world_after_take, world_after, world_after_all, IsAllowed, AllAllowed, IsReached, ShareWorld}
use mathlib.Core.List.{IsPrefix}
use Rattle.dm_mail.proofs.Totals.{nothing_after, after_mark}
use Rattle.dm_mail.proofs.MailLemmas.{mails_of-append, grown, numbered_more, mark_last_more}

-- what holds of every world that is reached
pub record IsInOrder (bound : ℕ) (w : World) : Type 0 where
  pub delivered : (p : ℕ) → mails_of p (w.taken ++ w.queue) ≡ w.sent p
  pub numbered : (p : ℕ) → IsNumbered (w.sent p)
  pub mark_last : (p : ℕ) → IsMarkLast (w.sent p)
  pub bounded : length w.queue ≤ bound

post_delivered : (w : World) (p : ℕ) (body : Body) (q : ℕ) → mails_of q (w.taken ++ w.queue) ≡ w.sent q →
    mails_of q (w.taken ++ (w.queue ++ next_mail p (w.sent p) body ∷ [])) ≡ (world_after_post w p body).sent q
post_delivered w p body q is =
    let m : Mail = next_mail p (w.sent p) body in
    ap (mails_of q) (sym (append_assoc w.taken w.queue (m ∷ []))) ∙
    (mails_of-append q (w.taken ++ w.queue) (m ∷ []) ∙ (ap (λ l. l ++ mails_of q (m ∷ [])) is ∙ grown (eqb p q) m (w.sent q)))

post_numbered : (b : Bool) (w : World) (p q : ℕ) (body : Body) → eqb p q ≡ b → IsNumbered (w.sent q) →
    IsNumbered (cond b (w.sent q ++ next_mail p (w.sent p) body ∷ []) (w.sent q))
post_numbered true w p q body is ns = numbered_more 0 (w.sent q) (next_mail p (w.sent p) body) ns (let same = ap (λ k. length (w.sent k)) (eqb-true p q is) in omega arith)
post_numbered false w p q body is ns = ns

post_mark_last : (b : Bool) (w : World) (p q : ℕ) (body : Body) → eqb p q ≡ b → is_closed (w.sent p) ≡ false → IsMarkLast (w.sent q) →
    IsMarkLast (cond b (w.sent q ++ next_mail p (w.sent p) body ∷ []) (w.sent q))
post_mark_last true w p q body is unclosed last = mark_last_more (w.sent q) (next_mail p (w.sent p) body) last (ap (λ k. is_closed (w.sent k)) (sym (eqb-true p q is)) ∙ unclosed)
post_mark_last false w p q body is unclosed last = last

post_in_order : (bound : ℕ) (w : World) (p : ℕ) (body : Body) → is_closed (w.sent p) ≡ false → length w.queue < bound → IsInOrder bound w → IsInOrder bound (world_after_post w p body)
post_in_order bound w p body unclosed room o = record {
  delivered = λ q. post_delivered w p body q (o.delivered q);
  numbered = λ q. post_numbered (eqb p q) w p q body refl (o.numbered q);
  mark_last = λ q. post_mark_last (eqb p q) w p q body refl unclosed (o.mark_last q);
  bounded = omega (arith, length-append w.queue (next_mail p (w.sent p) body ∷ []));
}

take_in_order : (bound : ℕ) (sent : ℕ → List Mail) (queue taken : List Mail) → IsInOrder bound (record { sent = sent; queue = queue; taken = taken }) →
    IsInOrder bound (world_after_take (record { sent = sent; queue = queue; taken = taken }) queue)
take_in_order bound sent [] taken o = o
take_in_order bound sent (m ∷ ms) taken o = record {
  delivered = λ q. ap (mails_of q) (append_assoc taken (m ∷ []) ms) ∙ o.delivered q;
  numbered = o.numbered;
  mark_last = o.mark_last;
  bounded = omega (arith, o.bounded);
}

world_after_in_order : (bound : ℕ) (w : World) (e : Event) → IsAllowed bound w e → IsInOrder bound w → IsInOrder bound (world_after e w)
world_after_in_order bound w (Posts p text) a o = post_in_order bound w p (bundle text) a.0 a.2 o
world_after_in_order bound w (Closes p) a o = post_in_order bound w p mark a.0 a.1 o
world_after_in_order bound w Takes a o = take_in_order bound w.sent w.queue w.taken o

all_in_order : (bound : ℕ) (w : World) (es : List Event) → AllAllowed bound w es → IsInOrder bound w → IsInOrder bound (world_after_all es w)
all_in_order bound w [] a o = o
all_in_order bound w (e ∷ es) a o = all_in_order bound (world_after e w) es a.1 (world_after_in_order bound w e a.0 o)

pub reached_in_order : (bound : ℕ) (w : World) → IsReached bound w → IsInOrder bound w
reached_in_order bound w r =
    subst (IsInOrder bound) r.is_after (all_in_order bound empty_world r.events r.allowed (record { delivered = λ q. refl; numbered = λ q. tt; mark_last = λ q. tt; bounded = omega arith }))

all_allowed-append : (bound : ℕ) (w : World) (es : List Event) (e : Event) → AllAllowed bound w es → IsAllowed bound (world_after_all es w) e → AllAllowed bound w (es ++ e ∷ [])
all_allowed-append bound w [] e all a = (a, tt)
all_allowed-append bound w (x ∷ es) e all a = (all.0, all_allowed-append bound (world_after x w) es e all.1 a)

world_after_all-append : (w : World) (es : List Event) (e : Event) → world_after_all (es ++ e ∷ []) w ≡ world_after e (world_after_all es w)
world_after_all-append w [] e = refl
world_after_all-append w (x ∷ es) e = world_after_all-append (world_after x w) es e

-- an allowed event more
pub reached_more : (bound : ℕ) (w : World) (e : Event) → IsReached bound w → IsAllowed bound w e → IsReached bound (world_after e w)
reached_more bound w e r a = record {
  events = r.events ++ e ∷ [];
  allowed = all_allowed-append bound empty_world r.events e r.allowed (subst (λ v. IsAllowed bound v e) (sym r.is_after) a);
  is_after = world_after_all-append empty_world r.events e ∙ ap (world_after e) r.is_after;
}

number_at : (n : ℕ) (xs : List Mail) (m : Mail) (ys : List Mail) → IsNumberedFrom n (xs ++ m ∷ ys) → m.number ≡ n + length xs
number_at n [] m ys is = omega (arith, is.0)
number_at n (x ∷ xs) m ys is = let rest = number_at (suc n) xs m ys is.1 in omega arith

not_true : (b : Bool) → (b ≡ true → ⊥) → b ≡ false
not_true true h = absurd (h refl)
not_true false h = refl

-- the mail that has waited longest is its poster's next, after those that were taken
pub record IsNextOfQueue (w : World) (m : Mail) : Type 0 where
  pub number : m.number ≡ length (mails_of m.poster w.taken)
  pub unclosed : is_closed (mails_of m.poster w.taken) ≡ false
  pub sends_something : w.sent m.poster ≡ [] → ⊥

pub next_of_queue : (bound : ℕ) (w : World) (m : Mail) (items : List Mail) → IsReached bound w → w.queue ≡ m ∷ items → IsNextOfQueue w m
next_of_queue bound w m items r is =
    let o = reached_in_order bound w r in
    let before : List Mail = mails_of m.poster w.taken in
    let after : List Mail = mails_of m.poster items in
    let own : mails_of m.poster (m ∷ items) ≡ m ∷ after = ap (λ b. cond b (m ∷ after) after) (eq-eqb m.poster m.poster refl) in
    let sent : w.sent m.poster ≡ before ++ m ∷ after = sym (o.delivered m.poster) ∙
    (ap (λ l. mails_of m.poster (w.taken ++ l)) is ∙ (mails_of-append m.poster w.taken (m ∷ items) ∙ ap (λ l. before ++ l) own)) in
    let numbered : IsNumbered (before ++ m ∷ after) = subst IsNumbered sent (o.numbered m.poster) in
    let last : IsMarkLast (before ++ m ∷ after) = subst IsMarkLast sent (o.mark_last m.poster) in
    record {
      number = (let n = number_at 0 before m after numbered in omega arith);
      unclosed = not_true (is_closed before) (λ closed. absurd (cc (after_mark before (m ∷ after) last closed)));
      sends_something = λ nothing. absurd (cc (nothing_after before (m ∷ after) (sym sent ∙ nothing)));
    }

-- what was taken from a poster in a world is a prefix of what it sent
pub prefix_of : (bound p : ℕ) (sent taken : List Mail) → ShareWorld bound p sent taken → IsPrefix taken sent
prefix_of bound p sent taken share =
    let w : World = share.world in
    let o = reached_in_order bound w share.is_reached in
    (mails_of p w.queue, ap (λ l. l ++ mails_of p w.queue) (sym share.taken_is) ∙ (sym (mails_of-append p w.taken w.queue) ∙ (o.delivered p ∙ share.sent_is)))
