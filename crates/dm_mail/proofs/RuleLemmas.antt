-- Each step of the channel keeps its rule.
use Rattle.std.proofs.Common.{◌≡◌, ◌≢◌, ℕ, zero, suc, ◌+◌, ◌<◌, ◌≤◌, Bool, true, false, true≢false, cond, eqb, List, [], ◌∷◌, ◌++◌, length, set, refl, sym, ap, ◌∙◌, subst, ◌⊎◌, inl, inr, ⊎_elim, arith, eq-eqb, ne_eqb, length-append}
use mathlib.Core.Option.{Option, some, none, some-injective, some-ne-none}
use Rattle.std.specs.List.{Any, Contains}
use Rattle.std.proofs.lemmas.Bool.{cases_eq, cases_lt}
use Rattle.std.proofs.lemmas.List.{length-set, get_or-set_other, get_or_append_left}
use Rattle.std.proofs.lemmas.List.Quantifiers.{any-set}
use lib.ListN.{get_elem?}
use Rattle.crossbeam_channel.specs.Fifo.{Pushes, Pops, Forks, Merges, Learns}
use Rattle.atomic_table.proofs.Lists.{at_set, at_index}
use Rattle.dm_mail.specs.declared.mail.Mail.{Mail}
use Rattle.dm_mail.specs.declared.mail.Body.{Body}
use Rattle.dm_mail.specs.declared.view.View.{View}
use Rattle.dm_mail.specs.declared.view.Settled.{Settled}
use Rattle.dm_mail.specs.Mails.{bundle, mark, next_mail, mails_of, is_closed}
use Rattle.dm_mail.specs.World.{World, Event, Posts, Closes, Takes, empty_world, world_after, world_after_post, world_after_take, IsAllowed, IsReached}
use Rattle.dm_mail.specs.Rule.{first_view, spent_view, poster_view, settled_by, view_after_split, view_after_join, view_after_send, view_after_receive, IsAccepted, IsReceived, FirstShares, IsLastSettled, SaysSent, AreSettled, SaysTaken, IsPassOf, HasSettled, IsKnown, SaysBound, AllSayBound, NoneSaysBound, IsInOrder}
use Rattle.dm_mail.proofs.WorldLemmas.{reached_more, next_of_queue}
use Rattle.dm_mail.specs.Limits.{most_bundles}

abbrev EachView : (ℕ → View → Type 0) → List View → Type 0
EachView F views = (pass : ℕ) (v : View) → get_elem? views pass ≡ some v → F pass v

each_set : (F : ℕ → View → Type 0) (views : List View) (pass : ℕ) (new : View) → F pass new → ((j : ℕ) (u : View) → j ≢ pass → get_elem? views j ≡ some u → F j u) →
    (j : ℕ) (u : View) → get_elem? (set views pass new) j ≡ some u → F j u
each_set F views pass new mine others j u e =
    ⊎_elim (λ (x : (j ≡ pass) × (new ≡ u)). subst (λ (y : ℕ × View). F y.0 y.1) (λ i. (sym x.0 i, x.1 i)) mine)
    (λ (x : (j ≢ pass) × (get_elem? views j ≡ some u)). others j u x.0 x.1) (at_set views pass j new u e)

-- the place of an element is below the length
place_below : {A : Type 0} (l : List A) (i : ℕ) (a : A) → get_elem? l i ≡ some a → i < length l
place_below [] i a e = absurd (some-ne-none a (sym e))
place_below (x ∷ xs) zero a e = omega arith
place_below (x ∷ xs) (suc i) a e = let l = place_below xs i a e in omega arith

-- what holds of some element still does where one is written over, if it holds of the new one where it did of the old
any_kept : {A : Type 0} (P : A → Type 0) (l : List A) (i : ℕ) (a b : A) → get_elem? l i ≡ some a → (P a → P b) → Any P l → Any P (set l i b)
any_kept P l i a b at keep h = ⊎_elim
    (λ (e : h.0 ≡ i).
    let same : h.1 ≡ a = some-injective h.1 a (sym (at_index l h.0 h.1 h.2 (sym h.3)) ∙ (ap (get_elem? l) e ∙ at)) in
    any-set P l i b (place_below l i a at) (keep (subst P same h.4)))
    (λ (e : h.0 ≢ i). (h.0, h.1, omega (arith, length-set l i b), get_or-set_other l i h.0 b h.1 e ∙ h.3, h.4))
    (cases_eq h.0 i)

any_more : {A : Type 0} (P : A → Type 0) (l : List A) (b : A) → Any P l → Any P (l ++ b ∷ [])
any_more P l b h = (h.0, h.1, omega (arith, length-append l (b ∷ [])), get_or_append_left l (b ∷ []) h.1 h.0 h.2 ∙ h.3, h.4)

contains_more : {A : Type 0} (l : List A) (a b : A) → Contains l a → Contains (b ∷ l) a
contains_more l a b h = (suc h.0, omega arith, h.2)

-- what is known of a poster stays where the passes that say it do
known_map : (views more : List View) (p : ℕ) (sent : List Mail) → (Any (IsPassOf p sent) views → Any (IsPassOf p sent) more) →
    (Any (HasSettled p sent) views → Any (HasSettled p sent) more) → IsKnown views p sent → IsKnown more p sent
known_map views more p sent own settled = ⊎_elim (λ h. inl (own h)) (λ rest. inr (⊎_elim (λ h. inl (settled h)) (λ h. inr h) rest))

-- a step of one pass leaves what is known of a poster, where it leaves what this pass says of it
known_kept : (views : List View) (pass : ℕ) (v new : View) (p : ℕ) (sent : List Mail) → get_elem? views pass ≡ some v →
    (IsPassOf p sent v → IsPassOf p sent new) → (HasSettled p sent v → HasSettled p sent new) → IsKnown views p sent → IsKnown (set views pass new) p sent
known_kept views pass v new p sent at own settled =
    known_map views (set views pass new) p sent (any_kept (IsPassOf p sent) views pass v new at own) (any_kept (HasSettled p sent) views pass v new at settled)

-- a pass more leaves what is known of a poster
known_more : (views : List View) (new : View) (p : ℕ) (sent : List Mail) → IsKnown views p sent → IsKnown (views ++ new ∷ []) p sent
known_more views new p sent = known_map views (views ++ new ∷ []) p sent (any_more (IsPassOf p sent) views new) (any_more (HasSettled p sent) views new)

-- what the pass at a number says of a world
abbrev Says : ℕ → (ℕ → Option ℕ) → World → ℕ → View → Type 0
Says mirror pass_of w j u = SaysSent pass_of w j u × SaysTaken mirror pass_of w j u

-- a mail of one poster leaves what the others sent
same_sent : (w : World) (p : ℕ) (body : Body) (q : ℕ) → p ≢ q → (world_after_post w p body).sent q ≡ w.sent q
same_sent w p body q apart = ap (λ b. cond b (w.sent q ++ next_mail p (w.sent p) body ∷ []) (w.sent q)) (ne_eqb p q apart)

own_sent : (w : World) (p : ℕ) (body : Body) → (world_after_post w p body).sent p ≡ w.sent p ++ next_mail p (w.sent p) body ∷ []
own_sent w p body = ap (λ b. cond b (w.sent p ++ next_mail p (w.sent p) body ∷ []) (w.sent p)) (eq-eqb p p refl)

-- a poster that has no pass isn't the one that has this
apart_from : (pass_of : ℕ → Option ℕ) (p q pass : ℕ) → pass_of p ≡ some pass → pass_of q ≡ none → p ≢ q
apart_from pass_of p q pass at away same = some-ne-none pass (sym at ∙ (ap pass_of same ∙ away))

settled_post : (pass_of : ℕ → Option ℕ) (w : World) (posters p pass : ℕ) (body : Body) (ss : List Settled) → pass_of p ≡ some pass →
    AreSettled pass_of w posters ss → AreSettled pass_of (world_after_post w p body) posters ss
settled_post pass_of w posters p pass body [] at h = tt
settled_post pass_of w posters p pass body (s ∷ ss) at h = (
  (h.0.0, h.0.1, h.0.2 ∙ sym (same_sent w p body s.poster (apart_from pass_of p s.poster pass at h.0.0))),
  settled_post pass_of w posters p pass body ss at h.1,
)

taken_post : (mirror : ℕ) (pass_of : ℕ → Option ℕ) (w : World) (p pass : ℕ) (body : Body) (j : ℕ) (u : View) → pass_of p ≡ some pass →
    SaysTaken mirror pass_of w j u → SaysTaken mirror pass_of (world_after_post w p body) j u
taken_post mirror pass_of w p pass body j u at h = λ role. let f = h role in (
  f.0,
  f.1,
  (λ q above. let g = f.2 q above in (g.0, same_sent w p body q (apart_from pass_of p q pass at g.0) ∙ g.1)),
  settled_post pass_of w u.posters p pass body u.settled at f.3,
)

sent_post : (pass_of : ℕ → Option ℕ) (w : World) (p pass : ℕ) (body : Body) (j : ℕ) (u : View) → pass_of p ≡ some pass → j ≢ pass →
    SaysSent pass_of w j u → SaysSent pass_of (world_after_post w p body) j u
sent_post pass_of w p pass body j u at other h = λ role. let f = h role in (
  f.0,
  f.1 ∙ sym (same_sent w p body u.poster (λ same. other (some-injective j pass (sym f.0 ∙ (ap pass_of (sym same) ∙ at))))),
)

-- what a poster sent stays known when its mail is accepted
known_post : (w : World) (views : List View) (pass : ℕ) (v : View) (m : Mail) (body : Body) → get_elem? views pass ≡ some v → v.is_poster ≡ true →
    (view_after_send v m).sent ≡ (world_after_post w v.poster body).sent v.poster → (q : ℕ) → IsKnown views q (w.sent q) →
    IsKnown (set views pass (view_after_send v m)) q ((world_after_post w v.poster body).sent q)
known_post w views pass v m body at role says q known = ⊎_elim
    (λ (e : v.poster ≡ q). inl (any-set (IsPassOf q ((world_after_post w v.poster body).sent q)) views pass (view_after_send v m) (place_below views pass v at)
    (role, e, says ∙ ap (world_after_post w v.poster body).sent e)))
    (λ (e : v.poster ≢ q). subst (IsKnown (set views pass (view_after_send v m)) q) (sym (same_sent w v.poster body q e))
    (known_kept views pass v (view_after_send v m) q (w.sent q) at (λ x. absurd (e x.1)) (λ x. x) known))
    (cases_eq v.poster q)

-- once a pass says a bound, all agree
agreed : (w : World) (bound : ℕ) (views : List View) (pass : ℕ) (v : View) → (((w ≡ empty_world) × NoneSaysBound views) ⊎ AllSayBound bound views) →
    get_elem? views pass ≡ some v → v.is_told ≡ true → AllSayBound bound views
agreed w bound views pass v k at told = ⊎_elim (λ (x : (w ≡ empty_world) × NoneSaysBound views). absurd (true≢false (sym told ∙ x.1 pass v at))) (λ x. x) k

bound_set : (views : List View) (pass bound : ℕ) (u : View) → SaysBound bound u → AllSayBound bound views → AllSayBound bound (set views pass u)
bound_set views pass bound u mine all = each_set (λ j x. SaysBound bound x) views pass u mine (λ j x other there. all j x there)

-- a poster's mail is accepted
accepts : (n pass : ℕ) (v : View) (e : Event) (body : Body) (m : Mail) → n ≡ v.bound → v.is_told ≡ true → v.is_poster ≡ true → m ≡ next_mail v.poster v.sent body
    → ((w : World) → world_after e w ≡ world_after_post w v.poster body)
    → ((w : World) → v.sent ≡ w.sent v.poster → length w.queue < n → IsAllowed n w e)
    → Pushes IsInOrder n pass v m (IsAccepted v m)
accepts n pass v e body m same_bound told role is step may items views short h at =
    let mirror = h.mirror in let pass_of = h.pass_of in let w = h.world in
    let all = agreed w h.bound views pass v h.bound_is at told in
    let here : n ≡ h.bound = same_bound ∙ (all pass v at).0 told in
    let before : IsReached n w = subst (λ b. IsReached b w) (sym here) h.is_reached in
    let mine = (h.views_are pass v at).0 role in
    let after : World = world_after_post w v.poster body in
    let same : m ≡ next_mail v.poster (w.sent v.poster) body = is ∙ ap (λ l. next_mail v.poster l body) mine.1 in
    let shorter : length w.queue < n = (let q = ap length h.queue_is in omega arith) in
    let new : View = view_after_send v m in
    let says : new.sent ≡ after.sent v.poster = (λ i. mine.1 i ++ same i ∷ []) ∙ sym (own_sent w v.poster body) in (
      new,
      record {
        mirror = mirror;
        pass_of = pass_of;
        world = after;
        bound = n;
        is_reached = subst (IsReached n) (step w) (reached_more n w e before (may w mine.1 shorter));
        queue_is = λ i. h.queue_is i ++ sym same i ∷ [];
        views_are = each_set (Says mirror pass_of after) views pass new
            ((λ _. (mine.0, says)), taken_post mirror pass_of w v.poster pass body pass new mine.0 (λ t. (h.views_are pass v at).1 t))
            (λ j u other there. (sent_post pass_of w v.poster pass body j u mine.0 other (h.views_are j u there).0, taken_post mirror pass_of w v.poster pass body j u mine.0 (h.views_are j u there).1));
        mirror_is = any_kept (λ (y : View). y.is_mirror ≡ true) views pass v new at (λ x. x) h.mirror_is;
        sent_is = λ q. known_post w views pass v m body at role says q (h.sent_is q);
        bound_is = inr (subst (λ b. AllSayBound b (set views pass new)) (sym here) (bound_set views pass h.bound new (all pass v at) all));
      },
      refl,
    )

-- a bundle is accepted
pub posts : (n pass : ℕ) (v : View) (text : List ℕ) (m : Mail) → n ≡ v.bound → v.is_told ≡ true → v.is_poster ≡ true → is_closed v.sent ≡ false → length v.sent < most_bundles →
    m ≡ next_mail v.poster v.sent (bundle text) → Pushes IsInOrder n pass v m (IsAccepted v m)
posts n pass v text m small told role unclosed room is = accepts n pass v (Posts v.poster text) (bundle text) m small told role is (λ w. refl)
    (λ w same short. (ap is_closed (sym same) ∙ unclosed, (let q = ap length same in omega arith), short))

-- a mark is accepted
pub closes : (n pass : ℕ) (v : View) (m : Mail) → n ≡ v.bound → v.is_told ≡ true → v.is_poster ≡ true → is_closed v.sent ≡ false →
    m ≡ next_mail v.poster v.sent mark → Pushes IsInOrder n pass v m (IsAccepted v m)
closes n pass v m small told role unclosed is = accepts n pass v (Closes v.poster) mark m small told role is (λ w. refl)
    (λ w same short. (ap is_closed (sym same) ∙ unclosed, short))

-- the mirror receives the mail that has waited longest
pub receives : (pass : ℕ) (v : View) → v.is_told ≡ true → v.is_mirror ≡ true → Pops IsInOrder pass v (IsReceived v)
receives pass v told role x items views h at =
    let mirror = h.mirror in let pass_of = h.pass_of in let w = h.world in
    let mine = (h.views_are pass v at).1 role in
    let after : World = record { sent = w.sent; queue = items; taken = w.taken ++ x ∷ [] } in
    let waits : 0 < length w.queue = (let q = ap length h.queue_is in omega arith) in
    let all = agreed w h.bound views pass v h.bound_is at told in
    let next = next_of_queue h.bound w x items h.is_reached h.queue_is in
    let new : View = view_after_receive v x in (
      new,
      record {
        mirror = mirror;
        pass_of = pass_of;
        world = after;
        bound = h.bound;
        is_reached = subst (IsReached h.bound) (ap (world_after_take w) h.queue_is) (reached_more h.bound w Takes h.is_reached waits);
        queue_is = refl;
        views_are = each_set (Says mirror pass_of after) views pass new
            ((h.views_are pass v at).0, λ _. (mine.0, (λ i. mine.1 i ++ x ∷ []), mine.2, mine.3))
            (λ j u other there. ((h.views_are j u there).0, λ t. absurd (other (((h.views_are j u there).1 t).0 ∙ sym mine.0))));
        mirror_is = any_kept (λ (y : View). y.is_mirror ≡ true) views pass v new at (λ x. x) h.mirror_is;
        sent_is = λ q. known_kept views pass v new q (w.sent q) at (λ x. x) (λ x. x) (h.sent_is q);
        bound_is = inr (bound_set views pass h.bound new (all pass v at) all);
      },
      record {
        new_is = refl;
        poster = ⊎_elim (λ l. l) (λ (above : v.posters ≤ x.poster). absurd (next.sends_something (mine.2 x.poster above).1)) (cases_lt x.poster v.posters);
        number = next.number ∙ ap (λ l. length (mails_of x.poster l)) (sym mine.1);
        unclosed = ap (λ l. is_closed (mails_of x.poster l)) mine.1 ∙ next.unclosed;
      },
    )

-- the element of a list that grew by one
at_more : (l : List View) (a b : View) (j : ℕ) → get_elem? (l ++ a ∷ []) j ≡ some b → (get_elem? l j ≡ some b) ⊎ ((j ≡ length l) × (a ≡ b))
at_more [] a b zero e = inr (refl, some-injective a b e)
at_more [] a b (suc j) e = absurd (some-ne-none b (sym e))
at_more (x ∷ xs) a b zero e = inl e
at_more (x ∷ xs) a b (suc j) e = ⊎_elim (λ h. inl h) (λ h. inr (ap suc h.0, h.1)) (at_more xs a b j e)

-- what is given to one poster leaves the others
given_else : (pass_of : ℕ → Option ℕ) (p q : ℕ) (at : Option ℕ) → p ≢ q → cond (eqb p q) at (pass_of q) ≡ pass_of q
given_else pass_of p q at apart = ap (λ b. cond b at (pass_of q)) (ne_eqb p q apart)

given_here : (pass_of : ℕ → Option ℕ) (p : ℕ) (at : Option ℕ) → cond (eqb p p) at (pass_of p) ≡ at
given_here pass_of p at = ap (λ b. cond b at (pass_of p)) (eq-eqb p p refl)

settled_split : (pass_of : ℕ → Option ℕ) (w : World) (posters k : ℕ) (ss : List Settled) → AreSettled pass_of w posters ss →
    AreSettled (λ q. cond (eqb posters q) (some k) (pass_of q)) w (posters + 1) ss
settled_split pass_of w posters k [] h = tt
settled_split pass_of w posters k (s ∷ ss) h = (
  (given_else pass_of posters s.poster (some k) (λ (e : posters ≡ s.poster). absurd (let l = h.0.1 in omega arith)) ∙ h.0.0, (let l = h.0.1 in omega arith), h.0.2),
  settled_split pass_of w posters k ss h.1,
)

-- the mirror's pass is told the bound, or was told it
tell : (w : World) (b bound : ℕ) (views : List View) (pass : ℕ) (v : View) → (v.is_told ≡ true → v.bound ≡ bound) → v.is_mirror ≡ true →
    ((j : ℕ) (u : View) → get_elem? views j ≡ some u → u.is_mirror ≡ true → j ≡ pass) → IsReached b w →
    (((w ≡ empty_world) × NoneSaysBound views) ⊎ AllSayBound b views) → get_elem? views pass ≡ some v →
    IsReached bound w × ((j : ℕ) (u : View) → j ≢ pass → get_elem? views j ≡ some u → SaysBound bound u)
tell w b bound views pass v agrees role alone r k at = ⊎_elim
    (λ (x : (w ≡ empty_world) × NoneSaysBound views). (
      record { events = []; allowed = tt; is_after = sym x.0 },
      λ j u other there. ((λ t. absurd (true≢false (sym t ∙ x.1 j u there))), λ t. absurd (other (alone j u there t))),
    ))
    (λ (x : AllSayBound b views).
    let told = (x pass v at).1 role in
    let same : b ≡ bound = sym ((x pass v at).0 told) ∙ agrees told in
    (subst (λ n. IsReached n w) same r, λ j u other there. ((λ t. (x j u there).0 t ∙ same), (x j u there).1)))
    k

-- a pass is split off for a poster more
pub splits : (bound pass : ℕ) (v : View) → (v.is_told ≡ true → v.bound ≡ bound) → v.is_mirror ≡ true → Forks IsInOrder pass v (view_after_split bound v) (poster_view bound v)
splits bound pass v agrees role items views h at =
    let mirror = h.mirror in let pass_of = h.pass_of in let w = h.world in
    let mine = (h.views_are pass v at).1 role in
    let fresh = mine.2 v.posters (omega arith) in
    let left : View = view_after_split bound v in
    let right : View = poster_view bound v in
    let vs : List View = set views pass left in
    let k : ℕ = length vs in
    let given : ℕ → Option ℕ = λ q. cond (eqb v.posters q) (some k) (pass_of q) in
    let sent : (j : ℕ) (u : View) → SaysSent pass_of w j u → SaysSent given w j u = λ j u f t.
    (given_else pass_of v.posters u.poster (some k) (λ (e : v.posters ≡ u.poster). some-ne-none j (sym (f t).0 ∙ (ap pass_of (sym e) ∙ fresh.0))) ∙ (f t).0, (f t).1) in
    let old : EachView (Says mirror given w) vs = each_set (Says mirror given w) views pass left
    (sent pass left (h.views_are pass v at).0, λ _. (mine.0, mine.1, (λ q above. (given_else pass_of v.posters q (some k) (λ (e : v.posters ≡ q). absurd (omega arith)) ∙ (mine.2 q (omega arith)).0, (mine.2 q (omega arith)).1)), settled_split pass_of w v.posters k v.settled mine.3))
    (λ j u other there. (sent j u (h.views_are j u there).0, λ t. absurd (other (((h.views_are j u there).1 t).0 ∙ sym mine.0)))) in
    let known = tell w h.bound bound views pass v agrees role (λ j u there t. ((h.views_are j u there).1 t).0 ∙ sym mine.0) h.is_reached h.bound_is at in
    record {
      mirror = mirror;
      pass_of = given;
      world = w;
      bound = bound;
      is_reached = known.0;
      queue_is = h.queue_is;
      views_are = λ j u there. ⊎_elim (λ x. old j u x)
          (λ (x : (j ≡ length vs) × (right ≡ u)). subst (λ (y : ℕ × View). Says mirror given w y.0 y.1) (λ i. (sym x.0 i, x.1 i))
          ((λ _. (given_here pass_of v.posters (some k), sym fresh.1)), λ t. absurd (true≢false (sym t))))
          (at_more vs right u j there);
      mirror_is = any_more (λ (y : View). y.is_mirror ≡ true) vs right (any_kept (λ (y : View). y.is_mirror ≡ true) views pass v left at (λ x. x) h.mirror_is);
      sent_is = λ q. known_more vs right q (w.sent q) (known_kept views pass v left q (w.sent q) at (λ x. x) (λ x. x) (h.sent_is q));
      bound_is = inr (λ j u there. ⊎_elim (λ x. each_set (λ i y. SaysBound bound y) views pass left ((λ _. refl), λ _. refl) known.1 j u x)
          (λ (x : (j ≡ length vs) × (right ≡ u)). subst (SaysBound bound) x.1 ((λ _. refl), λ _. refl))
          (at_more vs right u j there));
    }

none_at : (b : Bool) (o : Option ℕ) → o ≡ none → cond b none o ≡ none
none_at true o e = refl
none_at false o e = e

settled_join : (pass_of : ℕ → Option ℕ) (w : World) (posters p : ℕ) (ss : List Settled) → AreSettled pass_of w posters ss → AreSettled (λ q. cond (eqb p q) none (pass_of q)) w posters ss
settled_join pass_of w posters p [] h = tt
settled_join pass_of w posters p (s ∷ ss) h = ((none_at (eqb p s.poster) (pass_of s.poster) h.0.0, h.0.1, h.0.2), settled_join pass_of w posters p ss h.1)

-- what a poster sent stays known when its pass is joined into the mirror's
known_join : (views : List View) (pass : ℕ) (v : View) (other : ℕ) (u : View) (q : ℕ) (sent : List Mail) → v.is_mirror ≡ true → (u.is_mirror ≡ true → ⊥) →
    get_elem? views pass ≡ some v → get_elem? (set views pass (view_after_join v u)) other ≡ some u → (u.poster ≡ q → u.sent ≡ sent) → IsKnown views q sent →
    IsKnown (set (set views pass (view_after_join v u)) other spent_view) q sent
known_join views pass v other u q sent role no_mirror at at_other says known =
    let both : View = view_after_join v u in
    let vs : List View = set views pass both in
    ⊎_elim
    (λ (e : u.poster ≡ q). inr (inl (any_kept (HasSettled q sent) vs other u spent_view at_other (λ x. absurd (no_mirror x.0))
    (any-set (HasSettled q sent) views pass both (place_below views pass v at) (role, (0, omega arith, λ i. record { poster = e i; sent = says e i }))))))
    (λ (e : u.poster ≢ q). known_kept vs other u spent_view q sent at_other (λ x. absurd (e x.1)) (λ x. absurd (no_mirror x.0))
    (known_kept views pass v both q sent at (λ x. x) (λ x. (x.0, contains_more v.settled (record { poster = q; sent = sent }) (settled_by u) x.1)) known))
    (cases_eq u.poster q)

-- a poster's pass is joined into the mirror's
pub joins : (pass : ℕ) (v : View) (other : ℕ) (u : View) → v.is_told ≡ true → v.is_mirror ≡ true → u.is_poster ≡ true →
    Merges IsInOrder pass v other u (view_after_join v u) spent_view
joins pass v other u told role posting items views h at two at_other =
    let mirror = h.mirror in let pass_of = h.pass_of in let w = h.world in
    let all = agreed w h.bound views pass v h.bound_is at told in
    let mine = (h.views_are pass v at).1 role in
    let both : View = view_after_join v u in
    let vs : List View = set views pass both in
    let was : get_elem? views other ≡ some u = ⊎_elim (λ x. absurd (two x.0)) (λ x. x.1) (at_set views pass other both u at_other) in
    let theirs = (h.views_are other u was).0 posting in
    let given : ℕ → Option ℕ = λ q. cond (eqb u.poster q) none (pass_of q) in
    let below : u.poster < v.posters = ⊎_elim (λ l. l) (λ (above : v.posters ≤ u.poster). absurd (some-ne-none other (sym theirs.0 ∙ (mine.2 u.poster above).0))) (cases_lt u.poster v.posters) in
    let sent : (j : ℕ) (x : View) → j ≢ other → SaysSent pass_of w j x → SaysSent given w j x = λ j x apart f t.
    (given_else pass_of u.poster x.poster none (λ (e : u.poster ≡ x.poster). apart (some-injective j other (sym (f t).0 ∙ (ap pass_of (sym e) ∙ theirs.0)))) ∙ (f t).0, (f t).1) in
    let Now : ℕ → View → Type 0 = λ j x. j ≢ other → Says mirror given w j x in
    let now : EachView Now vs = each_set Now views pass both
    (λ apart. (sent pass both apart (h.views_are pass v at).0, λ _. (mine.0, mine.1, (λ q above. (none_at (eqb u.poster q) (pass_of q) (mine.2 q above).0, (mine.2 q above).1)), ((given_here pass_of u.poster none, below, theirs.1), settled_join pass_of w v.posters u.poster v.settled mine.3))))
    (λ j x away there apart. (sent j x apart (h.views_are j x there).0, λ t. absurd (away (((h.views_are j x there).1 t).0 ∙ sym mine.0)))) in
    record {
      mirror = mirror;
      pass_of = given;
      world = w;
      bound = h.bound;
      is_reached = h.is_reached;
      queue_is = h.queue_is;
      views_are = each_set (Says mirror given w) vs other spent_view
          ((λ t. absurd (true≢false (sym t))), λ t. absurd (true≢false (sym t)))
          (λ j x apart there. now j x there apart);
      mirror_is = any_kept (λ (y : View). y.is_mirror ≡ true) vs other u spent_view at_other (λ t. absurd (two (((h.views_are other u was).1 t).0 ∙ sym mine.0))) (any_kept (λ (y : View). y.is_mirror ≡ true) views pass v both at (λ x. x) h.mirror_is);
      sent_is = λ q. known_join views pass v other u q (w.sent q) role (λ t. two (((h.views_are other u was).1 t).0 ∙ sym mine.0)) at at_other (λ e. theirs.1 ∙ ap w.sent e) (h.sent_is q);
      bound_is = inr (bound_set vs other h.bound spent_view ((λ t. absurd (true≢false (sym t))), λ t. absurd (true≢false (sym t))) (bound_set views pass h.bound both (all pass v at) all));
    }

first_shares : (bound : ℕ) (pass_of : ℕ → Option ℕ) (w : World) (posters : ℕ) (ss : List Settled) (taken : List Mail) → IsReached bound w → taken ≡ w.taken →
    AreSettled pass_of w posters ss → FirstShares bound taken ss
first_shares bound pass_of w posters [] taken r is h = tt
first_shares bound pass_of w posters (s ∷ ss) taken r is h = record {
  world = w;
  is_reached = r;
  sent_is = sym h.0.2;
  taken_is = ap (mails_of s.poster) (sym is);
}

-- the mirror's pass shows the world of the poster that was settled last
pub shows : (pass : ℕ) (v : View) → v.is_told ≡ true → v.is_mirror ≡ true → Learns IsInOrder pass v (λ _. IsLastSettled v)
shows pass v told role items views h at =
    let mine = (h.views_are pass v at).1 role in
    let all = agreed h.world h.bound views pass v h.bound_is at told in
    let reached : IsReached v.bound h.world = subst (λ b. IsReached b h.world) (sym ((all pass v at).0 told)) h.is_reached in
    first_shares v.bound h.pass_of h.world v.posters v.settled v.taken reached mine.1 mine.3

first_only : (j : ℕ) (v : View) → get_elem? (first_view ∷ []) j ≡ some v → (j ≡ 0) × (first_view ≡ v)
first_only zero v e = (refl, some-injective first_view v e)
first_only (suc j) v e = absurd (some-ne-none v (sym e))

-- the rule holds of the first pass
pub begins : IsInOrder [] (first_view ∷ [])
begins = record {
  mirror = 0;
  pass_of = λ _. none;
  world = empty_world;
  bound = 0;
  is_reached = record { events = []; allowed = tt; is_after = refl };
  queue_is = refl;
  views_are = λ j v at. let x = first_only j v at in subst (λ (y : ℕ × View). Says 0 (λ _. none) empty_world y.0 y.1) (λ i. (sym x.0 i, x.1 i)) ((λ t. absurd (true≢false (sym t))), λ _. (refl, refl, (λ _ _. (refl, refl)), tt));
  mirror_is = (0, first_view, omega arith, refl, refl);
  sent_is = λ _. inr (inr refl);
  bound_is = inl (refl, λ j v at. ap (λ (y : View). y.is_told) (sym (first_only j v at).1));
}
