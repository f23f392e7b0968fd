-- What the posters sent to the mirrors that are not settled yet.
use Rattle.std.proofs.Common.{◌≡◌, ℕ, ◌<◌, List, ◌∷◌, map, length, refl, sym, ap, ◌∙◌, subst}
use Rattle.std.proofs.lemmas.List.{length-map}
use Rattle.std.specs.List.{AllByRecursion}
use Rattle.dm_mail.specs.declared.ends.Sent.{Sent}
use Rattle.dm_mail.specs.Ends.{MailId, inlet_id}
use Rattle.dm_mirror.specs.declared.jobs.Kept.{Kept}
use Rattle.dm_mirror.specs.declared.jobs.PostJob.{PostJob}
use Rattle.dm_mirror.specs.declared.jobs.TakeJob.{TakeJob}
use Rattle.dm_mirror.specs.TheMirror.{Mirror}
use Rattle.dm_mirror.specs.declared.plan.Plan.{Plan}
use Rattle.dm_mirror.specs.Jobs.{IsSentIn, AreSent, AreRowsSent, IsJobOf, IsOpened, IsKept, IsSettled, DoesPost, DoesTake}
use Rattle.dm_mirror.specs.Mirrors.{IsReady}
use Rattle.dm_mirror.specs.Plans.{plan_texts, plan_bound}
use Rattle.dm_mirror.specs.Lists.{EachWith, EachFrom, AreHeads}
use Rattle.dm_mirror.proofs.ListLemmas.{each_from_length, one_by_one}
use Rattle.dm_mirror.proofs.RunLemmas.{IsDoneFrom, ends_filled, sent_column, job_ids, same_ids, posters_ended, kept_all, done_all}

abbrev pub kept_ids : List Kept → List MailId
kept_ids kept = map (λ one. inlet_id one.inlet) kept

-- there is a row for each poster
pub rows_of_ends : {R : Type 0} (f : R → List Sent) (ids : List MailId) (texts : List (List (List ℕ))) (rows : List R) → AreRowsSent ids texts (map f rows) → length rows ≡ length texts
rows_of_ends f ids texts rows each = sym (length-map rows f) ∙ each_from_length (λ p ts row. EachWith (λ id end. IsSentIn id p ts end) ids row) 0 texts (map f rows) each

at_next : (left new : List Kept) (one : Kept) (texts : List (List (List ℕ))) (rows : List (List Sent)) → left ≡ one ∷ new → AreRowsSent (kept_ids left) texts rows → AreRowsSent (inlet_id one.inlet ∷ kept_ids new) texts rows
at_next left new one texts rows e each = subst (λ l. AreRowsSent (kept_ids l) texts rows) e each

pub next_filled : {R : Type 0} (f : R → List Sent) (left new : List Kept) (one : Kept) (texts : List (List (List ℕ))) (rows : List R) → left ≡ one ∷ new → AreRowsSent (kept_ids left) texts (map f rows) →
    AllByRecursion (λ row. 0 < length (f row)) rows
next_filled f left new one texts rows e each = ends_filled f 0 (inlet_id one.inlet) (kept_ids new) texts rows (at_next left new one texts (map f rows) e each)

pub next_ends : {R : Type 0} (f : R → List Sent) (left new : List Kept) (one : Kept) (texts : List (List (List ℕ))) (rows : List R) (heads : List Sent) (rests : List R) → left ≡ one ∷ new →
    AreRowsSent (kept_ids left) texts (map f rows) → AreHeads (map f rows) heads (map f rests) → AreSent (inlet_id one.inlet) texts heads × AreRowsSent (kept_ids new) texts (map f rests)
next_ends f left new one texts rows heads rests e each are =
    sent_column 0 (inlet_id one.inlet) (kept_ids new) texts (map f rows) heads (map f rests) (at_next left new one texts (map f rows) e each) are

-- what the threads of a run come to, of the plan that a snapshot keeps
pub run_rows : {R : Type 0} (f : R → List Sent) (plan value : Plan) (jobs takers : List TakeJob) (posts : List PostJob) (rows : List R) (kept : List Kept) → value ≡ plan → takers ≡ jobs →
    EachFrom (IsJobOf jobs) 0 plan.posters.items posts → EachWith (λ job row. DoesPost job (f row)) posts rows → EachWith DoesTake takers kept → AreRowsSent (kept_ids kept) (plan_texts value) (map f rows)
run_rows f plan value jobs takers posts rows kept e g are each done =
    let ids = same_ids takers kept done ∙ ap job_ids g in
    let whole = posters_ended f 0 jobs plan.posters.items posts rows are each in
    subst (λ v. AreRowsSent (kept_ids kept) (plan_texts v) (map f rows)) (sym e) (subst (λ i. AreRowsSent i (plan_texts plan) (map f rows)) (sym ids) whole)

pub run_kept : (plan value : Plan) (n : ℕ) (jobs takers : List TakeJob) (kept : List Kept) → value ≡ plan → takers ≡ jobs → n ≡ length plan.posters.items →
    EachWith (IsOpened n plan.expected plan.bound) plan.mirrors.items jobs → EachWith DoesTake takers kept → AllByRecursion (IsKept (plan_texts value) (plan_bound value)) kept
run_kept plan value n jobs takers kept e g many opened done =
    let texts = plan_texts plan in
    let count : n ≡ length texts = many ∙ sym (length-map plan.posters.items (λ poster. poster.texts.value.items)) in
    let ready = subst (λ k. AllByRecursion (IsReady k plan.expected) plan.mirrors.items) (sym many) (one_by_one (IsReady (length plan.posters.items) plan.expected) plan.mirrors.items plan.ready) in
    subst (λ v. AllByRecursion (IsKept (plan_texts v) (plan_bound v)) kept) (sym e)
    (kept_all n plan.expected plan.bound texts plan.mirrors.items jobs kept count plan.all_expected ready opened (subst (λ l. EachWith DoesTake l kept) g done))

pub run_done : (plan value : Plan) (n : ℕ) (jobs takers : List TakeJob) (kept : List Kept) (out : List Mirror) → value ≡ plan → takers ≡ jobs → n ≡ length plan.posters.items →
    EachWith (IsOpened n plan.expected plan.bound) plan.mirrors.items jobs → EachWith DoesTake takers kept → EachWith (IsSettled (plan_texts value)) kept out → EachWith (IsDoneFrom (plan_texts plan)) jobs out
run_done plan value n jobs takers kept out e g many opened done settled =
    done_all n plan.expected plan.bound (plan_texts plan) plan.mirrors.items jobs kept out opened (subst (λ l. EachWith DoesTake l kept) g done) (run_kept plan plan n jobs takers kept refl g many opened done)
    (subst (λ v. EachWith (IsSettled (plan_texts v)) kept out) e settled)
