-- The jobs of a run's threads, and what they come to.
use Rattle.std.proofs.Common.{◌≡◌, ℕ, zero, suc, ◌<◌, List, [], ◌∷◌, Some, slice_get, map, length, refl, sym, ap, ◌∙◌, subst, arith}
use Rattle.std.specs.List.{AllByRecursion}
use Rattle.std.specs.Prelude.{vec_capacity}
use Rattle.dm_named.specs.Patches.{Patch}
use Rattle.dm_repo.specs.declared.policy.Policy.{Policy}
use Rattle.dm_mail.specs.declared.ends.Outlet.{Outlet}
use Rattle.dm_mail.specs.declared.ends.Sent.{Sent}
use Rattle.dm_mail.specs.declared.ends.Inlet.{Inlet}
use Rattle.dm_mail.specs.Mails.{is_closed, AllBelow}
use Rattle.dm_mail.specs.Ends.{MailId, outlet_of, outlet_id, outlet_poster, outlet_mails, inlet_id, inlet_bound, all_taken, AreNewOutlets}
use Rattle.dm_mirror.specs.declared.jobs.NewLine.{NewLine}
use Rattle.dm_mirror.specs.declared.jobs.PostJob.{PostJob}
use Rattle.dm_mirror.specs.declared.jobs.TakeJob.{TakeJob}
use Rattle.dm_mirror.specs.declared.jobs.Kept.{Kept}
use Rattle.dm_mirror.specs.declared.poster.Poster.{Poster}
use Rattle.dm_mirror.specs.TheMirror.{Mirror}
use Rattle.dm_mirror.specs.declared.outcome.Outcome.{Outcome}
use Rattle.dm_mirror.specs.Deliveries.{all_mails, mails_in}
use Rattle.dm_mirror.specs.Jobs.{IsLine, EndsNew, IsLineTo, IsJobOf, IsOpened, IsSentIn, AreRowsFrom, IsKept, IsSettled, DoesPost, DoesTake}
use Rattle.dm_mirror.specs.Lists.{EachWith, EachFrom, AreHeads}
use Rattle.dm_mirror.specs.Mirrors.{IsReady, IsComplete, AreComplete}
use Rattle.dm_mirror.specs.PlainFolds.{IsPlainFold}
use Rattle.dm_mirror.specs.Runs.{IsAt, IsFedWithin, IsServed, IsRunOf}
use Rattle.dm_mirror.proofs.ListLemmas.{each_join, each_unmap, each_length, one_less}
use Rattle.dm_mirror.proofs.DeliveryLemmas.{some_inj, answered_length, closed_numbered, receipt_for}

-- an outlet that was opened for the poster with this number, to the mirror of this job
abbrev pub IsNewTo : ℕ → TakeJob → Outlet → Type 0
IsNewTo n job o = (outlet_poster o ≡ n) × (outlet_id o ≡ outlet_of (inlet_id job.inlet) n) × (outlet_mails o ≡ [])

-- the outlets of so many posters, from the number n on
abbrev pub IsNewRow : ℕ → ℕ → TakeJob → List Outlet → Type 0
IsNewRow k n job row = (length row ≡ k) × AreNewOutlets job.inlet n row

-- none of the rows is empty
rows_filled : (k n : ℕ) (jobs : List TakeJob) (rows : List (List Outlet)) → 0 < k → EachWith (IsNewRow k n) jobs rows → AllByRecursion (λ row. 0 < length row) rows
rows_filled k n [] [] l each = tt
rows_filled k n [] (row ∷ rows) l each = absurd each
rows_filled k n (j ∷ jobs) [] l each = absurd each
rows_filled k n (j ∷ jobs) (row ∷ rows) l each = (omega (arith, each.0.0), rows_filled k n jobs rows l each.1)

all_of_map : {A B : Type 0} (P : B → Type 0) (f : A → B) (xs : List A) → AllByRecursion P (map f xs) → AllByRecursion (λ x. P (f x)) xs
all_of_map P f [] all = tt
all_of_map P f (x ∷ xs) all = (all.0, all_of_map P f xs all.1)

pub outlets_filled : {R : Type 0} (f : R → List Outlet) (k n : ℕ) (jobs : List TakeJob) (rows : List R) → 0 < k → EachWith (IsNewRow k n) jobs (map f rows) → AllByRecursion (λ row. 0 < length (f row)) rows
outlets_filled f k n jobs rows l each = all_of_map (λ row. 0 < length row) f rows (rows_filled k n jobs (map f rows) l each)

-- the first of each row is the outlet of the next poster
head_outlet : (k n : ℕ) (job : TakeJob) (row rest : List Outlet) (o : Outlet) → row ≡ o ∷ rest → IsNewRow (suc k) n job row → IsNewTo n job o × IsNewRow k (suc n) job rest
head_outlet k n job row rest o e new =
    let all : IsNewRow (suc k) n job (o ∷ rest) = subst (IsNewRow (suc k) n job) e new in
    let many : length rest ≡ k = omega (arith, all.0) in
    (all.1.0, (many, all.1.1))

pub outlet_column : (k n : ℕ) (jobs : List TakeJob) (rows : List (List Outlet)) (heads : List Outlet) (rests : List (List Outlet)) → EachWith (IsNewRow (suc k) n) jobs rows → AreHeads rows heads rests →
    EachWith (IsNewTo n) jobs heads × EachWith (IsNewRow k (suc n)) jobs rests
outlet_column k n [] [] [] [] each are = (tt, tt)
outlet_column k n [] [] [] (rest ∷ rests) each are = absurd are
outlet_column k n [] [] (o ∷ heads) rests each are = absurd are
outlet_column k n [] (row ∷ rows) heads rests each are = absurd each
outlet_column k n (j ∷ jobs) [] heads rests each are = absurd each
outlet_column k n (j ∷ jobs) (row ∷ rows) [] rests each are = absurd are
outlet_column k n (j ∷ jobs) (row ∷ rows) (o ∷ heads) [] each are = absurd are
outlet_column k n (j ∷ jobs) (row ∷ rows) (o ∷ heads) (rest ∷ rests) each are =
    let one = head_outlet k n j row rest o are.0 each.0 in
    let others = outlet_column k n jobs rows heads rests each.1 are.1 in
    ((one.0, others.0), (one.1, others.1))

-- the outlets of the next poster, while so many posters are left
pub next_outlets : {R : Type 0} (f : R → List Outlet) (left new : List Poster) (poster : Poster) (n : ℕ) (jobs : List TakeJob) (rows : List R) (heads : List Outlet) (rests : List R) → left ≡ poster ∷ new →
    EachWith (IsNewRow (length left) n) jobs (map f rows) → AreHeads (map f rows) heads (map f rests) → EachWith (IsNewTo n) jobs heads × EachWith (IsNewRow (length new) (suc n)) jobs (map f rests)
next_outlets f left new poster n jobs rows heads rests e each are =
    outlet_column (length new) n jobs (map f rows) heads (map f rests) (subst (λ k. EachWith (IsNewRow k n) jobs (map f rows)) (one_less left new poster e) each) are

pub all_unsent : (n : ℕ) (jobs : List TakeJob) (heads : List Outlet) → EachWith (IsNewTo n) jobs heads → AllByRecursion (λ o. outlet_mails o ≡ []) heads
all_unsent n [] [] each = tt
all_unsent n [] (o ∷ heads) each = absurd each
all_unsent n (j ∷ jobs) [] each = absurd each
all_unsent n (j ∷ jobs) (o ∷ heads) each = (each.0.2, all_unsent n jobs heads each.1)

line_to : (n : ℕ) (poster : Poster) (job : TakeJob) (o : Outlet) (line : NewLine) → IsNewTo n job o → IsLine poster.texts.value.items o line → IsLineTo n poster job line
line_to n poster job o line new is = (ap outlet_id is.0 ∙ new.1, ap outlet_poster is.0 ∙ new.0, is.1)

-- the job of the next poster
pub job_made : (n : ℕ) (poster : Poster) (jobs : List TakeJob) (heads : List Outlet) (job : PostJob) → EachWith (IsNewTo n) jobs heads → EachWith (IsLine poster.texts.value.items) heads job.lines.items →
    IsJobOf jobs n poster job
job_made n poster jobs heads job new is = each_join (IsNewTo n) (IsLine poster.texts.value.items) (IsLineTo n poster) jobs heads job.lines.items (line_to n poster) new is

-- the mails of the jobs' mirrors
abbrev pub job_ids : List TakeJob → List MailId
job_ids jobs = map (λ job. inlet_id job.inlet) jobs

sent_in : (n : ℕ) (poster : Poster) (job : TakeJob) (line : NewLine) (end : Sent) → IsLineTo n poster job line → EndsNew line end → IsSentIn (inlet_id job.inlet) n poster.texts.value.items end
sent_in n poster job line end to ends = (ends.0.0 ∙ to.0, ends.0.1 ∙ to.1, ends.1 ∙ (ap (λ p. all_mails p line.left.items) to.1 ∙ ap (all_mails n) to.2))

-- all lines of a poster ended
poster_ended : (n : ℕ) (poster : Poster) (jobs : List TakeJob) (job : PostJob) (ends : List Sent) → IsJobOf jobs n poster job → DoesPost job ends →
    EachWith (λ id end. IsSentIn id n poster.texts.value.items end) (job_ids jobs) ends
poster_ended n poster jobs job ends is done =
    each_unmap (λ id end. IsSentIn id n poster.texts.value.items end) (λ job. inlet_id job.inlet) jobs ends
    (each_join (IsLineTo n poster) EndsNew (λ job end. IsSentIn (inlet_id job.inlet) n poster.texts.value.items end) jobs job.lines.items ends (sent_in n poster) is done)

pub posters_ended : {R : Type 0} (f : R → List Sent) (n : ℕ) (jobs : List TakeJob) (posters : List Poster) (posts : List PostJob) (rows : List R) → EachFrom (IsJobOf jobs) n posters posts →
    EachWith (λ job row. DoesPost job (f row)) posts rows → AreRowsFrom n (job_ids jobs) (map (λ poster. poster.texts.value.items) posters) (map f rows)
posters_ended f n jobs [] [] [] are each = tt
posters_ended f n jobs [] [] (row ∷ rows) are each = absurd each
posters_ended f n jobs [] (post ∷ posts) rows are each = absurd are
posters_ended f n jobs (poster ∷ posters) [] rows are each = absurd are
posters_ended f n jobs (poster ∷ posters) (post ∷ posts) [] are each = absurd each
posters_ended f n jobs (poster ∷ posters) (post ∷ posts) (row ∷ rows) are each =
    (poster_ended n poster jobs post (f row) are.0 each.0, posters_ended f (suc n) jobs posters posts rows are.1 each.1)

-- the first of each row is what the posters sent in the first mirror's mail
sent_head : (id : MailId) (ids : List MailId) (p : ℕ) (ts : List (List ℕ)) (row rest : List Sent) (end : Sent) → row ≡ end ∷ rest → EachWith (λ id end. IsSentIn id p ts end) (id ∷ ids) row →
    IsSentIn id p ts end × EachWith (λ id end. IsSentIn id p ts end) ids rest
sent_head id ids p ts row rest end e each = subst (EachWith (λ id end. IsSentIn id p ts end) (id ∷ ids)) e each

pub sent_column : (n : ℕ) (id : MailId) (ids : List MailId) (texts : List (List (List ℕ))) (rows : List (List Sent)) (heads : List Sent) (rests : List (List Sent)) → AreRowsFrom n (id ∷ ids) texts rows →
    AreHeads rows heads rests → EachFrom (IsSentIn id) n texts heads × AreRowsFrom n ids texts rests
sent_column n id ids [] [] [] [] each are = (tt, tt)
sent_column n id ids [] [] [] (rest ∷ rests) each are = absurd are
sent_column n id ids [] [] (h ∷ heads) rests each are = absurd are
sent_column n id ids [] (row ∷ rows) heads rests each are = absurd each
sent_column n id ids (ts ∷ texts) [] heads rests each are = absurd each
sent_column n id ids (ts ∷ texts) (row ∷ rows) [] rests each are = absurd are
sent_column n id ids (ts ∷ texts) (row ∷ rows) (h ∷ heads) [] each are = absurd are
sent_column n id ids (ts ∷ texts) (row ∷ rows) (h ∷ heads) (rest ∷ rests) each are =
    let one = sent_head id ids n ts row rest h are.0 each.0 in
    let others = sent_column (suc n) id ids texts rows heads rests each.1 are.1 in
    ((one.0, others.0), (one.1, others.1))

row_filled : (id : MailId) (ids : List MailId) (p : ℕ) (ts : List (List ℕ)) (row : List Sent) → EachWith (λ id end. IsSentIn id p ts end) (id ∷ ids) row → 0 < length row
row_filled id ids p ts [] each = absurd each
row_filled id ids p ts (end ∷ row) each = omega arith

ends_filled_at : (n : ℕ) (id : MailId) (ids : List MailId) (texts : List (List (List ℕ))) (rows : List (List Sent)) → AreRowsFrom n (id ∷ ids) texts rows → AllByRecursion (λ row. 0 < length row) rows
ends_filled_at n id ids [] [] each = tt
ends_filled_at n id ids [] (row ∷ rows) each = absurd each
ends_filled_at n id ids (ts ∷ texts) [] each = absurd each
ends_filled_at n id ids (ts ∷ texts) (row ∷ rows) each = (row_filled id ids n ts row each.0, ends_filled_at (suc n) id ids texts rows each.1)

pub ends_filled : {R : Type 0} (f : R → List Sent) (n : ℕ) (id : MailId) (ids : List MailId) (texts : List (List (List ℕ))) (rows : List R) → AreRowsFrom n (id ∷ ids) texts (map f rows) →
    AllByRecursion (λ row. 0 < length (f row)) rows
ends_filled f n id ids texts rows each = all_of_map (λ row. 0 < length row) f rows (ends_filled_at n id ids texts (map f rows) each)

-- the mails of the mirrors are those of their jobs
pub same_ids : (jobs : List TakeJob) (kept : List Kept) → EachWith DoesTake jobs kept → map (λ one. inlet_id one.inlet) kept ≡ job_ids jobs
same_ids [] [] each = refl
same_ids [] (k ∷ kept) each = absurd each
same_ids (j ∷ jobs) [] each = absurd each
same_ids (j ∷ jobs) (k ∷ kept) each = let one = each.0.same.0 in let others = same_ids jobs kept each.1 in λ i. one i ∷ others i

kept_one : (posters expected bound : ℕ) (texts : List (List (List ℕ))) (mirror : Mirror) (job : TakeJob) (one : Kept) → posters ≡ length texts → expected ≡ mails_in texts → IsReady posters expected mirror →
    IsOpened posters expected bound mirror job → DoesTake job one → IsKept texts bound one
kept_one posters expected bound texts mirror job one e f ready opened done =
    let same : one.mirror.receipts ≡ mirror.receipts = done.receipts ∙ ap (λ m. m.receipts) opened.0 in
    record {
      bound_is = done.same.2 ∙ opened.3;
      taken = done.taken;
      count = done.count ∙ (opened.1 ∙ f);
      below = subst (λ n. AllBelow n one.mirror.mails.items) (opened.2 ∙ e) done.below;
      no_receipts = ap (λ r. r.items) same ∙ ready.no_receipts;
      room_for_receipts = omega (arith, e, ready.room_for_receipts, ap (λ r. vec_capacity r) same);
    }

-- each mirror took as many mails as all posters send
pub kept_all : (posters expected bound : ℕ) (texts : List (List (List ℕ))) (mirrors : List Mirror) (jobs : List TakeJob) (kept : List Kept) → posters ≡ length texts → expected ≡ mails_in texts →
    AllByRecursion (IsReady posters expected) mirrors → EachWith (IsOpened posters expected bound) mirrors jobs → EachWith DoesTake jobs kept → AllByRecursion (IsKept texts bound) kept
kept_all posters expected bound texts [] [] [] e f ready opened done = tt
kept_all posters expected bound texts [] [] (k ∷ kept) e f ready opened done = absurd done
kept_all posters expected bound texts [] (j ∷ jobs) kept e f ready opened done = absurd opened
kept_all posters expected bound texts (m ∷ mirrors) [] kept e f ready opened done = absurd opened
kept_all posters expected bound texts (m ∷ mirrors) (j ∷ jobs) [] e f ready opened done = absurd done
kept_all posters expected bound texts (m ∷ mirrors) (j ∷ jobs) (k ∷ kept) e f ready opened done =
    (kept_one posters expected bound texts m j k e f ready.0 opened.0 done.0, kept_all posters expected bound texts mirrors jobs kept e f ready.1 opened.1 done.1)

receipt_at : (texts : List (List (List ℕ))) (p : ℕ) (sent : List (List ℕ)) → slice_get texts p ≡ Some sent → slice_get (map receipt_for texts) p ≡ Some (receipt_for sent)
receipt_at [] p sent e = absurd (cc e)
receipt_at (t ∷ texts) zero sent e = ap (λ ts. Some (receipt_for ts)) (some_inj t sent e)
receipt_at (t ∷ texts) (suc p) sent e = receipt_at texts p sent e

length_map : {A B : Type 0} (f : A → B) (xs : List A) → length (map f xs) ≡ length xs
length_map f [] = refl
length_map f (x ∷ xs) = ap suc (length_map f xs)

-- a mirror that is served, and complete
abbrev pub IsDone : List (List (List ℕ)) → List Patch → Policy → Mirror → Type 0
IsDone texts start policy mirror = IsServed texts start policy mirror × IsComplete (length texts) mirror

-- so it is of what the mirror of this job became
abbrev pub IsDoneFrom : List (List (List ℕ)) → TakeJob → Mirror → Type 0
IsDoneFrom texts job mirror = IsDone texts job.mirror.repo.patches job.policy mirror

done_one : (texts : List (List (List ℕ))) (bound : ℕ) (start : List Patch) (policy : Policy) (one : Kept) (mirror : Mirror) → IsKept texts bound one → IsSettled texts one mirror →
    IsPlainFold start one.mirror.mails.items policy one.mirror.verdicts.items one.mirror.repo.patches → IsDone texts start policy mirror
done_one texts bound start policy one mirror kept settled fold =
    let folded : IsPlainFold start mirror.mails.items policy mirror.verdicts.items mirror.repo.patches = rw (settled.mails, settled.verdicts, settled.repo) fold in (
      record {
        delivered = settled.delivered;
        closed = λ p sent at. ap is_closed (settled.delivered p sent at) ∙ closed_numbered p 0 sent;
        known = rw settled.mails kept.below;
        accepted = λ p sent at. ap (λ l. slice_get l p) settled.receipts ∙ receipt_at texts p sent at;
        folded = folded;
      },
      record {
        verdicts = answered_length mirror.mails.items mirror.verdicts.items folded.answered;
        receipts = ap length settled.receipts ∙ length_map receipt_for texts;
      },
    )

pub done_all : (posters expected bound : ℕ) (texts : List (List (List ℕ))) (mirrors : List Mirror) (jobs : List TakeJob) (kept : List Kept) (out : List Mirror) →
    EachWith (IsOpened posters expected bound) mirrors jobs → EachWith DoesTake jobs kept → AllByRecursion (IsKept texts bound) kept → EachWith (IsSettled texts) kept out →
    EachWith (IsDoneFrom texts) jobs out
done_all posters expected bound texts [] [] [] [] opened done each settled = tt
done_all posters expected bound texts [] [] [] (o ∷ out) opened done each settled = absurd settled
done_all posters expected bound texts [] [] (k ∷ kept) out opened done each settled = absurd done
done_all posters expected bound texts [] (j ∷ jobs) kept out opened done each settled = absurd opened
done_all posters expected bound texts (m ∷ mirrors) [] kept out opened done each settled = absurd opened
done_all posters expected bound texts (m ∷ mirrors) (j ∷ jobs) [] out opened done each settled = absurd done
done_all posters expected bound texts (m ∷ mirrors) (j ∷ jobs) (k ∷ kept) [] opened done each settled = absurd settled
done_all posters expected bound texts (m ∷ mirrors) (j ∷ jobs) (k ∷ kept) (o ∷ out) opened done each settled =
    (done_one texts bound j.mirror.repo.patches j.policy k o each.0 settled.0 done.0.fold, done_all posters expected bound texts mirrors jobs kept out opened.1 done.1 each.1 settled.1)

-- what the fellows of a list have to do with two lists that were made of it
each_get : {A B C D : Type 0} (P : C → D → B → Type 0) (f : A → C) (g : A → D) (xs : List A) (ys : List B) (k : ℕ) (c : C) (d : D) (y : B) → EachWith (λ x y. P (f x) (g x) y) xs ys →
    slice_get (map f xs) k ≡ Some c → slice_get (map g xs) k ≡ Some d → slice_get ys k ≡ Some y → P c d y
each_get P f g [] [] k c d y each e h i = absurd (cc e)
each_get P f g [] (w ∷ ys) k c d y each e h i = absurd each
each_get P f g (v ∷ xs) [] k c d y each e h i = absurd each
each_get P f g (v ∷ xs) (w ∷ ys) zero c d y each e h i = rw (← some_inj (f v) c e, ← some_inj (g v) d h, ← some_inj w y i) each.0
each_get P f g (v ∷ xs) (w ∷ ys) (suc k) c d y each e h i = each_get P f g xs ys k c d y each.1 e h i

each_second : {A B : Type 0} (P : A → B → Type 0) (Q : B → Type 0) (xs : List A) (ys : List B) → ((x : A) (y : B) → P x y → Q y) → EachWith P xs ys → (k : ℕ) (y : B) → slice_get ys k ≡ Some y → Q y
each_second P Q [] [] tell each k y e = absurd (cc e)
each_second P Q [] (w ∷ ys) tell each k y e = absurd each
each_second P Q (v ∷ xs) [] tell each k y e = absurd each
each_second P Q (v ∷ xs) (w ∷ ys) tell each zero y e = subst Q (some_inj w y e) (tell v w each.0)
each_second P Q (v ∷ xs) (w ∷ ys) tell each (suc k) y e = each_second P Q xs ys tell each.1 k y e

pub all_complete : (posters : ℕ) (texts : List (List (List ℕ))) (jobs : List TakeJob) (out : List Mirror) → posters ≡ length texts → EachWith (IsDoneFrom texts) jobs out → AreComplete posters out
all_complete posters texts jobs out e each = λ m mirror at.
    subst (λ n. IsComplete n mirror) (sym e) (each_second (IsDoneFrom texts) (IsComplete (length texts)) jobs out (λ job o done. done.1) each m mirror at)

-- the repositories that the jobs begin with are those of the plan's mirrors
same_starts : (posters expected bound : ℕ) (mirrors : List Mirror) (jobs : List TakeJob) → EachWith (IsOpened posters expected bound) mirrors jobs →
    map (λ job. job.mirror.repo.patches) jobs ≡ map (λ mirror. mirror.repo.patches) mirrors
same_starts posters expected bound [] [] opened = refl
same_starts posters expected bound [] (j ∷ jobs) opened = absurd opened
same_starts posters expected bound (m ∷ mirrors) [] opened = absurd opened
same_starts posters expected bound (m ∷ mirrors) (j ∷ jobs) opened =
    let one = ap (λ (x : Mirror). x.repo.patches) opened.0.0 in
    let others = same_starts posters expected bound mirrors jobs opened.1 in
    λ i. one i ∷ others i

-- where a mirror took out of an inlet within the bound, and was settled
abbrev IsFedFrom : List Kept → ℕ → ℕ → Mirror → Type 0
IsFedFrom kept bound m mirror = (inlet : Inlet) × (slice_get (map (λ one. one.inlet) kept) m ≡ Some inlet) × (inlet_bound inlet ≡ bound) × (all_taken inlet ≡ mirror.mails.items)

fed_at : (texts : List (List (List ℕ))) (bound : ℕ) (kept : List Kept) (out : List Mirror) → AllByRecursion (IsKept texts bound) kept → EachWith (IsSettled texts) kept out →
    (m : ℕ) (mirror : Mirror) → slice_get out m ≡ Some mirror → IsFedFrom kept bound m mirror
fed_at texts bound [] [] all settled m mirror e = absurd (cc e)
fed_at texts bound [] (o ∷ out) all settled m mirror e = absurd settled
fed_at texts bound (k ∷ kept) [] all settled m mirror e = absurd settled
fed_at texts bound (k ∷ kept) (o ∷ out) all settled zero mirror e =
    (k.inlet, refl, all.0.bound_is, all.0.taken ∙ (ap (λ ms. ms.items) (sym settled.0.mails) ∙ ap (λ (x : Mirror). x.mails.items) (some_inj o mirror e)))
fed_at texts bound (k ∷ kept) (o ∷ out) all settled (suc m) mirror e = fed_at texts bound kept out all.1 settled.1 m mirror e

-- each mirror took within the bound of the plan
pub fed_within : (texts : List (List (List ℕ))) (bound : ℕ) (kept : List Kept) (o : Outcome) → o.kept.value.items ≡ kept → AllByRecursion (IsKept texts bound) kept → EachWith (IsSettled texts) kept o.mirrors.items →
    (m : ℕ) (mirror : Mirror) → IsAt o m mirror → IsFedWithin bound o m mirror
fed_within texts bound kept o same all settled m mirror at =
    let fed = fed_at texts bound kept o.mirrors.items all settled m mirror at in
    record { inlet = fed.0; is_inlet = ap (λ ks. slice_get (map (λ one. one.inlet) ks) m) same ∙ fed.1; bound_is = fed.2; taken = fed.3 }

run_of_jobs : (texts : List (List (List ℕ))) (bound : ℕ) (jobs : List TakeJob) (o : Outcome) → o.posters ≡ length texts → EachWith (IsDoneFrom texts) jobs o.mirrors.items →
    ((m : ℕ) (mirror : Mirror) → IsAt o m mirror → IsFedWithin bound o m mirror) →
    IsRunOf texts (map (λ job. job.mirror.repo.patches) jobs) (map (λ job. job.policy) jobs) bound o
run_of_jobs texts bound jobs o e each fed = record {
  posters = e;
  mirrors = each_length (IsDoneFrom texts) jobs o.mirrors.items each ∙ sym (length_map (λ (job : TakeJob). job.mirror.repo.patches) jobs);
  as_many = length_map (λ (job : TakeJob). job.policy) jobs ∙ sym (length_map (λ (job : TakeJob). job.mirror.repo.patches) jobs);
  each = λ m start policy mirror at under is.
      (each_get (λ start policy mirror. IsDone texts start policy mirror) (λ (job : TakeJob). job.mirror.repo.patches) (λ (job : TakeJob). job.policy) jobs o.mirrors.items m start policy mirror each at under is).0;
  fed = fed;
}

-- so the run is one of the plan
pub run_of : (posters expected bound : ℕ) (texts : List (List (List ℕ))) (mirrors : List Mirror) (policies : List Policy) (jobs : List TakeJob) (o : Outcome) → o.posters ≡ length texts →
    EachWith (IsOpened posters expected bound) mirrors jobs → map (λ job. job.policy) jobs ≡ policies → EachWith (IsDoneFrom texts) jobs o.mirrors.items →
    ((m : ℕ) (mirror : Mirror) → IsAt o m mirror → IsFedWithin bound o m mirror) → IsRunOf texts (map (λ mirror. mirror.repo.patches) mirrors) policies bound o
run_of posters expected bound texts mirrors policies jobs o e opened under each fed =
    subst (λ ps. IsRunOf texts (map (λ mirror. mirror.repo.patches) mirrors) ps bound o) under
    (subst (λ ss. IsRunOf texts ss (map (λ (job : TakeJob). job.policy) jobs) bound o) (same_starts posters expected bound mirrors jobs opened) (run_of_jobs texts bound jobs o e each fed))
