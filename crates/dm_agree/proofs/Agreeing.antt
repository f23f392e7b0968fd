-- A mirror of a run has taken its texts in turn, and they are those that the posters sent.
use Rattle.std.proofs.Common.{◌≡◌, ◌↔◌, ℕ, zero, suc, List, [], ◌∷◌, Option, Some, None, slice_get, length, ap, sym, subst, arith}
use Rattle.std.specs.List.{All, Contains, AllByRecursion}
use Rattle.std.proofs.lemmas.Option.{slice_get_within, slice_get-get_or}
use Rattle.dm_named.specs.declared.limits.Limits.{Limits}
use Rattle.dm_named.specs.Patches.{Patch}
use Rattle.dm_bundle.specs.Patches.{infos_of, SameMembers}
use Rattle.dm_repo.specs.declared.policy.Policy.{Policy}
use Rattle.dm_repo.specs.declared.policy.Policy.TheVariants.{Refuse}
use Rattle.dm_repo.specs.Repositories.{Repository, IsRepo}
use Rattle.dm_repo.proofs.Keeps.{merge_is_repo}
use Rattle.dm_repo.proofs.Trees.{empty_repo}
use Rattle.dm_scratch.specs.declared.verdict.Verdict.{Verdict}
use Rattle.dm_scratch.specs.Taking.{TakesWithin, IsAccepted, bundle, malformed, no_memory}
use Rattle.dm_mirror.specs.TheMirror.{Mirror}
use Rattle.dm_mirror.specs.declared.outcome.Outcome.{Outcome}
use Rattle.dm_mirror.specs.PlainFolds.{bundle_texts, verdicts_given}
use Rattle.dm_mirror.specs.Plans.{IsStart, empty, taken}
use Rattle.dm_mirror.specs.Runs.{AllAccepted, IsAt, IsFine, IsServed, IsRunOf, mirror_mails}
use Rattle.dm_mirror.proofs.DeliveryLemmas.{item_at}
use Rattle.dm_mirror.proofs.ListLemmas.{one_by_one}
use Rattle.dm_converge.proofs.Converging.{taken_or_kept, same_trees}
use Rattle.dm_converge.proofs.Accepting.{same_way}
use Rattle.dm_agree.proofs.Reading.{trees_agree}
use Rattle.dm_agree.specs.Laws as laws
use Rattle.dm_agree.specs.Laws.{sent_texts, IsMirrorOver}
use Rattle.dm_agree.proofs.Texts.{of_poster, by_poster, all_mails_texts, sent_by, among_sent}

-- what a base's text makes is a repository
taken_repo : (limits : Limits) (text : List ℕ) (v : Verdict) (base : List Patch) → TakesWithin limits [] text Refuse v base → IsRepo base
taken_repo limits text v base (bundle b r t) =
    taken_or_kept IsRepo [] b Refuse v base empty_repo (λ merged skipped g. merge_is_repo [] b Refuse merged skipped empty_repo r.stands.sections.patches.distinct g) t
taken_repo limits text v base (malformed fault at e same) = rw same empty_repo
taken_repo limits text v base (no_memory e same) = rw same empty_repo

start_repo : (limits : Limits) (text : List ℕ) (base : List Patch) → IsStart limits text base → IsRepo base
start_repo limits text base (empty e same) = rw same empty_repo
start_repo limits text base (taken v a t) = taken_repo limits text v base t

-- the mirror that took these mails to this repository
record Took (texts : List (List (List ℕ))) (o : Outcome) (base : List Patch) (repo : Repository) : Type 0 where
  number : ℕ
  mirror : Mirror
  is_at : IsAt o number mirror
  policy : Policy
  served : IsServed texts base policy mirror
  is_repo : repo ≡ mirror.repo

took : (texts : List (List (List ℕ))) (starts : List (List Patch)) (policies : List Policy) (bound : ℕ) (o : Outcome) → IsRunOf texts starts policies bound o →
    (limits : Limits) (text : List ℕ) (base : List Patch) (repo : Repository) → IsMirrorOver limits text base starts o repo → Took texts o base repo
took texts starts policies bound o run limits text base repo m =
    let l = slice_get_within starts m.number base m.begins in
    let policy = item_at policies m.number (omega (arith, l, run.as_many)) in
    record {
      number = m.number;
      mirror = m.ends.0;
      is_at = m.ends.1;
      policy = policy.0;
      served = run.each m.number base policy.0 m.ends.0 m.begins policy.1 m.ends.1;
      is_repo = m.ends.2;
    }

-- the texts of the bundles that it took
abbrev texts_of : Mirror → List (List ℕ)
texts_of mirror = bundle_texts mirror.mails.items

took_sent : (texts : List (List (List ℕ))) (start : List Patch) (policy : Policy) (mirror : Mirror) → IsServed texts start policy mirror →
    (text : List ℕ) → Contains (texts_of mirror) text ↔ Contains (sent_texts texts) text
took_sent texts start policy mirror s text = (there, back)
  where
    there : Contains (texts_of mirror) text → Contains (sent_texts texts) text
    there c =
        let r = by_poster (length texts) mirror.mails.items text s.known c in
        let at = slice_get-get_or texts r.0 [] r.1 in
        among_sent texts r.0 _ text at (rw (s.delivered r.0 _ at, all_mails_texts r.0 _) at r.2)

    back : Contains (sent_texts texts) text → Contains (texts_of mirror) text
    back c =
        let r = sent_by texts text c in
        of_poster r.0 mirror.mails.items text (rw (s.delivered r.0 r.1 r.2, all_mails_texts r.0 r.1) r.3)

pub mirrors_take_what_is_sent : laws.MirrorsTakeWhatIsSent
mirrors_take_what_is_sent texts starts policies bound o run m l text =
    let mirror = item_at o.mirrors.items m l in
    let start = item_at starts m (omega (arith, l, run.mirrors)) in
    let policy = item_at policies m (omega (arith, l, run.mirrors, run.as_many)) in
    subst (λ ms. Contains (bundle_texts ms) text ↔ Contains (sent_texts texts) text) (sym (ap mirror_mails mirror.1))
    (took_sent texts start.0 policy.0 mirror.0 (run.each m start.0 policy.0 mirror.0 start.1 policy.1 mirror.1) text)

pub mirrors_agree : laws.MirrorsAgree
mirrors_agree texts starts policies bound o run limits text base one other m n stand same =
    let a = took texts starts policies bound o run limits text base one m in
    let b = took texts starts policies bound o run limits text base other n in
    let f = took_sent texts base a.policy a.mirror a.served in
    let g = took_sent texts base b.policy b.mirror b.served in
    let names = rw (ap (λ r. r.patches) a.is_repo, ap (λ r. r.patches) b.is_repo) at same in
    record {
      trees = rw (a.is_repo, b.is_repo) (same_trees a.mirror.repo.patches b.mirror.repo.patches
          (trees_agree (sent_texts texts) (texts_of a.mirror) (texts_of b.mirror) base a.policy b.policy (verdicts_given a.mirror.verdicts.items) (verdicts_given b.mirror.verdicts.items) a.mirror.repo.patches b.mirror.repo.patches
          (λ x. (f x).0) (λ x. (g x).0) (start_repo limits text base m.is_start) stand a.served.folded.taken b.served.folded.taken names));
      names = same;
    }

-- what isn't refused is accepted
accepted : (vs : List (Option Verdict)) → AllByRecursion IsFine vs → AllByRecursion IsAccepted (verdicts_given vs)
accepted [] all = tt
accepted (None ∷ vs) all = accepted vs all.1
accepted (Some v ∷ vs) all = (all.0, accepted vs all.1)

at_place : {A : Type 0} (P : A → Type 0) (xs : List A) (m : ℕ) (x : A) → AllByRecursion P xs → slice_get xs m ≡ Some x → P x
at_place P [] m x all e = absurd (cc e)
at_place P (y ∷ ys) zero x all e = let same : y ≡ x = cc in subst P same all.0
at_place P (y ∷ ys) (suc m) x all e = at_place P ys m x all.1 e

accepted_at : (o : Outcome) (m : ℕ) (mirror : Mirror) → AllAccepted o → IsAt o m mirror → AllByRecursion IsAccepted (verdicts_given mirror.verdicts.items)
accepted_at o m mirror all at =
    accepted mirror.verdicts.items (one_by_one IsFine mirror.verdicts.items (at_place (λ (x : Mirror). All IsFine x.verdicts.items) o.mirrors.items m mirror (one_by_one (λ (x : Mirror). All IsFine x.verdicts.items) o.mirrors.items all) at))

pub accepting_mirrors_agree : laws.AcceptingMirrorsAgree
accepting_mirrors_agree texts starts policies bound o run all limits text base one other m n stand =
    let a = took texts starts policies bound o run limits text base one m in
    let b = took texts starts policies bound o run limits text base other n in
    let f = took_sent texts base a.policy a.mirror a.served in
    let g = took_sent texts base b.policy b.mirror b.served in
    let fine = accepted_at o a.number a.mirror all a.is_at in
    let other_fine = accepted_at o b.number b.mirror all b.is_at in
    let vs = verdicts_given a.mirror.verdicts.items in
    let ws = verdicts_given b.mirror.verdicts.items in
    let names : SameMembers (infos_of one.patches) (infos_of other.patches) = rw (a.is_repo, b.is_repo) (λ i. (
      same_way base (texts_of a.mirror) (texts_of b.mirror) a.policy b.policy vs ws a.mirror.repo.patches b.mirror.repo.patches (λ x c. (g x).1 ((f x).0 c)) a.served.folded.taken b.served.folded.taken fine other_fine i,
      same_way base (texts_of b.mirror) (texts_of a.mirror) b.policy a.policy ws vs b.mirror.repo.patches a.mirror.repo.patches (λ x c. (f x).1 ((g x).0 c)) b.served.folded.taken a.served.folded.taken other_fine fine i,
    )) in
    mirrors_agree texts starts policies bound o run limits text base one other m n stand names
