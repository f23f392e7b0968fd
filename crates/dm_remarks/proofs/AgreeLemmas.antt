-- The mirrors of a run that have one base, and whether they had to agree.
use Rattle.std.proofs.Common.{◌≡◌, ◌≢◌, ◌<◌, ◌+◌, ℕ, zero, suc, List, [], ◌∷◌, ◌++◌, Some, slice_get, slice_index_or, length, take, refl, sym, ap, subst, ◌∙◌, arith}
use Rattle.std.specs.Prelude.{IfOk, Result, Ok, Err}
use Rattle.std.proofs.Math.ListN.{replicate}
use Rattle.std.specs.List.{AllByRecursion}
use Rattle.std.specs.Borrow.{Bor}
use Rattle.std.proofs.lemmas.List.{flat_map_more, map-append, map_more}
use Rattle.std.proofs.lemmas.Option.{slice_get_within}
use Rattle.dm_info.specs.PatchInfo.{PatchInfo}
use Rattle.dm_named.specs.Limits.{standard}
use Rattle.dm_named.specs.declared.limits.Limits.{Limits}
use Rattle.dm_named.specs.Patches.{Patch}
use Rattle.dm_bundle.proofs.HeadingLemmas.{no_heading}
use Rattle.dm_repo.specs.declared.policy.Policy.{Policy}
use Rattle.dm_repo.specs.declared.policy.Policy.TheVariants.{Refuse}
use Rattle.dm_repo.specs.declared.refusal.Refusal.TheVariants.{NoMemory}
use Rattle.dm_repo.specs.Repositories.{Repository}
use Rattle.dm_scratch.specs.declared.verdict.Verdict.{Verdict}
use Rattle.dm_scratch.specs.declared.verdict.Verdict.TheVariants.{Refused}
use Rattle.dm_scratch.specs.Laws.{TakingHasOneOutcome}
use Rattle.dm_scratch.specs.Taking.{IsAccepted, TakesWithin, bundle, malformed, no_memory}
use Rattle.dm_mirror.specs.declared.outcome.Outcome.{Outcome}
use Rattle.dm_mirror.specs.Plans.{AreStarts, IsStart, empty, taken}
use Rattle.dm_mirror.specs.Runs.{AllAccepted, HasRepo}
use Rattle.dm_mirror.proofs.DeliveryLemmas.{item_at}
use Rattle.dm_agree.specs.Laws.{AcceptingMirrorsAgree, MirrorsAgree, IsMirrorOver, sent_texts}
use Rattle.dm_agree.specs.Names.{NameIsShared, NamesStandWithin}
use Rattle.dm_remarks.specs.declared.agreeing.Agreement.TheVariants.{Equal, TwoMeanings, NotAllTaken}
use Rattle.dm_commands.specs.declared.running.Ran.{Ran}
use Rattle.dm_commands.specs.Applying.{IsBase}
use Rattle.dm_remarks.specs.Agreeing.{AreAlikeByName, AreAllAlike, IsAgreement, IsRanOver, IsRunOver}
use Rattle.dm_commands.specs.Running.{IsRan, NamedPoster, bytes_of, texts_in}

-- an accepted verdict isn't that memory ran out
had_memory : (v : Verdict) → IsAccepted v → v ≢ Refused NoMemory
had_memory v a e = subst IsAccepted e a

-- an empty text isn't taken
nothing_taken : (limits : Limits) (v : Verdict) (repo : List Patch) → IsAccepted v → TakesWithin limits [] [] Refuse v repo → ⊥
nothing_taken limits v repo a (bundle b r t) = no_heading [] 0 r.stands.new (omega arith) r.stands.heading
nothing_taken limits v repo a (malformed fault at e same) = subst IsAccepted e a
nothing_taken limits v repo a (no_memory e same) = subst IsAccepted e a

-- a base's text makes one repository
one_start : TakingHasOneOutcome → (limits : Limits) (text : List ℕ) (a b : List Patch) → IsStart limits text a → IsStart limits text b → a ≡ b
one_start law limits text a b (empty e f) (empty g h) = f ∙ sym h
one_start law limits text a b (empty e f) (taken v ok t) = absurd (nothing_taken limits v b ok (subst (λ (x : List ℕ). TakesWithin limits [] x Refuse v b) e t))
one_start law limits text a b (taken v ok t) (empty e f) = absurd (nothing_taken limits v a ok (subst (λ (x : List ℕ). TakesWithin limits [] x Refuse v a) e t))
one_start law limits text a b (taken v ok t) (taken w fine s) = (law limits [] text Refuse v w a b (had_memory v ok) (had_memory w fine) t s).1

-- so all mirrors of that base begin with it
all_start : TakingHasOneOutcome → (limits : Limits) (text : List ℕ) (base : List Patch) → IsStart limits text base → (n : ℕ) (starts : List (List Patch)) → AreStarts limits (replicate n text) starts →
    AllByRecursion (λ start. start ≡ base) starts
all_start law limits text base is zero [] s = tt
all_start law limits text base is zero (r ∷ rs) s = absurd s
all_start law limits text base is (suc n) [] s = absurd s
all_start law limits text base is (suc n) (r ∷ rs) s = (one_start law limits text r base s.0 is, all_start law limits text base is n rs s.1)

pub run_over_base : TakingHasOneOutcome → (texts : List (List (List ℕ))) (limits : Limits) (text : List ℕ) (base : List Patch) (ran : Ran) → IsStart limits text base → IsRanOver texts limits text ran →
    IsRunOver texts base ran.outcome
run_over_base law texts limits text base ran is r = record {
  limits = limits;
  text = text;
  is_start = is;
  starts = r.is_ran.starts;
  alike = all_start law limits text base is r.count r.is_ran.starts r.is_ran.are_starts;
  policies = r.policies;
  bound = r.bound;
  is_run = r.is_ran.is_run;
}

at_place : {A : Type 0} (P : A → Type 0) (xs : List A) (m : ℕ) (x : A) → AllByRecursion P xs → slice_get xs m ≡ Some x → P x
at_place P [] m x all e = absurd (cc e)
at_place P (y ∷ ys) zero x all e = let same : y ≡ x = cc in subst P same all.0
at_place P (y ∷ ys) (suc m) x all e = at_place P ys m x all.1 e

-- each mirror is one over the base
mirror_over : (texts : List (List (List ℕ))) (base : List Patch) (o : Outcome) (r : IsRunOver texts base o) (m : ℕ) (repo : Repository) → HasRepo o m repo → IsMirrorOver r.limits r.text base r.starts o repo
mirror_over texts base o r m repo h =
    let start = item_at r.starts m (omega (arith, slice_get_within o.mirrors.items m h.0 h.1, r.is_run.mirrors)) in
    record {
      number = m;
      is_start = r.is_start;
      begins = start.1 ∙ ap Some (at_place (λ (s : List Patch). s ≡ base) r.starts m start.0 r.alike start.1);
      ends = h;
    }

-- so they agree
pub all_alike : AcceptingMirrorsAgree → (texts : List (List (List ℕ))) (base : List Patch) (o : Outcome) → IsRunOver texts base o → AllAccepted o → NamesStandWithin standard (sent_texts texts) base → AreAllAlike o
all_alike law texts base o r all stand m n one other h k =
    law texts r.starts r.policies r.bound o r.is_run all r.limits r.text base one other (mirror_over texts base o r m one h) (mirror_over texts base o r n other k) stand

pub alike_by_name : MirrorsAgree → (texts : List (List (List ℕ))) (base : List Patch) (o : Outcome) → IsRunOver texts base o → NamesStandWithin standard (sent_texts texts) base → AreAlikeByName o
alike_by_name law texts base o r stand m n one other h k names =
    law texts r.starts r.policies r.bound o r.is_run r.limits r.text base one other (mirror_over texts base o r m one h) (mirror_over texts base o r n other k) stand names

-- what is said of them
pub equal : AcceptingMirrorsAgree → (texts : List (List (List ℕ))) (base : List Patch) (o : Outcome) → IsRunOver texts base o → (sent : List (List ℕ)) → sent ≡ sent_texts texts → NamesStandWithin standard sent base →
    AllAccepted o → IsAgreement texts base o Equal
equal law texts base o r sent e stand all =
    let s = subst (λ (x : List (List ℕ)). NamesStandWithin standard x base) e stand in
    (all, s, all_alike law texts base o r all s)

pub two_meanings : (texts : List (List (List ℕ))) (base : List Patch) (o : Outcome) (sent : List (List ℕ)) (name : PatchInfo) → sent ≡ sent_texts texts → NameIsShared standard sent base name → IsAgreement texts base o (TwoMeanings name)
two_meanings texts base o sent name e shared = subst (λ (x : List (List ℕ)). NameIsShared standard x base name) e shared

pub not_all_taken : MirrorsAgree → (texts : List (List (List ℕ))) (base : List Patch) (o : Outcome) → IsRunOver texts base o → (sent : List (List ℕ)) → sent ≡ sent_texts texts → NamesStandWithin standard sent base →
    (AllAccepted o → ⊥) → IsAgreement texts base o NotAllTaken
not_all_taken law texts base o r sent e stand none =
    let s = subst (λ (x : List (List ℕ)). NamesStandWithin standard x base) e stand in
    (none, s, alike_by_name law texts base o r s)

-- one poster's texts more
pub texts_step : (xs : List NamedPoster) (i : ℕ) (d : NamedPoster) (old new : List (Bor (List ℕ))) → i < length xs → bytes_of old ≡ sent_texts (texts_in (take i xs)) →
    new ≡ old ++ (slice_index_or xs i d).1.now → bytes_of new ≡ sent_texts (texts_in (take (i + 1) xs))
texts_step xs i d old new l so_far is =
    let x = slice_index_or xs i d in
    ap bytes_of is ∙ (map-append (λ (t : Bor (List ℕ)). t.now) old x.1.now ∙ (ap (λ (t : List (List ℕ)). t ++ bytes_of x.1.now) so_far ∙
    (flat_map_more (λ (sent : List (List ℕ)). sent) [] (texts_in (take i xs)) (bytes_of x.1.now) ∙
    ap sent_texts (sym (map_more (λ (p : NamedPoster). bytes_of p.1.now) xs i d l)))))

-- what a base makes is what a mirror begins with
pub start_of_base : {E : Type 0} (limits : Limits) (text : List ℕ) (r : Result Repository E) → IfOk r (λ repo. IsBase limits text repo.patches) → IfOk r (λ repo. IsStart limits text repo.patches)
start_of_base limits text (Ok repo) b = taken b.verdict b.accepted b.takes
start_of_base limits text (Err e) b = tt
