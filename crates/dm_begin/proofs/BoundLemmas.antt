-- Bundles that are bound alike are answered alike.
use Rattle.std.proofs.Common.{◌≡◌, ◌↔◌, inl, inr, ℕ, List, take, sym, subst}
use Rattle.dm_info.specs.PatchInfo.{PatchInfo}
use Rattle.dm_named.specs.Patches.{Patch}
use Rattle.dm_bundle.specs.Patches.{infos_of}
use Rattle.dm_bundle.specs.Bundles.{Contents}
use Rattle.dm_repo.specs.declared.policy.Policy.{Policy}
use Rattle.dm_repo.specs.declared.refusal.Refusal.{Refusal}
use Rattle.dm_repo.specs.declared.refusal.Refusal.TheVariants.{MissingContext, MissingDependency, ContextDepends, HeldDepends, DoesNotFit, Conflicts, Full, NoMemory}
use Rattle.dm_repo.specs.CommonSets.{Closed, Common, HoldsAll, IsKnown, LacksDependency, LacksFirst}
use Rattle.dm_repo.specs.Laws.{Answer, Refused, NothingNew, Merged, AnswersWeighing}
use Rattle.dm_repo.specs.Squares.{Placed, PlacedCommutes}
use Rattle.dm_repo.specs.Weighing.{HasPrerequisites, IsRepoSplit, IsBundleSplit, Fits, RefusesBundle}
use Rattle.dm_repo.proofs.Members.{from_at}
use Rattle.dm_begin.specs.Bases.{CutsNames}
use Rattle.dm_begin.specs.BaseLaws.{BoundAnswerAlike, CutAnswersAlike}
use Rattle.dm_begin.proofs.BaseLemmas.{base_one}
use Rattle.dm_begin.proofs.BroughtLemmas.{cut_closed, cut_held, distinct_take}
use Rattle.dm_begin.proofs.FrontLemmas.{split_also, stops_also}

-- a bundle of the same new patches with another context
module _ (repo new : List Patch) (k l : List PatchInfo) (known : HoldsAll repo k) (also : HoldsAll repo l) (closed : (i : PatchInfo) → Closed repo k i ↔ Closed repo l i) where
  abbrev one : Contents
  one = record { patches = new; context = k }

  abbrev other : Contents
  other = record { patches = new; context = l }

  common : (i : PatchInfo) → Common repo one i → Common repo other i
  common i (inl c) = inl ((closed i).0 c)
  common i (inr h) = inr h

  was_common : (i : PatchInfo) → Common repo other i → Common repo one i
  was_common i (inl c) = inl ((closed i).1 c)
  was_common i (inr h) = inr h

  is_known : (n : ℕ) (i : PatchInfo) → IsKnown repo one n i → IsKnown repo other n i
  is_known n i (inl c) = inl (common i c)
  is_known n i (inr h) = inr h

  was_known : (n : ℕ) (i : PatchInfo) → IsKnown repo other n i → IsKnown repo one n i
  was_known n i (inl c) = inl (was_common i c)
  was_known n i (inr h) = inr h

  lacks : (n d : ℕ) → LacksDependency repo one n d → LacksDependency repo other n d
  lacks n d q = record {
    patch = q.patch;
    dependency = q.dependency;
    patch_at = q.patch_at;
    dependency_at = q.dependency_at;
    is_new = q.is_new;
    unknown = λ h. q.unknown (was_known n q.dependency h);
  }

  lacked : (n d : ℕ) → LacksDependency repo other n d → LacksDependency repo one n d
  lacked n d q = record {
    patch = q.patch;
    dependency = q.dependency;
    patch_at = q.patch_at;
    dependency_at = q.dependency_at;
    is_new = q.is_new;
    unknown = λ h. q.unknown (is_known n q.dependency h);
  }

  lacks_first : (n d : ℕ) → LacksFirst repo one n d → LacksFirst repo other n d
  lacks_first n d ((q, none), (r, nothing)) = (
    ((q.0, lacks n q.0 q.1), λ j o w. none j o (w.0, lacked j w.0 w.1)),
    (lacks n d r, λ j o w. nothing j o (lacked n j w)),
  )

  prerequisites : HasPrerequisites repo one → HasPrerequisites repo other
  prerequisites p = record { knows = also; is_new = p.is_new; has_dependencies = λ n x d at fresh c. is_known n d (p.has_dependencies n x d at fresh c) }

  repo_split : {front rest : List Placed} → IsRepoSplit repo one front rest → IsRepoSplit repo other front rest
  repo_split p = record {
    prerequisites = prerequisites p.prerequisites;
    split = split_also PlacedCommutes (λ x c. common x.1.info c) (λ x c. was_common x.1.info c) p.split;
  }

  bundle_split : {front rest fresh : List Placed} → IsBundleSplit repo one front rest fresh → IsBundleSplit repo other front rest fresh
  bundle_split p = record { repo_split = repo_split p.repo_split; held = p.held; split = p.split }

  fits : {rest fresh : List Placed} → Fits repo one rest fresh → Fits repo other rest fresh
  fits p = record { front = p.front; bundle_split = bundle_split p.bundle_split; base = p.base; folds = p.folds; fitted = p.fitted; leads = p.leads }

  refuses : (policy : Policy) (why : Refusal) → RefusesBundle repo one policy why → RefusesBundle repo other policy why
  refuses policy (MissingContext c) (q, none) = absurd (q.2 (known q.0 (from_at k c q.1)))
  refuses policy (MissingDependency n d) (h, fresh, q) = (also, fresh, lacks_first n d q)
  refuses policy (ContextDepends h r) (p, q) = (prerequisites p, (q.0, q.1, q.2, q.3, stops_also PlacedCommutes (λ x c. common x.1.info c) (λ x c. was_common x.1.info c) q.4))
  refuses policy (HeldDepends h n) (front, rest, p, q) = (front, rest, repo_split p, q)
  refuses policy (DoesNotFit n) (front, rest, fresh, p, q) = (front, rest, fresh, bundle_split p, q)
  refuses policy (Conflicts n r) (rest, fresh, p, q) = (rest, fresh, fits p, q)
  refuses policy Full (inl (front, rest, fresh, p, q)) = inl (front, rest, fresh, bundle_split p, q)
  refuses policy Full (inr (rest, fresh, merged, skipped, p, m, f)) = inr (rest, fresh, merged, skipped, fits p, m, f)
  refuses policy NoMemory u = tt

  answers : (policy : Policy) (x : Answer) → AnswersWeighing repo one policy x → AnswersWeighing repo other policy x
  answers policy (Refused why) h = refuses policy why h
  answers policy NothingNew h = record { knows = also; all_held = h.all_held }
  answers policy (Merged merged skipped) h = record { rest = h.rest; new = h.new; new' = h.new'; fits = fits h.fits; merge = h.merge; is_merged = h.is_merged; appends = h.appends }

turned : {A B : Type 0} → A ↔ B → B ↔ A
turned f = (f.1, f.0)

pub bound_answer_alike : BoundAnswerAlike
bound_answer_alike repo b cut a policy x =
    subst (λ (new : List Patch). AnswersWeighing repo b policy x ↔ AnswersWeighing repo (record { patches = new; context = cut.context }) policy x) (sym a.patches) (
      answers repo b.patches b.context cut.context a.knows a.knows_cut a.closed policy x,
      answers repo b.patches cut.context b.context a.knows_cut a.knows (λ i. turned (a.closed i)) policy x,
    )

pub cut_answers_alike : CutAnswersAlike
cut_answers_alike mine repo b cut n r c brings knows =
    let names : CutsNames (infos_of (take n mine)) b.context cut.context = c.context in
    let d = distinct_take mine n r.distinct in
    bound_answer_alike repo b cut (record {
      patches = c.patches;
      knows = knows;
      knows_cut = cut_held repo (infos_of (take n mine)) b.context cut.context d brings names knows;
      closed = cut_closed repo (infos_of (take n mine)) b.context cut.context d brings names;
    })
