use Rattle.std.proofs.Common.{◌∙◌, ℕ, List, map, ap, inl, inr, refl}
use Rattle.std.specs.Borrow.{Bor}
use Rattle.dm_store.specs.Keeping.{kept_in}
use Rattle.dm_files.proofs.ChoosingLemmas.{bytes_of, choosing}
use Rattle.dm_files.proofs.MirrorLemmas.{if_ok_is}
use Rattle.dm_files.proofs.LettingGoLemmas.{lets_stay}
use Rattle.dm_files.proofs.obliterating.take_chosen.Goals as goal

pub returns-in_err-chosen-clause-any_moment : goal.returns-in_err-chosen-clause-any_moment
returns-in_err-chosen-clause-any_moment c =
    let store = c.args.store.now in
    (store.repo.patches, inl refl, lets_stay store (kept_in store) c.args.saved.now c.requires.none c.requires.stored)

pub returns-in-Ok-None-clause-any_moment : goal.returns-in-Ok-None-clause-any_moment
returns-in-Ok-None-clause-any_moment c =
    let store = c.args.store.now in
    (store.repo.patches, inl refl, lets_stay store (kept_in store) c.args.saved.now c.requires.none c.requires.stored)

pub returns-in-Err-clause-any_moment : goal.returns-in-Err-clause-any_moment
returns-in-Err-clause-any_moment c =
    let store = c.args.store.now in
    (store.repo.patches, inl refl, lets_stay store (kept_in store) c.args.saved.now c.requires.none c.requires.stored)

pub returns-in_err-status-clause-any_moment : goal.returns-in_err-status-clause-any_moment
returns-in_err-status-clause-any_moment c =
    let store = c.args.store.now in
    (store.repo.patches, inl refl, lets_stay store (kept_in store) c.args.saved.now c.requires.none c.requires.stored)

pub returns-then-not-asked-clause-any_moment : goal.returns-then-not-asked-clause-any_moment
returns-then-not-asked-clause-any_moment c =
    let store = c.args.store.now in
    (store.repo.patches, inl refl, lets_stay store (kept_in store) c.args.saved.now c.requires.none c.requires.stored)

pub returns-in_err-say_bound-clause-any_moment : goal.returns-in_err-say_bound-clause-any_moment
returns-in_err-say_bound-clause-any_moment c =
    let store = c.args.store.now in
    (store.repo.patches, inl refl, lets_stay store (kept_in store) c.args.saved.now c.requires.none c.requires.stored)

pub returns-in_err-explain_obliterated-clause-any_moment : goal.returns-in_err-explain_obliterated-clause-any_moment
returns-in_err-explain_obliterated-clause-any_moment c =
    let store = c.args.store.now in
    (store.repo.patches, inl refl, lets_stay store (kept_in store) c.args.saved.now c.requires.none c.requires.stored)

abbrev all_of : Bor (List (Bor (List ℕ))) → List (List ℕ)
all_of words = map bytes_of words.now

pub returns-clause-goes : goal.returns-clause-goes
returns-clause-goes c =
    let out = c.in-Ok-Some.out in
    let words = (ap all_of c.unwrap_or.ensures ∙ choosing c.args.asked.now.patches _ refl) in
    if_ok_is c.take_out.result (λ status is zero wet. (
      out.repo.patches,
      record {
        chosen = c.in_ok-chosen.chosen.items;
        cut = out.bundle;
        bound = out.bound.items;
        are_chosen = rw (c.repo.ensures, words) at c.in_ok-chosen.ensures;
        obliterates = rw (c.in-Ok-Some.field-0-is, c.repo-2.ensures, c.base.ensures, c.deref.ensures.value) at c.in-Ok-Some.ensures.obliterates;
      },
      (rw is at c.take_out.ensures.keeps) wet,
      (rw is at c.take_out.ensures.saved) wet,
    ))

pub returns-clause-any_moment : goal.returns-clause-any_moment
returns-clause-any_moment c =
    let out = c.in-Ok-Some.out in
    let words = (ap all_of c.unwrap_or.ensures ∙ choosing c.args.asked.now.patches _ refl) in (
      out.repo.patches,
      inr (record {
        chosen = c.in_ok-chosen.chosen.items;
        cut = out.bundle;
        bound = out.bound.items;
        are_chosen = rw (c.repo.ensures, words) at c.in_ok-chosen.ensures;
        obliterates = rw (c.in-Ok-Some.field-0-is, c.repo-2.ensures, c.base.ensures, c.deref.ensures.value) at c.in-Ok-Some.ensures.obliterates;
      }),
      c.take_out.ensures.any_moment,
    )
