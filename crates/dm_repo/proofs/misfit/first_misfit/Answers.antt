use Rattle.std.proofs.Common.{rules, [], ◌∷◌, ◌++◌, ap, sym, ◌∙◌, append_assoc}
use Rattle.dm_prim.specs.InTurn.{done}
use Rattle.dm_repo.proofs.Splits.{all_taken}
use Rattle.dm_repo.proofs.MisfitLemmas.{leads_also}
use Rattle.dm_repo.proofs.misfit.first_misfit.Goals as goal

pub loop-place-init : goal.loop-place-init
loop-place-init g c = record { can_next = tt; is_finite = tt; leads = λ s e. (s, e, done); whole = search rules }

pub returns-in-Err : goal.returns-in-Err
returns-in-Err g c = λ s e.
    let r = c.loop-place.invariant.leads s e in
    rw c.into_named.ensures
    (record {
      before = c.loop-place.yielded;
      after = c.next.new.self.rest.items;
      at = c.loop-place.invariant.whole ∙ ap (λ l. c.loop-place.yielded ++ l) c.in-Some.ensures.steps.0;
      tree = r.0;
      leads = r.2;
      faults = rw c.named.ensures at (c.in-Err.ensures r.0 r.1);
      is_told = c.in_ok-refused-in-Err.ensures.1;
    })

pub loop-place-preserved : goal.loop-place-preserved
loop-place-preserved g c = record {
  can_next = tt;
  is_finite = tt;
  leads = λ s e. let r = c.loop-place.invariant.leads s e in let t = rw c.named.ensures at (c.in-Ok.ensures r.0 r.1) in (t.0, t.1, leads_also c.loop-place.yielded (c.in-Some.place, c.in-Some.patch) r.2 t.2);
  whole = c.loop-place.invariant.whole ∙ ap (λ l. c.loop-place.yielded ++ l) c.in-Some.ensures.steps.0 ∙ sym (append_assoc c.loop-place.yielded ((c.in-Some.place, c.in-Some.patch) ∷ []) c.next.new.self.rest.items);
}

pub returns : goal.returns
returns g c = λ s e.
    let r = c.loop-place.invariant.leads s e in
    let taken = all_taken c.args.new.items c.loop-place.yielded c.loop-place.place-iterator.rest.items c.loop-place.invariant.whole (sym (c.loop-place.place-iterator.rest.ok.0) ∙ c.in-None.ensures.steps.0) in
    (r.0, rw taken r.2)
