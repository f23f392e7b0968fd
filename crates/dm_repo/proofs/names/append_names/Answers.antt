use Rattle.std.proofs.Common.{rules, refl, ◌≡◌, ◌≤◌, ◌∷◌, length, sym, ◌∙◌, arith, append-nil}
use Rattle.indexmap.specs.IndexSet.{spare}
use Rattle.dm_repo.proofs.NameLemmas.{inserted, no_length}
use Rattle.dm_repo.proofs.names.append_names.Goals as goal

pub loop-name-init : goal.loop-name-init
loop-name-init g c = record { can_next = search rules; is_finite = search rules; room = rw c.into_iter-name-iterator.ensures.into_iter_gives.0 c.requires.room; all = rw c.into_iter-name-iterator.ensures.into_iter_gives.0 refl }

pub loop-name-preserved-in-Some : goal.loop-name-preserved-in-Some
loop-name-preserved-in-Some g c =
    let names = c.loop-name.names in
    let rest = c.next.new.self.rest.items in
    let s : c.loop-name.name-iterator.rest.items ≡ c.in-Some.name ∷ rest = c.in-Some.ensures.steps.0 in
    let r : length (c.in-Some.name ∷ rest) ≤ spare names = rw s at c.loop-name.invariant.room in
    record {
      can_next = search rules;
      is_finite = search rules;
      room = omega (arith, r, c.insert.ensures.spare);
      all = inserted c.insert.result names.keys c.in-Some.name rest c.insert.new.self.keys (c.insert.ensures.succeeds (omega (arith, r))) c.insert.ensures.keys (rw s at c.loop-name.invariant.all) c.requires.distinct;
    }

pub loop-name-preserved : goal.loop-name-preserved
loop-name-preserved g c =
    let names = c.loop-name.names in
    let rest = c.next.new.self.rest.items in
    let s : c.loop-name.name-iterator.rest.items ≡ c.in-Some.name ∷ rest = c.in-Some.ensures.steps.0 in
    let r : length (c.in-Some.name ∷ rest) ≤ spare names = rw s at c.loop-name.invariant.room in
    record {
      can_next = search rules;
      is_finite = search rules;
      room = omega (arith, r, c.insert.ensures.spare);
      all = inserted c.insert.result names.keys c.in-Some.name rest c.insert.new.self.keys (c.insert.ensures.succeeds (omega (arith, r))) c.insert.ensures.keys (rw s at c.loop-name.invariant.all) c.requires.distinct;
    }

pub returns : goal.returns
returns g c =
    let rest = c.loop-name.name-iterator.rest in
    sym (append-nil c.loop-name.names.keys) ∙ rw (no_length rest.items (sym rest.ok.0 ∙ c.in-None.ensures.steps.0)) at c.loop-name.invariant.all
