use Rattle.std.proofs.Common.{rules, sym, ap, map, ◌∙◌}
use Rattle.dm_prim.specs.Prims.{prim_of, prims_of}
use Rattle.dm_tree.specs.Seen.{seen}
use Rattle.dm_repo.proofs.NameLemmas.{no_length}
use Rattle.dm_begin.proofs.MadeLemmas.{made_all, made_first, made_more, never_missing}
use Rattle.dm_begin.proofs.making.prims_of_tree.Goals as goal

pub loop-row-init : goal.loop-row-init
loop-row-init g c =
    let same = c.into_iter-row-iterator.ensures.into_iter_gives.0 in
    record {
      can_next = search rules;
      is_finite = search rules;
      made = made_first c.args.tree.now c.into_iter-row-iterator.result.rest.items (prims_of c.new-prims.result.items) (same ∙ c.in_ok-row-items.ensures) (ap (map prim_of) c.new-prims.ensures.items);
    }

pub unreachable-requires : goal.unreachable-requires
unreachable-requires g c =
    never_missing c.args.tree.now c.loop-row.row-iterator.rest.items c.next.new.self.rest.items c.in-Some.row c.in-Some.ensures.steps.0 (prims_of c.loop-row.prims.items) c.loop-row.invariant.made (sym c.in-None-entry.ensures)

pub loop-row-preserved : goal.loop-row-preserved
loop-row-preserved g c = record {
  can_next = search rules;
  is_finite = search rules;
  made = made_more c.args.tree.now c.loop-row.row-iterator.rest.items c.next.new.self.rest.items c.in-Some.row c.in-Some.ensures.steps.0 (prims_of c.loop-row.prims.items) (prims_of c.push_making.new.prims.items)
      (seen c.in-Some-entry.there) c.loop-row.invariant.made (sym c.in-Some-entry.ensures) c.in_ok-push_making-in-Some-entry.ensures;
}

pub returns : goal.returns
returns g c =
    let rest = c.loop-row.row-iterator.rest in
    made_all c.args.tree.now rest.items (prims_of c.loop-row.prims.items) c.loop-row.invariant.made (no_length rest.items (sym rest.ok.0 ∙ c.in-None.ensures.steps.0))
