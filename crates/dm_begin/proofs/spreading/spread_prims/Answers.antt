use Rattle.std.proofs.Common.{rules, ◌≡◌, ◌-◌, ◌∷◌, length, sym, ap, ap₂, ◌∙◌, arith}
use Rattle.dm_repo.proofs.NameLemmas.{no_length}
use Rattle.dm_begin.specs.Spreading.{first_count}
use Rattle.dm_begin.proofs.DealLemmas.{dealt_all, dealt_first, dealt_more}
use Rattle.dm_begin.proofs.spreading.spread_prims.Goals as goal

pub loop-name-init : goal.loop-name-init
loop-name-init g c =
    let same = c.into_iter-name-iterator.ensures.into_iter_gives.0 in
    record {
      can_next = search rules;
      is_finite = search rules;
      later = c.len-later.ensures ∙ c.args.names.ok.0 ∙ ap length (sym same);
      few = rw same c.requires;
      dealt = dealt_first c.in_ok-patches.patches.items c.new-deps.result.items c.args.names.items c.into_iter-name-iterator.result.rest.items c.args.prims.items c.from-queue.result.items c.in_ok-patches.ensures.items c.new-deps.ensures.items same c.from-queue.ensures.0;
    }

pub overflow_sub-later : goal.overflow_sub-later
overflow_sub-later g c =
    let n : length c.loop-name.name-iterator.rest.items ≡ length (c.in-Some.name ∷ c.next.new.self.rest.items) = ap length c.in-Some.ensures.steps.0 in
    omega (arith, n, c.loop-name.invariant.later)

pub count_of_first-count-requires : goal.count_of_first-count-requires
count_of_first-count-requires g c = omega (arith, c.loop-name.invariant.later, c.loop-name.invariant.few)

pub loop-name-preserved : goal.loop-name-preserved
loop-name-preserved g c =
    let rest = c.next.new.self.rest.items in
    let n : length c.loop-name.name-iterator.rest.items ≡ length (c.in-Some.name ∷ rest) = ap length c.in-Some.ensures.steps.0 in
    let later : c.loop-name.later - 1 ≡ length rest = omega (arith, n, c.loop-name.invariant.later) in
    record {
      can_next = search rules;
      is_finite = search rules;
      later = later;
      few = omega (arith, n, c.loop-name.invariant.few);
      dealt = dealt_more _ c.loop-name.patches.items c.push.new.self.items c.loop-name.deps.items c.next_patch.new.deps.items c.in-Some.name c.loop-name.name-iterator.rest.items rest c.loop-name.queue.items c.in_ok-next.next.items c.next_prims.new.queue.items
          c.count_of_first-count.result c.in_ok-patch.patch c.in-Some.ensures.steps.0
          (c.count_of_first-count.ensures ∙ ap₂ first_count (c.len-in-loop-name.ensures ∙ c.loop-name.queue.ok.0) later)
          c.in_ok-next.ensures.next c.in_ok-next.ensures.left c.in_ok-patch.ensures.patch c.in_ok-patch.ensures.next c.in_ok-push.ensures.items c.loop-name.invariant.dealt;
    }

pub returns : goal.returns
returns g c =
    let rest = c.loop-name.name-iterator.rest in
    dealt_all _ c.loop-name.patches.items c.loop-name.deps.items rest.items c.loop-name.queue.items (no_length rest.items (sym rest.ok.0 ∙ c.in-None.ensures.steps.0)) c.loop-name.invariant.dealt
