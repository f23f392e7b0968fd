use Rattle.std.proofs.Common.{refl, IsTrue, false, ◌↔◌}
use Rattle.dm_tree.specs.Paths.{Inside}
use Rattle.dm_tree.proofs.Fronts.{refuted}
use Rattle.dm_prim.specs.Table.{MoveThenMove}
use Rattle.dm_prim.proofs.pair.may_move_both.Goals as goal
use Rattle.dm_prim.proofs.pair.may_move_both.Goals.{else-is_inside-5-via-then-is_inside-5+else-is_inside-6, else-is_inside-5-via-else-is_inside-5}

never : {P : Type 0} → (P → ⊥) → IsTrue false ↔ P
never n = (λ f. cc, λ p. absurd (n p))

pub returns-then-not-are_apart : goal.returns-then-not-are_apart
returns-then-not-are_apart g c = never (λ (m : MoveThenMove c.args.a.now c.args.b.now c.args.c.now c.args.d.now). refuted c.if-not-are_apart.ensures m.first_apart)

pub returns-then-not-are_apart-2 : goal.returns-then-not-are_apart-2
returns-then-not-are_apart-2 g c = never (λ (m : MoveThenMove c.args.a.now c.args.b.now c.args.c.now c.args.d.now). refuted c.if-not-are_apart-2.ensures m.second_apart)

pub returns-then-same : goal.returns-then-same
returns-then-same g c = never (λ (m : MoveThenMove c.args.a.now c.args.b.now c.args.c.now c.args.d.now). m.c_not_b (c.if-same.ensures.0 refl))

pub returns-then-same-2 : goal.returns-then-same-2
returns-then-same-2 g c = never (λ (m : MoveThenMove c.args.a.now c.args.b.now c.args.c.now c.args.d.now). m.d_not_a (c.if-same-2.ensures.0 refl))

pub returns-then-same-3 : goal.returns-then-same-3
returns-then-same-3 g c = never (λ (m : MoveThenMove c.args.a.now c.args.b.now c.args.c.now c.args.d.now). m.c_not_a (c.if-same-3.ensures.0 refl))

pub returns-then-same-4 : goal.returns-then-same-4
returns-then-same-4 g c = never (λ (m : MoveThenMove c.args.a.now c.args.b.now c.args.c.now c.args.d.now). m.d_not_b (c.if-same-4.ensures.0 refl))

pub returns-then-is_inside : goal.returns-then-is_inside
returns-then-is_inside g c = never (λ (m : MoveThenMove c.args.a.now c.args.b.now c.args.c.now c.args.d.now). m.c_not_in_a (c.if-is_inside.ensures.0 refl))

pub returns-then-is_inside-2 : goal.returns-then-is_inside-2
returns-then-is_inside-2 g c = never (λ (m : MoveThenMove c.args.a.now c.args.b.now c.args.c.now c.args.d.now). m.d_not_in_a (c.if-is_inside-2.ensures.0 refl))

pub returns-then-is_inside-3 : goal.returns-then-is_inside-3
returns-then-is_inside-3 g c = never (λ (m : MoveThenMove c.args.a.now c.args.b.now c.args.c.now c.args.d.now). m.a_not_in_d (c.if-is_inside-3.ensures.0 refl))

pub returns-then-is_inside-4 : goal.returns-then-is_inside-4
returns-then-is_inside-4 g c = never (λ (m : MoveThenMove c.args.a.now c.args.b.now c.args.c.now c.args.d.now). m.b_not_in_d (c.if-is_inside-4.ensures.0 refl))

pub returns-then-is_inside-6 : goal.returns-then-is_inside-6
returns-then-is_inside-6 g c = never (λ (m : MoveThenMove c.args.a.now c.args.b.now c.args.c.now c.args.d.now). m.not_both_inside (c.if-is_inside-5.ensures.0 refl) (c.if-is_inside-6.ensures.0 refl))

pub returns : goal.returns
returns g c =
    let both : Inside c.args.a.now c.args.c.now → Inside c.args.d.now c.args.b.now → ⊥ =
    elim c.else-is_inside-5.branch [
      | else-is_inside-5-via-then-is_inside-5+else-is_inside-6 w ↦ λ i j. refuted w.if-is_inside-6.ensures j
      | else-is_inside-5-via-else-is_inside-5 w ↦ λ i j. refuted w.if-is_inside-5.ensures i
    ] in (
      λ t. record {
        first_apart = c.if-not-are_apart.ensures.0 refl;
        second_apart = c.if-not-are_apart-2.ensures.0 refl;
        c_not_b = refuted c.if-same.ensures;
        d_not_a = refuted c.if-same-2.ensures;
        c_not_a = refuted c.if-same-3.ensures;
        d_not_b = refuted c.if-same-4.ensures;
        c_not_in_a = refuted c.if-is_inside.ensures;
        d_not_in_a = refuted c.if-is_inside-2.ensures;
        a_not_in_d = refuted c.if-is_inside-3.ensures;
        b_not_in_d = refuted c.if-is_inside-4.ensures;
        not_both_inside = both;
      },
      λ m. refl,
    )
