use Rattle.std.proofs.Common.{rules, ◌≡◌, ◌∷◌, ◌++◌, ◌∙◌, true, false, [], length, take, drop, arith}
use Rattle.std.proofs.lemmas.List.{drop_all}
use Rattle.dm_named.specs.Commuting.{NamedCommutes}
use Rattle.dm_repo.proofs.Splits.{whole}
use Rattle.dm_send.specs.Minimizing.{nothing}
use Rattle.dm_send.proofs.Rows.{behind_first, more_goes, more_stays}
use Rattle.dm_send.proofs.minimizing.minimize.Goals as goal

pub loop-k-init : goal.loop-k-init
loop-k-init g c =
    let none = drop_all c.len-k.result c.args.shared.now.patches (omega (arith, c.len-k.ensures.value)) in
    record { within = omega (arith, c.min-first.ensures, c.len.ensures.value, c.len-k.ensures.value); minimizes = ([], rw (none, c.new-needed.ensures.items, c.in_ok-sent.ensures) nothing) }

pub loop-k-preserved-then-branch : goal.loop-k-preserved-then-branch
loop-k-preserved-then-branch g c =
    let yes : c.in_ok-yields.field-0 ≡ true = c.if-branch.true in
    let needed = whole c.yields.new.needed (drop (length c.yields.new.needed) c.loop-k.needed.items) c.loop-k.needed.len (search rules) in
    let sent = whole c.yields.new.sent (drop (length c.yields.new.sent) c.loop-k.sent.items) c.loop-k.sent.len (search rules) in
    let way = rw (yes, c.as_mut_slice.ensures.value, c.as_mut_slice-in-loop-k.ensures.value) at c.in_ok-yields.ensures in
    let m = c.loop-k.invariant.minimizes in
    record {
      within = omega (arith, c.loop-k-test.true);
      minimizes = (way.0 ∷ m.0, rw (needed, sent) (more_goes NamedCommutes c.args.shared.now.patches c.loop-k.k c.patch-patch.result.now (omega (arith, c.loop-k-test.true)) c.patch-patch.ensures m.1 way.1));
    }

pub loop-k-preserved : goal.loop-k-preserved
loop-k-preserved g c =
    let no : c.in_ok-yields.field-0 ≡ false = c.if-branch.false in
    let way = rw no at c.in_ok-yields.ensures in
    let needed = whole c.yields.new.needed (drop (length c.yields.new.needed) c.loop-k.needed.items) c.loop-k.needed.len (search rules) ∙ way.0 ∙ c.as_mut_slice.ensures.value in
    let sent = whole c.yields.new.sent (drop (length c.yields.new.sent) c.loop-k.sent.items) c.loop-k.sent.len (search rules) ∙ way.1 ∙ c.as_mut_slice-in-loop-k.ensures.value in
    let stuck = rw (c.as_mut_slice.ensures.value, c.as_mut_slice-in-loop-k.ensures.value) at way.2 in
    let m = c.loop-k.invariant.minimizes in
    record {
      within = omega (arith, c.loop-k-test.true);
      minimizes = (
        m.0,
        rw (c.in_ok-insert.ensures.items, needed, sent, c.in_ok-copy_of.ensures)
            (more_stays NamedCommutes c.args.shared.now.patches c.loop-k.k c.patch-patch.result.now (omega (arith, c.loop-k-test.true)) c.patch-patch.ensures m.1 stuck),
      );
    }

pub returns : goal.returns
returns g c =
    let at_first : c.loop-k.k ≡ c.min-first.result = omega (arith, c.loop-k-test.false, c.loop-k.invariant.within) in
    let m = c.loop-k.invariant.minimizes in
    let names = rw (c.patches.ensures.value, c.deref.ensures.value, c.in_ok-needed.ensures) at c.in_ok-names.ensures in (
      take c.min-first.result c.args.shared.now.patches ++ c.loop-k.needed.items,
      m.0,
      names,
      rw c.in_ok-named_all.ensures
          (behind_first NamedCommutes c.args.base c.min-first.result c.args.shared.now.patches (rw c.len.ensures.value at c.min-first.ensures) (rw at_first at m.1)),
    )
