use Rattle.std.proofs.Common.{List, arith, subst}
use Rattle.dm_named.specs.Laws.{with_kinds}
use Rattle.dm_named.specs.Limits.{standard}
use Rattle.dm_named.specs.Patches.{Patch}
use Rattle.dm_bundle.specs.Patches.{AreAllOf, AreFewWithin}
use Rattle.dm_commands.proofs.send.text_of.Goals as goal

pub returns-clause-reads : goal.returns-clause-reads
returns-clause-reads c =
    let kinds = c.args.kinds in
    let few : AreFewWithin (with_kinds standard kinds) c.args.bundle.now.patches = rw (c.with_kinds-limits.ensures, c.new_patches.ensures.value) at c.if-not-are_within.ensures in
    record {
      stands = c.in_ok-text.ensures.stands kinds (subst (λ (l : List Patch). AreAllOf kinds l) c.new_patches-2.ensures.value c.if-not-are_of.ensures);
      small = omega (arith, c.if-len.false);
      few = few;
    }
