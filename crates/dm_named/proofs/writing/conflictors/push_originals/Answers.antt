use Rattle.std.proofs.Common.{ap, ◌∙◌, ◌++◌}
use Rattle.std.specs.List.{flat_map}
use Rattle.std.proofs.lemmas.List.{take_all}
use Rattle.dm_prim.specs.Commuting.{IsValidPrim}
use Rattle.dm_named.specs.Kinds.{HasBytes}
use Rattle.dm_named.specs.Conflictors.{EachOfOriginal}
use Rattle.dm_named.specs.CanonicalConflictors.{original_text}
use Rattle.dm_named.proofs.NamedLemmas.{all_more, text_next}
use Rattle.dm_named.proofs.writing.conflictors.push_originals.Goals as goal

pub loop-original-preserved : goal.loop-original-preserved
loop-original-preserved g c =
    let originals = c.args.originals.now in
    let i = c.loop-original.original-index in
    let so = c.loop-original.invariant in
    record {
      text = text_next original_text originals i c.original-item.result c.args.out.now.items c.loop-original.out.items c.push_original.new.out.items c.loop-original-test.true c.original-item.is so.text c.in_ok-push_original.ensures.text;
      valid = all_more (EachOfOriginal IsValidPrim) originals i c.original-item.result c.loop-original-test.true c.original-item.is c.in_ok-push_original.ensures.valid so.valid;
      bytes = all_more (EachOfOriginal HasBytes) originals i c.original-item.result c.loop-original-test.true c.original-item.is c.in_ok-push_original.ensures.bytes so.bytes;
    }

pub returns-clause-text : goal.returns-clause-text
returns-clause-text g c = c.loop-original.invariant.text ∙ ap (λ os. c.args.out.now.items ++ flat_map original_text os) (take_all c.loop-original.original-index c.args.originals.now c.loop-original-test.false)

pub returns-clause-valid : goal.returns-clause-valid
returns-clause-valid g c = rw (take_all c.loop-original.original-index c.args.originals.now c.loop-original-test.false) at c.loop-original.invariant.valid

pub returns-clause-bytes : goal.returns-clause-bytes
returns-clause-bytes g c = rw (take_all c.loop-original.original-index c.args.originals.now c.loop-original-test.false) at c.loop-original.invariant.bytes
