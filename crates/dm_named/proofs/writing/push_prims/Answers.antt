use Rattle.std.proofs.Common.{ap, ◌∙◌, ◌++◌}
use Rattle.std.specs.List.{flat_map}
use Rattle.std.proofs.lemmas.List.{take_all}
use Rattle.dm_prim.specs.Prims.{prim_of, prims_of}
use Rattle.dm_prim.specs.Commuting.{IsValidPrim}
use Rattle.dm_named.specs.Kinds.{HasBytes}
use Rattle.dm_named.specs.Canonical.{prim_text}
use Rattle.dm_named.proofs.NamedLemmas.{all_more_of, text_more}
use Rattle.dm_named.proofs.writing.push_prims.Goals as goal

pub loop-prim-preserved : goal.loop-prim-preserved
loop-prim-preserved g c =
    let prims = c.args.prims.now in
    let i = c.loop-prim.prim-index in
    let so = c.loop-prim.invariant in
    record {
      text = text_more prim_text prim_of prims i c.prim-item.result c.args.out.now.items c.loop-prim.out.items c.push_prim.new.out.items c.loop-prim-test.true c.prim-item.is so.text c.in_ok-push_prim.ensures.text;
      valid = all_more_of IsValidPrim prim_of prims i c.prim-item.result c.loop-prim-test.true c.prim-item.is c.in_ok-push_prim.ensures.valid so.valid;
      bytes = all_more_of HasBytes prim_of prims i c.prim-item.result c.loop-prim-test.true c.prim-item.is c.in_ok-push_prim.ensures.bytes so.bytes;
    }

pub returns-clause-text : goal.returns-clause-text
returns-clause-text g c = c.loop-prim.invariant.text ∙ ap (λ ps. c.args.out.now.items ++ flat_map prim_text (prims_of ps)) (take_all c.loop-prim.prim-index c.args.prims.now c.loop-prim-test.false)

pub returns-clause-valid : goal.returns-clause-valid
returns-clause-valid g c = rw (take_all c.loop-prim.prim-index c.args.prims.now c.loop-prim-test.false) at c.loop-prim.invariant.valid

pub returns-clause-bytes : goal.returns-clause-bytes
returns-clause-bytes g c = rw (take_all c.loop-prim.prim-index c.args.prims.now c.loop-prim-test.false) at c.loop-prim.invariant.bytes
