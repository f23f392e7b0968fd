use Rattle.std.proofs.Common.{ap, ◌∙◌, take}
use Rattle.dm_hex.specs.Contents.{content}
use Rattle.dm_hex.proofs.ContentLemmas.{content_ended, cut_more, plain_before, plain_more, plain_whole}
use Rattle.dm_folder.proofs.cutting.lines_of.Goals as goal

pub push_plain-requires : goal.push_plain-requires
push_plain-requires c = plain_before c.loop-end.rest.now c.in-Some.end c.in-Some.ensures

pub loop-end-preserved : goal.loop-end-preserved
loop-end-preserved c = record {
  whole = cut_more c.args.bytes.now c.loop-end.lines c.push_plain.new.self c.loop-end.rest.now c.in-Some.end c.loop-end.invariant.whole c.in-Some.ensures c.in_ok-push_plain.ensures.ok;
  plain = plain_more c.loop-end.lines c.push_plain.new.self (take c.in-Some.end c.loop-end.rest.now) c.loop-end.invariant.plain (plain_before c.loop-end.rest.now c.in-Some.end c.in-Some.ensures) c.in_ok-push_plain.ensures.ok;
}

pub push_plain-requires-2 : goal.push_plain-requires-2
push_plain-requires-2 c = plain_whole c.loop-end.rest.now c.in_default.ensures

pub returns-clause-bytes : goal.returns-clause-bytes
returns-clause-bytes c = ap content c.in_ok-push_plain-2.ensures.ok ∙ content_ended c.loop-end.lines c.loop-end.rest.now ∙ c.loop-end.invariant.whole
