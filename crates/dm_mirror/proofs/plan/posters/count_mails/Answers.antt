use Rattle.std.proofs.Common.{arith, sym, map, []}
use Rattle.std.proofs.lemmas.List.{length-map}
use Rattle.dm_mirror.proofs.PlanLemmas.{few_at, mails_next}
use Rattle.dm_mirror.proofs.plan.posters.count_mails.Goals as goal

pub loop-texts-preserved : goal.loop-texts-preserved
loop-texts-preserved c =
    let inv = c.loop-texts.invariant in
    let few = few_at (λ text. text.now) (λ texts. texts.now) c.args.posters.now c.loop-texts.texts-index (record { ref_ptr = (0, 0); now = [] }) c.loop-texts-test.true c.requires.few in
    record {
      count = mails_next (λ texts. map (λ text. text.now) texts.now) c.args.posters.now c.loop-texts.texts-index _ c.loop-texts.count _ c.loop-texts-test.true (sym (length-map _ (λ text. text.now))) inv.count;
      most = omega (arith, few, inv.most);
    }
