use Rattle.std.proofs.Common.{◌≡◌, ◌∷◌, ◌++◌, [], List, Vec, Global, ap, map, refl, sym, subst, take_all, true≢false, ◌∙◌}
use Rattle.serde_json.specs.Data.{string}
use Rattle.serde_json.specs.View.{view}
use Rattle.serde_json.specs.declared.value.Value.{Value}
use Rattle.dm_info.specs.PatchInfo.{PatchInfo}
use Rattle.dm_log.specs.Finding.{hash_text}
use Rattle.dm_log.proofs.JsonLemmas.{values_more}
use Rattle.dm_rests.specs.Rests.{Directly, nothing}
use Rattle.dm_rests.proofs.RestLemmas.{another_more, hashes_told, one_more}
use Rattle.dm_rests.proofs.lines.direct_value.Goals as goal
use Rattle.dm_rests.proofs.lines.direct_value.Goals.{then-same+in_ok-hash_value+in_ok-push, else-same}

pub loop-pair-init : goal.loop-pair-init
loop-pair-init c = ([], nothing, ap (map view) c.new-list.ensures.items)

pub loop-pair-preserved : goal.loop-pair-preserved
loop-pair-preserved c =
    let info = c.args.info.now in
    let pairs = c.args.bound.now in
    let k = c.loop-pair.pair-index in
    let p = c.pair-item.result in
    let so_far = c.loop-pair.invariant in
    elim c.if-same.branch [
      | then-same+in_ok-hash_value+in_ok-push w ↦ (
        so_far.0 ++ p.0 ∷ [],
        one_more info pairs k p so_far.0 c.loop-pair-test.true c.pair-item.is so_far.1 (c.same.ensures.0 w.if-same.true),
        subst (λ (l : Vec Value Global). map view l.items ≡ map (λ i. string (hash_text i)) (so_far.0 ++ p.0 ∷ [])) (sym w.list-is)
            (values_more (λ i. string (hash_text i)) so_far.0 (so_far.0 ++ p.0 ∷ []) p.0 c.loop-pair.list.items w.push.new.self.items w.in_ok-hash_value.field-0 refl so_far.2 w.in_ok-push.ensures.items w.in_ok-hash_value.ensures),
      )
      | else-same w ↦ (
        so_far.0,
        another_more info pairs k p so_far.0 c.loop-pair-test.true c.pair-item.is so_far.1 (λ e. true≢false (sym (c.same.ensures.1 e) ∙ w.if-same.false)),
        subst (λ (l : Vec Value Global). map view l.items ≡ map (λ i. string (hash_text i)) so_far.0) (sym w.list-is) so_far.2,
      )
    ]

pub returns : goal.returns
returns c =
    let found = c.loop-pair.invariant in (
      found.0,
      subst (λ (ps : List (PatchInfo × PatchInfo)). Directly c.args.info.now ps found.0) (take_all c.loop-pair.pair-index c.args.bound.now c.loop-pair-test.false) found.1,
      hashes_told found.0 c.loop-pair.list found.2,
    )
