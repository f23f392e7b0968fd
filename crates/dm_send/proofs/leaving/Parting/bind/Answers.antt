use Rattle.std.proofs.Common.{◌≡◌, refl, ap, ◌∙◌}
use Rattle.std.proofs.lemmas.Option.{get_or_from_slice_get}
use Rattle.dm_named.specs.Patches.{Patch}
use Rattle.dm_send.proofs.leaving.Parting.bind.Goals as goal

pub returns : goal.returns
returns g c = λ r at.
    let name : c.in_ok-name.name ≡ c.args.patch.info = c.in_ok-name.ensures ∙ c.info.ensures ∙ ap (λ (p : Patch). p.info) c.named.ensures in
    let there : c.index.result.now ≡ r = c.index.ensures ∙ get_or_from_slice_get c.args.self.go.items c.args.k r c.index.result.now at in
    let by : c.in_ok-by.by ≡ r.info = c.in_ok-by.ensures ∙ c.info-2.ensures ∙ ap (λ (p : Patch). p.info) (c.named-2.ensures ∙ there) in
    (refl, c.in_ok-push-2.ensures.items, rw (name, by) at c.in_ok-push.ensures.items)
