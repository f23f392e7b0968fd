use Rattle.std.proofs.Common.{◌≡◌, ℕ, ◌+◌, ◌<◌, List, [], ◌∷◌, ◌++◌, length, take, get_or, ap, ap₂, sym, ◌∙◌}
use Rattle.std.proofs.lemmas.List.{take_all, take_more, map_push}
use Rattle.dm_info.specs.PatchInfo.{PatchInfo}
use Rattle.dm_named.specs.Patches.{Patch}
use Rattle.dm_bundle.specs.Patches.{infos_of}
use Rattle.dm_repo.proofs.names.copy_names.Goals as goal

-- the names of one more patch
named_more : (xs : List Patch) (k : ℕ) (x : Patch) (names : List PatchInfo) (n : PatchInfo) → k < length xs → x ≡ get_or xs k x → names ≡ infos_of (take k xs) → n ≡ x.info → names ++ n ∷ [] ≡ infos_of (take (k + 1) xs)
named_more xs k x names n l e s m =
    ap₂ (λ a b. a ++ b ∷ []) s (m ∙ ap (λ (p : Patch). p.info) e) ∙ sym (map_push (λ (p : Patch). p.info) (take k xs) (get_or xs k x)) ∙ ap infos_of (sym (take_more xs k x l))

pub loop-patch-preserved : goal.loop-patch-preserved
loop-patch-preserved g c =
    let e = c.in_ok-copy_into.ensures ∙ c.info.ensures in
    c.in_ok-push.ensures.items ∙ named_more c.args.patches.now c.loop-patch.patch-index c.patch-item.result c.loop-patch.names.items c.in_ok-copy_into.field-0 c.loop-patch-test.true c.patch-item.is c.loop-patch.invariant e

pub returns : goal.returns
returns g c = rw (take_all c.loop-patch.patch-index c.args.patches.now c.loop-patch-test.false) at c.loop-patch.invariant
