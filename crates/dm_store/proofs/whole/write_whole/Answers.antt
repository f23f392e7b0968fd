use Rattle.std.proofs.Common.{arith, List, length, ap, length-append, refl}
use Rattle.dm_named.specs.Patches.{Patch}
use Rattle.dm_bundle.specs.Canonical.{bundle_text}
use Rattle.dm_repo.proofs.Members.{none_of}
use Rattle.dm_store.specs.Entries.{all_of}
use Rattle.dm_store.proofs.EntryLemmas.{begun_entry}
use Rattle.dm_store.proofs.WholeLemmas.{entry_takes}
use Rattle.dm_store.proofs.whole.write_whole.Goals as goal

pub returns-clause-takes : goal.returns-clause-takes
returns-clause-takes c =
    let repo = c.args.repo.now.patches in
    let text = bundle_text (all_of repo) in
    let joined = rw c.patches-patches.ensures.value at c.in_ok-push_bundle.ensures.text in
    let stands = rw c.patches-patches.ensures.value at c.in_ok-push_bundle.ensures.stands in
    let of_kinds = rw c.patches-patches.ensures.value at c.if-not-are_of.ensures in
    entry_takes c.args.kinds c.args.base repo text c.push_bundle.new.out.items
    (begun_entry c.args.base text _ _ c.in_ok-entry.ensures joined)
    c.ranges.base.fits
    ((rw c.patches-patches.ensures.value at c.if-not-may_be_base.ensures).0 refl)
    c.patches-patches.ensures.valid
    (λ e. absurd (omega (arith, c.if-len-eq0.false, c.len.ensures.value, ap (λ (l : List Patch). length l) e)))
    (stands (record { distinct = c.patches-patches.ensures.valid.distinct; apart = λ i h k. none_of k }) c.args.kinds of_kinds)
    (omega (arith, c.if-len-front.false, c.len-2.ensures, c.push_bundle.new.out.ok.0, c.len-front.ensures, c.in_ok-entry.entry.ok.0, ap length joined, length-append c.in_ok-entry.entry.items text))
    (rw c.patches-patches.ensures.value at c.if-not-are_within.ensures)
