use Rattle.std.proofs.Common.{◌≡◌, inr, subst}
use Rattle.dm_scratch.proofs.ReadLemmas.{no_err, reads}
use Rattle.dm_deliver.specs.Dates.{AllReadable, IsFirstUnread, TellsDate}
use Rattle.dm_deliver.proofs.date_rule.unread_date.Goals as goal

pub returns-in-Some-clause-some : goal.returns-in-Some-clause-some
returns-in-Some-clause-some c =
    let b = c.in-Ok.bundle in
    let patch = c.in-Some.patch.now in
    let within = reads c.args.limits c.args.text.now b c.in-Ok.ensures.ok c.in-Ok.ensures.few (λ large. no_err b _ (c.in-Ok.ensures.too_large large)) in
    let patches : c.new_patches.result.now ≡ b.patches = c.new_patches.ensures.value in
    record {
      bundle = b;
      reads = within;
      patch = patch;
      first = subst (λ ps. IsFirstUnread ps patch) patches c.in-Some.ensures.some;
      told = subst (λ i. TellsDate c.args.text.now i c.in_ok-at-in-Some.at) c.info.ensures c.in_ok-at-in-Some.ensures;
    }

pub returns-clause-none : goal.returns-clause-none
returns-clause-none c =
    let b = c.in-Ok.bundle in
    let within = reads c.args.limits c.args.text.now b c.in-Ok.ensures.ok c.in-Ok.ensures.few (λ large. no_err b _ (c.in-Ok.ensures.too_large large)) in
    let patches : c.new_patches.result.now ≡ b.patches = c.new_patches.ensures.value in
    inr (record { bundle = b; reads = within; readable = subst AllReadable patches c.in-None.ensures.none })
