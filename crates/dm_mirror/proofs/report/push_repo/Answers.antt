use Rattle.std.proofs.Common.{ℕ, ◌++◌, ap, ◌∙◌}
use Rattle.std.specs.Prelude.{codes, length}
use Rattle.std.specs.Fmt.{decimal}
use Rattle.dm_scratch.specs.Printing.{line_of, listing_text}
use Rattle.dm_mirror.proofs.ReportLemmas.{both_printed}
use Rattle.dm_mirror.proofs.report.push_repo.Goals as goal

pub returns : goal.returns
returns c =
    let out = c.args.out.now.items in
    let tree = c.tree.result.now in
    let line = c.in_ok-push_count.ensures ∙ ap (λ (n : ℕ). out ++ line_of (codes "patches " ++ decimal n)) c.len.ensures.value in (
      tree,
      c.tree.ensures,
      both_printed out c.push_count.new.out.items c.push_listing.new.out.items (line_of (codes "patches " ++ decimal (length c.args.repo.now.patches))) (listing_text tree) line c.in_ok-push_listing.ensures,
    )
