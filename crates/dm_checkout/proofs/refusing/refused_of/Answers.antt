use Rattle.std.proofs.Common.{◌<◌, [], ◌++◌, length, map, sym, ap, ◌∙◌, arith}
use Rattle.dm_checkout.specs.Places.{place_text}
use Rattle.dm_checkout.specs.Repositories.{refused_when, why_unsafe}
use Rattle.dm_checkout.proofs.RepositoryLemmas.{refused_more}
use Rattle.dm_checkout.proofs.refusing.refused_of.Goals as goal

pub loop-row-preserved : goal.loop-row-preserved
loop-row-preserved g c =
    let rows = c.args.rows.now in
    let i = c.loop-row.row-index in
    let x = c.row-item.result in
    let all = map (λ row. row.path) rows in
    let lt : i < length rows = omega arith in
    c.in_ok-add_refused.ensures all c.in_ok-parts.ensures
    ∙ ap (λ xs. xs ++ refused_when (why_unsafe all x.path) (place_text [] x.path)) c.loop-row.invariant
    ∙ sym (refused_more all rows i x lt c.row-item.is)
