use Rattle.std.proofs.Common.{◌<◌, ◌≤◌, ◌≡◌, [], length, take, get_or, true, false, refl, ap, ◌∙◌, arith}
use Rattle.std.proofs.lemmas.Result.{err_from_is_err_and}
use Rattle.dm_folder.specs.Faults.{First, Unlisted}
use Rattle.dm_folder.specs.Walks.{refused_in, rows_in}
use Rattle.dm_folder.proofs.KeepLemmas.{keeps_both, walk_kept}
use Rattle.dm_folder.proofs.WalkLemmas.{as_many, dir_here, grown, next, row_here, walk_first, walk_more, walk_on}
use Rattle.dm_folder.proofs.walking.walk_folder.Goals as goal
use Rattle.dm_folder.proofs.walking.walk_folder.Goals.{then-index+in_ok-copy_into+in_ok-list_into-2+in-In-1, then-index+in_ok-copy_into+in_ok-list_into-2+in-Top-1, else-index}

pub returns-in_err-list_into-clause-err : goal.returns-in_err-list_into-clause-err
returns-in_err-list_into-clause-err g c =
    let p = err_from_is_err_and c.from_residual.result c.from_residual.ensures.1 in
    rw (p.1, p.2) (Unlisted [] (First refl) c.in_err-list_into.ensures.err)

pub loop-i-init : goal.loop-i-init
loop-i-init g c =
    let o = c.in_ok-list_into.ensures.ok in
    record {
      walk = walk_first (g.S.Source.Lists c.list_into.new.source) c.args.special c.args.top.now o.0 (rows_in c.list_into.new.walk.rows.items) (refused_in c.list_into.new.walk.refused.items) o.1 (rw c.new.ensures.items at o.2) (rw c.new-2.ensures.items at o.3);
      within = omega arith;
      keeps = c.in_ok-list_into.ensures.keeps;
    }

pub returns-in_err-list_into-2-clause-err : goal.returns-in_err-list_into-2-clause-err
returns-in_err-list_into-2-clause-err g c =
    let p = err_from_is_err_and c.from_residual-in_err-list_into-2.result c.from_residual-in_err-list_into-2.ensures.1 in
    let rows = c.loop-i.walk.rows.items in
    let i = c.loop-i.i in
    let path = c.in_ok-copy_into.field-0 in
    let lt : i < length rows = omega (arith, c.loop-i-test.true, c.len.ensures) in
    let here : get_or (rows_in rows) i (path, true) ≡ (path, true) = dir_here rows i c.index.result.now c.index-then-index.result.now path lt c.index.ensures c.if-index.true c.index-then-index.ensures c.in_ok-copy_into.ensures in
    let within : i < length (rows_in rows) = omega (arith, as_many rows, lt) in
    let lists = g.S.Source.Lists c.list_into-then-index.new.source in
    let walk = walk_kept (g.S.Source.Lists c.loop-i.source) lists c.in_err-list_into-2.ensures.keeps.lists_stay c.args.special c.args.top.now (take i (rows_in rows)) (rows_in rows) (refused_in c.loop-i.walk.refused.items) c.loop-i.invariant.walk in
    rw (p.1, p.2) (Unlisted path (next lists c.args.special c.args.top.now i (path, true) path (rows_in rows) (refused_in c.loop-i.walk.refused.items) walk within here) c.in_err-list_into-2.ensures.err)

pub returns-in_err-copy_into-clause-keeps : goal.returns-in_err-copy_into-clause-keeps
returns-in_err-copy_into-clause-keeps g c = c.loop-i.invariant.keeps

pub returns-in_err-list_into-2-clause-keeps : goal.returns-in_err-list_into-2-clause-keeps
returns-in_err-list_into-2-clause-keeps g c = keeps_both c.loop-i.invariant.keeps c.in_err-list_into-2.ensures.keeps

pub returns-clause-keeps : goal.returns-clause-keeps
returns-clause-keeps g c = c.loop-i.invariant.keeps

pub loop-i-preserved : goal.loop-i-preserved
loop-i-preserved g c =
    let rows = c.loop-i.walk.rows.items in
    let refused = refused_in c.loop-i.walk.refused.items in
    let i = c.loop-i.i in
    let before = g.S.Source.Lists c.loop-i.source in
    let lt : i < length rows = omega (arith, c.loop-i-test.true, c.len.ensures) in
    let within : i < length (rows_in rows) = omega (arith, as_many rows, lt) in
    elim c.if-index.branch [
      | then-index+in_ok-copy_into+in_ok-list_into-2+in-In-1 w ↦
          let path = w.in_ok-copy_into.field-0 in
          let here : get_or (rows_in rows) i (path, true) ≡ (path, true) = dir_here rows i c.index.result.now w.index-then-index.result.now path lt c.index.ensures w.if-index.true w.index-then-index.ensures w.in_ok-copy_into.ensures in
          let o = w.in_ok-list_into-2.ensures.ok in
          let lists = g.S.Source.Lists w.list_into-then-index.new.source in
          let walk = walk_kept before lists w.in_ok-list_into-2.ensures.keeps.lists_stay c.args.special c.args.top.now (take i (rows_in rows)) (rows_in rows) refused c.loop-i.invariant.walk in
          let now = w.list_into-then-index.new.walk in
          let more : length rows ≤ length now.rows.items = grown rows now.rows.items _ o.2 in
          rw (w.walk-is, w.source-is) (record {
            walk = walk_more lists c.args.special c.args.top.now i (path, true) path o.0 (rows_in rows) (rows_in now.rows.items) refused (refused_in now.refused.items) walk within here o.1 o.2 o.3;
            within = omega (arith, more, lt);
            keeps = keeps_both c.loop-i.invariant.keeps w.in_ok-list_into-2.ensures.keeps;
          })
      | then-index+in_ok-copy_into+in_ok-list_into-2+in-Top-1 w ↦
          let path = w.in_ok-copy_into.field-0 in
          let here : get_or (rows_in rows) i (path, true) ≡ (path, true) = dir_here rows i c.index.result.now w.index-then-index.result.now path lt c.index.ensures w.if-index.true w.index-then-index.ensures w.in_ok-copy_into.ensures in
          let o = w.in_ok-list_into-2.ensures.ok in
          let lists = g.S.Source.Lists w.list_into-then-index.new.source in
          let walk = walk_kept before lists w.in_ok-list_into-2.ensures.keeps.lists_stay c.args.special c.args.top.now (take i (rows_in rows)) (rows_in rows) refused c.loop-i.invariant.walk in
          let now = w.list_into-then-index.new.walk in
          let more : length rows ≤ length now.rows.items = grown rows now.rows.items _ o.2 in
          rw (w.walk-is, w.source-is) (record {
            walk = walk_more lists c.args.special c.args.top.now i (path, true) path o.0 (rows_in rows) (rows_in now.rows.items) refused (refused_in now.refused.items) walk within here o.1 o.2 o.3;
            within = omega (arith, more, lt);
            keeps = keeps_both c.loop-i.invariant.keeps w.in_ok-list_into-2.ensures.keeps;
          })
      | else-index w ↦
          let x = c.index.result.now in
          rw (w.walk-is, w.source-is) (record {
            walk = walk_on before c.args.special c.args.top.now i (x.path, false) x.path (rows_in rows) refused c.loop-i.invariant.walk within (row_here rows i x lt c.index.ensures (x.path, false) ∙ ap (λ b. (x.path, b)) w.if-index.false);
            within = omega (arith, lt);
            keeps = c.loop-i.invariant.keeps;
          })
    ]
