use Rattle.std.proofs.Common.{◌<◌, ◌+◌, length, take, drop, sym, subst, List, Bool, arith}
use Rattle.std.proofs.lemmas.Result.{err_from_is_err_and}
use Rattle.dm_tree.specs.Paths.{Path}
use Rattle.dm_folder.specs.Walks.{rows_in}
use Rattle.dm_folder.specs.Builds.{IsBuilt}
use Rattle.dm_folder.proofs.BuildLemmas.{built_more}
use Rattle.dm_folder.proofs.KeepLemmas.{built_kept, keeps_both}
use Rattle.dm_folder.proofs.WalkLemmas.{row_parted, row_taken}
use Rattle.dm_folder.proofs.building.build.Goals as goal

pub returns-in_err-add_row-clause-err : goal.returns-in_err-add_row-clause-err
returns-in_err-add_row-clause-err g c =
    let p = err_from_is_err_and c.from_residual.result c.from_residual.ensures.1 in
    let rows = c.args.rows.now in
    let i = c.loop-row.row-index in
    let x = c.row-item.result in
    let lt : i < length rows = omega arith in
    let holds = g.S.Source.Holds c.add_row.new.source in
    rw (p.1, p.2) (record {
      before = take i (rows_in rows);
      path = x.path;
      dir = x.is_dir;
      after = drop (i + 1) (rows_in rows);
      rows_are = row_parted rows i x lt c.row-item.is;
      so_far = c.loop-row.tree;
      is_built = built_kept (g.S.Source.Holds c.loop-row.source) holds c.in_err-add_row.ensures.keeps.holds_stay c.args.top.now (take i (rows_in rows)) c.loop-row.tree c.loop-row.invariant.built;
      row_fault = c.in_err-add_row.ensures.err;
    })

pub returns-in_err-add_row-clause-keeps : goal.returns-in_err-add_row-clause-keeps
returns-in_err-add_row-clause-keeps g c = keeps_both c.loop-row.invariant.keeps c.in_err-add_row.ensures.keeps

pub loop-row-preserved : goal.loop-row-preserved
loop-row-preserved g c =
    let rows = c.args.rows.now in
    let i = c.loop-row.row-index in
    let x = c.row-item.result in
    let o = c.in_ok-add_row.ensures.ok in
    let lt : i < length rows = omega arith in
    let holds = g.S.Source.Holds c.add_row.new.source in
    let P : List (Path × Bool) → Type 0 = λ xs. IsBuilt holds c.args.top.now xs c.add_row.new.tree in
    let built = built_kept (g.S.Source.Holds c.loop-row.source) holds c.in_ok-add_row.ensures.keeps.holds_stay c.args.top.now (take i (rows_in rows)) c.loop-row.tree c.loop-row.invariant.built in
    record {
      built = subst P (sym (row_taken rows i x lt c.row-item.is)) (built_more holds c.args.top.now (take i (rows_in rows)) x.path x.is_dir o.0 c.loop-row.tree c.add_row.new.tree built o.1 o.2 o.3 o.4);
      keeps = keeps_both c.loop-row.invariant.keeps c.in_ok-add_row.ensures.keeps;
    }

pub returns-clause-keeps : goal.returns-clause-keeps
returns-clause-keeps g c = c.loop-row.invariant.keeps
