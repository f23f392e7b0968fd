use Rattle.std.proofs.Common.{◌<◌, length, sym, ◌∙◌, arith}
use Rattle.std.proofs.lemmas.Map.Text.{btree_set_updates_text}
use Rattle.std.specs.String.{string_bytes}
use Rattle.std.specs.Str.{bytes_eq}
use Rattle.dm_checkout.specs.Repositories.{folder_text, is_called}
use Rattle.dm_checkout.proofs.RepositoryLemmas.{folder_added, folder_passed, inside_more}
use Rattle.dm_checkout.proofs.repositories.folders_with.Goals as goal
use Rattle.dm_checkout.proofs.repositories.folders_with.Goals.{then-branch+in_ok-folder_of+in_ok-insert, else-branch}

pub loop-row-preserved : goal.loop-row-preserved
loop-row-preserved g c folder =
    let rows = c.args.rows.now in
    let i = c.loop-row.row-index in
    let x = c.row-item.result in
    let word = c.args.word.now in
    let lt : i < length rows = omega arith in
    let more = inside_more word rows i x folder lt c.row-item.is in
    elim c.if-branch.branch [
      | then-branch+in_ok-folder_of+in_ok-insert w ↦
          let updated = btree_set_updates_text (string_bytes w.in_ok-folder_of.field-0) c.loop-row.folders w.insert.new.self _ w.in_ok-insert.ensures.updates folder in
          rw w.folders-is (folder_added _ _ _ (is_called word x.path) (bytes_eq (folder_text x.path) folder) (rw w.in_ok-folder_of.ensures at updated) (c.loop-row.invariant folder) (sym c.in_ok-is_called.ensures ∙ w.if-branch.true) ∙ sym more)
      | else-branch w ↦ rw w.folders-is (folder_passed _ _ (is_called word x.path) (bytes_eq (folder_text x.path) folder) (c.loop-row.invariant folder) (sym c.in_ok-is_called.ensures ∙ w.if-branch.false) ∙ sym more)
    ]
