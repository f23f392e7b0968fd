use Rattle.std.proofs.Common.{◌≡◌, ◌++◌, List, ℕ, append_assoc, refl}
use Rattle.std.specs.Prelude.{codes}
use Rattle.std.specs.List.{flat_map}
use Rattle.dm_log.specs.Shown.{digits, shown}
use Rattle.dm_log.specs.Dates.{date_text}
use Rattle.dm_log.specs.Entries.{labelled, line_text, patch_hash, title}
use Rattle.dm_log.proofs.entry.push_entry.Goals as goal

joined : (s a b c d e t u v w x : List ℕ) → t ≡ s ++ a → u ≡ t ++ b → v ≡ u ++ c → w ≡ v ++ d → x ≡ w ++ e → x ≡ s ++ (a ++ b ++ c ++ d ++ e)
joined s a b c d e t u v w x f g h i j = rw (j, i, h, g, f) (simp append_assoc refl)

pub returns : goal.returns
returns g c =
    let info = c.args.info.now in
    joined c.args.out.now.items (labelled (codes "patch ") (flat_map digits (patch_hash info))) (labelled (codes "Author: ") (shown info.author)) (labelled (codes "Date:   ") (date_text info.date)) (title info.name) (flat_map line_text info.log)
    c.push_hash_line.new.out.items c.push_labelled.new.out.items c.push_date_line.new.out.items c.push_title.new.out.items c.push_lines.new.out.items
    c.in_ok-push_hash_line.ensures
    (rw c.author.ensures at c.in_ok-push_labelled.ensures)
    (rw c.date.ensures at c.in_ok-push_date_line.ensures)
    (rw c.name.ensures at c.in_ok-push_title.ensures)
    c.in_ok-push_lines.ensures
