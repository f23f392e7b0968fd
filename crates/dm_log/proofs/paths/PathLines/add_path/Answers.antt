use Rattle.std.proofs.Common.{◌≡◌, refl}
use Rattle.dm_named.specs.Canonical.{path_text}
use Rattle.dm_log.specs.Collecting.{Collected}
use Rattle.dm_log.proofs.TouchedLemmas.{adds_new, adds_old, is_not, is_so, line_added, written}
use Rattle.dm_log.proofs.paths.PathLines.add_path.Goals as goal

pub returns-then-not-branch : goal.returns-then-not-branch
returns-then-not-branch g c =
    let f = c.args.path.now in
    let key : c.write_path.new.out.items ≡ path_text f = written _ _ (path_text f) c.in_ok-write_path.ensures.ok c.new-key.ensures.items in
    let before : Collected = record { keys = c.self.inside.keys; text = c.self.inside.text.items } in
    let after : Collected = record { keys = c.insert.new.self; text = c.self.inside.text.items } in
    rw (← c.self.view_is) (adds_old f c.in_ok-write_path.ensures.valid before after (rw key at c.in_ok-insert.ensures.noted) (rw key at (is_not _ _ _ c.if-not-branch.true c.in_ok-insert.ensures.is_new)) refl)

pub returns : goal.returns
returns g c =
    let f = c.args.path.now in
    let key : c.write_path.new.out.items ≡ path_text f = written _ _ (path_text f) c.in_ok-write_path.ensures.ok c.new-key.ensures.items in
    let before : Collected = record { keys = c.self.inside.keys; text = c.self.inside.text.items } in
    let after : Collected = record { keys = c.insert.new.self; text = c.push.new.self.items } in
    let text = line_added c.self.inside.text.items (path_text f) _ _ c.push.new.self.items c.in_ok-extend_from_slice.ensures.items c.in_ok-write_path-2.ensures.ok c.in_ok-push.ensures.items in
    rw (← c.self.view_is) (adds_new f c.in_ok-write_path.ensures.valid before after (rw key at c.in_ok-insert.ensures.noted) (rw key at (is_so _ _ _ c.if-not-branch.false c.in_ok-insert.ensures.is_new)) text)
