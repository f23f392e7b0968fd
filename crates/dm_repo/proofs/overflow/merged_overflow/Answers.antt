use Rattle.std.proofs.Common.{◌≡◌, inl, refl, ◌∙◌, length}
use Rattle.std.proofs.lemmas.Result.{err_from_is_err_and}
use Rattle.dm_repo.proofs.OverflowLemmas.{merged_told}
use Rattle.dm_repo.proofs.overflow.merged_overflow.Goals as goal

pub returns-in_err-merging : goal.returns-in_err-merging
returns-in_err-merging g c = λ b fits. let p = err_from_is_err_and c.from_residual.result c.from_residual.ensures.1 in rw (p.1, p.2) (c.in_err-merging.ensures c.args.repo.now.patches b c.args.basis.rest.items (inl refl) fits)

pub returns-then-is_too_many : goal.returns-then-is_too_many
returns-then-is_too_many g c = λ b fits full.
    let m = c.in_ok-merging.merging in
    let count : c.len-2.result ≡ length m.merged.items = c.len-2.ensures ∙ m.merged.ok.0 in
    record {
      rest = c.args.basis.rest.items;
      new = c.args.basis.new.items;
      merged = m.merged.items;
      skipped = m.skipped;
      fits = fits;
      merges = c.in_ok-merging.ensures c.args.repo.now.patches b c.args.basis.rest.items (inl refl) fits;
      are_many = rw (c.len.ensures.value, count) at (c.if-is_too_many.ensures.0 refl);
    }

pub returns-in_err-tree : goal.returns-in_err-tree
returns-in_err-tree g c = λ b fits. let p = err_from_is_err_and c.from_residual-in_err-tree.result c.from_residual-in_err-tree.ensures.1 in rw (p.1, p.2) ((λ e. cc), tt)

pub returns-in_err-found : goal.returns-in_err-found
returns-in_err-found g c = λ b fits. let p = err_from_is_err_and c.from_residual-in_err-found.result c.from_residual-in_err-found.ensures.1 in rw (p.1, p.2) ((λ e. cc), tt)

pub returns : goal.returns
returns g c = λ b fits.
    let repo = c.args.repo.now.patches in
    let t = c.in_ok-tree.ensures in
    merged_told repo b c.args.policy c.args.basis.rest.items c.args.basis.new.items c.in_ok-merging.merging.merged.items c.in_ok-merging.merging.skipped fits (c.in_ok-merging.ensures repo b c.args.basis.rest.items (inl refl) fits) t.2 c.in_ok-found.found (c.in_ok-found.ensures t.0 t.1)
