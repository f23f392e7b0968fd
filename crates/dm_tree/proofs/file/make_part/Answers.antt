use Rattle.std.proofs.Common.{◌∙◌, ap, sym, nat_eq}
use Rattle.dm_tree.specs.Files.{lines_of}
use Rattle.dm_tree.proofs.Copies.{pushed_some}
use Rattle.dm_tree.proofs.Joined.{blank_part}
use Rattle.dm_tree.proofs.Plain.{some_items, if_ok_err}
use Rattle.dm_tree.proofs.file.make_part.Goals as goal

pub returns-then-not-is_empty-clause-some : goal.returns-then-not-is_empty-clause-some
returns-then-not-is_empty-clause-some g c = some_items c.args.parts.now.items (ap (λ k. nat_eq k 0) (sym c.args.parts.now.ok.0) ∙ sym c.is_empty.ensures ∙ c.if-not-is_empty.true)

pub returns-in_err-reserve_exact-clause-some : goal.returns-in_err-reserve_exact-clause-some
returns-in_err-reserve_exact-clause-some g c = if_ok_err c.from_residual-in_err-reserve_exact.result _ c.from_residual-in_err-reserve_exact.ensures.0

pub returns-in_err-reserve_exact-clause-lines : goal.returns-in_err-reserve_exact-clause-lines
returns-in_err-reserve_exact-clause-lines g c = ap lines_of c.reserve_exact.ensures.items

pub returns-in_err-push-2-clause-some : goal.returns-in_err-push-2-clause-some
returns-in_err-push-2-clause-some g c = if_ok_err c.from_residual-in_err-push-2.result _ c.from_residual-in_err-push-2.ensures.0

pub returns-in_err-push-2-clause-lines : goal.returns-in_err-push-2-clause-lines
returns-in_err-push-2-clause-lines g c = ap lines_of (c.in_err-push-2.ensures.items ∙ c.reserve_exact.ensures.items)

pub returns-clause-some : goal.returns-clause-some
returns-clause-some g c = pushed_some c.reserve_exact.new.self.items c.push-2.new.self.items _ c.in_ok-push-2.ensures.items

pub returns-clause-lines : goal.returns-clause-lines
returns-clause-lines g c = blank_part c.args.parts.now.items c.reserve_exact.new.self.items c.push-2.new.self.items c.in_ok-text.text c.push.new.self (ap (λ k. nat_eq k 0) (sym c.args.parts.now.ok.0) ∙ sym c.is_empty.ensures ∙ c.if-not-is_empty.false) c.reserve_exact.ensures.items c.in_ok-push-2.ensures.items c.in_ok-push.ensures.ok c.in_ok-text.ensures
