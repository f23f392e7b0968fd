use Rattle.std.proofs.Common.{◌≡◌, ◌<◌, ◌≤◌, ◌^◌, arith, ◌∙◌, length, ap, sym, subst, refl}
use Rattle.std.specs.List.{splice}
use Rattle.dm_tree.specs.Trees.{Lines}
use Rattle.dm_tree.specs.Files.{joined, lines_of}
use Rattle.dm_tree.specs.Validity.{ArePlain}
use Rattle.dm_tree.proofs.Joined.{lines_of-joined, size_spliced, size_fits, range_within, plain_spliced}
use Rattle.dm_tree.proofs.Plain.{if_err}
use Rattle.dm_tree.proofs.file.File.splice.Goals as goal

pub overflow_sub-end : goal.overflow_sub-end
overflow_sub-end g c = c.requires.order

pub overflow_sub-self-inside : goal.overflow_sub-self-inside
overflow_sub-self-inside g c = range_within c.args.self.now c.args.start c.args.end c.self.inside.count (c.self.invariant.0 ∙ ap length c.self.view_is) c.requires.within

pub returns-in_err-count-clause-err : goal.returns-in_err-count-clause-err
returns-in_err-count-clause-err g c = if_err c.from_residual.result _ refl

pub invariant_of-self : goal.invariant_of-self
invariant_of-self g c = (c.self.invariant.0 ∙ ap length (sym c.make_part.ensures.lines), subst ArePlain (sym c.make_part.ensures.lines) c.self.invariant.1)

pub returns-in_err-make_part-clause-err : goal.returns-in_err-make_part-clause-err
returns-in_err-make_part-clause-err g c = if_err c.from_residual-in_err-make_part.result _ (c.make_part.ensures.lines ∙ c.self.view_is)

pub replace-requires-clause-some : goal.replace-requires-clause-some
replace-requires-clause-some g c = c.in_ok-make_part.ensures.some

pub replace-requires-clause-order : goal.replace-requires-clause-order
replace-requires-clause-order g c = c.requires.order

pub replace-requires-clause-within : goal.replace-requires-clause-within
replace-requires-clause-within g c =
    let now = sym (lines_of-joined c.make_part.new.parts.items c.in_ok-make_part.ensures.some) ∙ c.make_part.ensures.lines ∙ c.self.view_is in
    subst (λ (l : Lines). c.args.end ≤ length l) (sym now) c.requires.within

pub replace-requires-clause-fits : goal.replace-requires-clause-fits
replace-requires-clause-fits g c =
    let now = sym (lines_of-joined c.make_part.new.parts.items c.in_ok-make_part.ensures.some) ∙ c.make_part.ensures.lines in
    let fits : c.in_ok-count.count < 2 ^ 64 = omega arith in
    size_fits (joined c.make_part.new.parts.items) c.args.start c.args.end c.self.inside.count (length c.args.fresh.now) c.in_ok-count.count (c.self.invariant.0 ∙ ap length (sym now)) (rw c.len.ensures at c.in_ok-count.ensures) fits

pub invariant_of-self-in_err-replace : goal.invariant_of-self-in_err-replace
invariant_of-self-in_err-replace g c =
    let same = ap lines_of c.in_err-replace.ensures.err ∙ c.make_part.ensures.lines in
    (c.self.invariant.0 ∙ ap length (sym same), subst ArePlain (sym same) c.self.invariant.1)

pub returns-in_err-replace-clause-err : goal.returns-in_err-replace-clause-err
returns-in_err-replace-clause-err g c = if_err c.from_residual-in_err-replace.result _ (ap lines_of c.in_err-replace.ensures.err ∙ c.make_part.ensures.lines ∙ c.self.view_is)

new_lines : (g : _) (c : goal.After-self-1 g) → lines_of c.replace.new.parts.items ≡ splice c.args.self.now c.args.start c.args.end c.args.fresh.now
new_lines g c =
    let now = sym (lines_of-joined c.make_part.new.parts.items c.in_ok-make_part.ensures.some) ∙ c.make_part.ensures.lines ∙ c.self.view_is in
    lines_of-joined c.replace.new.parts.items c.replace.ensures.some ∙ c.in_ok-replace.ensures.ok ∙ ap (λ (l : Lines). splice l c.args.start c.args.end c.args.fresh.now) now

pub invariant_of-self-2 : goal.invariant_of-self-2
invariant_of-self-2 g c = (
  size_spliced c.args.self.now c.args.fresh.now (lines_of c.replace.new.parts.items) c.args.start c.args.end c.self.inside.count c.len.result c.in_ok-count.count c.requires.order c.requires.within (c.self.invariant.0 ∙ ap length c.self.view_is)
      (new_lines g c) c.len.ensures c.in_ok-count.ensures,
  subst ArePlain (sym (new_lines g c)) (plain_spliced c.args.self.now c.args.fresh.now c.args.start c.args.end (subst ArePlain c.self.view_is c.self.invariant.1) c.requires.plain),
)

pub returns-clause-ok : goal.returns-clause-ok
returns-clause-ok g c = new_lines g c
