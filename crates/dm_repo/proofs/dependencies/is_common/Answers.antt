use Rattle.std.proofs.Common.{◌<◌, true, sym, ◌∙◌, arith, length}
use Rattle.std.proofs.lemmas.Bool.{false≢true}
use Rattle.dm_bundle.specs.Patches.{infos_of}
use Rattle.dm_repo.proofs.Keeps.{common_held}
use Rattle.dm_repo.proofs.Splits.{mark_at}
use Rattle.dm_repo.proofs.MarksLemmas.{within, read_true}
use Rattle.dm_repo.proofs.dependencies.is_common.Goals as goal

pub index-requires : goal.index-requires
index-requires g c =
    let l = within (infos_of c.args.repo.now.patches) c.in-Some.k (rw c.in-Some.is at c.in_ok-find.ensures) in
    omega (arith, l, c.requires.marks.common_is.length_is, c.args.marks.now.common.ok.0)

pub returns-in-None : goal.returns-in-None
returns-in-None g c =
    let none = rw c.in-None.is at c.in_ok-find.ensures in
    ((λ e. absurd (false≢true e)), λ h. absurd (none (common_held c.args.repo.now.patches c.args.bundle.now c.requires.valid.earlier c.requires.marks.knows c.args.info.now h)))

pub returns-in-Some : goal.returns-in-Some
returns-in-Some g c =
    let marks = c.args.marks.now.common.items in
    let found = rw c.in-Some.is at c.in_ok-find.ensures in
    let f = c.requires.marks.common_is.at c.in-Some.k c.args.info.now found in
    let w = within (infos_of c.args.repo.now.patches) c.in-Some.k found in
    let l : c.in-Some.k < length marks = omega (arith, w, c.requires.marks.common_is.length_is) in
    ((λ e. f.0 (mark_at marks c.in-Some.k true c.index.result.now l (sym c.index.ensures ∙ e))), λ h. c.index.ensures ∙ sym (read_true marks c.in-Some.k c.index.result.now (f.1 h)))
