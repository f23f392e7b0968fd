use Rattle.std.proofs.Common.{ap, subst, length, ◌∙◌}
use Rattle.dm_prim.specs.Commuting.{IsValidPrim}
use Rattle.dm_prim.specs.Hunks.{HunkParts, hunk_of}
use Rattle.dm_prim.proofs.hunk.Hunk.span.Goals as goal

pub returns-clause-line : goal.returns-clause-line
returns-clause-line g c = ap (λ (h : HunkParts). h.line) c.self.view_is

pub returns-clause-old : goal.returns-clause-old
returns-clause-old g c = c.len.ensures.value ∙ ap (λ (h : HunkParts). length h.old) c.self.view_is

pub returns-clause-new : goal.returns-clause-new
returns-clause-new g c = c.len-2.ensures.value ∙ ap (λ (h : HunkParts). length h.new) c.self.view_is

pub returns-clause-valid : goal.returns-clause-valid
returns-clause-valid g c = subst (λ (h : HunkParts). IsValidPrim (hunk_of h)) c.self.view_is c.self.invariant
