use Rattle.std.proofs.Common.{ap}
use Rattle.dm_prim.specs.Hunks.{HunkParts}
use Rattle.dm_prim.proofs.TableLemmas.{valid_at_line}
use Rattle.dm_prim.proofs.hunk.Hunk.at_line.Goals as goal

pub invariant_of-result : goal.invariant_of-result
invariant_of-result g c = valid_at_line (record { path = c.self.inside.path; line = c.self.inside.line; old = c.self.inside.old; new = c.self.inside.new }) c.args.line c.self.invariant c.requires

pub returns : goal.returns
returns g c = ap (λ (h : HunkParts). record h { line = c.args.line }) c.self.view_is
