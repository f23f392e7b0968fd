use Rattle.std.proofs.Common.{ap, rules}
use Rattle.dm_prim.specs.Hunks.{HunkParts}
use Rattle.dm_prim.proofs.TableLemmas.{valid_at}
use Rattle.dm_prim.proofs.hunk.Hunk.at.Goals as goal

pub invariant_of-result : goal.invariant_of-result
invariant_of-result g c = valid_at (record { path = c.self.inside.path; line = c.self.inside.line; old = c.self.inside.old; new = c.self.inside.new }) c.args.path c.self.invariant (search rules)

pub returns : goal.returns
returns g c = ap (λ (h : HunkParts). record h { path = c.args.path }) c.self.view_is
