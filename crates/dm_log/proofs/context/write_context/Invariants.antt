use Rattle.std.proofs.Common.{◌≡◌, ◌∷◌, ◌++◌, take, reverse}
use Rattle.std.specs.List.{flat_map}
use Rattle.std.specs.Prelude.{codes}
use Rattle.dm_named.specs.Canonical.{info_line}
use Rattle.dm_bundle.specs.Patches.{infos_of}
use Rattle.dm_log.proofs.context.write_context.Given as goal

abbrev pub invariant-loop-k : goal.invariant-loop-k
invariant-loop-k g l = l.text.items ≡ codes "\nContext:\n\n" ++ flat_map (λ i. 10 ∷ info_line i) (take l.k (reverse (infos_of (g.P.Patches.patches l.patches))))
