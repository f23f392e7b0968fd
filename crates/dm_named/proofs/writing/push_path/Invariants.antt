use Rattle.std.proofs.Common.{◌≡◌, ◌++◌, ◌∷◌, take}
use Rattle.std.specs.List.{flat_map}
use Rattle.dm_named.specs.Canonical.{byte_text}
use Rattle.dm_named.proofs.writing.push_path.Given as goal

abbrev pub invariant-loop-i : goal.invariant-loop-i
invariant-loop-i g l = l.out.items ≡ l.fn.out.items ++ 46 ∷ flat_map (λ n. 47 ∷ flat_map byte_text n) (take l.i l.path)
