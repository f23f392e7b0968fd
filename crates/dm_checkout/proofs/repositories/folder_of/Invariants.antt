use Rattle.std.proofs.Common.{◌≡◌, [], take}
use Rattle.dm_checkout.specs.Places.{place_text}
use Rattle.dm_checkout.proofs.repositories.folder_of.Given as goal

abbrev pub invariant-loop-i : goal.invariant-loop-i
invariant-loop-i g l = l.place.items ≡ place_text [] (take l.i l.path)
