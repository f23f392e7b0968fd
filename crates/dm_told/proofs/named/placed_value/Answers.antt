use Rattle.std.proofs.Common.{refl}
use Rattle.dm_told.proofs.named.placed_value.Goals as goal

pub returns : goal.returns
returns c =
    rw (c.into_value.ensures, c.in_ok-put_text.ensures, c.in_ok-put-2.ensures, c.in_ok-put.ensures, c.new-object.ensures, c.in_ok-hash_value.ensures, c.from.ensures, c.name.ensures) refl
