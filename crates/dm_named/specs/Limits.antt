-- The limits of reading: the most bytes of a text, new patches of a bundle, primitives of a patch, and replaces of a bundle, and the
-- kinds of primitives.
use Rattle.std.specs.Prelude.{◌*◌}
use Rattle.dm_named.specs.declared.limits.Limits.{Limits}
use Rattle.dm_named.specs.declared.limits.Kinds.TheVariants as these

-- for a text that somebody else wrote
abbrev pub standard : Limits
standard = record { bytes = 4194304; patches = 1000; prims = 10000; replaces = 500; kinds = these.Six }

-- for the text of a repository of one's own: each primitive may be a replace
abbrev pub own : Limits
own = record { bytes = 1073741824; patches = 100000; prims = 1000000; replaces = 100000 * 1000000; kinds = these.Six }
