-- A text that stands for a bundle of some kinds of primitives does so where more kinds are read.
use Rattle.std.proofs.Common.{ℕ, List}
use Rattle.dm_named.specs.declared.limits.Kinds.{Kinds}
use Rattle.dm_named.specs.declared.limits.Kinds.TheVariants as these
use Rattle.dm_bundle.specs.Bundles.{Contents, BundleTextIn}
use Rattle.dm_bundle.proofs.ChosenKinds.{bundle_chosen}
use Rattle.dm_converge.specs.Pools.{AreAmong}

pub among_stands : (few many : Kinds) (text : List ℕ) (b : Contents) → AreAmong few many → BundleTextIn few text b → BundleTextIn many text b
among_stands few these.All text b among h = ((bundle_chosen few text b).0 h).0
among_stands these.Six these.Six text b among h = h
among_stands these.All these.Six text b among h = absurd among
