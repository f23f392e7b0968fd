-- Reading fewer kinds of primitives only chooses among the bundles that are read.
use Rattle.std.proofs.Common.{ℕ, List, [], ◌∷◌}
use Rattle.std.specs.Prelude.{◌↔◌}
use Rattle.dm_named.specs.Many.{Many}
use Rattle.dm_named.specs.Words.{skipped}
use Rattle.dm_named.specs.Kinds.{IsOf, IsWritable, AreOf, AreWritable}
use Rattle.dm_named.specs.Patches.{Patch}
use Rattle.dm_named.specs.declared.limits.Kinds.{Kinds}
use Rattle.dm_named.specs.declared.limits.Kinds.TheVariants as these
use Rattle.dm_named.proofs.ChosenKinds.{patch_chosen}
use Rattle.dm_prim.specs.Primitives.{Prim}
use Rattle.dm_bundle.specs.Patches.{NextPatch, AreAllOf, AreAllWritable}
use Rattle.dm_bundle.specs.Bundles.{Contents, BundleTextIn}

pub patches_in_all : (kinds : Kinds) (text : List ℕ) (ps : List Patch) (rest : List ℕ) → Many (NextPatch kinds) text ps rest → Many (NextPatch these.All) text ps rest × AreAllOf kinds ps
patches_in_all kinds text [] rest r = (r, tt)
patches_in_all kinds text (p ∷ ps) rest r =
    let first = (patch_chosen kinds (skipped text) p r.0).0 r.1 in
    let more = patches_in_all kinds r.0 ps rest r.2 in
    ((r.0, first.0, more.0), (first.1, more.1))

patches_chosen : (kinds : Kinds) (text : List ℕ) (ps : List Patch) (rest : List ℕ) → Many (NextPatch these.All) text ps rest → AreAllOf kinds ps → Many (NextPatch kinds) text ps rest
patches_chosen kinds text [] rest r of_kinds = r
patches_chosen kinds text (p ∷ ps) rest r of_kinds = (r.0, (patch_chosen kinds (skipped text) p r.0).1 (r.1, of_kinds.0), patches_chosen kinds r.0 ps rest r.2 of_kinds.1)

pub bundle_chosen : (kinds : Kinds) (text : List ℕ) (b : Contents) → BundleTextIn kinds text b ↔ (BundleTextIn these.All text b × AreAllOf kinds b.patches)
bundle_chosen kinds text b = (
  λ t.
      let s = t.sections in
      let ps = patches_in_all kinds t.new b.patches s.between s.patches.read in (
        record { new = t.new; heading = t.heading; sections = record { between = s.between; after_word = s.after_word; patches = record { read = ps.0; distinct = s.patches.distinct }; word = s.word; context = s.context } },
        ps.1,
      ),
  λ x.
      let t = x.0 in
      let s = t.sections in
      record {
        new = t.new;
        heading = t.heading;
        sections = record { between = s.between; after_word = s.after_word; patches = record { read = patches_chosen kinds t.new b.patches s.between s.patches.read x.1; distinct = s.patches.distinct }; word = s.word; context = s.context };
      },
)

-- ---- what has bytes only can be written, if it is of the kinds

one_writable : (kinds : Kinds) (p : Prim) → IsWritable these.All p → IsOf kinds p → IsWritable kinds p
one_writable these.Six p bytes of_kinds = of_kinds
one_writable these.All p bytes of_kinds = bytes

prims_writable : (kinds : Kinds) (ps : List Prim) → AreWritable these.All ps → AreOf kinds ps → AreWritable kinds ps
prims_writable kinds [] bytes of_kinds = tt
prims_writable kinds (p ∷ ps) bytes of_kinds = (one_writable kinds p bytes.0 of_kinds.0, prims_writable kinds ps bytes.1 of_kinds.1)

pub all_writable : (kinds : Kinds) (ps : List Patch) → AreAllWritable these.All ps → AreAllOf kinds ps → AreAllWritable kinds ps
all_writable kinds [] bytes of_kinds = tt
all_writable kinds (p ∷ ps) bytes of_kinds = (prims_writable kinds p.prims bytes.0 of_kinds.0, all_writable kinds ps bytes.1 of_kinds.1)
