-- A named patch leaves less of its text, and a fault of it stands in its text.
use Rattle.std.proofs.Common.{◌≤◌, ℕ, List, [], ◌∷◌, length, ap, arith, inl, inr}
use Rattle.std.specs.Prelude.{◌≢◌}
use Rattle.dm_info.proofs.SpellingLemmas.{stands_shorter}
use Rattle.dm_info.specs.PatchInfo.{PatchInfo}
use Rattle.dm_prim.specs.Primitives.{Prim}
use Rattle.dm_named.specs.Words.{skipped}
use Rattle.dm_named.specs.Many.{Many}
use Rattle.dm_named.specs.Patches.{NextInfo, Dependencies, Body, Patch, PatchTextIn}
use Rattle.dm_named.specs.Faults.{InfoFaultAt, BraceFaultAt, RunFaultAt, AfterPrimsWithin, PrimsFaultWithin, BodyFaultWithin, in_braces, in_run, DepsFaultAt, PatchFaultWithin, info, deps, body}
use Rattle.dm_named.specs.declared.fault.FaultKind.{FaultKind}
use Rattle.dm_named.specs.declared.fault.FaultKind.TheVariants as K
use Rattle.dm_named.specs.declared.limits.Limits.{Limits}
use Rattle.dm_named.specs.declared.limits.Kinds.{Kinds}
use Rattle.dm_named.proofs.Lengths.{skipped_shorter, run_shorter, prims_shorter, prim_place}
use Rattle.dm_named.proofs.OneFault.{info_kind, count_kind, brace_kind, run_kind, depends_kind}

pub infos_shorter : (text : List ℕ) (is : List PatchInfo) (rest : List ℕ) → Many NextInfo text is rest → length rest ≤ length text
infos_shorter text [] rest r = omega (arith, ap length r)
infos_shorter text (i ∷ is) rest r = omega (arith, infos_shorter r.0 is rest r.2, stands_shorter (skipped text) i r.0 r.1, skipped_shorter text)

depends_shorter : (text : List ℕ) (ds : List PatchInfo) (rest : List ℕ) → Dependencies text ds rest → length rest ≤ length text
depends_shorter text ds rest d =
    elim d [
      | inl x ↦ omega (arith, ap length x.opens, skipped_shorter text, infos_shorter x.inside ds x.mid x.read, ap length x.closes, skipped_shorter x.mid)
      | inr x ↦ omega (arith, ap length x.2)
    ]

body_shorter : (kinds : Kinds) (text : List ℕ) (ps : List Prim) (rest : List ℕ) → Body kinds text ps rest → length rest ≤ length text
body_shorter kinds text ps rest b =
    elim b [
      | inl x ↦ omega (arith, ap length x.opens, skipped_shorter text, run_shorter kinds x.inside ps x.mid x.read, ap length x.closes, skipped_shorter x.mid)
      | inr x ↦ run_shorter kinds text ps rest x.read
    ]

pub patch_shorter : (kinds : Kinds) (text : List ℕ) (p : Patch) (rest : List ℕ) → PatchTextIn kinds text p rest → length rest ≤ length text
patch_shorter kinds text p rest t = omega (arith, stands_shorter text p.info t.after t.info, depends_shorter t.after p.deps t.body t.deps, body_shorter kinds t.body p.prims rest t.prims)

-- ---- the places of faults

prims_place : (limits : Limits) (kind : FaultKind) (text here : List ℕ) → kind ≢ K.NoMemory → PrimsFaultWithin limits kind text here → length here ≤ length text
prims_place limits kind text here k f =
    let before = prims_shorter limits.kinds text f.prims f.mid f.read in
    elim f.wrong [
      | inl a ↦ (let c = count_kind limits kind (length f.prims) (skipped f.mid) here k a in omega (arith, ap length c.1, before, skipped_shorter text))
      | inr a ↦ omega (arith, prim_place kind (skipped f.mid) here k a.1.wrong, before, skipped_shorter text)
    ]

brace_place : (limits : Limits) (kind : FaultKind) (text here : List ℕ) → AfterPrimsWithin limits (λ _. BraceFaultAt limits.kinds kind) text here → length here ≤ length text
brace_place limits kind text here f = omega (arith, prims_shorter limits.kinds text f.prims f.mid f.read, skipped_shorter text, ap length (brace_kind limits.kinds kind (skipped f.mid) here f.wrong).0)

run_place : (limits : Limits) (kind : FaultKind) (text here : List ℕ) → AfterPrimsWithin limits (λ _. RunFaultAt limits.kinds kind) text here → length here ≤ length text
run_place limits kind text here f = omega (arith, prims_shorter limits.kinds text f.prims f.mid f.read, skipped_shorter text, ap length (run_kind limits.kinds kind (skipped f.mid) here f.wrong).1)

body_place : (limits : Limits) (kind : FaultKind) (text here : List ℕ) → kind ≢ K.NoMemory → BodyFaultWithin limits kind text here → length here ≤ length text
body_place limits kind text here k (in_braces inside opens f) =
    elim f [
      | inl a ↦ omega (arith, prims_place limits kind inside here k a, ap length opens, skipped_shorter text)
      | inr a ↦ omega (arith, brace_place limits kind inside here a, ap length opens, skipped_shorter text)
    ]
body_place limits kind text here k (in_run none f) = elim f [ inl a ↦ prims_place limits kind text here k a | inr a ↦ run_place limits kind text here a ]

deps_place : (kind : FaultKind) (text here : List ℕ) → kind ≢ K.NoMemory → DepsFaultAt kind text here → length here ≤ length text
deps_place kind text here k f =
    elim f.wrong [
      | inl a ↦ omega (arith, ap length f.opens, skipped_shorter text, infos_shorter f.inside a.infos a.mid a.read, skipped_shorter a.mid, ap length (info_kind kind (skipped a.mid) here k a.wrong).0)
      | inr a ↦ omega (arith, ap length f.opens, skipped_shorter text, infos_shorter f.inside a.infos a.mid a.read, skipped_shorter a.mid, ap length (depends_kind kind (skipped a.mid) here a.wrong).1)
    ]

pub patch_place : (limits : Limits) (kind : FaultKind) (text here : List ℕ) → kind ≢ K.NoMemory → PatchFaultWithin limits kind text here → length here ≤ length text
patch_place limits kind text here k (info f) = omega (arith, ap length (info_kind kind text here k f).0)
patch_place limits kind text here k (deps i after s f) = omega (arith, stands_shorter text i after s, deps_place kind after here k f)
patch_place limits kind text here k (body i ds after start s d f) = omega (arith, stands_shorter text i after s, depends_shorter after ds start d, body_place limits kind start here k f)

pub info_place : (kind : FaultKind) (text here : List ℕ) → kind ≢ K.NoMemory → InfoFaultAt kind text here → length here ≤ length text
info_place kind text here k f = omega (arith, ap length (info_kind kind text here k f).0)
