-- Dependencies and bodies.
use Rattle.std.proofs.Common.{◌≡◌, ◌≤◌, ◌<◌, ℕ, List, length, drop, subst, arith, inr}
use Rattle.std.proofs.lemmas.List.{length-drop}
use Rattle.dm_info.proofs.SpellingLemmas.{stands_shorter}
use Rattle.dm_info.specs.PatchInfo.{PatchInfo}
use Rattle.dm_info.specs.Spelling.{Stands}
use Rattle.dm_prim.specs.Primitives.{Prim}
use Rattle.dm_named.specs.Words.{skipped, WordAmong, Begins, NextByte}
use Rattle.dm_named.specs.Patches.{NextPrim, NextInfo, prim_words_of, unsupported_words_of, Body}
use Rattle.dm_named.specs.Faults.{OpenFaultAt, BraceFaultAt, RunFaultAt, BodyFaultWithin, in_braces, in_run}
use Rattle.dm_named.specs.Many.{Many}
use Rattle.dm_named.specs.declared.fault.FaultKind.{FaultKind}
use Rattle.dm_named.specs.declared.fault.FaultKind.TheVariants.{BadDepends, Unsupported}
use Rattle.dm_named.specs.declared.limits.Limits.{Limits}
use Rattle.dm_named.specs.declared.limits.Kinds.{Kinds}
use Rattle.dm_named.proofs.KindLemmas.{run_ends}

-- a patch info takes up some of the text
pub info_forward : (text : List ℕ) (at next : ℕ) (i : PatchInfo) → Stands (drop at text) i (drop next text) → at < next
info_forward text at next i s = omega (arith, length-drop at text, length-drop next text, stands_shorter (drop at text) i (drop next text) s)

pub open_deps : (mid inside close : List ℕ) (is : List PatchInfo) → Many NextInfo inside is mid → close ≡ skipped mid → (Begins 91 (skipped mid) → ⊥) → (Begins 62 close → ⊥) → OpenFaultAt BadDepends inside close
open_deps mid inside close is r c closed other =
    record { infos = is; mid = mid; read = r; wrong = (c, closed, subst (λ (t : List ℕ). Begins 62 t → ⊥) c other) }

pub brace_wrong : (limits : Limits) (kind : FaultKind) (text inside mid here : List ℕ) (ps : List Prim) → NextByte 123 text inside → Many (NextPrim limits.kinds) inside ps mid → length ps ≤ limits.prims → here ≡ skipped mid → BraceFaultAt limits.kinds kind here here → BodyFaultWithin limits kind text here
brace_wrong limits kind text inside mid here ps m r few e w =
    in_braces inside m (inr (record { prims = ps; mid = mid; read = r; few = few; wrong = subst (λ (t : List ℕ). BraceFaultAt limits.kinds kind t here) e w }))

pub run_wrong : (limits : Limits) (text mid here : List ℕ) (ps : List Prim) → (Begins 123 (skipped text) → ⊥) → Many (NextPrim limits.kinds) text ps mid → length ps ≤ limits.prims → here ≡ skipped mid → RunFaultAt limits.kinds Unsupported here here → BodyFaultWithin limits Unsupported text here
run_wrong limits text mid here ps bare r few e w = in_run bare (inr (record { prims = ps; mid = mid; read = r; few = few; wrong = subst (λ (t : List ℕ). RunFaultAt limits.kinds Unsupported t here) e w }))

pub a_run : (kinds : Kinds) (text mid here : List ℕ) (ps : List Prim) → (Begins 123 (skipped text) → ⊥) → Many (NextPrim kinds) text ps mid → (WordAmong (prim_words_of kinds) (skipped mid) → ⊥) → here ≡ skipped mid → (WordAmong (unsupported_words_of kinds) here → ⊥) → (Begins 40 here → ⊥) → Body kinds text ps mid
a_run kinds text mid here ps bare r prims e others paren =
    inr (record {
      bare = bare;
      read = r;
      ends = run_ends kinds (skipped mid) prims (subst (λ (t : List ℕ). WordAmong (unsupported_words_of kinds) t → ⊥) e others) (subst (λ (t : List ℕ). Begins 40 t → ⊥) e paren);
    })
