-- A named patch of no more primitives than there may be has no fault but out of memory.
use Rattle.std.proofs.Common.{◌≡◌, ◌≤◌, ◌<◌, ℕ, List, [], ◌∷◌, ◌++◌, length, refl, inl, inr, subst, arith}
use Rattle.std.proofs.lemmas.List.{length-append}
use Rattle.dm_info.proofs.SpellingLemmas.{one_info}
use Rattle.dm_prim.specs.Primitives.{Prim}
use Rattle.dm_named.specs.Words.{skipped, WordAmong}
use Rattle.dm_named.specs.Many.{Many}
use Rattle.dm_named.specs.Patches.{NextPrim, Dependencies, Body, prim_words_of, Patch, PatchTextIn}
use Rattle.dm_named.specs.Faults.{PrimFaultAt, path, second, hunk, binary, replace, preference, PrimsFaultWithin, BodyFaultWithin, in_braces, in_run, DepsFaultAt, PatchFaultWithin, info, deps, body}
use Rattle.dm_named.specs.declared.fault.FaultKind.{FaultKind}
use Rattle.dm_named.specs.declared.fault.FaultKind.TheVariants as K
use Rattle.dm_named.specs.declared.limits.Limits.{Limits}
use Rattle.dm_named.specs.declared.limits.Kinds.{Kinds}
use Rattle.dm_named.proofs.KindLemmas.{no_close_word, no_prim_ends}
use Rattle.dm_named.proofs.ManyLemmas.{many_follows}
use Rattle.dm_named.proofs.OnePatch.{one_next, no_next, one_depends}
use Rattle.dm_named.proofs.NoPatch.{no_patch, tail_same}

not_in_prim : (text here : List ℕ) → PrimFaultAt K.TooMany text here → ⊥
not_in_prim text here (path stands f) = f
not_in_prim text here (second p mid s f) = f
not_in_prim text here (hunk p mid s f) = f
not_in_prim text here (binary p mid s f) = f
not_in_prim text here (replace p mid s f) = f
not_in_prim text here (preference mid s f) = f

goes_on : (kinds : Kinds) (most : ℕ) (ps more qs : List Prim) (mid rest : List ℕ) → qs ≡ ps ++ more → length ps ≡ most → Many (NextPrim kinds) mid more rest → (mid ≡ rest → ⊥) → most < length qs
goes_on kinds most ps [] qs mid rest e n r other = absurd (other r)
goes_on kinds most ps (p ∷ more) qs mid rest e n r other = rw e (omega (arith, length-append ps (p ∷ more)))

-- where one is too many, more stand there than there may be
pub past_prims : (limits : Limits) (text here : List ℕ) → PrimsFaultWithin limits K.TooMany text here → (qs : List Prim) (s : List ℕ) → Many (NextPrim limits.kinds) text qs s → (WordAmong (prim_words_of limits.kinds) (skipped s) → ⊥) → limits.prims < length qs
past_prims limits text here f qs s r closed =
    elim f.wrong [
      | inl n ↦
          let m = many_follows (NextPrim limits.kinds) (one_next limits.kinds) text f.prims qs f.mid s f.read r (no_next limits.kinds s closed) in
          goes_on limits.kinds limits.prims f.prims m.0 qs f.mid s m.1 n.1 m.2 (λ e. closed (subst (λ (t : List ℕ). WordAmong (prim_words_of limits.kinds) (skipped t)) e n.2))
      | inr w ↦ absurd (not_in_prim (skipped f.mid) here w.1.wrong)
    ]

past_body : (limits : Limits) (text here : List ℕ) → BodyFaultWithin limits K.TooMany text here → (qs : List Prim) (r : List ℕ) → Body limits.kinds text qs r → limits.prims < length qs
past_body limits text here (in_braces inside opens f) qs r b =
    elim b [
      | inl x ↦
          let same = tail_same 123 (skipped text) x.inside inside x.opens opens in
          let read = subst (λ (t : List ℕ). Many (NextPrim limits.kinds) t qs x.mid) same x.read in
          elim f [ inl g ↦ past_prims limits inside here g qs x.mid read (no_close_word limits.kinds (skipped x.mid) r x.closes) | inr g ↦ absurd g.wrong ]
      | inr x ↦ absurd (x.bare (inside, opens))
    ]
past_body limits text here (in_run bare f) qs r b =
    elim b [
      | inl x ↦ absurd (bare (x.inside, x.opens))
      | inr x ↦ elim f [ inl g ↦ past_prims limits text here g qs r x.read (no_prim_ends limits.kinds (skipped r) x.ends) | inr g ↦ absurd g.wrong ]
    ]

not_in_deps : (text here : List ℕ) → DepsFaultAt K.TooMany text here → ⊥
not_in_deps text here f = elim f.wrong [ inl g ↦ g.wrong | inr g ↦ g.wrong ]

pub past_patch : (limits : Limits) (text here : List ℕ) → PatchFaultWithin limits K.TooMany text here → (p : Patch) (r : List ℕ) → PatchTextIn limits.kinds text p r → limits.prims < length p.prims
past_patch limits text here (info f) p r t = absurd f
past_patch limits text here (deps i after s f) p r t = absurd (not_in_deps after here f)
past_patch limits text here (body i ds after start s d f) p r t =
    let one = one_info text p.info i t.after after t.info s in
    let two = one_depends after p.deps ds t.body start (subst (λ (x : List ℕ). Dependencies x p.deps t.body) one.1 t.deps) d in
    past_body limits start here f p.prims r (subst (λ (x : List ℕ). Body limits.kinds x p.prims r) two.1 t.prims)

pub memory_alone : (limits : Limits) (kind : FaultKind) (text here : List ℕ) → PatchFaultWithin limits kind text here → (p : Patch) (r : List ℕ) → PatchTextIn limits.kinds text p r → length p.prims ≤ limits.prims → kind ≡ K.NoMemory
memory_alone limits K.NoMemory text here f p r t few = refl
memory_alone limits K.TooMany text here f p r t few = let more = past_patch limits text here f p r t in absurd (omega arith)
memory_alone limits kind text here f p r t few = absurd (no_patch limits kind text here (record { memory = λ e. cc; count = λ e. cc }) f p r t)
