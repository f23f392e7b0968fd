-- A fault within the six kinds is the one within all kinds, or it says that a wider word is unsupported, which stands no later.
use Rattle.std.proofs.Common.{◌≡◌, ◌≤◌, ℕ, List, [], ◌∷◌, ◌++◌, ◌∙◌, length, refl, sym, ap, subst, arith, inl, inr}
use Rattle.std.specs.Prelude.{◌≢◌, ◌⊎◌}
use Rattle.std.proofs.lemmas.List.{length-append}
use Rattle.dm_info.proofs.SpellingLemmas.{one_info}
use Rattle.dm_info.specs.PatchInfo.{PatchInfo}
use Rattle.dm_info.specs.Spelling.{Stands}
use Rattle.dm_prim.specs.Primitives.{Prim}
use Rattle.dm_named.specs.Words.{skipped, WordAmong, Begins, NextByte}
use Rattle.dm_named.specs.Many.{Many}
use Rattle.dm_named.specs.Patches.{NextPrim, Dependencies, Body, Patch, PatchTextIn, RunEnds, wider_words, unsupported_words, unsupported_words_of, prim_words_of}
use Rattle.dm_named.specs.Faults.{CountFaultWithin, PrimFaultOf, BraceFaultAt, RunFaultAt, AfterPrimsWithin, PrimsFaultWithin, BodyFaultWithin, in_braces, in_run, PatchFaultWithin, info, deps, body}
use Rattle.dm_named.specs.Laws.{with_kinds, FaultOfSix}
use Rattle.dm_named.specs.declared.fault.FaultKind.{FaultKind}
use Rattle.dm_named.specs.declared.fault.FaultKind.TheVariants as K
use Rattle.dm_named.specs.declared.limits.Limits.{Limits}
use Rattle.dm_named.specs.declared.limits.Kinds.TheVariants as these
use Rattle.dm_named.proofs.KindLemmas.{other_words, prim_in_all, wider_refused, six_refused, no_close_word, no_prim_ends}
use Rattle.dm_named.proofs.ManyLemmas.{meet, many_follows}
use Rattle.dm_named.proofs.ChosenKinds.{prims_in_all}
use Rattle.dm_named.proofs.Lengths.{prim_shorter, run_shorter, prims_shorter, prim_place}
use Rattle.dm_named.proofs.OnePatch.{one_next, no_next, one_depends}
use Rattle.dm_named.proofs.NoPatch.{no_info, no_deps, tail_same}
use Rattle.dm_named.proofs.OneFault.{Wrongs, NoFurther, Next, next_no_further, brace_no_further, run_no_further, count_kind, brace_kind, run_kind, one_patch_fault}

abbrev pub six : Limits → Limits
six limits = with_kinds limits these.Six

abbrev pub all : Limits → Limits
all limits = with_kinds limits these.All

-- ---- where a wider word stands

-- after primitives, no more than the limits allow
pub record WiderAfter (limits : Limits) (text here : List ℕ) : Type 0 where
  pub prims : List Prim
  pub mid : List ℕ
  pub read : Many (NextPrim these.All) text prims mid
  pub few : length prims ≤ limits.prims
  pub place : here ≡ skipped mid
  pub word : WordAmong wider_words here

-- in a body
pub data WiderBody (limits : Limits) (text here : List ℕ) : Type 0 where
  braced : (inside : List ℕ) → NextByte 123 text inside → WiderAfter limits inside here → WiderBody limits text here
  bare : (Begins 123 (skipped text) → ⊥) → WiderAfter limits text here → WiderBody limits text here

-- in a named patch
pub record WiderPatch (limits : Limits) (text here : List ℕ) : Type 0 where
  pub info : PatchInfo
  pub deps : List PatchInfo
  pub after : List ℕ
  pub start : List ℕ
  pub stands : Stands text info after
  pub depends : Dependencies after deps start
  pub wider : WiderBody limits start here

-- ---- a fault within the six kinds is one within all kinds, or a wider word

count_in_all : (limits : Limits) (kind : FaultKind) (count : ℕ) (text here : List ℕ) → CountFaultWithin (six limits) kind count text here → CountFaultWithin (all limits) kind count text here
count_in_all limits K.TooMany count text here f = (f.0, f.1, other_words (prim_words_of these.Six) (prim_words_of these.All) text (prim_in_all these.Six) f.2)
count_in_all limits K.NoMemory count text here f = tt
count_in_all limits kind count text here f = absurd f

prim_in_all_kinds : (kind : FaultKind) (text here : List ℕ) → PrimFaultOf these.Six kind text here → PrimFaultOf these.All kind text here
prim_in_all_kinds kind text here f = record { due = other_words (prim_words_of these.Six) (prim_words_of these.All) text (prim_in_all these.Six) f.due; wrong = f.wrong }

prims_fault : (limits : Limits) (kind : FaultKind) (text here : List ℕ) → PrimsFaultWithin (six limits) kind text here → PrimsFaultWithin (all limits) kind text here
prims_fault limits kind text here f =
    record {
      prims = f.prims;
      mid = f.mid;
      read = prims_in_all these.Six text f.prims f.mid f.read;
      few = f.few;
      wrong = elim f.wrong [ inl a ↦ inl (count_in_all limits kind (length f.prims) (skipped f.mid) here a) | inr a ↦ inr (a.0, prim_in_all_kinds kind (skipped f.mid) here a.1) ];
    }

-- what stands there is refused within all kinds too, or it is a wider word
refused : (text here : List ℕ) → here ≡ text → WordAmong (unsupported_words_of these.Six) text → WordAmong (unsupported_words_of these.All) text ⊎ WordAmong wider_words here
refused text here e a =
    elim (six_refused a.word a.among) [
      | inl w ↦ inr (subst (WordAmong wider_words) (sym e) (record { word = a.word; rest = a.rest; stands = a.stands; among = w }))
      | inr o ↦ inl (record { word = a.word; rest = a.rest; stands = a.stands; among = o })
    ]

-- the fault is that within all kinds, or a wider word stands there
abbrev OrWider : FaultKind → Type 0 → List ℕ → List ℕ → Type 0
OrWider kind F text here = F ⊎ ((kind ≡ K.Unsupported) × (here ≡ text) × WordAmong wider_words here)

brace_in_all : (kind : FaultKind) (text here : List ℕ) → BraceFaultAt these.Six kind text here → OrWider kind (BraceFaultAt these.All kind text here) text here
brace_in_all K.Unclosed text here f = inl f
brace_in_all K.Unsupported text here f = elim f.1 [ inl w ↦ elim (refused text here f.0 w) [ inl o ↦ inl (f.0, inl o) | inr o ↦ inr (refl, f.0, o) ] | inr o ↦ inl (f.0, inr o) ]
brace_in_all K.BadPatch text here f = inl f
brace_in_all kind text here f = absurd f

run_in_all : (kind : FaultKind) (text here : List ℕ) → RunFaultAt these.Six kind text here → OrWider kind (RunFaultAt these.All kind text here) text here
run_in_all K.Unsupported text here f = elim f.1 [ inl w ↦ elim (refused text here f.0 w) [ inl o ↦ inl (f.0, inl o) | inr o ↦ inr (refl, f.0, o) ] | inr o ↦ inl (f.0, inr o) ]
run_in_all kind text here f = absurd f

after_in_all : (limits : Limits) (kind : FaultKind) (F G : List ℕ → List ℕ → Type 0) → ((text here : List ℕ) → F text here → OrWider kind (G text here) text here) → (text here : List ℕ) → AfterPrimsWithin (six limits) (λ _. F) text here
    → AfterPrimsWithin (all limits) (λ _. G) text here ⊎ ((kind ≡ K.Unsupported) × WiderAfter limits text here)
after_in_all limits kind F G into text here f =
    let read = prims_in_all these.Six text f.prims f.mid f.read in
    elim (into (skipped f.mid) here f.wrong) [
      | inl g ↦ inl (record { prims = f.prims; mid = f.mid; read = read; few = f.few; wrong = g })
      | inr w ↦ inr (w.0, record { prims = f.prims; mid = f.mid; read = read; few = f.few; place = w.1; word = w.2 })
    ]

body_in_all : (limits : Limits) (kind : FaultKind) (text here : List ℕ) → BodyFaultWithin (six limits) kind text here → BodyFaultWithin (all limits) kind text here ⊎ ((kind ≡ K.Unsupported) × WiderBody limits text here)
body_in_all limits kind text here (in_braces inside opens f) =
    elim f [
      | inl a ↦ inl (in_braces inside opens (inl (prims_fault limits kind inside here a)))
      | inr a ↦ elim (after_in_all limits kind (BraceFaultAt these.Six kind) (BraceFaultAt these.All kind) (brace_in_all kind) inside here a) [ inl g ↦ inl (in_braces inside opens (inr g)) | inr w ↦ inr (w.0, braced inside opens w.1) ]
    ]
body_in_all limits kind text here (in_run none f) =
    elim f [
      | inl a ↦ inl (in_run none (inl (prims_fault limits kind text here a)))
      | inr a ↦ elim (after_in_all limits kind (RunFaultAt these.Six kind) (RunFaultAt these.All kind) (run_in_all kind) text here a) [ inl g ↦ inl (in_run none (inr g)) | inr w ↦ inr (w.0, bare none w.1) ]
    ]

pub patch_in_all : (limits : Limits) (kind : FaultKind) (text here : List ℕ) → PatchFaultWithin (six limits) kind text here → PatchFaultWithin (all limits) kind text here ⊎ ((kind ≡ K.Unsupported) × WiderPatch limits text here)
patch_in_all limits kind text here (info f) = inl (info f)
patch_in_all limits kind text here (deps i after s f) = inl (deps i after s f)
patch_in_all limits kind text here (body i ds after start s d f) =
    elim (body_in_all limits kind start here f) [
      | inl g ↦ inl (body i ds after start s d g)
      | inr w ↦ inr (w.0, record { info = i; deps = ds; after = after; start = start; stands = s; depends = d; wider = w.1 })
    ]

-- ---- no fault within all kinds stands before a wider word

-- of two readings, the one that goes on leaves no more
further : (text : List ℕ) (vs ws more : List Prim) (r s : List ℕ) → Many (NextPrim these.All) text vs r → Many (NextPrim these.All) text ws s → ws ≡ vs ++ more → length (skipped s) ≤ length (skipped r)
further text [] ws more r s a b e = omega (arith, prims_shorter these.All text ws s b, ap (λ (t : List ℕ). length (skipped t)) a)
further text (v ∷ vs) [] more r s a b e = absurd (let none : [] ≡ v ∷ (vs ++ more) = e in cc)
further text (v ∷ vs) (w ∷ ws) more r s a b e =
    let both : w ∷ ws ≡ v ∷ (vs ++ more) = e in
    let tail : ws ≡ vs ++ more = cc both in
    let same = (one_next these.All text v w a.0 b.0 a.1 b.1).1 in
    further b.0 vs ws more r s (subst (λ (t : List ℕ). Many (NextPrim these.All) t vs r) same a.2) b.2 tail

later_after : (limits : Limits) (W : Wrongs) (text x y : List ℕ) → NoFurther (all limits) W y → ((count : ℕ) (next : List ℕ) → W count next y → length y ≤ length next) → WiderAfter limits text x → AfterPrimsWithin (all limits) W text y → length y ≤ length x
later_after limits W text x y none place w f =
    elim (meet (NextPrim these.All) (one_next these.All) text w.prims f.prims w.mid f.mid w.read f.read) [
      | inl e ↦ omega (arith, place (length f.prims) (skipped f.mid) f.wrong, ap (λ (t : List ℕ). length (skipped t)) e.1, ap length w.place)
      | inr o ↦ elim o [
        | inl g ↦ omega (arith, place (length f.prims) (skipped f.mid) f.wrong, further text w.prims f.prims (g.next ∷ g.more) w.mid f.mid w.read f.read g.longer, ap length w.place)
        | inr g ↦ absurd (none (length f.prims) (skipped f.mid) (omega (arith, w.few, ap length g.longer, length-append f.prims (g.next ∷ g.more))) f.wrong g.next g.after g.stands.read g.stands.kind)
      ]
    ]

next_place : (limits : Limits) (kind : FaultKind) (y : List ℕ) → kind ≢ K.NoMemory → (count : ℕ) (next : List ℕ) → Next (all limits) kind count next y → length y ≤ length next
next_place limits kind y k count next f = elim f [ inl a ↦ (let c = count_kind (all limits) kind count next y k a in omega (arith, ap length c.1)) | inr a ↦ prim_place kind next y k a.1.wrong ]

brace_place : (kind : FaultKind) (y : List ℕ) (count : ℕ) (next : List ℕ) → BraceFaultAt these.All kind next y → length y ≤ length next
brace_place kind y count next f = omega (arith, ap length (brace_kind these.All kind next y f).0)

run_place : (kind : FaultKind) (y : List ℕ) (count : ℕ) (next : List ℕ) → RunFaultAt these.All kind next y → length y ≤ length next
run_place kind y count next f = omega (arith, ap length (run_kind these.All kind next y f).1)

later_body : (limits : Limits) (kind : FaultKind) (text x y : List ℕ) → kind ≢ K.NoMemory → WiderBody limits text x → BodyFaultWithin (all limits) kind text y → length y ≤ length x
later_body limits kind text x y k (braced inside opens w) (in_braces inside' opens' f) =
    let w' = subst (λ (t : List ℕ). WiderAfter limits t x) (tail_same 123 (skipped text) inside inside' opens opens') w in
    elim f [
      | inl a ↦ later_after limits (Next (all limits) kind) inside' x y (next_no_further (all limits) kind y k) (next_place limits kind y k) w' a
      | inr a ↦ later_after limits (λ _. BraceFaultAt these.All kind) inside' x y (brace_no_further (all limits) kind y) (brace_place kind y) w' a
    ]
later_body limits kind text x y k (braced inside opens w) (in_run none f) = absurd (none (inside, opens))
later_body limits kind text x y k (bare none w) (in_braces inside opens f) = absurd (none (inside, opens))
later_body limits kind text x y k (bare none w) (in_run none' f) =
    elim f [
      | inl a ↦ later_after limits (Next (all limits) kind) text x y (next_no_further (all limits) kind y k) (next_place limits kind y k) w a
      | inr a ↦ later_after limits (λ _. RunFaultAt these.All kind) text x y (run_no_further (all limits) kind y) (run_place kind y) w a
    ]

pub later_patch : (limits : Limits) (kind : FaultKind) (text x y : List ℕ) → kind ≢ K.NoMemory → WiderPatch limits text x → PatchFaultWithin (all limits) kind text y → length y ≤ length x
later_patch limits kind text x y k w (info f) = absurd (no_info kind text y k f w.info w.after w.stands)
later_patch limits kind text x y k w (deps i after s f) =
    let one = one_info text w.info i w.after after w.stands s in
    absurd (no_deps kind after y k f w.deps w.start (subst (λ (t : List ℕ). Dependencies t w.deps w.start) one.1 w.depends))
later_patch limits kind text x y k w (body i ds after start s d f) =
    let one = one_info text w.info i w.after after w.stands s in
    let two = one_depends after w.deps ds w.start start (subst (λ (t : List ℕ). Dependencies t w.deps w.start) one.1 w.depends) d in
    later_body limits kind start x y k (subst (λ (t : List ℕ). WiderBody limits t x) two.1 w.wider) f

word_of_body : (limits : Limits) (text x : List ℕ) → WiderBody limits text x → WordAmong wider_words x
word_of_body limits text x (braced inside opens w) = w.word
word_of_body limits text x (bare none w) = w.word

pub word_of_patch : (limits : Limits) (text x : List ℕ) → WiderPatch limits text x → WordAmong wider_words x
word_of_patch limits text x w = word_of_body limits w.start x w.wider

pub fault_of_six : (limits : Limits) → FaultOfSix limits
fault_of_six limits kind other text here there k l f g =
    elim (patch_in_all limits kind text here f) [
      | inl h ↦ inl (one_patch_fault (all limits) kind other text here there k l h g)
      | inr w ↦ (let wider = w.1 in inr (w.0, word_of_patch limits text here wider, later_patch limits other text here there l wider g))
    ]

-- ---- a wider word in a patch stands before what is left after it

inside_prims : (limits : Limits) (text x : List ℕ) (ps : List Prim) (s : List ℕ) → WiderAfter limits text x → Many (NextPrim these.All) text ps s → (WordAmong (prim_words_of these.All) (skipped s) → ⊥) → length (skipped s) ≤ length x
inside_prims limits text x ps s w r closed =
    let m = many_follows (NextPrim these.All) (one_next these.All) text w.prims ps w.mid s w.read r (no_next these.All s closed) in
    omega (arith, further text w.prims ps m.0 w.mid s w.read r m.1, ap length w.place)

-- a run that ends goes past a wider word
past_word : (x : List ℕ) (more : List Prim) (mid s : List ℕ) → x ≡ skipped mid → WordAmong wider_words x → Many (NextPrim these.All) mid more s → RunEnds (skipped s) → length s ≤ length x
past_word x [] mid s e w r ends = absurd (ends.others (other_words wider_words unsupported_words (skipped s) wider_refused (subst (WordAmong wider_words) (e ∙ ap skipped r) w)))
past_word x (p ∷ more) mid s e w r ends =
    let first = r.1 in
    omega (arith, run_shorter these.All r.0 more s r.2, prim_shorter (skipped mid) p r.0 first.read, ap length e)

inside_run : (limits : Limits) (text x : List ℕ) (ps : List Prim) (s : List ℕ) → WiderAfter limits text x → Many (NextPrim these.All) text ps s → RunEnds (skipped s) → length s ≤ length x
inside_run limits text x ps s w r ends =
    let m = many_follows (NextPrim these.All) (one_next these.All) text w.prims ps w.mid s w.read r (no_next these.All s (no_prim_ends these.All (skipped s) ends)) in
    past_word x m.0 w.mid s w.place w.word m.2 ends

inside_body : (limits : Limits) (text x : List ℕ) (ps : List Prim) (r : List ℕ) → WiderBody limits text x → Body these.All text ps r → length r ≤ length x
inside_body limits text x ps r (braced inside opens w) b =
    elim b [
      | inl y ↦
          let w' = subst (λ (t : List ℕ). WiderAfter limits t x) (tail_same 123 (skipped text) inside y.inside opens y.opens) w in
          omega (arith, inside_prims limits y.inside x ps y.mid w' y.read (no_close_word these.All (skipped y.mid) r y.closes), ap length y.closes)
      | inr y ↦ absurd (y.bare (inside, opens))
    ]
inside_body limits text x ps r (bare none w) b =
    elim b [ inl y ↦ absurd (none (y.inside, y.opens)) | inr y ↦ inside_run limits text x ps r w y.read y.ends ]

pub inside_patch : (limits : Limits) (text x : List ℕ) (p : Patch) (r : List ℕ) → WiderPatch limits text x → PatchTextIn these.All text p r → length r ≤ length x
inside_patch limits text x p r w t =
    let one = one_info text w.info p.info w.after t.after w.stands t.info in
    let two = one_depends t.after w.deps p.deps w.start t.body (subst (λ (u : List ℕ). Dependencies u w.deps w.start) one.1 w.depends) t.deps in
    inside_body limits t.body x p.prims r (subst (λ (u : List ℕ). WiderBody limits u x) two.1 w.wider) t.prims
