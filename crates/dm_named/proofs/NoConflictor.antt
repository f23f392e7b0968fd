-- Where a text has a fault, no conflictor stands, or there are more primitives in it than the limits allow.
use Rattle.std.proofs.Common.{◌≡◌, ◌≤◌, ◌<◌, ◌-◌, ℕ, List, [], ◌∷◌, ◌++◌, length, refl, ap, subst, ◌∙◌, arith, inl, inr}
use Rattle.std.specs.Prelude.{codes, ◌≢◌}
use Rattle.dm_prim.specs.Primitives.{Prim}
use Rattle.dm_named.specs.Words.{skipped, WordAmong}
use Rattle.dm_named.specs.Many.{Many}
use Rattle.dm_named.specs.Patches.{NextPrim, prim_words_of}
use Rattle.dm_named.specs.Faults.{PrimsFaultWithin}
use Rattle.dm_named.specs.Conflictors.{Original, Conflictor, OriginalText, Partners, InBrackets, ConflictorText, size_of, sizes_of, conflictor_size}
use Rattle.dm_named.specs.ConflictorFaults.{less, BeginsOriginal, OneFaultOf, OriginalFault, context, colon, prim, OriginalsFault, PartnersFault, BracketsFault, opens, prims, closes, ConflictorFault, word, partners, undone, own}
use Rattle.dm_named.specs.declared.fault.FaultKind.{FaultKind}
use Rattle.dm_named.specs.declared.fault.FaultKind.TheVariants as K
use Rattle.dm_named.specs.declared.limits.Limits.{Limits}
use Rattle.dm_named.proofs.WordLemmas.{one_word}
use Rattle.dm_named.proofs.ManyLemmas.{many_follows}
use Rattle.dm_named.proofs.OnePatch.{prim_a_word, one_prims}
use Rattle.dm_named.proofs.NoPatch.{no_prim, no_prims, tail_same}
use Rattle.dm_named.proofs.OneFault.{count_kind}
use Rattle.dm_named.proofs.WithinCount.{past_prims}
use Rattle.dm_named.proofs.ConflictorLemmas.{no_colon_word, no_bracket_word, one_original, no_original, not_closing, one_originals, twice_same, one_partners, one_in_brackets, sizes_append}

-- so many primitives are more than the limits allow, and the fault says so
abbrev pub Past : Limits → FaultKind → ℕ → Type 0
Past limits kind size = (kind ≡ K.TooMany) × (limits.prims < size)

prims_past : (limits : Limits) (kind : FaultKind) (text here : List ℕ) → kind ≢ K.NoMemory → PrimsFaultWithin limits kind text here → (qs : List Prim) (s : List ℕ) → Many (NextPrim limits.kinds) text qs s → (WordAmong (prim_words_of limits.kinds) (skipped s) → ⊥) → Past limits kind (length qs)
prims_past limits K.TooMany text here k f qs s r closed = (refl, past_prims limits text here f qs s r closed)
prims_past limits K.NoMemory text here k f qs s r closed = absurd (k refl)
prims_past limits kind text here k f qs s r closed = absurd (no_prims limits kind text here (record { memory = λ e. cc; count = λ e. cc }) f qs s r closed)

one_past : (limits : Limits) (kind : FaultKind) (count : ℕ) (text here : List ℕ) → kind ≢ K.NoMemory → OneFaultOf limits kind count text here → (p : Prim) (r : List ℕ) → NextPrim limits.kinds text p r → (kind ≡ K.TooMany) × (count ≡ limits.prims)
one_past limits kind count text here k f p r n =
    elim f [
      | inl m ↦ absurd (m.none (prim_a_word limits.kinds (skipped text) p r n.read n.kind))
      | inr g ↦ elim g [
        | inl c ↦ (let is = count_kind limits kind count (skipped text) here k c in (is.0, is.2))
        | inr w ↦ absurd (no_prim kind (skipped text) here k w.1.wrong p r n.read)
      ]
    ]

original_past : (limits : Limits) (kind : FaultKind) (text here : List ℕ) → kind ≢ K.NoMemory → OriginalFault limits kind text here → (o : Original) (r : List ℕ) → OriginalText limits.kinds text o r → Past limits kind (size_of o)
original_past limits kind text here k (context f) o r a =
    let past = prims_past limits kind text here k f o.context a.mid a.context (no_colon_word limits.kinds (skipped a.mid) a.last a.colon) in
    (past.0, omega (arith, past.1))
original_past limits kind text here k (colon f) o r a =
    let same = one_prims limits.kinds text f.prims o.context f.mid a.mid f.read a.context (λ w. f.wrong.none (inl w)) (no_colon_word limits.kinds (skipped a.mid) a.last a.colon) in
    absurd (f.wrong.none (inr (a.last, ap skipped same.1 ∙ a.colon)))
original_past limits kind text here k (prim f) o r a =
    let w = f.wrong in
    let same = one_prims limits.kinds text f.prims o.context f.mid a.mid f.read a.context (no_colon_word limits.kinds (skipped f.mid) w.inside w.byte) (no_colon_word limits.kinds (skipped a.mid) a.last a.colon) in
    let last = tail_same 58 (skipped f.mid) a.last w.inside (ap skipped same.1 ∙ a.colon) w.byte in
    let past = one_past limits kind (length f.prims) w.inside here k w.wrong o.prim r (subst (λ (t : List ℕ). NextPrim limits.kinds t o.prim r) last a.prim) in
    (past.0, omega (arith, past.1, ap length same.0))

-- ---- partners

goes_past : (limits : Limits) (kind : FaultKind) (fs more os : List Original) (mid s here : List ℕ) → kind ≢ K.NoMemory → sizes_of fs ≤ limits.prims → os ≡ fs ++ more → Many (OriginalText limits.kinds) mid more s
    → BeginsOriginal limits.kinds (skipped mid) → OriginalFault (less limits (sizes_of fs)) kind mid here → (BeginsOriginal limits.kinds (skipped s) → ⊥) → Past limits kind (sizes_of os)
goes_past limits kind fs [] os mid s here k few e r due wrong none = absurd (none (subst (λ (t : List ℕ). BeginsOriginal limits.kinds (skipped t)) r due))
goes_past limits kind fs (o ∷ more) os mid s here k few e r due wrong none =
    let past = original_past (less limits (sizes_of fs)) kind mid here k wrong o r.0 r.1 in
    let over : limits.prims - sizes_of fs < size_of o = past.1 in
    (past.0, omega (arith, over, few, ap sizes_of e, sizes_append fs (o ∷ more)))

originals_past : (limits : Limits) (kind : FaultKind) (text here : List ℕ) → kind ≢ K.NoMemory → OriginalsFault limits kind text here → (os : List Original) (s : List ℕ) → Many (OriginalText limits.kinds) text os s → (BeginsOriginal limits.kinds (skipped s) → ⊥) → Past limits kind (sizes_of os)
originals_past limits kind text here k f os s r closed =
    let m = many_follows (OriginalText limits.kinds) (one_original limits.kinds) text f.originals os f.mid s f.read r (no_original limits.kinds s closed) in
    goes_past limits kind f.originals m.0 os f.mid s here k f.few m.1 m.2 f.wrong.0 f.wrong.1 closed

partners_past : (limits : Limits) (kind : FaultKind) (text here : List ℕ) → kind ≢ K.NoMemory → PartnersFault limits kind text here → (os : List Original) (r : List ℕ) → Partners limits.kinds text os r → Past limits kind (sizes_of os)
partners_past limits kind text here k f os r p =
    elim p [
      | inl x ↦
          let inside = twice_same 123 (skipped text) x.inside f.inside x.opens f.opens in
          let read = subst (λ (t : List ℕ). Many (OriginalText limits.kinds) t os x.mid) inside x.read in
          let closed = not_closing limits.kinds (skipped x.mid) (125 ∷ r) x.closes in
          elim f.wrong [
            | inl g ↦ originals_past limits kind f.inside here k g os x.mid read closed
            | inr g ↦
                let same = one_originals limits.kinds f.inside g.originals os g.mid x.mid g.read read (λ b. g.wrong.none (inl b)) closed in
                absurd (g.wrong.none (inr (r, ap skipped same.1 ∙ x.closes)))
          ]
      | inr x ↦ absurd (x.0 (f.inside, f.opens))
    ]

-- ---- brackets

brackets_past : (limits : Limits) (kind : FaultKind) (text here : List ℕ) → kind ≢ K.NoMemory → BracketsFault limits kind text here → (ps : List Prim) (r : List ℕ) → InBrackets limits.kinds text ps r → Past limits kind (length ps)
brackets_past limits kind text here k (opens f) ps r b = absurd (f.none (b.inside, b.opens))
brackets_past limits kind text here k (prims f) ps r b =
    let inside = tail_same 91 (skipped text) b.inside f.inside b.opens f.byte in
    prims_past limits kind f.inside here k f.wrong ps b.mid (subst (λ (t : List ℕ). Many (NextPrim limits.kinds) t ps b.mid) inside b.read) (no_bracket_word limits.kinds (skipped b.mid) r b.closes)
brackets_past limits kind text here k (closes f) ps r b =
    let inside = tail_same 91 (skipped text) b.inside f.inside b.opens f.byte in
    let g = f.wrong in
    let same = one_prims limits.kinds f.inside g.prims ps g.mid b.mid g.read (subst (λ (t : List ℕ). Many (NextPrim limits.kinds) t ps b.mid) inside b.read) (λ w. g.wrong.none (inl w)) (no_bracket_word limits.kinds (skipped b.mid) r b.closes) in
    absurd (g.wrong.none (inr (r, ap skipped same.1 ∙ b.closes)))

-- ---- conflictors

pub conflictor_past : (limits : Limits) (kind : FaultKind) (text here : List ℕ) → kind ≢ K.NoMemory → ConflictorFault limits kind text here → (c : Conflictor) (r : List ℕ) → ConflictorText limits.kinds text c r → Past limits kind (conflictor_size c)
conflictor_past limits kind text here k (word e h none) c r t = absurd (none t.after t.named)
conflictor_past limits kind text here k (partners after w f) c r t =
    let one = (one_word text (codes "conflictor") (codes "conflictor") t.after after t.named w).1 in
    let past = partners_past limits kind after here k f c.partners t.list (subst (λ (x : List ℕ). Partners limits.kinds x c.partners t.list) one t.partners) in
    (past.0, omega (arith, past.1))
conflictor_past limits kind text here k (undone os after list w p few f) c r t =
    let one = (one_word text (codes "conflictor") (codes "conflictor") t.after after t.named w).1 in
    let two = one_partners limits.kinds after c.partners os t.list list (subst (λ (x : List ℕ). Partners limits.kinds x c.partners t.list) one t.partners) p in
    let past = brackets_past (less limits (sizes_of os)) kind list here k f c.undone t.last (subst (λ (x : List ℕ). InBrackets limits.kinds x c.undone t.last) two.1 t.undone) in
    let over : limits.prims - sizes_of os < length c.undone = past.1 in
    (past.0, omega (arith, over, few, ap sizes_of two.0))
conflictor_past limits kind text here k (own os ps after list last w p b few few_undone f) c r t =
    let one = (one_word text (codes "conflictor") (codes "conflictor") t.after after t.named w).1 in
    let two = one_partners limits.kinds after c.partners os t.list list (subst (λ (x : List ℕ). Partners limits.kinds x c.partners t.list) one t.partners) p in
    let three = one_in_brackets limits.kinds list c.undone ps t.last last (subst (λ (x : List ℕ). InBrackets limits.kinds x c.undone t.last) two.1 t.undone) b in
    let past = original_past (less (less limits (sizes_of os)) (length ps)) kind last here k f c.own r (subst (λ (x : List ℕ). OriginalText limits.kinds x c.own r) three.1 t.own) in
    let over : (limits.prims - sizes_of os) - length ps < size_of c.own = past.1 in
    (past.0, omega (arith, over, few, few_undone, ap sizes_of two.0, ap length three.0))

pub memory_fails_alone : (limits : Limits) (kind : FaultKind) (text here : List ℕ) → ConflictorFault limits kind text here → (c : Conflictor) (r : List ℕ) → ConflictorText limits.kinds text c r → conflictor_size c ≤ limits.prims → kind ≡ K.NoMemory
memory_fails_alone limits K.NoMemory text here f c r t few = refl
memory_fails_alone limits kind text here f c r t few = let past = conflictor_past limits kind text here (λ e. cc) f c r t in absurd (omega (arith, past.1, few))
