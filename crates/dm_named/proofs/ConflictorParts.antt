-- The parts of a conflictor as its reader finds them, and what is missing where one ends.
use Rattle.std.proofs.Common.{◌≡◌, ◌≤◌, ◌<◌, ◌+◌, ◌-◌, ℕ, List, [], ◌∷◌, ◌++◌, length, sym, ap, subst, ◌∙◌, arith, inl, inr}
use Rattle.std.specs.Prelude.{◌⊎◌, ◌≢◌, codes}
use Rattle.dm_prim.specs.Primitives.{Prim}
use Rattle.dm_named.specs.Words.{skipped, Begins, Word, WordAmong}
use Rattle.dm_named.specs.Many.{Many}
use Rattle.dm_named.specs.Patches.{NextPrim, prim_words_of}
use Rattle.dm_named.specs.Faults.{PrimFaultAt, PrimFaultOf}
use Rattle.dm_named.specs.Conflictors.{Original, OriginalText, BeginsTwice, Partners, InBrackets, ConflictorText, size_of, sizes_of}
use Rattle.dm_named.specs.ConflictorFaults.{less, OtherFaultAt, Missing, PrimOr, BeginsOriginal, OneFaultOf, PrimsThen, OriginalFault, OriginalsThen, BracketsFault, ConflictorFault, undone, own}
use Rattle.dm_named.specs.declared.fault.FaultKind.{FaultKind}
use Rattle.dm_named.specs.declared.limits.Limits.{Limits}
use Rattle.dm_named.specs.declared.limits.Kinds.{Kinds}
use Rattle.dm_named.proofs.WordLemmas.{one_word}
use Rattle.dm_named.proofs.ManyLemmas.{many_more}
use Rattle.dm_named.proofs.ConflictorLemmas.{sizes_append}

pub missing : (kinds : Kinds) (kind : FaultKind) (IsDue : List ℕ → Type 0) (mid here there : List ℕ) → here ≡ skipped mid → there ≡ here → (IsDue here → ⊥) → OtherFaultAt kinds kind here here → Missing kinds kind IsDue mid there
missing kinds kind IsDue mid here there e at none wrong =
    record {
      none = subst (λ (t : List ℕ). IsDue t → ⊥) e none;
      wrong = subst (λ (t : List ℕ). OtherFaultAt kinds kind t there) e (subst (λ (t : List ℕ). OtherFaultAt kinds kind here t) (sym at) wrong);
    }

-- after primitives, this byte is due
pub no_byte : (limits : Limits) (kind : FaultKind) (b : ℕ) (text mid here there : List ℕ) (ps : List Prim) → Many (NextPrim limits.kinds) text ps mid → length ps ≤ limits.prims → (WordAmong (prim_words_of limits.kinds) (skipped mid) → ⊥)
    → here ≡ skipped mid → (Begins b here → ⊥) → there ≡ here → OtherFaultAt limits.kinds kind here here → PrimsThen limits (λ _ m. Missing limits.kinds kind (PrimOr limits.kinds b) m there) text
no_byte limits kind b text mid here there ps r few closed e none at wrong =
    let neither : PrimOr limits.kinds b here → ⊥ = λ p. elim p [ inl w ↦ closed (subst (WordAmong (prim_words_of limits.kinds)) e w) | inr o ↦ none o ] in
    record { prims = ps; mid = mid; read = r; few = few; wrong = missing limits.kinds kind (PrimOr limits.kinds b) mid here there e at neither wrong }

-- after originals, the closing braces are due
pub no_closing : (limits : Limits) (kind : FaultKind) (text mid here there : List ℕ) (os : List Original) → Many (OriginalText limits.kinds) text os mid → sizes_of os ≤ limits.prims → (BeginsOriginal limits.kinds (skipped mid) → ⊥)
    → here ≡ skipped mid → (BeginsTwice 125 here → ⊥) → there ≡ here → OtherFaultAt limits.kinds kind here here
    → OriginalsThen limits (λ _ m. Missing limits.kinds kind (λ t. BeginsOriginal limits.kinds t ⊎ BeginsTwice 125 t) m there) text
no_closing limits kind text mid here there os r few closed e none at wrong =
    let IsDue : List ℕ → Type 0 = λ t. BeginsOriginal limits.kinds t ⊎ BeginsTwice 125 t in
    let neither : IsDue here → ⊥ = λ p. elim p [ inl w ↦ closed (subst (BeginsOriginal limits.kinds) e w) | inr o ↦ none o ] in
    record { originals = os; mid = mid; read = r; few = few; wrong = missing limits.kinds kind IsDue mid here there e at neither wrong }

-- ---- what is left of the limits

pub size_push : (os : List Original) (o : Original) → sizes_of (os ++ o ∷ []) ≡ sizes_of os + size_of o
size_push os o = omega (arith, sizes_append os (o ∷ []))

pub less_twice : (limits : Limits) (m n : ℕ) → less (less limits m) n ≡ less limits (m + n)
less_twice limits m n =
    let left : (limits.prims - m) - n ≡ limits.prims - (m + n) = omega arith in
    ap (λ (k : ℕ). record limits { prims = k }) left

-- ---- originals

pub one_wrong : (limits : Limits) (kind : FaultKind) (count : ℕ) (text next here : List ℕ) → next ≡ skipped text → count < limits.prims → WordAmong (prim_words_of limits.kinds) next → PrimFaultAt kind next here → OneFaultOf limits kind count text here
one_wrong limits kind count text next here e few due w =
    inr (inr (few, subst (λ (t : List ℕ). PrimFaultOf limits.kinds kind t here) e (record { due = due; wrong = w })))

pub kinds_left : (limits left : Limits) (n : ℕ) → left ≡ less limits n → left.kinds ≡ limits.kinds
kinds_left limits left n e = ap (λ (l : Limits). l.kinds) e

pub prims_left : (limits left : Limits) (n : ℕ) → left ≡ less limits n → left.prims ≡ limits.prims - n
prims_left limits left n e = ap (λ (l : Limits). l.prims) e

pub original_more : (limits left : Limits) (text mid after : List ℕ) (os : List Original) (o : Original) → Many (OriginalText limits.kinds) text os mid → left ≡ less limits (sizes_of os)
    → OriginalText left.kinds mid o after → Many (OriginalText limits.kinds) text (os ++ o ∷ []) after
original_more limits left text mid after os o r e a =
    many_more (OriginalText limits.kinds) text os mid o after r (subst (λ (k : Kinds). OriginalText k mid o after) (kinds_left limits left (sizes_of os) e) a)

pub few_more : (limits left : Limits) (os : List Original) (o : Original) → left ≡ less limits (sizes_of os) → sizes_of os ≤ limits.prims → size_of o ≤ left.prims → sizes_of (os ++ o ∷ []) ≤ limits.prims
few_more limits left os o e few one = omega (arith, few, one, prims_left limits left (sizes_of os) e, size_push os o)

pub left_more : (limits left : Limits) (os : List Original) (o : Original) → left ≡ less limits (sizes_of os) → less left (size_of o) ≡ less limits (sizes_of (os ++ o ∷ []))
left_more limits left os o e =
    ap (λ (l : Limits). less l (size_of o)) e ∙ less_twice limits (sizes_of os) (size_of o) ∙ ap (λ (n : ℕ). less limits n) (sym (size_push os o))

-- ---- conflictors

pub undone_wrong : (limits left : Limits) (kind : FaultKind) (text after list here : List ℕ) (os : List Original) → Word text (codes "conflictor") after → Partners limits.kinds after os list → sizes_of os ≤ limits.prims
    → left ≡ less limits (sizes_of os) → BracketsFault left kind list here → ConflictorFault limits kind text here
undone_wrong limits left kind text after list here os w p few e f =
    undone os after list w p few (subst (λ (l : Limits). BracketsFault l kind list here) e f)

in_brackets : (limits left : Limits) (n : ℕ) (list last : List ℕ) (ps : List Prim) → left ≡ less limits n → InBrackets left.kinds list ps last → InBrackets limits.kinds list ps last
in_brackets limits left n list last ps e b = subst (λ (k : Kinds). InBrackets k list ps last) (kinds_left limits left n e) b

pub own_wrong : (limits left more : Limits) (kind : FaultKind) (text after list last here : List ℕ) (os : List Original) (ps : List Prim) → Word text (codes "conflictor") after → Partners limits.kinds after os list
    → InBrackets left.kinds list ps last → sizes_of os ≤ limits.prims → length ps ≤ left.prims → left ≡ less limits (sizes_of os) → more ≡ less left (length ps) → OriginalFault more kind last here → ConflictorFault limits kind text here
own_wrong limits left more kind text after list last here os ps w p b few few_undone e d f =
    let both : more ≡ less (less limits (sizes_of os)) (length ps) = d ∙ ap (λ (l : Limits). less l (length ps)) e in
    own os ps after list last w p (in_brackets limits left (sizes_of os) list last ps e b) few (subst (λ (k : ℕ). length ps ≤ k) (prims_left limits left (sizes_of os) e) few_undone)
    (subst (λ (l : Limits). OriginalFault l kind last here) both f)

pub a_conflictor : (limits left more : Limits) (text after list last rest : List ℕ) (os : List Original) (ps : List Prim) (o : Original) → Word text (codes "conflictor") after → Partners limits.kinds after os list
    → InBrackets left.kinds list ps last → left ≡ less limits (sizes_of os) → more ≡ less left (length ps) → OriginalText more.kinds last o rest → ConflictorText limits.kinds text (record { partners = os; undone = ps; own = o }) rest
a_conflictor limits left more text after list last rest os ps o w p b e d a =
    let kinds : more.kinds ≡ limits.kinds = kinds_left left more (length ps) d ∙ kinds_left limits left (sizes_of os) e in
    record { after = after; list = list; last = last; named = w; partners = p; undone = in_brackets limits left (sizes_of os) list last ps e b; own = subst (λ (k : Kinds). OriginalText k last o rest) kinds a }

pub within_limits : (limits left more : Limits) (os : List Original) (ps : List Prim) (o : Original) → sizes_of os ≤ limits.prims → length ps ≤ left.prims → left ≡ less limits (sizes_of os) → more ≡ less left (length ps) → size_of o ≤ more.prims
    → sizes_of os + (length ps + size_of o) ≤ limits.prims
within_limits limits left more os ps o few few_undone e d one = omega (arith, few, few_undone, one, prims_left limits left (sizes_of os) e, prims_left left more (length ps) d)

-- another word stands there
pub other_word : (text w rest : List ℕ) → Word text w rest → w ≢ codes "conflictor" → (after : List ℕ) → Word text (codes "conflictor") after → ⊥
other_word text w rest a other after b = other (one_word text w (codes "conflictor") rest after a b).0
