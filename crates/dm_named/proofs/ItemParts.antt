-- The items of a body as their reader finds them.
use Rattle.std.proofs.Common.{◌≡◌, ◌≤◌, ◌<◌, ◌+◌, ℕ, List, [], ◌∷◌, ◌++◌, sym, ap, subst, ◌∙◌, arith, inl, inr}
use Rattle.std.specs.Prelude.{◌≢◌, codes}
use Rattle.dm_named.specs.Words.{skipped, Begins, NextByte, Word, Among, WordAmong}
use Rattle.dm_named.specs.Many.{Many}
use Rattle.dm_named.specs.Patches.{prim_words_of, unsupported_words_of}
use Rattle.dm_named.specs.Faults.{PrimFaultAt, BraceFaultAt, RunFaultAt}
use Rattle.dm_named.specs.BodyWords.{item_word_of, IsItemWord}
use Rattle.dm_named.specs.ConflictorFaults.{less, ConflictorFault}
use Rattle.dm_named.specs.MergedPatches.{Item, ItemText, NextItem, BodyOfItems, item_size, body_size}
use Rattle.dm_named.specs.MergedFaults.{item_words_of, ItemFault, plain, conflicted, ItemsFault, ItemBodyFault, in_braces, in_run}
use Rattle.dm_named.specs.declared.fault.FaultKind.{FaultKind}
use Rattle.dm_named.specs.declared.fault.FaultKind.TheVariants.{Unsupported}
use Rattle.dm_named.specs.declared.reading.words.PrimWord.{PrimWord}
use Rattle.dm_named.specs.declared.reading.words.ItemWord.{ItemWord}
use Rattle.dm_named.specs.declared.reading.words.ItemWord.TheVariants as item
use Rattle.dm_named.specs.declared.limits.Limits.{Limits}
use Rattle.dm_named.specs.declared.limits.Kinds.{Kinds}
use Rattle.dm_named.proofs.KindLemmas.{run_ends}
use Rattle.dm_named.proofs.ManyLemmas.{many_more}
use Rattle.dm_named.proofs.PrimLemmas.{a_head, no_a_word}
use Rattle.dm_named.proofs.ConflictorParts.{kinds_left, prims_left, less_twice}
use Rattle.dm_named.proofs.MergedLemmas.{prim_an_item, size_append}

-- where no item begins, no primitive does
pub no_prim_here : (kinds : Kinds) (text here : List ℕ) → here ≡ text → (WordAmong (item_words_of kinds) text → ⊥) → WordAmong (prim_words_of kinds) here → ⊥
no_prim_here kinds text here e closed w = closed (prim_an_item kinds text (subst (WordAmong (prim_words_of kinds)) e w))

-- neither the word of a conflictor nor that of a primitive
pub no_item_word : (kinds : Kinds) (text word rest : List ℕ) → Word text word rest → word ≢ codes "conflictor" → (Among (prim_words_of kinds) word → ⊥) → WordAmong (item_words_of kinds) text → ⊥
no_item_word kinds text word rest w other none =
    no_a_word (item_words_of kinds) text word rest w (λ a. elim a [ inl e ↦ other e | inr p ↦ none p ])

-- a fault in a primitive or in a conflictor whose word stands there
pub prim_wrong : (limits : Limits) (kind : FaultKind) (w : ItemWord) (h : PrimWord) (text next here : List ℕ) → w ≡ item.Prim h → Word text (item_word_of w) next → IsItemWord limits.kinds w → 0 < limits.prims → PrimFaultAt kind text here → ItemFault limits kind text here
prim_wrong limits kind w h text next here e stands among few f =
    let due = a_head limits.kinds text next h (subst (λ (x : ItemWord). Word text (item_word_of x) next) e stands) (subst (IsItemWord limits.kinds) e among) in
    plain (inr (few, record { due = due; wrong = f }))

pub conflictor_wrong : (limits : Limits) (kind : FaultKind) (w : ItemWord) (text next here : List ℕ) → w ≡ item.Conflictor → Word text (item_word_of w) next → ConflictorFault limits kind text here → ItemFault limits kind text here
conflictor_wrong limits kind w text next here e stands f = conflicted next (subst (λ (x : ItemWord). Word text (item_word_of x) next) e stands) f

-- the word of an item of these kinds, where they are those of what is left
pub left_word : (limits left : Limits) (n : ℕ) (w : ItemWord) → left ≡ less limits n → IsItemWord limits.kinds w → IsItemWord left.kinds w
left_word limits left n w e o = subst (λ (k : Kinds). IsItemWord k w) (sym (kinds_left limits left n e)) o

-- ---- one more item

size_push : (is : List Item) (i : Item) → body_size (is ++ i ∷ []) ≡ body_size is + item_size i
size_push is i = omega (arith, size_append is (i ∷ []))

pub items_wrong : (limits left : Limits) (kind : FaultKind) (text mid next here : List ℕ) (is : List Item) → Many (NextItem limits.kinds) text is mid → body_size is ≤ limits.prims → left ≡ less limits (body_size is)
    → next ≡ skipped mid → ItemFault left kind next here → ItemsFault limits kind text here
items_wrong limits left kind text mid next here is r few e at f =
    let within : ItemFault (less limits (body_size is)) kind next here = subst (λ (l : Limits). ItemFault l kind next here) e f in
    record { items = is; mid = mid; read = r; few = few; wrong = subst (λ (t : List ℕ). ItemFault (less limits (body_size is)) kind t here) at within }

pub items_more : (limits left : Limits) (text mid next after : List ℕ) (is : List Item) (i : Item) → Many (NextItem limits.kinds) text is mid → left ≡ less limits (body_size is)
    → next ≡ skipped mid → ItemText left.kinds next i after → Many (NextItem limits.kinds) text (is ++ i ∷ []) after
items_more limits left text mid next after is i r e at a =
    let within : ItemText limits.kinds next i after = subst (λ (k : Kinds). ItemText k next i after) (kinds_left limits left (body_size is) e) a in
    many_more (NextItem limits.kinds) text is mid i after r (subst (λ (t : List ℕ). ItemText limits.kinds t i after) at within)

pub few_more : (limits left : Limits) (is : List Item) (i : Item) → left ≡ less limits (body_size is) → body_size is ≤ limits.prims → item_size i ≤ left.prims → body_size (is ++ i ∷ []) ≤ limits.prims
few_more limits left is i e few one = omega (arith, few, one, prims_left limits left (body_size is) e, size_push is i)

pub left_more : (limits left : Limits) (is : List Item) (i : Item) → left ≡ less limits (body_size is) → less left (item_size i) ≡ less limits (body_size (is ++ i ∷ []))
left_more limits left is i e =
    ap (λ (l : Limits). less l (item_size i)) e ∙ less_twice limits (body_size is) (item_size i) ∙ ap (λ (n : ℕ). less limits n) (sym (size_push is i))

-- ---- bodies

pub brace_wrong : (limits : Limits) (kind : FaultKind) (text inside mid here : List ℕ) (is : List Item) → NextByte 123 text inside → Many (NextItem limits.kinds) inside is mid → body_size is ≤ limits.prims
    → (WordAmong (item_words_of limits.kinds) (skipped mid) → ⊥) → here ≡ skipped mid → BraceFaultAt limits.kinds kind here here → ItemBodyFault limits kind text here
brace_wrong limits kind text inside mid here is m r few none e w =
    in_braces inside m (inr (record { items = is; mid = mid; read = r; few = few; none = none; wrong = subst (λ (t : List ℕ). BraceFaultAt limits.kinds kind t here) e w }))

pub run_wrong : (limits : Limits) (text mid here : List ℕ) (is : List Item) → (Begins 123 (skipped text) → ⊥) → Many (NextItem limits.kinds) text is mid → body_size is ≤ limits.prims
    → (WordAmong (item_words_of limits.kinds) (skipped mid) → ⊥) → here ≡ skipped mid → RunFaultAt limits.kinds Unsupported here here → ItemBodyFault limits Unsupported text here
run_wrong limits text mid here is bare r few none e w =
    in_run bare (inr (record { items = is; mid = mid; read = r; few = few; none = none; wrong = subst (λ (t : List ℕ). RunFaultAt limits.kinds Unsupported t here) e w }))

pub a_run : (kinds : Kinds) (text mid here : List ℕ) (is : List Item) → (Begins 123 (skipped text) → ⊥) → Many (NextItem kinds) text is mid → (WordAmong (item_words_of kinds) (skipped mid) → ⊥) → here ≡ skipped mid
    → (WordAmong (unsupported_words_of kinds) here → ⊥) → (Begins 40 here → ⊥) → BodyOfItems kinds text is mid
a_run kinds text mid here is bare r none e others paren =
    inr (record {
      bare = bare;
      read = r;
      ends = run_ends kinds (skipped mid) (λ w. none (prim_an_item kinds (skipped mid) w)) (subst (λ (t : List ℕ). WordAmong (unsupported_words_of kinds) t → ⊥) e others) (subst (λ (t : List ℕ). Begins 40 t → ⊥) e paren);
    })
