-- Where a text has a fault, no named patch of items stands, or there are more primitives in it than the limits allow.
use Rattle.std.proofs.Common.{◌≡◌, ◌≤◌, ◌<◌, ◌-◌, ℕ, List, [], ◌∷◌, ◌++◌, refl, sym, ap, subst, ◌∙◌, arith, inl, inr}
use Rattle.std.specs.Prelude.{◌≢◌}
use Rattle.dm_info.proofs.SpellingLemmas.{one_info}
use Rattle.dm_named.specs.Words.{skipped, WordAmong}
use Rattle.dm_named.specs.Many.{Many}
use Rattle.dm_named.specs.Patches.{Dependencies, RunEnds}
use Rattle.dm_named.specs.ConflictorFaults.{less}
use Rattle.dm_named.specs.MergedPatches.{Item, Plain, Conflicted, MergedPatch, ItemText, NextItem, BodyOfItems, MergedText, item_size, body_size}
use Rattle.dm_named.specs.MergedFaults.{item_words_of, ItemFault, plain, conflicted, ItemsFault, ItemBodyFault, in_braces, in_run, MergedFault, info, deps, body}
use Rattle.dm_named.specs.declared.fault.FaultKind.{FaultKind}
use Rattle.dm_named.specs.declared.fault.FaultKind.TheVariants as K
use Rattle.dm_named.specs.declared.limits.Limits.{Limits}
use Rattle.dm_named.proofs.ManyLemmas.{many_follows}
use Rattle.dm_named.proofs.OnePatch.{prim_a_word, one_depends}
use Rattle.dm_named.proofs.NoPatch.{no_info, no_prim, not_closed, run_goes_on, tail_same, no_deps}
use Rattle.dm_named.proofs.OneFault.{count_kind}
use Rattle.dm_named.proofs.NoConflictor.{Past, conflictor_past}
use Rattle.dm_named.proofs.MergedLemmas.{not_both, one_next_item, prim_an_item, conflictor_an_item, no_item, no_close_item, no_item_ends, one_items, size_append}

-- where an item is at fault, one begins
item_due : (limits : Limits) (kind : FaultKind) (text here : List ℕ) → kind ≢ K.NoMemory → ItemFault limits kind text here → WordAmong (item_words_of limits.kinds) text
item_due limits kind text here k (plain f) =
    elim f [ inl c ↦ prim_an_item limits.kinds text (count_kind limits kind 0 text here k c).3 | inr w ↦ prim_an_item limits.kinds text w.1.due ]
item_due limits kind text here k (conflicted after w f) = conflictor_an_item limits.kinds text after w

item_past : (limits : Limits) (kind : FaultKind) (text here : List ℕ) → kind ≢ K.NoMemory → ItemFault limits kind text here → (i : Item) (r : List ℕ) → ItemText limits.kinds text i r → Past limits kind (item_size i)
item_past limits kind text here k (plain f) (Plain p) r a =
    elim f [
      | inl c ↦ (let is = count_kind limits kind 0 text here k c in (is.0, omega (arith, is.2)))
      | inr w ↦ absurd (no_prim kind text here k w.1.wrong p r a.0)
    ]
item_past limits kind text here k (plain f) (Conflicted c) r a =
    elim f [
      | inl n ↦ absurd (not_both limits.kinds text a.after a.named (count_kind limits kind 0 text here k n).3)
      | inr w ↦ absurd (not_both limits.kinds text a.after a.named w.1.due)
    ]
item_past limits kind text here k (conflicted after w f) (Plain p) r a = absurd (not_both limits.kinds text after w (prim_a_word limits.kinds text p r a.0 a.1))
item_past limits kind text here k (conflicted after w f) (Conflicted c) r a = conflictor_past limits kind text here k f c r a

goes_past : (limits : Limits) (kind : FaultKind) (fs more is : List Item) (mid s here : List ℕ) → kind ≢ K.NoMemory → body_size fs ≤ limits.prims → is ≡ fs ++ more → Many (NextItem limits.kinds) mid more s
    → ItemFault (less limits (body_size fs)) kind (skipped mid) here → (WordAmong (item_words_of limits.kinds) (skipped s) → ⊥) → Past limits kind (body_size is)
goes_past limits kind fs [] is mid s here k few e r wrong none =
    absurd (none (subst (λ (t : List ℕ). WordAmong (item_words_of limits.kinds) (skipped t)) r (item_due (less limits (body_size fs)) kind (skipped mid) here k wrong)))
goes_past limits kind fs (i ∷ more) is mid s here k few e r wrong none =
    let past = item_past (less limits (body_size fs)) kind (skipped mid) here k wrong i r.0 r.1 in
    let over : limits.prims - body_size fs < item_size i = past.1 in
    (past.0, omega (arith, over, few, ap body_size e, size_append fs (i ∷ more)))

items_past : (limits : Limits) (kind : FaultKind) (text here : List ℕ) → kind ≢ K.NoMemory → ItemsFault limits kind text here → (is : List Item) (s : List ℕ) → Many (NextItem limits.kinds) text is s → (WordAmong (item_words_of limits.kinds) (skipped s) → ⊥) → Past limits kind (body_size is)
items_past limits kind text here k f is s r closed =
    let m = many_follows (NextItem limits.kinds) (one_next_item limits.kinds) text f.items is f.mid s f.read r (no_item limits.kinds s closed) in
    goes_past limits kind f.items m.0 is f.mid s here k f.few m.1 m.2 f.wrong closed

-- ---- bodies and patches

body_past : (limits : Limits) (kind : FaultKind) (text here : List ℕ) → kind ≢ K.NoMemory → ItemBodyFault limits kind text here → (is : List Item) (r : List ℕ) → BodyOfItems limits.kinds text is r → Past limits kind (body_size is)
body_past limits kind text here k (in_braces inside opens f) is r b =
    elim b [
      | inl x ↦
          let same = tail_same 123 (skipped text) x.inside inside x.opens opens in
          let read = subst (λ (t : List ℕ). Many (NextItem limits.kinds) t is x.mid) same x.read in
          let closed = no_close_item limits.kinds (skipped x.mid) r x.closes in
          elim f [
            | inl g ↦ items_past limits kind inside here k g is x.mid read closed
            | inr g ↦ (let one = one_items limits.kinds inside g.items is g.mid x.mid g.read read g.none closed in absurd (not_closed limits.kinds kind (skipped g.mid) here r g.wrong (ap skipped one.1 ∙ x.closes)))
          ]
      | inr x ↦ absurd (x.bare (inside, opens))
    ]
body_past limits kind text here k (in_run bare f) is r b =
    elim b [
      | inl x ↦ absurd (bare (x.inside, x.opens))
      | inr x ↦
          let closed = no_item_ends limits.kinds (skipped r) x.ends in
          elim f [
            | inl g ↦ items_past limits kind text here k g is r x.read closed
            | inr g ↦ (let one = one_items limits.kinds text g.items is g.mid r g.read x.read g.none closed in absurd (run_goes_on limits.kinds kind (skipped g.mid) here g.wrong (subst (λ (t : List ℕ). RunEnds (skipped t)) (sym one.1) x.ends)))
          ]
    ]

pub merged_past : (limits : Limits) (kind : FaultKind) (text here : List ℕ) → kind ≢ K.NoMemory → MergedFault limits kind text here → (p : MergedPatch) (r : List ℕ) → MergedText limits.kinds text p r → Past limits kind (body_size p.body)
merged_past limits kind text here k (info f) p r t = absurd (no_info kind text here k f p.info t.after t.info)
merged_past limits kind text here k (deps i after s f) p r t =
    let one = one_info text p.info i t.after after t.info s in
    absurd (no_deps kind after here k f p.deps t.start (subst (λ (x : List ℕ). Dependencies x p.deps t.start) one.1 t.deps))
merged_past limits kind text here k (body i ds after start s d f) p r t =
    let one = one_info text p.info i t.after after t.info s in
    let two = one_depends after p.deps ds t.start start (subst (λ (x : List ℕ). Dependencies x p.deps t.start) one.1 t.deps) d in
    body_past limits kind start here k f p.body r (subst (λ (x : List ℕ). BodyOfItems limits.kinds x p.body r) two.1 t.body)

pub memory_fails_merged : (limits : Limits) (kind : FaultKind) (text here : List ℕ) → MergedFault limits kind text here → (p : MergedPatch) (r : List ℕ) → MergedText limits.kinds text p r → body_size p.body ≤ limits.prims → kind ≡ K.NoMemory
memory_fails_merged limits K.NoMemory text here f p r t few = refl
memory_fails_merged limits kind text here f p r t few = let past = merged_past limits kind text here (λ e. cc) f p r t in absurd (omega (arith, past.1, few))
