-- Which patch stands at a place, and the values of many.
use Rattle.std.proofs.Common.{◌≡◌, ◌<◌, ◌≤◌, ◌+◌, ◌∙◌, ◌∷◌, ◌++◌, [], ℕ, List, arith, length, map, take, get_or, Option, None, Some, Vec, Global, ap, sym}
use Rattle.std.specs.Prelude.{MatchOption}
use Rattle.std.specs.Borrow.{Bor}
use Rattle.std.specs.Option.{option_map}
use Rattle.std.proofs.lemmas.List.{map-append, take_all, take_more}
use Rattle.serde_json.specs.Data.{array, string}
use Rattle.serde_json.specs.View.{items_of, view}
use Rattle.serde_json.specs.declared.value.Value.{Value, Array}
use Rattle.serde_json.proofs.Views.{view-Array}
use Rattle.dm_info.specs.PatchInfo.{PatchInfo}
use Rattle.dm_explain.specs.Fates.{lent}
use Rattle.dm_explain.specs.Places.{IsLineStart, newlines}
use Rattle.dm_explain.proofs.FateLemmas.{lent_more}
use Rattle.dm_log.specs.Finding.{hash_text}
use Rattle.dm_log.specs.Json.{texts}

-- the name that is lent is the one that stands there
pub lent_is : {X : Type 0} (there : Option X) (r : Option (Bor X)) → MatchOption r (there ≡ None) (λ x. there ≡ Some x.now) → option_map (λ i. i.now) r ≡ there
lent_is there None e = sym e
lent_is there (Some x) e = sym e

-- one more name that is lent
pub lent_turn : (names : List (Bor PatchInfo)) (k : ℕ) (name : Bor PatchInfo) → k < length names → name ≡ get_or names k name → lent (take (k + 1) names) ≡ lent (take k names) ++ name.now ∷ []
lent_turn names k name lt is = lent_more (take k names) name (take_more names k name lt ∙ ap (λ x. take k names ++ x ∷ []) (sym is))

-- one more pair of names
pub firsts_turn : (pairs : List (PatchInfo × PatchInfo)) (k : ℕ) (pair : PatchInfo × PatchInfo) → k < length pairs → pair ≡ get_or pairs k pair → map (λ p. p.0) (take (k + 1) pairs) ≡ map (λ p. p.0) (take k pairs) ++ pair.0 ∷ []
firsts_turn pairs k pair lt is = ap (map (λ p. p.0)) (take_more pairs k pair lt ∙ ap (λ x. take k pairs ++ x ∷ []) (sym is)) ∙ map-append (λ p. p.0) (take k pairs) (pair ∷ [])

-- all hashes
pub hashes_end : {X : Type 0} (names : List X → List PatchInfo) (xs : List X) (k : ℕ) (vs : Vec Value Global) → length xs ≤ k → map view vs.items ≡ map (λ i. string (hash_text i)) (names (take k xs)) →
    view (Array vs) ≡ texts hash_text (names xs)
hashes_end names xs k vs le h = view-Array vs ∙ ap (λ l. array (items_of l)) (h ∙ ap (λ l. map (λ i. string (hash_text i)) (names l)) (take_all k xs le))

-- the place of what stands before
pub place_told : (text before : List ℕ) (at n line start : ℕ) → before ≡ take at text → n ≡ length before → line ≡ newlines (take n before) + 1 → IsLineStart (take n before) start →
    IsLineStart (take at text) start × (line ≡ newlines (take at text) + 1)
place_told text before at n line start is long l s =
    let whole : take n before ≡ take at text = take_all n before (omega (arith, long)) ∙ is in
    (rw whole at s, rw whole at l)
