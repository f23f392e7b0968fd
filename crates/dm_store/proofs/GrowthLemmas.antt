-- How a growth goes on with each entry, and when it is large.
use Rattle.std.proofs.Common.{◌≡◌, ◌∙◌, ◌↔◌, ◌⊎◌, ◌<◌, ◌+◌, ◌*◌, ◌/◌, ◌^◌, arith, max, inl, inr, ⊎_elim, ℕ, List, [], ◌∷◌, ◌++◌, length, suc, zero, get_or, take, refl, sym, ap, subst}
use Rattle.std.proofs.lemmas.List.{take_more}
use Rattle.std.proofs.lemmas.List.Sums.{sum_by-append}
use Rattle.std.proofs.Common.{length-append}
use Rattle.std.proofs.Math.Nat.{div-lt_iff_lt-mul, div-le_self}
use Rattle.dm_repo.specs.declared.policy.Policy.{Policy}
use Rattle.dm_store.specs.Entries.{entry_of, counted_entry}
use Rattle.dm_store.specs.Growth.{AreMany, IsGrowthOf, IsWhole, StandBehind, bytes_of, capped}
use Rattle.dm_store.specs.declared.growth.Growth.{Growth}
use Rattle.dm_store.proofs.EntryLemmas.{not_counted, other_kind}

pub counted_whole : (base : ℕ) (text : List ℕ) → base < 2 ^ 64 → IsWhole (counted_entry base text)
counted_whole base text small = inr (base, text, small, refl)

pub text_not_whole : (policy : Policy) (text entry : List ℕ) → entry ≡ entry_of policy text → IsWhole entry → ⊥
text_not_whole policy text entry is (inl (whole, e)) = other_kind policy text whole (sym is ∙ e)
text_not_whole policy text entry is (inr (base, whole, small, e)) = not_counted policy base text whole (sym is ∙ e)

pub none_grown : (g : Growth) → g.whole ≡ 0 → g.since ≡ 0 → g.entries ≡ 0 → IsGrowthOf [] g
none_grown g whole since entries = record {
  since = [];
  behind = (whole, refl);
  few = omega (arith, whole);
  bytes = omega (arith, since);
  number = omega (arith, entries);
}

pub whole_grown : (entry : List ℕ) (g : Growth) → IsWhole entry → g.whole ≡ length entry → g.whole < 2 ^ 63 → g.since ≡ 0 → g.entries ≡ 0 → IsGrowthOf (entry ∷ []) g
whole_grown entry g is whole few since entries = record {
  since = [];
  behind = inl (is, whole, refl);
  few = few;
  bytes = omega (arith, since);
  number = omega (arith, entries);
}

behind_more : (entries : List (List ℕ)) (entry : List ℕ) (whole : ℕ) (since : List (List ℕ)) → (entries ≡ [] → IsWhole entry → ⊥) → StandBehind entries whole since →
    StandBehind (entries ++ entry ∷ []) whole (since ++ entry ∷ [])
behind_more [] entry whole since other b = inr (other refl, b.0, ap (λ (l : List (List ℕ)). l ++ entry ∷ []) b.1)
behind_more (x ∷ xs) entry whole since other (inl b) = inl (b.0, b.1, ap (λ (l : List (List ℕ)). l ++ entry ∷ []) b.2)
behind_more (x ∷ xs) entry whole since other (inr b) = inr (b.0, b.1, ap (λ (l : List (List ℕ)). l ++ entry ∷ []) b.2)

pub more_grown : (entries : List (List ℕ)) (entry : List ℕ) (g h : Growth) → (entries ≡ [] → IsWhole entry → ⊥) → IsGrowthOf entries g →
    h.whole ≡ g.whole → h.since ≡ capped (g.since + length entry) → h.entries ≡ capped (g.entries + 1) → IsGrowthOf (entries ++ entry ∷ []) h
more_grown entries entry g h other was whole since number =
    let bytes : bytes_of (was.since ++ entry ∷ []) ≡ bytes_of was.since + length entry = sum_by-append length was.since (entry ∷ []) ∙ omega arith in
    let longer : length (was.since ++ entry ∷ []) ≡ length was.since + 1 = length-append was.since (entry ∷ []) in
    record {
      since = was.since ++ entry ∷ [];
      behind = subst (λ (n : ℕ). StandBehind (entries ++ entry ∷ []) n (was.since ++ entry ∷ [])) (sym whole) (behind_more entries entry g.whole was.since other was.behind);
      few = omega (arith, whole, was.few);
      bytes = omega (arith, since, was.bytes, bytes);
      number = omega (arith, number, was.number, longer);
    }

behind_one : (entries : List (List ℕ)) (m n : ℕ) (xs ys : List (List ℕ)) → StandBehind entries m xs → StandBehind entries n ys → (m ≡ n) × (xs ≡ ys)
behind_one [] m n xs ys a b = (a.0 ∙ sym b.0, a.1 ∙ sym b.1)
behind_one (entry ∷ entries) m n xs ys (inl a) (inl b) = (a.1 ∙ sym b.1, a.2 ∙ sym b.2)
behind_one (entry ∷ entries) m n xs ys (inr a) (inr b) = (a.1 ∙ sym b.1, a.2 ∙ sym b.2)
behind_one (entry ∷ entries) m n xs ys (inl a) (inr b) = absurd (b.0 a.0)
behind_one (entry ∷ entries) m n xs ys (inr a) (inl b) = absurd (a.0 b.0)

-- more than so many, and than one for each so many of the bytes
pub past_both : (most each whole n : ℕ) → zero < each → (max (whole / each) most < n) ↔ ((most < n) × (whole < n * each))
past_both most each whole n some = (
  λ more. (omega (arith, more), (div-lt_iff_lt-mul some).0 (omega (arith, more))),
  λ both. let more : whole / each < n = (div-lt_iff_lt-mul some).1 both.1 in omega (arith, both.0, more),
)

-- as a growth says it, of a number of entries that stands in 64 bits
pub large_iff : (most each : ℕ) → zero < each → (g : Growth) →
    ((max (g.whole / each) most < g.entries) ⊎ ((g.whole < g.since) × (2 ^ 20 < g.since))) ↔ (((most < g.entries) × (g.whole < g.entries * each)) ⊎ ((g.whole < g.since) × (2 ^ 20 < g.since)))
large_iff most each some g =
    let both = past_both most each g.whole g.entries some in
    (⊎_elim (λ more. inl (both.0 more)) inr, ⊎_elim (λ more. inl (both.1 more)) inr)

many_more : (most each : ℕ) → zero < each → (g : Growth) (since : List (List ℕ)) → g.since ≡ capped (bytes_of since) → g.entries ≡ capped (length since) →
    (max (g.whole / each) most < g.entries) ⊎ ((g.whole < g.since) × (2 ^ 20 < g.since)) → ((most < length since) × (g.whole < length since * each)) ⊎ ((g.whole < bytes_of since) × (2 ^ 20 < bytes_of since))
many_more most each some g since bytes number (inl more) = inl ((past_both most each g.whole (length since) some).0 (omega (arith, number, more)))
many_more most each some g since bytes number (inr more) = inr (omega (arith, bytes, more.0), omega (arith, bytes, more.1))

many_fewer : (most each : ℕ) → most < 2 ^ 63 → zero < each → (g : Growth) (since : List (List ℕ)) → g.whole < 2 ^ 63 → g.since ≡ capped (bytes_of since) → g.entries ≡ capped (length since) →
    ((most < length since) × (g.whole < length since * each)) ⊎ ((g.whole < bytes_of since) × (2 ^ 20 < bytes_of since)) → (max (g.whole / each) most < g.entries) ⊎ ((g.whole < g.since) × (2 ^ 20 < g.since))
many_fewer most each small some g since few bytes number (inl more) =
    let past = (past_both most each g.whole (length since) some).1 more in
    let part : g.whole / each < 2 ^ 63 = omega (arith, few, div-le_self g.whole each) in
    inl (omega (arith, small, part, number, past))
many_fewer most each small some g since few bytes number (inr more) = inr (omega (arith, few, bytes, more.0), omega (arith, bytes, more.1))

pub large_if_many : (most each : ℕ) → most < 2 ^ 63 → zero < each → (entries : List (List ℕ)) (g : Growth) → IsGrowthOf entries g →
    ((max (g.whole / each) most < g.entries) ⊎ ((g.whole < g.since) × (2 ^ 20 < g.since))) ↔ AreMany most each entries
large_if_many most each small some entries g grown = (
  λ large. record {
    whole = g.whole;
    since = grown.since;
    behind = grown.behind;
    many = many_more most each some g grown.since grown.bytes grown.number large;
  },
  λ many.
      let one = behind_one entries g.whole many.whole grown.since many.since grown.behind many.behind in
      let is : ((most < length grown.since) × (g.whole < length grown.since * each)) ⊎ ((g.whole < bytes_of grown.since) × (2 ^ 20 < bytes_of grown.since)) =
      subst (λ (l : List (List ℕ)). ((most < length l) × (g.whole < length l * each)) ⊎ ((g.whole < bytes_of l) × (2 ^ 20 < bytes_of l))) (sym one.1)
      (subst (λ (w : ℕ). ((most < length many.since) × (w < length many.since * each)) ⊎ ((w < bytes_of many.since) × (2 ^ 20 < bytes_of many.since))) (sym one.0) many.many) in
      many_fewer most each small some g grown.since grown.few grown.bytes grown.number is,
)

-- the first entries
pub first_more : (entries : List (List ℕ)) (i : ℕ) (d : List ℕ) (g h : Growth) → i < length entries → (i ≡ 0 → IsWhole (get_or entries i d) → ⊥) → IsGrowthOf (take i entries) g →
    h.whole ≡ g.whole → h.since ≡ capped (g.since + length (get_or entries i d)) → h.entries ≡ capped (g.entries + 1) → IsGrowthOf (take (i + 1) entries) h
first_more entries i d g h le other was whole since number =
    subst (λ (l : List (List ℕ)). IsGrowthOf l h) (sym (take_more entries i d le))
    (more_grown (take i entries) (get_or entries i d) g h (λ none. other (first_none entries i le none)) was whole since number)
  where
    first_none : (xs : List (List ℕ)) (k : ℕ) → k < length xs → take k xs ≡ [] → k ≡ 0
    first_none xs zero l none = refl
    first_none [] (suc k) l none = absurd (omega (arith, l))
    first_none (x ∷ xs) (suc k) l none = absurd (omega (arith, ap length none))

pub first_whole : (entries : List (List ℕ)) (i : ℕ) (d : List ℕ) (g : Growth) → i ≡ 0 → i < length entries → IsWhole (get_or entries i d) →
    g.whole ≡ length (get_or entries i d) → g.whole < 2 ^ 63 → g.since ≡ 0 → g.entries ≡ 0 → IsGrowthOf (take (i + 1) entries) g
first_whole entries i d g first le is whole few since number =
    subst (λ (l : List (List ℕ)). IsGrowthOf l g) (sym (take_more entries i d le ∙ ap (λ (k : ℕ). take k entries ++ get_or entries i d ∷ []) first))
    (whole_grown (get_or entries i d) g is whole few since number)
