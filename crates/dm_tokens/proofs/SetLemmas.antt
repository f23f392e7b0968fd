-- Sets that are read into a table.
use Rattle.std.proofs.Common.{◌≡◌, ◌<◌, ℕ, Bool, true, false, not, cond, List, [], ◌∷◌, ◌++◌, ◌||◌, length, get_or, replicate, Option, Some, None, refl, sym, ap, ◌∙◌}
use Rattle.std.specs.Option.{option_map}
use Rattle.std.proofs.lemmas.List.{append_assoc, get_or-replicate, length-replicate}
use Rattle.std.proofs.lemmas.List.Folds.{list_any-append}
use Rattle.dm_tokens.specs.Sets.{Range, before, is_in, is_within, ranges_of}
use Rattle.dm_tokens.specs.Reading.{IsTableOf}

first_marks : (done : List Range) (o : Option (List Range)) (r : Range) → option_map (λ (rs : List Range). done ++ rs) (before r o) ≡ option_map (λ (rs : List Range). (done ++ r ∷ []) ++ rs) o
first_marks done None r = refl
first_marks done (Some rs) r = ap Some (sym (append_assoc done (r ∷ []) rs))

-- a range more is read
pub read_more : (whole rest left : List ℕ) (done : List Range) (r : Range) → ranges_of whole ≡ option_map (λ (rs : List Range). done ++ rs) (ranges_of rest) →
    ranges_of rest ≡ before r (ranges_of left) → ranges_of whole ≡ option_map (λ (rs : List Range). (done ++ r ∷ []) ++ rs) (ranges_of left)
read_more whole rest left done r so e = so ∙ ap (option_map (λ (rs : List Range). done ++ rs)) e ∙ first_marks done (ranges_of left) r

nothing_read : (o : Option (List Range)) → o ≡ option_map (λ (rs : List Range). [] ++ rs) o
nothing_read None = refl
nothing_read (Some rs) = refl

-- before a text is read
pub read_none : (text : List ℕ) → ranges_of text ≡ option_map (λ (rs : List Range). [] ++ rs) (ranges_of text)
read_none text = nothing_read (ranges_of text)

table_bit : (round was within now t : Bool) → t ≡ cond round (not was) was → now ≡ cond within (not round) t →
    now ≡ cond round (not (was || (within || false))) (was || (within || false))
table_bit true true true now t e f = f
table_bit true true false now t e f = f ∙ e
table_bit true false true now t e f = f
table_bit true false false now t e f = f ∙ e
table_bit false true true now t e f = f
table_bit false true false now t e f = f ∙ e
table_bit false false true now t e f = f
table_bit false false false now t e f = f ∙ e

-- a table with a range more
pub table_more : (round : Bool) (t t' : List Bool) (done : List Range) (r : Range) → IsTableOf round t done → length t' ≡ 256 →
    ((b : ℕ) → b < 256 → get_or t' b false ≡ cond (is_within r b) (not round) (get_or t b false)) → IsTableOf round t' (done ++ r ∷ [])
table_more round t t' done r is size marked = record {
  size = size;
  each = λ b lt.
      table_bit round (is_in done b) (is_within r b) (get_or t' b false) (get_or t b false) (is.each b lt) (marked b lt)
      ∙ ap (λ (v : Bool). cond round (not v) v) (sym (list_any-append (λ (s : Range). is_within s b) done (r ∷ [])));
}

no_range : (round : Bool) → round ≡ cond round (not false) false
no_range true = refl
no_range false = refl

-- the table of no range
pub table_none : (round : Bool) → IsTableOf round (replicate 256 round) []
table_none round = record {
  size = length-replicate 256 round;
  each = λ b lt. get_or-replicate 256 b round false lt ∙ no_range round;
}
