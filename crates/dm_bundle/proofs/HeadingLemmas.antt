-- The heading, line by line.
use Rattle.std.proofs.Common.{◌≡◌, ◌≢◌, ◌≤◌, ◌<◌, ◌-◌, ℕ, List, [], ◌∷◌, ◌++◌, length, drop, refl, sym, ap, subst, ◌∙◌, arith, inl, inr}
use Rattle.std.proofs.lemmas.List.{length-append, length-drop}
use Rattle.dm_named.specs.Words.{Line}
use Rattle.dm_bundle.specs.Heading.{heading_line, Summary, Heading}
use Rattle.dm_named.proofs.GroupLemmas.{one_line}

-- reading on after a line that is not the heading
over : (text l rest from r : List ℕ) (ls : List (List ℕ)) → Line text l rest → l ≢ heading_line → Summary text ls from → Line from (heading_line) r → Heading rest r
over text l rest from r [] line other before h = absurd (other (one_line text l (heading_line) rest r line (subst (λ (t : List ℕ). Line t (heading_line) r) (sym before) h)).0)
over text l rest from r (m ∷ ms) line other before h =
    let same = (one_line text l m rest before.0 line (record { free = before.2; parts = inl before.1 })).1 in
    record { summary = ms; here = from; before = subst (λ (t : List ℕ). Summary t ms from) (sym same) before.4; line = h }

pub heading_over : (text l rest r : List ℕ) → Line text l rest → l ≢ heading_line → Heading text r → Heading rest r
heading_over text l rest r line other h = over text l rest h.here r h.summary line other h.before h.line

none_there : (from r : List ℕ) (ls : List (List ℕ)) → Summary [] ls from → Line from (heading_line) r → ⊥
none_there from r [] before h = elim h.parts [ inl e ↦ (let f : [] ≡ heading_line ++ 10 ∷ r = before ∙ e in cc) | inr e ↦ (let f : [] ≡ heading_line = before ∙ e.0 in cc) ]
none_there from r (m ∷ ms) before h = omega (arith, ap length before.1, length-append m (10 ∷ before.0))

gone : (xs : List ℕ) → length xs ≡ 0 → xs ≡ []
gone [] e = refl
gone (x ∷ xs) e = absurd (omega arith)

pub no_heading : (text : List ℕ) (at : ℕ) (r : List ℕ) → length text ≤ at → Heading (drop at text) r → ⊥
no_heading text at r le h = none_there h.here r h.summary (subst (λ (t : List ℕ). Summary t h.summary h.here) (gone (drop at text) (omega (arith, length-drop at text))) h.before) h.line

pub heading_on : (text l rest r : List ℕ) → Line text l rest → l ≢ heading_line → Heading rest r → Heading text r
heading_on text l rest r line other h =
    elim line.parts [
      | inl e ↦ record { summary = l ∷ h.summary; here = h.here; before = (rest, e, line.free, other, h.before); line = h.line }
      | inr e ↦ absurd (none_there h.here r h.summary (subst (λ (t : List ℕ). Summary t h.summary h.here) e.1 h.before) h.line)
    ]

pub heading_here : (text rest : List ℕ) (l : List ℕ) → Line text l rest → l ≡ heading_line → Heading text rest
heading_here text rest l line e = record { summary = []; here = text; before = refl; line = subst (λ (t : List ℕ). Line text t rest) e line }

pub line_further : (text : List ℕ) (at next : ℕ) (l : List ℕ) → at < length text → next ≤ length text → Line (drop at text) l (drop next text) → length text - next < length text - at
line_further text at next l lt le line =
    elim line.parts [
      | inl e ↦ omega (arith, length-drop at text, length-drop next text, ap length e, length-append l (10 ∷ drop next text))
      | inr e ↦ omega (arith, length-drop next text, ap length e.1)
    ]
