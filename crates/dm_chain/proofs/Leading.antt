-- Tokens that lead from one place to another: put together, cut apart, counted.
use Rattle.std.proofs.Common.{◌≡◌, ℕ, ◌+◌, ◌*◌, List, [], ◌∷◌, ◌++◌, length, refl, sym, ap, subst, ◌∙◌, append_assoc, length-append, arith}
use Rattle.dm_chain.specs.Chains.{Kind, Gap, Line, Token, Turn, gap_next, line_next, other, turn_of, Place, end_of, LeadFrom, text_of, lines_of}

pub lines-append : {I : Type 0} (xs ys : List (Token I)) → lines_of (xs ++ ys) ≡ lines_of xs ++ lines_of ys
lines-append [] ys = refl
lines-append (t ∷ xs) ys = ap (λ z. text_of t.kind ++ z) (lines-append xs ys) ∙ sym (append_assoc (text_of t.kind) (lines_of xs) (lines_of ys))

pub leads-append : {I : Type 0} (xs ys : List (Token I)) (p q r : Place I) → LeadFrom p xs q → LeadFrom q ys r → LeadFrom p (xs ++ ys) r
leads-append [] ys p q r h k = rw h k
leads-append (t ∷ xs) ys p q r h k = (h.0, leads-append xs ys (end_of t) q r h.1 k)

pub leads-parts : {I : Type 0} (xs ys : List (Token I)) (p r : Place I) → LeadFrom p (xs ++ ys) r → (q : Place I) × LeadFrom p xs q × LeadFrom q ys r
leads-parts [] ys p r h = (p, refl, h)
leads-parts (t ∷ xs) ys p r h = let k = leads-parts xs ys (end_of t) r h.1 in (k.0, (h.0, k.1), k.2)

-- tokens lead to one place only
pub one_end : {I : Type 0} (xs : List (Token I)) (p q r : Place I) → LeadFrom p xs q → LeadFrom p xs r → q ≡ r
one_end [] p q r h k = sym h ∙ k
one_end (t ∷ xs) p q r h k = one_end xs (end_of t) q r h.1 k.1

pub not_other : (s : Turn) → s ≡ other s → ⊥
not_other gap_next e = cc
not_other line_next e = cc

-- and from one place only, where there is a token
pub one_start : {I : Type 0} (xs : List (Token I)) (p q p' q' : Place I) → LeadFrom p xs q → LeadFrom p' xs q' → q.next ≡ other p.next → p' ≡ p
one_start [] p q p' q' h k e = absurd (not_other p.next (ap (λ z. z.next) h ∙ e))
one_start (t ∷ xs) p q p' q' h k e = k.0 ∙ sym h.0

-- how many tokens stand between the last line's gap and here
abbrev pub size : Turn → ℕ
size gap_next = 0
size line_next = 1

token_size : (k : Kind) → 1 + size (turn_of k) ≡ size (other (turn_of k)) + 2 * length (text_of k)
token_size Gap = refl
token_size (Line x) = refl

-- the lines and the places say how many tokens there are
pub leads-length : {I : Type 0} (ts : List (Token I)) (p q : Place I) → LeadFrom p ts q → length ts + size p.next ≡ size q.next + 2 * length (lines_of ts)
leads-length [] p q h = rw h (omega arith)
leads-length (t ∷ ts) p q h =
    let r : length ts + size (other (turn_of t.kind)) ≡ size q.next + 2 * length (lines_of ts) = leads-length ts (end_of t) q h.1 in
    let s : size p.next ≡ size (turn_of t.kind) = ap (λ z. size z.next) h.0 in
    omega (arith, token_size t.kind, length-append (text_of t.kind) (lines_of ts), r, s)

-- what stands between two places that have different turns begins and ends there, wherever it stands
pub leads-around : {I : Type 0} (front mid back : List (Token I)) (p q a b : Place I) → LeadFrom p (front ++ (mid ++ back)) q → LeadFrom a mid b → b.next ≡ other a.next →
    LeadFrom p front a × LeadFrom b back q
leads-around front mid back p q a b h m e =
    let f = leads-parts front (mid ++ back) p q h in
    let g = leads-parts mid back f.0 q f.2 in
    let s : f.0 ≡ a = one_start mid a b f.0 g.0 m g.1 e in
    let t : g.0 ≡ b = one_end mid a g.0 b (subst (λ x. LeadFrom x mid g.0) s g.1) m in
    (subst (λ x. LeadFrom p front x) s f.1, subst (λ x. LeadFrom x back q) t g.2)
