-- The tokens that a hunk takes, and those that it adds, where it replaces lines.
use Rattle.std.proofs.Common.{◌≡◌, ℕ, ◌+◌, ◌*◌, ◌≤◌, List, [], ◌∷◌, ◌++◌, length, take, drop, refl, sym, ap, subst, ◌∙◌, append_assoc, append-nil, length-append, length-take, take-append-drop, arith}
use Rattle.std.proofs.lemmas.List.{append_cancel_left, nil_from_length}
use Rattle.dm_tree.specs.Trees.{Lines}
use Rattle.dm_tree.specs.Changes.{ReplacesLines}
use Rattle.dm_prim.proofs.Ends.{split}
use Rattle.dm_chain.specs.Chains.{Kind, Gap, Line, Token, Turn, gap_next, line_next, other, Place, LeadFrom, lines_of, IsChain, cuts_at, HunkSteps, inner}
use Rattle.dm_chain.specs.Laws.{ReplacedLinesHaveAStep, LinesHaveAChain}
use Rattle.dm_chain.proofs.Leading.{size, lines-append, leads-parts, one_end, leads-length}
use Rattle.dm_chain.proofs.Stepping.{lines-around}
use Rattle.dm_chain.proofs.Determined.{lefts-cons}

abbrev token : {I : Type 0} → I → Kind → I → Token I
token a k b = record { left = a; kind = k; right = b }

abbrev place : {I : Type 0} → I → Turn → Place I
place a s = record { port = a; next = s }

-- tokens with these lines from a to b, with the first of these ports between them
pub record Made {I : Type 0} (a : Place I) (new : Lines) (ports : List I) (b : Place I) : Type 0 where
  pub tokens : List (Token I)
  pub rest : List I
  pub leads : LeadFrom a tokens b
  pub lines : lines_of tokens ≡ new
  pub ports_are : ports ≡ inner tokens ++ rest

pub from_gap : {I : Type 0} (a b : I) (new : Lines) (ports : List I) → 2 * length new ≤ length ports → Made (place a gap_next) new ports (place b line_next)
from_gap a b [] ports l = record { tokens = token a Gap b ∷ []; rest = ports; leads = (refl, refl); lines = refl; ports_are = refl }
from_gap a b (x ∷ new) [] l = absurd (omega arith)
from_gap a b (x ∷ new) (p ∷ []) l = absurd (omega arith)
from_gap a b (x ∷ new) (p ∷ q ∷ ports) l =
    let r = from_gap q b new ports (omega arith) in
    record {
      tokens = token a Gap p ∷ token p (Line x) q ∷ r.tokens;
      rest = r.rest;
      leads = (refl, (refl, r.leads));
      lines = ap (λ z. x ∷ z) r.lines;
      ports_are = ap (λ z. p ∷ q ∷ z) r.ports_are ∙ ap (λ z. p ∷ (z ++ r.rest)) (sym (lefts-cons r.tokens (place q gap_next) (place b line_next) r.leads refl));
    }

from_line : {I : Type 0} (a b : I) (x : List ℕ) (new : Lines) (ports : List I) → 2 * length (x ∷ new) ≤ length ports → Made (place a line_next) (x ∷ new) ports (place b gap_next)
from_line a b x [] ports l = record { tokens = token a (Line x) b ∷ []; rest = ports; leads = (refl, refl); lines = refl; ports_are = refl }
from_line a b x (y ∷ new) [] l = absurd (omega arith)
from_line a b x (y ∷ new) (p ∷ []) l = absurd (omega arith)
from_line a b x (y ∷ new) (p ∷ q ∷ ports) l =
    let r = from_line q b y new ports (omega arith) in
    record {
      tokens = token a (Line x) p ∷ token p Gap q ∷ r.tokens;
      rest = r.rest;
      leads = (refl, (refl, r.leads));
      lines = ap (λ z. x ∷ z) r.lines;
      ports_are = ap (λ z. p ∷ q ∷ z) r.ports_are ∙ ap (λ z. p ∷ (z ++ r.rest)) (sym (lefts-cons r.tokens (place q line_next) (place b gap_next) r.leads refl));
    }

made : {I : Type 0} (a b : I) (old new : Lines) (ports : List I) → 2 * length new ≤ length ports → Made (place a (cuts_at old new)) new ports (place b (other (cuts_at old new)))
made a b [] new ports l = from_gap a b new ports l
made a b (x ∷ old) [] ports l = from_gap a b [] ports l
made a b (x ∷ old) (y ∷ new) ports l = from_line a b y new ports l

-- two equal lists cut at one length have equal parts
pub same_parts : {X : Type 0} (xs ys zs ws : List X) → xs ++ ys ≡ zs ++ ws → length xs ≡ length zs → (xs ≡ zs) × (ys ≡ ws)
same_parts xs ys zs ws e l =
    let s = split xs ys zs ws e (omega arith) in
    let n : s.0 ≡ [] = nil_from_length s.0 (omega (arith, ap length s.1, length-append xs s.0)) in
    (sym (s.1 ∙ ap (λ z. xs ++ z) n ∙ append-nil xs), s.2 ∙ ap (λ z. z ++ ws) n)

size_one : (s t : Turn) (a b : ℕ) → size s + 2 * a ≡ size t + 2 * b → (s ≡ t) × (a ≡ b)
size_one gap_next gap_next a b e = (refl, omega arith)
size_one gap_next line_next a b e = absurd (omega arith)
size_one line_next gap_next a b e = absurd (omega arith)
size_one line_next line_next a b e = (refl, omega arith)

-- a chain cut at a turn s behind the lines xs
pub record Cut {I : Type 0} (first last : I) (c : List (Token I)) (xs ys : Lines) (s : Turn) : Type 0 where
  pub front : List (Token I)
  pub back : List (Token I)
  pub port : I
  pub is : front ++ back ≡ c
  pub leads : LeadFrom (place first gap_next) front (place port s)
  pub lines : lines_of front ≡ xs
  pub lines_behind : lines_of back ≡ ys

cut : {I : Type 0} (first last : I) (c : List (Token I)) (xs ys : Lines) (s : Turn) → IsChain first c last → lines_of c ≡ xs ++ ys → Cut first last c xs ys s
cut first last c xs ys s h e = found (size s + 2 * length xs) refl
  where
    size_le : (t : Turn) → size t ≤ 1
    size_le gap_next = omega arith
    size_le line_next = omega arith

    found : (n : ℕ) → size s + 2 * length xs ≡ n → Cut first last c xs ys s
    found n k =
        let f = take n c in
        let b = drop n c in
        let w : f ++ b ≡ c = take-append-drop n c in
        let whole : length c + 0 ≡ 1 + 2 * length (lines_of c) = leads-length c (place first gap_next) (place last line_next) h.leads in
        let lc : length (lines_of c) ≡ length xs + length ys = ap length e ∙ length-append xs ys in
        let r = leads-parts f b (place first gap_next) (place last line_next) (rw w h.leads) in
        let lf : length f + 0 ≡ size r.0.next + 2 * length (lines_of f) = leads-length f (place first gap_next) r.0 r.1 in
        let n_le : n ≤ length c = omega (arith, whole, lc, k, size_le s) in
        let ln : length f ≡ n = length-take n c ∙ omega (arith, n_le) in
        let one = size_one r.0.next s (length (lines_of f)) (length xs) (omega (arith, lf, ln, k)) in
        let parts = same_parts (lines_of f) (lines_of b) xs ys (sym (lines-append f b) ∙ ap (λ z. lines_of z) w ∙ e) one.1 in
        record {
          front = f;
          back = b;
          port = r.0.port;
          is = w;
          leads = subst (λ z. LeadFrom (place first gap_next) f (place r.0.port z)) one.0 r.1;
          lines = parts.0;
          lines_behind = parts.1;
        }

-- a hunk ends no earlier than it begins
ends_behind : (f : ℕ) (old new : Lines) → size (cuts_at old new) + 2 * f ≤ size (other (cuts_at old new)) + 2 * (f + length old)
ends_behind f [] new = omega arith
ends_behind f (x ∷ old) [] = omega arith
ends_behind f (x ∷ old) (y ∷ new) = omega arith

-- the tokens mid between two cuts are those that a hunk takes there
module _ (I : Type 0) (first last : I) (l : ℕ) (old new ls : Lines) (c : List (Token I)) (ports : List I) (h : IsChain first c last) (k : ReplacesLines l old new (lines_of c) ls)
    (a : Cut first last c k.front (old ++ k.back) (cuts_at old new)) (b : Cut first last c (k.front ++ old) k.back (other (cuts_at old new)))
    (mid : List (Token I)) (front_is : b.front ≡ a.front ++ mid) (back_is : a.back ≡ mid ++ b.back) where
  between : LeadFrom (place a.port (cuts_at old new)) mid (place b.port (other (cuts_at old new)))
  between =
      let start = place first gap_next in
      let end = place b.port (other (cuts_at old new)) in
      let r = leads-parts a.front mid start end (subst (λ z. LeadFrom start z end) front_is b.leads) in
      subst (λ z. LeadFrom z mid end) (one_end a.front start r.0 (place a.port (cuts_at old new)) r.1 a.leads) r.2

  old_between : lines_of mid ≡ old
  old_between = append_cancel_left k.front (lines_of mid) old
      (ap (λ z. z ++ lines_of mid) (sym a.lines) ∙ sym (lines-append a.front mid) ∙ ap (λ z. lines_of z) (sym front_is) ∙ b.lines)

  new_lines : (g : Made (place a.port (cuts_at old new)) new ports (place b.port (other (cuts_at old new)))) → lines_of (a.front ++ (g.tokens ++ b.back)) ≡ ls
  new_lines g = lines-around a.front g.tokens b.back ∙ ap (λ z. z ++ (lines_of g.tokens ++ lines_of b.back)) a.lines ∙ ap (λ z. k.front ++ (z ++ lines_of b.back)) g.lines
      ∙ ap (λ z. k.front ++ (new ++ z)) b.lines_behind ∙ sym k.after

  step_between : (g : Made (place a.port (cuts_at old new)) new ports (place b.port (other (cuts_at old new)))) → HunkSteps l old new mid g.tokens c (a.front ++ (g.tokens ++ b.back))
  step_between g = record {
    front = a.front;
    back = b.back;
    from = a.port;
    to = b.port;
    at = ap (λ z. length z + 1) a.lines ∙ k.at;
    before = sym a.is ∙ ap (λ z. a.front ++ z) back_is;
    after = refl;
    takes = between;
    adds = g.leads;
    old_is = old_between;
    new_is = g.lines;
    had_lines = h.has_lines;
    has_lines = λ z. k.left (sym (new_lines g) ∙ z);
  }

pub replaced_step : (I : Type 0) → ReplacedLinesHaveAStep I
replaced_step I first last l old new ls c ports h k n =
    let a = cut first last c k.front (old ++ k.back) (cuts_at old new) h k.before in
    let b = cut first last c (k.front ++ old) k.back (other (cuts_at old new)) h (k.before ∙ sym (append_assoc k.front old k.back)) in
    found a b (made a.port b.port old new ports n)
  where
    found : (a : Cut first last c k.front (old ++ k.back) (cuts_at old new)) (b : Cut first last c (k.front ++ old) k.back (other (cuts_at old new))) →
        Made (place a.port (cuts_at old new)) new ports (place b.port (other (cuts_at old new))) →
        (taken : List (Token I)) × (added : List (Token I)) × (d : List (Token I)) × (rest : List I) ×
        HunkSteps l old new taken added c d × (lines_of d ≡ ls) × (ports ≡ inner added ++ rest)
    found a b g =
        let la : length a.front + 0 ≡ size (cuts_at old new) + 2 * length (lines_of a.front) = leads-length a.front (place first gap_next) (place a.port (cuts_at old new)) a.leads in
        let lb : length b.front + 0 ≡ size (other (cuts_at old new)) + 2 * length (lines_of b.front) = leads-length b.front (place first gap_next) (place b.port (other (cuts_at old new))) b.leads in
        let na : length (lines_of a.front) ≡ length k.front = ap length a.lines in
        let nb : length (lines_of b.front) ≡ length k.front + length old = ap length b.lines ∙ length-append k.front old in
        let m = split a.front a.back b.front b.back (a.is ∙ sym b.is) (omega (arith, la, lb, na, nb, ends_behind (length k.front) old new)) in
        (m.0, g.tokens, a.front ++ (g.tokens ++ b.back), g.rest, step_between I first last l old new ls c ports h k a b m.0 m.1 m.2 g, new_lines I first last l old new ls c ports h k a b m.0 m.1 m.2 g, g.ports_are)

pub lines_have_a_chain : (I : Type 0) → LinesHaveAChain I
lines_have_a_chain I first last ls ports n l =
    let r = from_gap first last ls ports l in
    (r.tokens, r.rest, record { leads = r.leads; has_lines = λ z. n (sym r.lines ∙ z) }, r.lines, r.ports_are)
