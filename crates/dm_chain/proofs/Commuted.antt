-- Two hunks of one file that change places.
use Rattle.std.proofs.Common.{◌≡◌, ◌≢◌, ℕ, ◌+◌, ◌*◌, ◌<◌, ◌≤◌, List, [], ◌∷◌, ◌++◌, length, inl, inr, refl, sym, ap, ◌∙◌, append_assoc, length-append, arith}
use Rattle.dm_tree.specs.Trees.{Lines}
use Rattle.dm_prim.specs.Primitives.{Hunk, Prim, At}
use Rattle.dm_prim.specs.Table.{LiesAbove}
use Rattle.dm_prim.proofs.Ends.{split}
use Rattle.dm_prim.proofs.Single.{Both, apart, at_one, answer_from}
use Rattle.dm_chain.specs.Chains.{Token, gap_next, other, Place, lines_of, IsChain, cuts_at, HunkSteps}
use Rattle.dm_chain.specs.Laws.{CommutedHunksStepAlike}
use Rattle.dm_chain.proofs.Leading.{size, lines-append, leads-append, leads-length}
use Rattle.dm_chain.proofs.Stepping.{from_of, to_of, around_step, steps_keep_chains, step_back, lines-around}

size_other : (old new : Lines) → size (cuts_at old new) + size (other (cuts_at old new)) ≡ 1
size_other [] new = refl
size_other (x ∷ old) [] = refl
size_other (x ∷ old) (y ∷ new) = refl

-- a hunk with old and new lines begins to cut behind a gap
size_both : (old new : Lines) → 0 < length old → 0 < length new → size (cuts_at old new) ≡ 1
size_both [] new h k = absurd (omega arith)
size_both (x ∷ old) [] h k = absurd (omega arith)
size_both (x ∷ old) (y ∷ new) h k = refl

abbrev pub Above : ℕ → ℕ → Lines → Lines → Lines → Lines → Type 0
Above e m o1 n1 o2 n2 = LiesAbove e m (length o1) (length n1) (length o2) (length n2)

-- where one hunk ends no later than another begins, in tokens: twice the lines before, and the gap
ends_before : (e m e1 m1 : ℕ) (o1 n1 o2 n2 : Lines) → e + 1 ≡ e1 → m + 1 ≡ m1 → Above e1 m1 o1 n1 o2 n2 →
    size (other (cuts_at o1 n1)) + 2 * e ≤ size (cuts_at o2 n2) + 2 * m
ends_before e m e1 m1 o1 n1 o2 n2 x y (inl h) = omega (arith, size_other o1 n1)
ends_before e m e1 m1 o1 n1 o2 n2 x y (inr h) = omega (arith, size_other o1 n1, size_both o1 n1 h.1 h.2, size_both o2 n2 h.3 h.4)

-- the lines before the first hunk, of it, and of what stands between the two: where there are none of the last two, they don't touch
some_between : (l1 l2 f b : ℕ) (o1 n1 o2 n2 : Lines) → f + 1 ≡ l1 → (f + (length n1 + b)) + 1 ≡ l2 → Above (l1 + length n1) l2 o1 n1 o2 n2 → 0 < length o1 + b
some_between l1 l2 f b o1 n1 o2 n2 x y (inl h) = omega arith
some_between l1 l2 f b o1 n1 o2 n2 x y (inr h) = omega (arith, h.1)

count : {I : Type 0} (front mid back : List (Token I)) → length (lines_of (front ++ (mid ++ back))) ≡ length (lines_of front) + (length (lines_of mid) + length (lines_of back))
count front mid back = ap length (lines-around front mid back) ∙ length-append (lines_of front) (lines_of mid ++ lines_of back) ∙ ap (λ z. length (lines_of front) + z) (length-append (lines_of mid) (lines_of back))

-- the first hunk g above the second h, with mid between them
module _ (I : Type 0) (l1 l2 m : ℕ) (o1 n1 o2 n2 : Lines) (t1 a1 t2 a2 c d e : List (Token I)) (above : Above (l1 + length n1) l2 o1 n1 o2 n2) (moved : m + length n1 ≡ l2 + length o1)
    (g : HunkSteps l1 o1 n1 t1 a1 c d) (h : HunkSteps l2 o2 n2 t2 a2 d e) (mid : List (Token I)) (front_is : h.front ≡ (g.front ++ a1) ++ mid) (back_is : g.back ≡ mid ++ (t2 ++ h.back)) where
  second_alone : List (Token I)
  second_alone = g.front ++ (t1 ++ (mid ++ (a2 ++ h.back)))

  lines_before : (length (lines_of g.front) + (length n1 + length (lines_of mid))) + 1 ≡ l2
  lines_before = ap (λ z. z + 1) (sym (ap (λ z. length (lines_of z)) (front_is ∙ append_assoc g.front a1 mid) ∙ count g.front a1 mid ∙ ap (λ z. length (lines_of g.front) + (length z + length (lines_of mid))) g.new_is)) ∙ h.at

  count_alone : length (lines_of second_alone) ≡ length (lines_of g.front) + (length o1 + length (lines_of (mid ++ (a2 ++ h.back))))
  unfolding second_alone
  count_alone = count g.front t1 (mid ++ (a2 ++ h.back)) ∙ ap (λ z. length (lines_of g.front) + (length z + length (lines_of (mid ++ (a2 ++ h.back))))) g.old_is

  alone_has_lines : lines_of second_alone ≢ []
  alone_has_lines z =
      let n : length (lines_of second_alone) ≡ 0 = ap length z in
      omega (arith, n, count_alone, count mid a2 h.back, some_between l1 l2 (length (lines_of g.front)) (length (lines_of mid)) o1 n1 o2 n2 g.at lines_before above)

  second_first : HunkSteps m o2 n2 t2 a2 c second_alone
  unfolding second_alone
  second_first = record {
    front = g.front ++ (t1 ++ mid);
    back = h.back;
    from = h.from;
    to = h.to;
    at = omega (arith, count g.front t1 mid, ap length g.old_is, lines_before, moved);
    before = g.before ∙ ap (λ z. g.front ++ (t1 ++ z)) back_is ∙ simp append_assoc;
    after = simp append_assoc;
    takes = h.takes;
    adds = h.adds;
    old_is = h.old_is;
    new_is = h.new_is;
    had_lines = g.had_lines;
    has_lines = alone_has_lines;
  }

  first_second : HunkSteps l1 o1 n1 t1 a1 second_alone e
  unfolding second_alone
  first_second = record {
    front = g.front;
    back = mid ++ (a2 ++ h.back);
    from = g.from;
    to = g.to;
    at = g.at;
    before = refl;
    after = h.after ∙ ap (λ z. z ++ (a2 ++ h.back)) front_is ∙ simp append_assoc;
    takes = g.takes;
    adds = g.adds;
    old_is = g.old_is;
    new_is = g.new_is;
    had_lines = alone_has_lines;
    has_lines = h.has_lines;
  }

-- what the second hunk steps to before the first, and the first from there
pub record Alike (I : Type 0) (m k : ℕ) (o1 n1 o2 n2 : Lines) (t1 a1 t2 a2 c e : List (Token I)) : Type 0 where
  pub between : List (Token I)
  pub second : HunkSteps m o2 n2 t2 a2 c between
  pub first : HunkSteps k o1 n1 t1 a1 between e

pub above_alike : (I : Type 0) (first last : I) (l1 l2 m : ℕ) (o1 n1 o2 n2 : Lines) (t1 a1 t2 a2 c d e : List (Token I)) →
    Above (l1 + length n1) l2 o1 n1 o2 n2 → m + length n1 ≡ l2 + length o1 → IsChain first c last → HunkSteps l1 o1 n1 t1 a1 c d → HunkSteps l2 o2 n2 t2 a2 d e →
    Alike I m l1 o1 n1 o2 n2 t1 a1 t2 a2 c e
above_alike I first last l1 l2 m o1 n1 o2 n2 t1 a1 t2 a2 c d e q w k g h =
    let p : Place I = record { port = first; next = gap_next } in
    let r = around_step I first last l1 o1 n1 t1 a1 c d k g in
    let s = around_step I first last l2 o2 n2 t2 a2 d e (steps_keep_chains I first last l1 o1 n1 t1 a1 c d k g) h in
    let x : length (g.front ++ a1) + 0 ≡ size (other (cuts_at o1 n1)) + 2 * length (lines_of (g.front ++ a1)) = leads-length (g.front ++ a1) p (to_of g) (leads-append g.front a1 p (from_of g) (to_of g) r.0 g.adds) in
    let y : length h.front + 0 ≡ size (cuts_at o2 n2) + 2 * length (lines_of h.front) = leads-length h.front p (from_of h) s.0 in
    let n : length (lines_of (g.front ++ a1)) ≡ length (lines_of g.front) + length n1 = ap length (lines-append g.front a1) ∙ length-append (lines_of g.front) (lines_of a1) ∙ ap (λ z. length (lines_of g.front) + length z) g.new_is in
    let b : size (other (cuts_at o1 n1)) + 2 * (length (lines_of g.front) + length n1) ≤ size (cuts_at o2 n2) + 2 * length (lines_of h.front) =
    ends_before (length (lines_of g.front) + length n1) (length (lines_of h.front)) (l1 + length n1) l2 o1 n1 o2 n2 (omega (arith, g.at)) h.at q in
    let z = split (g.front ++ a1) g.back h.front (t2 ++ h.back) (append_assoc g.front a1 g.back ∙ sym g.after ∙ h.before) (omega (arith, x, y, n, b)) in
    record {
      between = second_alone I l1 l2 m o1 n1 o2 n2 t1 a1 t2 a2 c d e q w g h z.0 z.1 z.2;
      second = second_first I l1 l2 m o1 n1 o2 n2 t1 a1 t2 a2 c d e q w g h z.0 z.1 z.2;
      first = first_second I l1 l2 m o1 n1 o2 n2 t1 a1 t2 a2 c d e q w g h z.0 z.1 z.2;
    }

-- the second above the first: the inverses, the other way
pub below_alike : (I : Type 0) (first last : I) (l1 l2 k : ℕ) (o1 n1 o2 n2 : Lines) (t1 a1 t2 a2 c d e : List (Token I)) →
    Above (l2 + length o2) l1 o1 n1 o2 n2 → k + length o2 ≡ l1 + length n2 → IsChain first c last → HunkSteps l1 o1 n1 t1 a1 c d → HunkSteps l2 o2 n2 t2 a2 d e →
    Alike I l2 k o1 n1 o2 n2 t1 a1 t2 a2 c e
below_alike I first last l1 l2 k o1 n1 o2 n2 t1 a1 t2 a2 c d e q w ch g h =
    let end : IsChain first e last = steps_keep_chains I first last l2 o2 n2 t2 a2 d e (steps_keep_chains I first last l1 o1 n1 t1 a1 c d ch g) h in
    let r = above_alike I first last l2 l1 k n2 o2 n1 o1 a2 t2 a1 t1 e d c (turned q) w end (step_back I l2 o2 n2 t2 a2 d e h) (step_back I l1 o1 n1 t1 a1 c d g) in
    record { between = r.between; second = step_back I l2 n2 o2 a2 t2 r.between c r.first; first = step_back I k n1 o1 a1 t1 e r.between r.second }
  where
    turned : Above (l2 + length o2) l1 o1 n1 o2 n2 → Above (l2 + length o2) l1 n2 o2 n1 o1
    turned (inl x) = inl x
    turned (inr x) = inr (x.0, x.4, x.3, x.2, x.1)

-- the same for what the table answers
pub commuted_alike : (I : Type 0) → CommutedHunksStepAlike I
commuted_alike I first last f l1 l2 m k o1 n1 o2 n2 o1' n1' o2' n2' t1 a1 t2 a2 c d e row ch g h = go (answer_from row)
  where
    found : Alike I m k o1 n1 o2 n2 t1 a1 t2 a2 c e → o1' ≡ o1 → n1' ≡ n1 → o2' ≡ o2 → n2' ≡ n2 →
        (d' : List (Token I)) × HunkSteps m o2' n2' t2 a2 c d' × HunkSteps k o1' n1' t1 a1 d' e
    found r x1 y1 x2 y2 = (r.between, rw (x2, y2) r.second, rw (x1, y1) r.first)

    go : Both f (Hunk l1 o1 n1) f (Hunk l2 o2 n2) (At f (Hunk m o2' n2')) (At f (Hunk k o1' n1')) →
        (d' : List (Token I)) × HunkSteps m o2' n2' t2 a2 c d' × HunkSteps k o1' n1' t1 a1 d' e
    go (apart s i j) = absurd (s.differ refl)
    go (at_one {v'} {w'} s (y, x, inl (q, w, z), a, b) i j) =
        let e3 : y ≡ m = cc in let e4 : l1 ≡ k = cc in
        let moved : m + length n1 ≡ l2 + length o1 = rw e3 at w in
        found (rw e4 at (above_alike I first last l1 l2 m o1 n1 o2 n2 t1 a1 t2 a2 c d e q moved ch g h)) (cc) (cc) (cc) (cc)
    go (at_one {v'} {w'} s (y, x, inr (q, z, w), a, b) i j) =
        let e3 : x ≡ k = cc in let e4 : l2 ≡ m = cc in
        let moved : k + length o2 ≡ l1 + length n2 = rw e3 at w in
        found (rw e4 at (below_alike I first last l1 l2 k o1 n1 o2 n2 t1 a1 t2 a2 c d e q moved ch g h)) (cc) (cc) (cc) (cc)
