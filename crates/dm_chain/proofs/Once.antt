-- One way only: what a hunk takes and adds, by the hunk; the hunk, by what it takes and adds.
use Rattle.std.proofs.Common.{◌≡◌, ℕ, ◌+◌, ◌*◌, ◌≤◌, List, [], ◌∷◌, ◌++◌, length, inl, inr, refl, sym, ap, ap₂, subst, ◌∙◌, append-nil, arith, Contains}
use Rattle.std.proofs.lemmas.Bool.{cases_lt}
use Rattle.std.proofs.lemmas.List.{append_cancel_left}
use Rattle.std.proofs.lemmas.List.Elements.{Contains-append_right}
use Rattle.dm_tree.specs.Trees.{Lines}
use Rattle.dm_prim.proofs.Ends.{split}
use Rattle.dm_chain.specs.Chains.{Kind, Gap, Line, Token, gap_next, line_next, other, turn_of, Place, begin_of, end_of, LeadFrom, text_of, lines_of, IsChain, cuts_at, HunkSteps, inner, lefts, HasOnePortEach}
use Rattle.dm_chain.specs.Laws.{OneWayToStep, TokensDetermineTheHunk, LeftPortsOfAChain}
use Rattle.dm_chain.proofs.Leading.{not_other, size, one_end, one_start, leads-length}
use Rattle.dm_chain.proofs.Stepping.{from_of, to_of, around_step}
use Rattle.dm_chain.proofs.Members.{head_is_in, map_is_in}
use Rattle.dm_chain.proofs.Determined.{lefts-cons, once-right}
use Rattle.dm_chain.proofs.Made.{same_parts}

pub left_ports : (I : Type 0) → LeftPortsOfAChain I
left_ports I first last c h = lefts-cons c (record { port = first; next = gap_next }) (record { port = last; next = line_next }) h.leads refl

same_kind : (j k : Kind) (xs ys : Lines) → turn_of j ≡ turn_of k → text_of j ++ xs ≡ text_of k ++ ys → (j ≡ k) × (xs ≡ ys)
same_kind Gap Gap xs ys t e = (refl, e)
same_kind Gap (Line y) xs ys t e = absurd cc
same_kind (Line x) Gap xs ys t e = absurd cc
same_kind (Line x) (Line y) xs ys t e = let i : x ≡ y = cc in (ap Line i, cc)

-- where a token ends, by what follows it
same_right : {I : Type 0} (t u : Token I) (ts us : List (Token I)) (q : Place I) → LeadFrom (end_of t) ts q → LeadFrom (end_of u) us q → lefts ts ≡ lefts us → t.right ≡ u.right
same_right t u [] [] q l k e = ap (λ z. z.port) (l ∙ sym k)
same_right t u [] (y ∷ us) q l k e = absurd cc
same_right t u (x ∷ ts) [] q l k e = absurd cc
same_right t u (x ∷ ts) (y ∷ us) q l k e = let i : x.left ≡ y.left = cc in ap (λ z. z.port) l.0 ∙ i ∙ sym (ap (λ z. z.port) k.0)

same_token : {I : Type 0} (t u : Token I) → t.left ≡ u.left → t.kind ≡ u.kind → t.right ≡ u.right → t ≡ u
same_token t u l k r = λ i. record { left = l i; kind = k i; right = r i }

-- tokens between two places are the same, if they have the same left ports and the same lines
same_leads : {I : Type 0} (p q : Place I) (ts us : List (Token I)) → LeadFrom p ts q → LeadFrom p us q → lefts ts ≡ lefts us → lines_of ts ≡ lines_of us → ts ≡ us
same_leads p q [] [] l k e f = refl
same_leads p q [] (u ∷ us) l k e f = absurd cc
same_leads p q (t ∷ ts) [] l k e f = absurd cc
same_leads p q (t ∷ ts) (u ∷ us) l k e f =
    let begins : begin_of t ≡ begin_of u = sym l.0 ∙ k.0 in
    let rest : lefts ts ≡ lefts us = cc in
    let kinds = same_kind t.kind u.kind (lines_of ts) (lines_of us) (ap (λ z. z.next) begins) f in
    let is : t ≡ u = same_token t u (ap (λ z. z.port) begins) kinds.0 (same_right t u ts us q l.1 k.1 rest) in
    ap₂ (λ a b. a ∷ b) is (same_leads (end_of t) q ts us l.1 (subst (λ z. LeadFrom (end_of z) us q) (sym is) k.1) rest kinds.1)

-- the parts of a chain at a hunk, by the lines alone
module _ (I : Type 0) (first last : I) (l : ℕ) (old new : Lines) (taken added c d taken' added' e : List (Token I)) (ch : IsChain first c last)
    (g : HunkSteps l old new taken added c d) (h : HunkSteps l old new taken' added' c e) where
  fronts : (g.front ≡ h.front) × (taken ++ g.back ≡ taken' ++ h.back)
  fronts =
      let start : Place I = record { port = first; next = gap_next } in
      let x : length g.front + 0 ≡ size (cuts_at old new) + 2 * length (lines_of g.front) = leads-length g.front start (from_of g) (around_step I first last l old new taken added c d ch g).0 in
      let y : length h.front + 0 ≡ size (cuts_at old new) + 2 * length (lines_of h.front) = leads-length h.front start (from_of h) (around_step I first last l old new taken' added' c e ch h).0 in
      same_parts g.front (taken ++ g.back) h.front (taken' ++ h.back) (sym g.before ∙ h.before) (omega (arith, x, y, g.at, h.at))

  middles : (taken ≡ taken') × (g.back ≡ h.back)
  middles =
      let x : length taken + size (cuts_at old new) ≡ size (other (cuts_at old new)) + 2 * length (lines_of taken) = leads-length taken (from_of g) (to_of g) g.takes in
      let y : length taken' + size (cuts_at old new) ≡ size (other (cuts_at old new)) + 2 * length (lines_of taken') = leads-length taken' (from_of h) (to_of h) h.takes in
      let n : length (lines_of taken) ≡ length (lines_of taken') = ap length (g.old_is ∙ sym h.old_is) in
      same_parts taken g.back taken' h.back fronts.1 (omega (arith, x, y, n))

  starts : from_of h ≡ from_of g
  starts = one_start taken (from_of g) (to_of g) (from_of h) (to_of h) g.takes (subst (λ z. LeadFrom (from_of h) z (to_of h)) (sym middles.0) h.takes) refl

  ends : to_of h ≡ to_of g
  ends = one_end taken (from_of g) (to_of h) (to_of g) (subst (λ z. LeadFrom z taken (to_of h)) starts (subst (λ z. LeadFrom (from_of h) z (to_of h)) (sym middles.0) h.takes)) g.takes

  additions : inner added ≡ inner added' → added ≡ added'
  additions i =
      let there : LeadFrom (from_of g) added' (to_of g) = subst (λ z. LeadFrom (from_of g) added' z) ends (subst (λ z. LeadFrom z added' (to_of h)) starts h.adds) in
      let ports : lefts added ≡ lefts added' = lefts-cons added (from_of g) (to_of g) g.adds refl ∙ ap (λ z. g.from ∷ z) i ∙ sym (lefts-cons added' (from_of g) (to_of g) there refl) in
      same_leads (from_of g) (to_of g) added added' g.adds there ports (g.new_is ∙ sym h.new_is)

  results : added ≡ added' → d ≡ e
  results i = g.after ∙ ap₂ (λ x y. x ++ y) fronts.0 (ap₂ (λ x y. x ++ y) i middles.1) ∙ sym h.after

pub one_way : (I : Type 0) → OneWayToStep I
one_way I first last l old new taken added c d taken' added' e ch g h i =
    let a = additions I first last l old new taken added c d taken' added' e ch g h i in
    ((middles I first last l old new taken added c d taken' added' e ch g h).0, a, results I first last l old new taken added c d taken' added' e ch g h a)

-- a token stands at one place only
one_place : {I : Type 0} (f g r s : List (Token I)) (x : Token I) → f ++ (x ∷ r) ≡ g ++ (x ∷ s) → HasOnePortEach (f ++ (x ∷ r)) → length f ≤ length g → f ≡ g
one_place {I} f g r s x e h l = go (split f (x ∷ r) g (x ∷ s) e l)
  where
    go : (m : List (Token I)) × (g ≡ f ++ m) × (x ∷ r ≡ m ++ (x ∷ s)) → f ≡ g
    go ([], a, b) = sym (a ∙ append-nil f)
    go (y ∷ m, a, b) =
        let j : r ≡ m ++ (x ∷ s) = cc in
        absurd ((once-right f (x ∷ r) h).0 (map_is_in (λ z. z.left) x r (subst (λ z. Contains z x) (sym j) (Contains-append_right m (x ∷ s) x (head_is_in x s)))))

one_place_each : {I : Type 0} (f g r s : List (Token I)) (x : Token I) → f ++ (x ∷ r) ≡ g ++ (x ∷ s) → HasOnePortEach (f ++ (x ∷ r)) → f ≡ g
one_place_each f g r s x e h = elim (cases_lt (length g) (length f)) [
  | inl l ↦ sym (one_place g f s r x (sym e) (subst (λ z. HasOnePortEach z) e h) (omega (arith, l)))
  | inr l ↦ one_place f g r s x e h l
]

-- the front of a chain is the same wherever the same tokens are taken
same_front : {I : Type 0} (p q : Place I) (taken f g b d c : List (Token I)) → LeadFrom p taken q → q.next ≡ other p.next → HasOnePortEach c → c ≡ f ++ (taken ++ b) → c ≡ g ++ (taken ++ d) → f ≡ g
same_front p q [] f g b d c l n h x y = absurd (not_other p.next (ap (λ z. z.next) l ∙ n))
same_front p q (t ∷ ts) f g b d c l n h x y = one_place_each f g (ts ++ b) (ts ++ d) t (sym x ∙ y) (subst (λ z. HasOnePortEach z) x h)

pub tokens_determine_the_hunk : (I : Type 0) → TokensDetermineTheHunk I
tokens_determine_the_hunk I first last taken added c ch o l old new d m old' new' e g h =
    let f : g.front ≡ h.front = same_front (from_of g) (to_of g) taken g.front h.front g.back h.back c g.takes refl o g.before h.before in
    let whole : taken ++ g.back ≡ taken ++ h.back = append_cancel_left h.front (taken ++ g.back) (taken ++ h.back) (ap (λ z. z ++ (taken ++ g.back)) (sym f) ∙ sym g.before ∙ h.before) in
    let b : g.back ≡ h.back = append_cancel_left taken g.back h.back whole in
    (sym g.at ∙ ap (λ z. length (lines_of z) + 1) f ∙ h.at, sym g.old_is ∙ h.old_is, sym g.new_is ∙ h.new_is, g.after ∙ ap₂ (λ x y. x ++ (added ++ y)) f b ∙ sym h.after)
