-- Hunks that step from one chain to another.
use Rattle.std.proofs.Common.{◌≡◌, ℕ, List, [], ◌∷◌, ◌++◌, refl, ap, ◌∙◌}
use Rattle.dm_tree.specs.Trees.{Lines}
use Rattle.dm_chain.specs.Chains.{Token, gap_next, line_next, other, Place, LeadFrom, lines_of, IsChain, cuts_at, HunkSteps}
use Rattle.dm_chain.specs.Laws.{StepsReplaceLines, InversesStepBack, StepsKeepChains}
use Rattle.dm_chain.proofs.Leading.{lines-append, leads-append, leads-around}

pub lines-around : {I : Type 0} (front mid back : List (Token I)) → lines_of (front ++ (mid ++ back)) ≡ lines_of front ++ (lines_of mid ++ lines_of back)
lines-around front mid back = lines-append front (mid ++ back) ∙ ap (λ z. lines_of front ++ z) (lines-append mid back)

pub steps_replace : (I : Type 0) → StepsReplaceLines I
steps_replace I l old new taken added c d h = record {
  front = lines_of h.front;
  back = lines_of h.back;
  at = h.at;
  before = ap (λ z. lines_of z) h.before ∙ lines-around h.front taken h.back ∙ ap (λ z. lines_of h.front ++ (z ++ lines_of h.back)) h.old_is;
  after = ap (λ z. lines_of z) h.after ∙ lines-around h.front added h.back ∙ ap (λ z. lines_of h.front ++ (z ++ lines_of h.back)) h.new_is;
  left = h.has_lines;
}

pub cuts_turn : (old new : Lines) → cuts_at old new ≡ cuts_at new old
cuts_turn [] [] = refl
cuts_turn [] (y ∷ new) = refl
cuts_turn (x ∷ old) [] = refl
cuts_turn (x ∷ old) (y ∷ new) = refl

pub step_back : (I : Type 0) (l : ℕ) (old new : Lines) (taken added c d : List (Token I)) → HunkSteps l old new taken added c d → HunkSteps l new old added taken d c
step_back I l old new taken added c d h = record {
  front = h.front;
  back = h.back;
  from = h.from;
  to = h.to;
  at = h.at;
  before = h.after;
  after = h.before;
  takes = rw (cuts_turn new old) h.adds;
  adds = rw (cuts_turn new old) h.takes;
  old_is = h.new_is;
  new_is = h.old_is;
  had_lines = h.has_lines;
  has_lines = h.had_lines;
}

pub inverses_step_back : (I : Type 0) → InversesStepBack I
inverses_step_back I l old new taken added c d = (step_back I l old new taken added c d, step_back I l new old added taken d c)

-- where a hunk begins to cut, and where it ends
abbrev pub from_of : {I : Type 0} {l : ℕ} {old new : Lines} {taken added c d : List (Token I)} → HunkSteps l old new taken added c d → Place I
from_of {old = old} {new = new} h = record { port = h.from; next = cuts_at old new }

abbrev pub to_of : {I : Type 0} {l : ℕ} {old new : Lines} {taken added c d : List (Token I)} → HunkSteps l old new taken added c d → Place I
to_of {old = old} {new = new} h = record { port = h.to; next = other (cuts_at old new) }

-- the front of a chain leads to where a hunk begins to cut, and its back from where it ends
pub around_step : (I : Type 0) (first last : I) (l : ℕ) (old new : Lines) (taken added c d : List (Token I)) → IsChain first c last → (h : HunkSteps l old new taken added c d) →
    LeadFrom (record { port = first; next = gap_next }) h.front (from_of h) × LeadFrom (to_of h) h.back (record { port = last; next = line_next })
around_step I first last l old new taken added c d k h =
    leads-around h.front taken h.back (record { port = first; next = gap_next }) (record { port = last; next = line_next }) (from_of h) (to_of h) (rw h.before at k.leads) h.takes refl

pub steps_keep_chains : (I : Type 0) → StepsKeepChains I
steps_keep_chains I first last l old new taken added c d k h =
    let r = around_step I first last l old new taken added c d k h in
    record {
      leads = rw h.after (leads-append h.front (added ++ h.back) (record { port = first; next = gap_next }) (from_of h) (record { port = last; next = line_next }) r.0
          (leads-append added h.back (from_of h) (to_of h) (record { port = last; next = line_next }) h.adds r.1));
      has_lines = h.has_lines;
    }
