-- Both ways of a square make the same tree with identities, and each primitive has the same effect in both.
use Rattle.std.proofs.Common.{◌≡◌, ℕ, List, false, refl, sym, subst, ◌∙◌}
use Rattle.dm_tree.specs.Trees.{Lines}
use Rattle.dm_tokens.specs.Turning.{TurnAll}
use Rattle.dm_tokens.specs.Validity.{TokenWords, AreOfSet}
use Rattle.dm_prim.specs.Primitives.{Prim}
use Rattle.dm_prim.specs.Table.{TurnsPart, ShareNoToken}
use Rattle.dm_prim.proofs.Squares.{Square, hunk_down, hunk_up, hunk_turned, turned_hunk, replaces, free, then_move, move_then, moves, pref_then, then_pref}
use Rattle.dm_prim.proofs.TableRows.{row_from}
use Rattle.dm_prim.proofs.TurnedLines.{one_set, part_back}
use Rattle.dm_facts.specs.Facts.{Effect}
use Rattle.dm_facts.specs.Heaps.{leans}
use Rattle.dm_facts.specs.Nodes.{NodeMap}
use Rattle.dm_facts.specs.Steps.{Steps}
use Rattle.dm_facts.proofs.Crossing.{undoing_good}
use Rattle.dm_facts.proofs.HeapLemmas.{not_leaning}
use Rattle.dm_facts.proofs.ReplaceSquares.{hunk_then_replace, replace_then_hunk, replace_then_replace}
use Rattle.dm_facts.proofs.SquareLemmas.{BothStep, hunks_step, works_step, work_then_move, move_then_work, moves_step}

-- the lines of a part turn by the set that the text means
as_one : (set o n : List ℕ) (ls ls' : Lines) (tokens : AreOfSet set o n) → TurnsPart set o n ls ls' → TurnAll tokens.set o n ls ls'
as_one set o n ls ls' tokens h = subst (λ s. TurnAll s o n ls ls') (one_set set h.tokens.set tokens.set h.tokens.means tokens.means) h.turned

-- replaces that have no token in common don't lean on each other
apart_tokens : (set o1 n1 o2 n2 : List ℕ) → ShareNoToken o1 n1 o2 n2 → leans (record { set = set; old = o1; new = n1 }) (record { set = set; old = o2; new = n2 }) ≡ false
apart_tokens set o1 n1 o2 n2 c =
    not_leaning (record { set = set; old = o1; new = n1 }) (record { set = set; old = o2; new = n2 }) (record { one_set = refl; oo = c.olds; on = c.old_new; new_old = c.new_old; nn = c.news })

module _ (I : Type 0) where
  pub square_steps : {p q q' p' : Prim} → Square p q q' p' → (e f : Effect I) (s t u : NodeMap I) → Steps p e s t → Steps q f t u → BothStep I q' p' f e s u
  square_steps (hunk_down {f} {l1} {l2} {l2'} {o1} {n1} {o2} {n2} c e) x y s t u h k =
      hunks_step I f l1 l2 l2' l1 o1 n1 o2 n2 x y s t u h k (λ w1 i1 w2 i2 a b g d. row_from (hunk_down {o1 = w1} {n1 = i1} {o2 = w2} {n2 = i2} (rw (a, b, g, d) c) (rw (a, b) e)))
  square_steps (hunk_up {f} {l1} {l2} {l1'} {o1} {n1} {o2} {n2} c e) x y s t u h k =
      hunks_step I f l1 l2 l2 l1' o1 n1 o2 n2 x y s t u h k (λ w1 i1 w2 i2 a b g d. row_from (hunk_up {o1 = w1} {n1 = i1} {o2 = w2} {n2 = i2} (rw (a, b, g, d) c) (rw (g, d) e)))
  square_steps (hunk_turned {f} {l} {old} {new} {old'} {new'} {set} {o} {n} a b) x y s t u h k =
      hunk_then_replace I f l old new old' new' (record { set = set; old = o; new = n }) a.tokens a.turned (as_one set o n new new' a.tokens b) x y s t u h k
  square_steps (turned_hunk {f} {l} {old} {new} {old'} {new'} {set} {o} {n} a b) x y s t u h k =
      let words : TokenWords = record { set = set; old = o; new = n } in
      let back = undoing_good words a.tokens in
      replace_then_hunk I f l old' new' old new words a.tokens (as_one set n o old' old back (part_back set o n old old' a)) (as_one set n o new' new back (part_back set o n new new' b)) x y s t u h k
  square_steps (replaces {f} {set} {o1} {n1} {o2} {n2} c) x y s t u h k =
      replace_then_replace I f (record { set = set; old = o1; new = n1 }) (record { set = set; old = o2; new = n2 }) (apart_tokens set o1 n1 o2 n2 c) x y s t u h k
  square_steps (free {f} {g} {w} {v} c) x y s t u h k = works_step I f w g v c x y s t u h k
  square_steps (then_move {f} {f'} {a} {b} {w} c e) x y s t u h k = rw e (work_then_move I f w a b c x y s t u h k)
  square_steps (move_then {f} {f'} {a} {b} {w} c e) x y s t u h k = move_then_work I f w a b c x y s t u h (rw e at k)
  square_steps (moves {a} {b} {c} {d} {a'} {b'} {c'} {d'} p ec ed ea eb) x y s t u h k = rw (ea, eb) (moves_step I a b c d p x y s t u h (rw (ec, ed) at k))
  square_steps (pref_then {q = q} c) x y s t u h k = (u, subst (λ z. Steps q y z u) (sym h.0) k, (refl, h.1))
  square_steps (then_pref {p = p} c) x y s t u h k = (s, (refl, k.1), subst (λ z. Steps p x s z) k.0 h)
