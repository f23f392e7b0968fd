-- What a primitive did to a tree with identities is undone by its inverse.
use Rattle.std.proofs.Common.{◌≡◌, ◌≢◌, inl, inr, [], ◌∷◌, ◌++◌, Option, Some, sym, ap, ◌∙◌, append_assoc, append-nil}
use Rattle.std.proofs.lemmas.List.{append_cancel_left}
use Rattle.dm_tree.specs.Paths.{Name, Path, Under}
use Rattle.dm_tree.proofs.Paths.{apart_sym, under_append, under_trans}
use Rattle.dm_prim.specs.Primitives.{Work, AddFile, RmFile, AddDir, RmDir, Hunk, Binary, Replace, Prim, At, Move, ChangePref, inv_work, inv}
use Rattle.dm_prim.proofs.Maps.{child_differs}
use Rattle.dm_prim.proofs.Squares.{dir_inv}
use Rattle.dm_prim.proofs.TurnedLines.{turned_back}
use Rattle.dm_chain.specs.Chains.{lines_of}
use Rattle.dm_chain.proofs.Stepping.{steps_keep_chains, inverses_step_back}
use Rattle.dm_facts.specs.Heaps.{spelled}
use Rattle.dm_facts.specs.Nodes.{Node, NodeMap, texts_of, IsNameIn}
use Rattle.dm_facts.specs.Facts.{Effect, inverse}
use Rattle.dm_facts.specs.Steps.{Makes, StepsAt, StepsMove, Steps}
use Rattle.dm_facts.proofs.TextLemmas.{none_left}

nonempty : (r : Path) (n : Name) → r ++ n ∷ [] ≡ [] → ⊥
nonempty [] n e = cc
nonempty (x ∷ r) n e = cc

-- a path is above its own name
pub parent_off : (p q : Path) (n : Name) → p ≡ q ++ n ∷ [] → Under q p → ⊥
parent_off p q n e u =
    let k : q ≡ p ++ u.0 = u.1 in
    let m : p ++ (u.0 ++ n ∷ []) ≡ p ++ [] = sym (rw k at e ∙ append_assoc p u.0 (n ∷ [])) ∙ sym (append-nil p) in
    nonempty u.0 n (append_cancel_left p (u.0 ++ n ∷ []) [] m)

-- what is under x keeps its names there
pub name_under : (p q x : Path) (n : Name) → p ≡ q ++ n ∷ [] → Under q x → Under p x
name_under p q x n e u = rw e (under_trans (q ++ n ∷ []) q x (under_append q (n ∷ [])) u)

-- no path is inside itself
pub inside_differs : (p : Path) (n : Name) (r : Path) → p ++ n ∷ r ≢ p
inside_differs p n r e = let k : n ∷ r ≡ [] = append_cancel_left p (n ∷ r) [] (e ∙ sym (append-nil p)) in cc

module _ (I : Type 0) where
  -- a name stays one where its directory does
  pub name_kept : (p : Path) (d : I) (n : Name) (s t : NodeMap I) (h : IsNameIn p d n s) → t h.parent ≡ s h.parent → IsNameIn p d n t
  name_kept p d n s t h e = record { parent = h.parent; is = h.is; folder = e ∙ h.folder }

  makes_back : (w : Work) (d : I) (n : Name) (o o' : Option (Node I)) (e : Effect I) → Makes w d n o o' e → Makes (inv_work w) d n o' o (inverse e)
  makes_back AddFile d n o o' e c = c
  makes_back RmFile d n o o' e c = c
  makes_back AddDir d n o o' e c = c
  makes_back RmDir d n o o' e c = c
  makes_back (Hunk l old new) d n o o' e c = record {
    file = c.file;
    heap = c.heap;
    tokens = c.tokens';
    tokens' = c.tokens;
    taken = c.added;
    added = c.taken;
    was = c.is;
    is = c.was;
    stood = c.there;
    there = c.stood;
    is_file = (c.is_file.0, steps_keep_chains I c.file c.is_file.0 l c.was c.is c.taken c.added c.tokens c.tokens' c.is_file.1 c.replaced, c.is_file.2);
    old_is = c.new_is;
    new_is = c.old_is;
    replaced = (inverses_step_back I l c.was c.is c.taken c.added c.tokens c.tokens').0 c.replaced;
    effect = ap inverse c.effect;
  }
  makes_back (Binary old new) d n o o' e c = record {
    file = c.file;
    heap = c.heap;
    tokens = c.tokens';
    tokens' = c.tokens;
    stood = c.there;
    there = c.stood;
    was_file = c.is_file;
    is_file = c.was_file;
    old_is = c.new_is;
    new_is = c.old_is;
    effect = ap inverse c.effect;
  }
  makes_back (Replace set old new) d n o o' e c = record {
    file = c.file;
    heap = c.heap';
    heap' = c.heap;
    tokens = c.tokens;
    stood = c.there;
    there = c.stood;
    was_file = c.is_file;
    is_file = c.was_file;
    turned = turned_back set old new (texts_of c.heap c.tokens) (texts_of c.heap' c.tokens) c.turned (λ z. c.was_file.1.has_lines (none_left (spelled c.heap) (lines_of c.tokens) z));
    change = elim c.change [ inl k ↦ inr k | inr k ↦ inl k ];
  }

  pub works_back : (p : Path) (w : Work) (e : Effect I) (s t : NodeMap I) → StepsAt p w e s t → StepsAt p (inv_work w) (inverse e) t s
  works_back p w e s t h = record {
    directory = h.directory;
    name = h.name;
    placed = name_kept p h.directory h.name s t h.placed (h.elsewhere h.placed.parent (λ k. child_differs p h.name (sym (rw k at h.placed.is))));
    empty = λ d n r. h.elsewhere (p ++ n ∷ r) (inside_differs p n r) ∙ h.empty (dir_inv w d) n r;
    here = makes_back w h.directory h.name (s p) (t p) e h.here;
    elsewhere = λ q n. sym (h.elsewhere q n);
  }

  -- where a node that moved stands
  pub moved_node : (a b : Path) (e : Effect I) (s t : NodeMap I) (h : StepsMove a b e s t) → t b ≡ Some h.node
  moved_node a b e s t h = rw (append-nil b, append-nil a) at (h.there []) ∙ h.stood

  pub moved_name : (a b : Path) (e : Effect I) (s t : NodeMap I) (h : StepsMove a b e s t) → IsNameIn b h.to h.new_name t
  moved_name a b e s t h = name_kept b h.to h.new_name s t h.place (h.elsewhere h.place.parent
      (λ u. h.apart.right (name_under b h.place.parent a h.new_name h.place.is u))
      (parent_off b h.place.parent h.new_name h.place.is))

  pub moves_back : (a b : Path) (e : Effect I) (s t : NodeMap I) → StepsMove a b e s t → StepsMove b a (inverse e) t s
  moves_back a b e s t h = record {
    apart = apart_sym h.apart;
    node = h.node;
    stood = moved_node a b e s t h;
    from = h.to;
    old_name = h.new_name;
    placed = moved_name a b e s t h;
    to = h.from;
    new_name = h.old_name;
    place = name_kept a h.from h.old_name s t h.placed (h.elsewhere h.placed.parent
        (parent_off a h.placed.parent h.old_name h.placed.is)
        (λ u. h.apart.left (name_under a h.placed.parent b h.old_name h.placed.is u)));
    free = h.gone;
    there = λ r. sym (h.there r);
    gone = h.free;
    elsewhere = λ q x y. sym (h.elsewhere q y x);
    effect = ap inverse h.effect;
  }

  pub steps_back : (p : Prim) (e : Effect I) (s t : NodeMap I) → Steps p e s t → Steps (inv p) (inverse e) t s
  steps_back (At p w) e s t h = works_back p w e s t h
  steps_back (Move a b) e s t h = moves_back a b e s t h
  steps_back (ChangePref name old new) e s t h = (sym h.0, ap inverse h.1)
