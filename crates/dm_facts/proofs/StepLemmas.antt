-- Steps of a tree with identities are steps of the tree with none.
use Rattle.std.proofs.Common.{◌≡◌, [], Option, Some, None, option_map, refl, sym, ap, ◌∙◌, append-nil}
use Rattle.dm_tree.specs.Paths.{Name, Path}
use Rattle.dm_tree.specs.Trees.{Entry, Dir, File, HasParent, empty_file}
use Rattle.dm_prim.specs.Primitives.{Work, AddFile, RmFile, AddDir, RmDir, Hunk, Binary, Replace, Prim, At, Move, ChangePref, Changes, Around, Applies}
use Rattle.dm_chain.specs.Chains.{lines_of}
use Rattle.dm_chain.proofs.Stepping.{steps_replace}
use Rattle.dm_facts.specs.Heaps.{spelled}
use Rattle.dm_facts.specs.Nodes.{Node, Folder, FileWith, NodeMap, texts_of, IsFolder, IsEmptyFile, entry_of, plain, IsNameIn}
use Rattle.dm_facts.specs.Facts.{Effect}
use Rattle.dm_facts.specs.Steps.{Creates, Makes, StepsAt, Steps}
use Rattle.dm_facts.proofs.TextLemmas.{none_left, texts_replaced}

module _ (I : Type 0) where
  parent_of : (p : Path) (d : I) (n : Name) (s : NodeMap I) → IsNameIn p d n s → HasParent p (plain s)
  parent_of p d n s h = (h.parent, n, h.is, ap (option_map entry_of) h.folder)

  creates : (Is : Node I → Type 0) (k : Entry) → ((x : Node I) → Is x → entry_of x ≡ k) → (d : I) (n : Name) (o o' : Option (Node I)) (e : Effect I) →
      Creates Is d n o o' e → (option_map entry_of o ≡ None) × (option_map entry_of o' ≡ Some k)
  creates Is k same d n o o' e c = (ap (option_map entry_of) c.nothing, ap (option_map entry_of) c.there ∙ ap Some (same c.node c.is))

  empty_is : (x : Node I) → IsEmptyFile x → entry_of x ≡ empty_file
  empty_is (Folder x) h = absurd h
  empty_is (FileWith x k c) h = ap File h.1

  folder_is : (x : Node I) → IsFolder x → entry_of x ≡ Dir
  folder_is (Folder x) h = refl
  folder_is (FileWith x k c) h = absurd h

  pub changes : (w : Work) (d : I) (n : Name) (o o' : Option (Node I)) (e : Effect I) → Makes w d n o o' e → Changes w (option_map entry_of o) (option_map entry_of o')
  changes AddFile d n o o' e c = creates IsEmptyFile empty_file empty_is d n o o' e c
  changes RmFile d n o o' e c = let h = creates IsEmptyFile empty_file empty_is d n o' o (record { taken = e.added; added = e.taken }) c in (h.1, h.0)
  changes AddDir d n o o' e c = creates IsFolder Dir folder_is d n o o' e c
  changes RmDir d n o o' e c = let h = creates IsFolder Dir folder_is d n o' o (record { taken = e.added; added = e.taken }) c in (h.1, h.0)
  changes (Hunk l old new) d n o o' e c = (
    texts_of c.heap c.tokens,
    texts_of c.heap c.tokens',
    ap (option_map entry_of) c.stood,
    ap (option_map entry_of) c.there,
    rw (← c.old_is, ← c.new_is) (texts_replaced (spelled c.heap) l c.was c.is (lines_of c.tokens) (lines_of c.tokens') (steps_replace I l c.was c.is c.taken c.added c.tokens c.tokens' c.replaced)),
  )
  changes (Binary old new) d n o o' e c =
      (ap (option_map entry_of) c.stood ∙ ap (λ z. Some (File z)) c.old_is, ap (option_map entry_of) c.there ∙ ap (λ z. Some (File z)) c.new_is, λ z. c.is_file.1.has_lines (none_left (spelled c.heap) (lines_of c.tokens') (c.new_is ∙ z)))
  changes (Replace set old new) d n o o' e c = (texts_of c.heap c.tokens, texts_of c.heap' c.tokens, ap (option_map entry_of) c.stood, ap (option_map entry_of) c.there, c.turned)

  around : (w : Work) (p : Path) (e : Effect I) (s t : NodeMap I) → StepsAt p w e s t → Around w p (plain s)
  around AddFile p e s t h = parent_of p h.directory h.name s h.placed
  around RmFile p e s t h = tt
  around AddDir p e s t h = parent_of p h.directory h.name s h.placed
  around RmDir p e s t h = λ n r. ap (option_map entry_of) (h.empty tt n r)
  around (Hunk l old new) p e s t h = tt
  around (Binary old new) p e s t h = tt
  around (Replace set old new) p e s t h = tt

  pub applies : (p : Prim) (e : Effect I) (s t : NodeMap I) → Steps p e s t → Applies p (plain s) (plain t)
  applies (At p w) e s t h = record {
    around = around w p e s t h;
    here = changes w h.directory h.name (s p) (t p) e h.here;
    elsewhere = λ q n. ap (option_map entry_of) (h.elsewhere q n);
  }
  applies (Move a b) e s t h = (
    record {
      present = λ k. let x : option_map entry_of (s a) ≡ Some (entry_of h.node) = ap (option_map entry_of) h.stood in cc;
      not_into = h.apart.right;
      parent_is = parent_of b h.to h.new_name s h.place;
      absent = ap (option_map entry_of) (rw (append-nil b) at (h.free []));
    },
    record {
      there = λ r. ap (option_map entry_of) (h.there r);
      gone = λ r. ap (option_map entry_of) (h.gone r);
      elsewhere = λ q x y. ap (option_map entry_of) (h.elsewhere q x y);
    },
  )
  applies (ChangePref name old new) e s t h = ap plain (sym h.0)
