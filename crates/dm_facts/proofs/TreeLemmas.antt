-- Trees with identities, and what they are without.
use Rattle.std.proofs.Common.{◌≡◌, ◌≢◌, List, Option, Some, None, option_map, refl, ap, ◌∙◌}
use Rattle.dm_tree.specs.Paths.{Name, Path}
use Rattle.dm_tree.specs.Trees.{Lines, Dir, File, HasParent, IsLawful}
use Rattle.dm_chain.specs.Chains.{Token, lines_of}
use Rattle.dm_facts.specs.Heaps.{Heap, spelled}
use Rattle.dm_facts.specs.Nodes.{Node, Folder, FileWith, NodeMap, texts_of, entry_of, plain, IsNameIn, IsTree}
use Rattle.dm_facts.proofs.TextLemmas.{none_left}

module _ (I : Type 0) where
  pub folder_of : (o : Option (Node I)) → option_map entry_of o ≡ Some Dir → (d : I) × (o ≡ Some (Folder d))
  folder_of None h = let k : None ≡ Some Dir = h in absurd (cc)
  folder_of (Some (Folder d)) h = (d, refl)
  folder_of (Some (FileWith x k c)) h = let i : Some (File (texts_of k c)) ≡ Some Dir = h in absurd (cc)

  pub text_of : (o : Option (Node I)) (ls : Lines) → option_map entry_of o ≡ Some (File ls) → (x : I) × (k : Heap) × (c : List (Token I)) × (o ≡ Some (FileWith x k c)) × (texts_of k c ≡ ls)
  text_of None ls h = let k : None ≡ Some (File ls) = h in absurd (cc)
  text_of (Some (Folder d)) ls h = let k : Some Dir ≡ Some (File ls) = h in absurd (cc)
  text_of (Some (FileWith x k c)) ls h = let i : Some (File (texts_of k c)) ≡ Some (File ls) = h in (x, k, c, refl, cc)

  pub none_of : (o : Option (Node I)) → option_map entry_of o ≡ None → o ≡ None
  none_of None h = refl
  none_of (Some x) h = let k : Some (entry_of x) ≡ None = h in absurd (cc)

  pub some_of : (o : Option (Node I)) → o ≢ None → (x : Node I) × (o ≡ Some x)
  some_of None h = absurd (h refl)
  some_of (Some x) h = (x, refl)

  pub name_of : (p : Path) (s : NodeMap I) → HasParent p (plain s) → (d : I) × (n : Name) × IsNameIn p d n s
  name_of p s (q, n, e, h) = let r = folder_of (s q) h in (r.0, n, record { parent = q; is = e; folder = r.1 })

  pub tree_lawful : (s : NodeMap I) → IsTree s → IsLawful (plain s)
  tree_lawful s t = record {
    root = ap (option_map entry_of) t.root.1;
    parents = λ p n h. ap (option_map entry_of) (t.parents p n (λ k. h (ap (option_map entry_of) k))).1;
    lines = λ p ls h k. let r = text_of (s p) ls h in (t.files p r.0 r.1 r.2 r.3).0.1.has_lines (none_left (spelled r.1) (lines_of r.2) (r.4 ∙ k));
  }
