-- What applies to a tree with its identities left out is a step of that tree.
use Rattle.std.proofs.Common.{◌≡◌, ◌≢◌, ℕ, ◌≤◌, ◌*◌, ◌⊎◌, inl, inr, List, [], ◌∷◌, ◌++◌, length, map, Option, Some, None, option_map, Contains, refl, sym, ap, ap₂, subst, ◌∙◌, append_assoc, append-nil, arith}
use Rattle.std.proofs.lemmas.List.{length-map, map-append}
use Rattle.std.proofs.lemmas.List.Elements.{Contains-append_left, Contains-append_right}
use Rattle.dm_tree.specs.Paths.{Name, Path}
use Rattle.dm_tree.specs.Trees.{Lines, Dir, File, Map, IsLawful, empty_file}
use Rattle.dm_tree.specs.Changes.{ReplacesLines}
use Rattle.dm_tree.proofs.Paths.{swap}
use Rattle.dm_tokens.specs.Validity.{TokenWords}
use Rattle.dm_prim.specs.Primitives.{Work, AddFile, RmFile, AddDir, RmDir, Hunk, Binary, Replace, Prim, At, Move, ChangePref, Changes, TurnsLines, WorksAt, AppliesMove, Applies}
use Rattle.dm_prim.specs.Table.{IsDirectoryWork}
use Rattle.dm_prim.proofs.Maps.{path_dec, below_absent, swaps_from}
use Rattle.dm_prim.proofs.Undoing.{OffRoot, parent_of}
use Rattle.dm_prim.proofs.Single.{same_map}
use Rattle.dm_chain.specs.Chains.{Token, Gap, Line, IsChain, HunkSteps, lefts, inner, lines_of, cuts_at, other, Distinct}
use Rattle.dm_chain.proofs.Members.{none_in_nil, head_is_in, it_is_in, in_cases, distinct-left}
use Rattle.dm_chain.proofs.Determined.{lefts-cons}
use Rattle.dm_chain.proofs.Made.{replaced_step, lines_have_a_chain}
use Rattle.dm_chain.proofs.Once.{left_ports}
use Rattle.dm_facts.specs.Heaps.{Heap, entry_on, put_on, spelled}
use Rattle.dm_facts.specs.Nodes.{Node, Folder, FileWith, NodeMap, texts_of, entry_of, plain, IsFile, IsNameIn, IsTree}
use Rattle.dm_facts.specs.Facts.{Fact, FolderIn, FileIn, TokenOf, Turned, stands, facts_of, Effect}
use Rattle.dm_facts.specs.Steps.{Makes, Steps}
use Rattle.dm_facts.specs.Identities.{subject, subjects_of, IsIn, UsesOf, ports_of, AddsNew, enough}
use Rattle.dm_facts.proofs.HeapLemmas.{put_on_heap, symbol, symbol_spells}
use Rattle.dm_facts.proofs.TextLemmas.{none_left, SymbolsReplaced, symbols_replaced, symbols_spell, turned_spells}
use Rattle.dm_facts.proofs.TreeLemmas.{folder_of, text_of, none_of, some_of, name_of, tree_lawful}
use Rattle.dm_facts.proofs.SquareLemmas.{put, put_same, put_other, moves_from}

module _ (I : Type 0) where
  -- p steps from s to a tree that is m, with new identities of the list
  pub record HasStep (p : Prim) (s : NodeMap I) (m : Map) (ids : List I) : Type 0 where
    pub effect : Effect I
    pub end : NodeMap I
    pub steps : Steps p effect s end
    pub same : plain end ≡ m
    pub from_list : UsesOf ids effect
    pub apart : Distinct (ports_of effect.added)

  -- the subjects and ports of the facts of a file's gaps and lines
  pub subjects : (x : I) (ts : List (Token I)) → subjects_of (map (TokenOf x) ts) ≡ lefts ts
  subjects x [] = refl
  subjects x (t ∷ ts) = ap (λ l. t.left ∷ l) (subjects x ts)

  pub ports : (x : I) (ts : List (Token I)) → ports_of (map (TokenOf x) ts) ≡ lefts ts
  ports x [] = refl
  ports x (t ∷ ts) = ap (λ l. t.left ∷ l) (ports x ts)

  -- its replaces have none
  no_subjects : (x : I) (h : Heap) → subjects_of (map (Turned x) h) ≡ []
  no_subjects x [] = refl
  no_subjects x (r ∷ h) = no_subjects x h

  no_ports : (x : I) (h : Heap) → ports_of (map (Turned x) h) ≡ []
  no_ports x [] = refl
  no_ports x (r ∷ h) = no_ports x h

  subjects_both : (fs gs : List (Fact I)) → subjects_of (fs ++ gs) ≡ subjects_of fs ++ subjects_of gs
  subjects_both [] gs = refl
  subjects_both (f ∷ fs) gs = ap (λ z. subject f ++ z) (subjects_both fs gs) ∙ sym (append_assoc (subject f) (subjects_of fs) (subjects_of gs))

  ports_both : (fs gs : List (Fact I)) → ports_of (fs ++ gs) ≡ ports_of fs ++ ports_of gs
  ports_both [] gs = refl
  ports_both (FolderIn x d n ∷ fs) gs = ports_both fs gs
  ports_both (FileIn x d n ∷ fs) gs = ports_both fs gs
  ports_both (TokenOf x t ∷ fs) gs = ap (λ z. t.left ∷ z) (ports_both fs gs)
  ports_both (Turned x r ∷ fs) gs = ports_both fs gs

  -- those of all facts that a file has besides where it stands
  pub file_subjects : (x : I) (h : Heap) (ts : List (Token I)) → subjects_of (map (TokenOf x) ts ++ map (Turned x) h) ≡ lefts ts
  file_subjects x h ts = subjects_both (map (TokenOf x) ts) (map (Turned x) h) ∙ ap₂ (λ a b. a ++ b) (subjects x ts) (no_subjects x h) ∙ append-nil (lefts ts)

  pub file_ports : (x : I) (h : Heap) (ts : List (Token I)) → ports_of (map (TokenOf x) ts ++ map (Turned x) h) ≡ lefts ts
  file_ports x h ts = ports_both (map (TokenOf x) ts) (map (Turned x) h) ∙ ap₂ (λ a b. a ++ b) (ports x ts) (no_ports x h) ∙ append-nil (lefts ts)

  module _ (p : Path) (w : Work) (s : NodeMap I) (m : Map) (ids : List I) (tree : IsTree s) (off : p ≢ []) (h : WorksAt p w (plain s) m) where
    -- p stands in a directory, where something is there
    named : plain s p ≢ None → (d : I) × (n : Name) × IsNameIn p d n s
    named k = name_of I p s (parent_of (plain s) (tree_lawful I s tree) p off k)

    -- nothing is inside what isn't there
    bare : plain s p ≡ None → (n : Name) (r : Path) → s (p ++ n ∷ r) ≡ None
    bare k n r = none_of I (s (p ++ n ∷ r)) (below_absent (plain s) (tree_lawful I s tree) (n ∷ r) p k)

    work_step : (d : I) (n : Name) (o : Option (Node I)) (e : Effect I) → IsNameIn p d n s → (IsDirectoryWork w → (n : Name) (r : Path) → s (p ++ n ∷ r) ≡ None) → Makes w d n (s p) o e →
        option_map entry_of o ≡ m p → UsesOf ids e → Distinct (ports_of e.added) → HasStep (At p w) s m ids
    work_step d n o e placed empty makes is listed apart = record {
      effect = e;
      end = put s p o;
      steps = record { directory = d; name = n; placed = placed; empty = empty; here = subst (λ z. Makes w d n (s p) z e) (sym (put_same s p o)) makes; elsewhere = λ q k. put_other s p o q k };
      same = same_map (plain (put s p o)) m (λ q. go q (path_dec q p));
      from_list = listed;
      apart = apart;
    }
      where
        go : (q : Path) → (q ≡ p) ⊎ (q ≢ p) → plain (put s p o) q ≡ m q
        go q (inl i) = rw i (ap (option_map entry_of) (put_same s p o) ∙ is)
        go q (inr k) = ap (option_map entry_of) (put_other s p o q k) ∙ sym (h.elsewhere q k)

  -- taking away needs no identity
  takes_alone : (e : Effect I) (ids : List I) → e.added ≡ [] → UsesOf ids e
  takes_alone e ids i x k = absurd (none_in_nil x (rw i at k))

  -- an empty file with these identities
  abbrev pub empty_tokens : I → I → I → I → List (Token I)
  empty_tokens x a b z = record { left = x; kind = Gap; right = a } ∷ record { left = a; kind = Line []; right = b } ∷ record { left = b; kind = Gap; right = z } ∷ []

  empty_chain : (x a b z : I) → IsChain x (empty_tokens x a b z) z
  empty_chain x a b z = record { leads = (refl, (refl, (refl, refl))); has_lines = λ e. let k : [] ∷ [] ≡ [] = e in cc }

  empty_texts : (x a b z : I) → texts_of [] (empty_tokens x a b z) ≡ [] ∷ []
  unfolding spelled
  empty_texts x a b z = refl

  -- the file is one of those in s, so its ports are identities there
  in_file : (s : NodeMap I) (p : Path) (x : I) (h : Heap) (c front taken back : List (Token I)) (y : I) → s p ≡ Some (FileWith x h c) → c ≡ front ++ (taken ++ back) → Contains (lefts taken) y → IsIn y s
  in_file s p x h c front taken back y is e k = (
    p,
    FileWith x h c,
    is,
    inr (rw (e, map-append (λ t. t.left) front (taken ++ back), map-append (λ t. t.left) taken back)
        (Contains-append_right (lefts front) (lefts taken ++ lefts back) y (Contains-append_left (lefts taken) (lefts back) y k))),
  )

  module _ (p : Path) (s : NodeMap I) (m : Map) (ids : List I) (tree : IsTree s) (off : p ≢ []) (apart : Distinct ids) (new : (x : I) → Contains ids x → IsIn x s → ⊥) where
    adds_file : WorksAt p AddFile (plain s) m → (is : List I) → ids ≡ is → 4 ≤ length is → HasStep (At p AddFile) s m ids
    adds_file h [] i k = absurd (omega arith)
    adds_file h (x ∷ []) i k = absurd (omega arith)
    adds_file h (x ∷ a ∷ []) i k = absurd (omega arith)
    adds_file h (x ∷ a ∷ b ∷ []) i k = absurd (omega arith)
    adds_file h (x ∷ a ∷ b ∷ z ∷ rest) i k =
        let r = name_of I p s h.around in
        let node : Node I = FileWith x [] (empty_tokens x a b z) in
        work_step p AddFile s m ids tree off h r.0 r.1 (Some node) (record { taken = []; added = facts_of node r.0 r.1 }) r.2 (λ d. absurd d)
        (record { node = node; is = ((z, empty_chain x a b z, tt), empty_texts x a b z); nothing = none_of I (s p) h.here.0; there = refl; effect = refl })
        (ap (λ u. Some (File u)) (empty_texts x a b z) ∙ sym h.here.1) (λ y c. inr (rw i (listed y c))) (distinct-left (x ∷ a ∷ b ∷ []) (z ∷ rest) (rw i at apart))
      where
        listed : (y : I) → Contains (x ∷ x ∷ a ∷ b ∷ []) y → Contains (x ∷ a ∷ b ∷ z ∷ rest) y
        listed y c = elim (in_cases x y (x ∷ a ∷ b ∷ []) c) [
          | inl e ↦ it_is_in x y (a ∷ b ∷ z ∷ rest) e
          | inr d ↦ Contains-append_left (x ∷ a ∷ b ∷ []) (z ∷ rest) y d
        ]

    adds_folder : WorksAt p AddDir (plain s) m → (is : List I) → ids ≡ is → 1 ≤ length is → HasStep (At p AddDir) s m ids
    adds_folder h [] i k = absurd (omega arith)
    adds_folder h (x ∷ rest) i k =
        let r = name_of I p s h.around in
        work_step p AddDir s m ids tree off h r.0 r.1 (Some (Folder x)) (record { taken = []; added = facts_of (Folder x) r.0 r.1 }) r.2 (λ d. bare p AddDir s m ids tree off h h.here.0)
        (record { node = Folder x; is = tt; nothing = none_of I (s p) h.here.0; there = refl; effect = refl })
        (sym h.here.1) (λ y c. inr (rw i (Contains-append_left (x ∷ []) rest y c))) tt

    removes_file : WorksAt p RmFile (plain s) m → HasStep (At p RmFile) s m ids
    removes_file h =
        let r = named p RmFile s m ids tree off h (λ k. let z : plain s p ≡ Some empty_file = h.here.0 in cc) in
        let f = text_of I (s p) ([] ∷ []) h.here.0 in
        let e : Effect I = record { taken = facts_of (FileWith f.0 f.1 f.2) r.0 r.1; added = [] } in
        work_step p RmFile s m ids tree off h r.0 r.1 None e r.2 (λ d. absurd d)
        (record { node = FileWith f.0 f.1 f.2; is = ((tree.files p f.0 f.1 f.2 f.3).0, f.4); nothing = refl; there = f.3; effect = refl })
        (sym h.here.1) (takes_alone e ids refl) tt

    removes_folder : WorksAt p RmDir (plain s) m → HasStep (At p RmDir) s m ids
    removes_folder h =
        let r = named p RmDir s m ids tree off h (λ k. let z : plain s p ≡ Some Dir = h.here.0 in cc) in
        let f = folder_of I (s p) h.here.0 in
        let e : Effect I = record { taken = facts_of (Folder f.0) r.0 r.1; added = [] } in
        work_step p RmDir s m ids tree off h r.0 r.1 None e r.2 (λ d n q. none_of I (s (p ++ n ∷ q)) (h.around n q))
        (record { node = Folder f.0; is = tt; nothing = refl; there = f.1; effect = refl })
        (sym h.here.1) (takes_alone e ids refl) tt

    edits_file : (l : ℕ) (old more : Lines) → WorksAt p (Hunk l old more) (plain s) m → 2 * length more ≤ length ids → HasStep (At p (Hunk l old more)) s m ids
    edits_file l old more h k = go h.here
      where
        go : Changes (Hunk l old more) (plain s p) (m p) → HasStep (At p (Hunk l old more)) s m ids
        go (ls, ls', is, is', rep) =
            let r = named p (Hunk l old more) s m ids tree off h (λ k. let z : plain s p ≡ Some (File ls) = is in cc) in
            let f = text_of I (s p) ls is in
            let file = (tree.files p f.0 f.1 f.2 f.3).0 in
            let y = symbols_replaced (spelled f.1) (symbol f.1) (symbol_spells f.1 file.2) l old more (lines_of f.2) ls' (subst (λ z. ReplacesLines l old more z ls') (sym f.4) rep) in
            made r.0 r.1 r.2 f.0 f.1 f.2 f.3 file ls' is' y (replaced_step I f.0 file.0 l y.was y.is y.all f.2 ids file.1 y.replaces (subst (λ z. 2 * z ≤ length ids) (ap length (sym y.new_is) ∙ length-map y.is (spelled f.1)) k))
          where
            made : (d : I) (n : Name) → IsNameIn p d n s → (x : I) (hp : Heap) (c : List (Token I)) → s p ≡ Some (FileWith x hp c) → IsFile x hp c → (ls' : Lines) → m p ≡ Some (File ls') →
                (y : SymbolsReplaced (spelled hp) l old more (lines_of c) ls') → (taken : List (Token I)) × (added : List (Token I)) × (c' : List (Token I)) × (rest : List I) ×
                HunkSteps l y.was y.is taken added c c' × (lines_of c' ≡ y.all) × (ids ≡ inner added ++ rest) → HasStep (At p (Hunk l old more)) s m ids
            made d n placed x hp c is file ls' is' y (taken, added, c', rest, step, lines, all) =
                work_step p (Hunk l old more) s m ids tree off h d n (Some (FileWith x hp c')) (record { taken = map (TokenOf x) taken; added = map (TokenOf x) added }) placed (λ i. absurd i)
                (record {
                  file = x;
                  heap = hp;
                  tokens = c;
                  tokens' = c';
                  taken = taken;
                  added = added;
                  was = y.was;
                  is = y.is;
                  stood = is;
                  there = refl;
                  is_file = file;
                  old_is = y.old_is;
                  new_is = y.new_is;
                  replaced = step;
                  effect = refl;
                })
                (ap (λ z. Some (File (map (spelled hp) z))) lines ∙ ap (λ z. Some (File z)) y.all_is ∙ sym is') listed (rw (ports x added, of_added) (λ k. new step.from (from_inner step.from k) from_in, inner_apart))
              where
                of_added : lefts added ≡ step.from ∷ inner added
                of_added = lefts-cons added (record { port = step.from; next = cuts_at y.was y.is }) (record { port = step.to; next = other (cuts_at y.was y.is) }) step.adds refl

                of_taken : lefts taken ≡ step.from ∷ inner taken
                of_taken = lefts-cons taken (record { port = step.from; next = cuts_at y.was y.is }) (record { port = step.to; next = other (cuts_at y.was y.is) }) step.takes refl

                taken_from : Contains (lefts taken) step.from
                taken_from = rw of_taken (head_is_in step.from (inner taken))

                from_in : IsIn step.from s
                from_in = in_file s p x hp c step.front taken step.back step.from is step.before taken_from

                from_inner : (y : I) → Contains (inner added) y → Contains ids y
                from_inner y k = rw all (Contains-append_left (inner added) rest y k)

                inner_apart : Distinct (inner added)
                inner_apart = distinct-left (inner added) rest (rw all at apart)

                listed : UsesOf ids (record { taken = map (TokenOf x) taken; added = map (TokenOf x) added })
                listed y k = elim (in_cases step.from y (inner added) (rw (subjects x added, of_added) at k)) [
                  | inl e ↦ inl (rw (subjects x taken, ← e) taken_from)
                  | inr i ↦ inr (from_inner y i)
                ]

    rewrites_file : (old more : Lines) → WorksAt p (Binary old more) (plain s) m → 2 * length more ≤ length ids → HasStep (At p (Binary old more)) s m ids
    rewrites_file old more h k =
        let r = named p (Binary old more) s m ids tree off h (λ k. let z : plain s p ≡ Some (File old) = h.here.0 in cc) in
        let f = text_of I (s p) old h.here.0 in
        let file = (tree.files p f.0 f.1 f.2 f.3).0 in
        made r.0 r.1 r.2 f.0 f.1 f.2 f.3 file f.4 (lines_have_a_chain I f.0 file.0 (map (symbol f.1) more) ids (λ z. h.here.2 (none_left (symbol f.1) more z)) (subst (λ z. 2 * z ≤ length ids) (sym (length-map more (symbol f.1))) k))
      where
        made : (d : I) (n : Name) → IsNameIn p d n s → (x : I) (hp : Heap) (c : List (Token I)) → s p ≡ Some (FileWith x hp c) → (file : IsFile x hp c) → texts_of hp c ≡ old →
            (c' : List (Token I)) × (rest : List I) × IsChain x c' file.0 × (lines_of c' ≡ map (symbol hp) more) × (ids ≡ inner c' ++ rest) → HasStep (At p (Binary old more)) s m ids
        made d n placed x hp c is file was (c', rest, chain', lines, all) =
            work_step p (Binary old more) s m ids tree off h d n (Some (FileWith x hp c')) (record { taken = map (TokenOf x) c; added = map (TokenOf x) c' }) placed (λ i. absurd i)
            (record { file = x; heap = hp; tokens = c; tokens' = c'; stood = is; there = refl; was_file = file; is_file = (file.0, chain', file.2); old_is = was; new_is = texts; effect = refl })
            (ap (λ z. Some (File z)) texts ∙ sym h.here.1) listed (rw (ports x c', of_new) (λ k. new x (from_inner x k) (p, FileWith x hp c, is, inl refl), inner_apart))
          where
            texts : texts_of hp c' ≡ more
            texts = ap (map (spelled hp)) lines ∙ symbols_spell hp file.2 more

            of_new : lefts c' ≡ x ∷ inner c'
            of_new = left_ports I x file.0 c' chain'

            of_old : lefts c ≡ x ∷ inner c
            of_old = left_ports I x file.0 c file.1

            from_inner : (y : I) → Contains (inner c') y → Contains ids y
            from_inner y k = rw all (Contains-append_left (inner c') rest y k)

            inner_apart : Distinct (inner c')
            inner_apart = distinct-left (inner c') rest (rw all at apart)

            listed : UsesOf ids (record { taken = map (TokenOf x) c; added = map (TokenOf x) c' })
            listed y k = elim (in_cases x y (inner c') (rw (subjects x c', of_new) at k)) [
              | inl e ↦ inl (rw (subjects x c, of_old, ← e) (head_is_in x (inner c)))
              | inr i ↦ inr (from_inner y i)
            ]

    turns_file : (set old more : List ℕ) → WorksAt p (Replace set old more) (plain s) m → HasStep (At p (Replace set old more)) s m ids
    turns_file set old more h = go h.here
      where
        words : TokenWords
        words = record { set = set; old = old; new = more }

        go : Changes (Replace set old more) (plain s p) (m p) → HasStep (At p (Replace set old more)) s m ids
        go (ls, ls', is, is', turn) =
            let r = named p (Replace set old more) s m ids tree off h (λ k. let z : plain s p ≡ Some (File ls) = is in cc) in
            let f = text_of I (s p) ls is in
            made r.0 r.1 r.2 f.0 f.1 f.2 f.3 (tree.files p f.0 f.1 f.2 f.3).0 ls' is' (subst (λ z. TurnsLines set old more z ls') (sym f.4) turn)
          where
            made : (d : I) (n : Name) → IsNameIn p d n s → (x : I) (hp : Heap) (c : List (Token I)) → s p ≡ Some (FileWith x hp c) → IsFile x hp c → (ls' : Lines) → m p ≡ Some (File ls') →
                TurnsLines set old more (texts_of hp c) ls' → HasStep (At p (Replace set old more)) s m ids
            made d n placed x hp c is file ls' is' turn =
                let texts : texts_of (put_on words hp) c ≡ ls' = turned_spells words hp file.2 turn.tokens (lines_of c) ls' turn.turned in
                work_step p (Replace set old more) s m ids tree off h d n (Some (FileWith x (put_on words hp) c)) (record { taken = []; added = Turned x (entry_on words hp) ∷ [] }) placed (λ i. absurd i)
                (record {
                  file = x;
                  heap = hp;
                  heap' = put_on words hp;
                  tokens = c;
                  stood = is;
                  there = refl;
                  was_file = file;
                  is_file = (file.0, file.1, put_on_heap words hp file.2 turn.tokens);
                  turned = subst (λ z. TurnsLines set old more (texts_of hp c) z) (sym texts) turn;
                  change = inl (record { on = refl; effect = refl });
                })
                (ap (λ z. Some (File z)) texts ∙ sym is') (λ y k. absurd (none_in_nil y k)) tt

  moves : (a b : Path) (s : NodeMap I) (m : Map) (ids : List I) → IsTree s → AppliesMove a b (plain s) m → HasStep (Move a b) s m ids
  moves a b s m ids tree h =
      let l : IsLawful (plain s) = tree_lawful I s tree in
      let sw = swaps_from a b (plain s) m l h in
      let node = some_of I (s a) (λ k. sw.present (ap (option_map entry_of) k)) in
      let from = name_of I a s (parent_of (plain s) l a (λ e. sw.apart.right (rw e (b, refl))) sw.present) in
      let to = name_of I b s sw.parent in
      let t : NodeMap I = λ q. s (swap a b q) in
      let e : Effect I = record { taken = stands node.0 from.0 from.1 ∷ []; added = stands node.0 to.0 to.1 ∷ [] } in
      record {
        effect = e;
        end = t;
        steps = moves_from I a b e s t (record {
          apart = sw.apart;
          node = node.0;
          stood = node.1;
          from = from.0;
          old_name = from.1;
          placed = from.2;
          to = to.0;
          new_name = to.1;
          place = to.2;
          free = λ r. none_of I (s (b ++ r)) (below_absent (plain s) l r b sw.absent);
          is = λ q. refl;
          effect = refl;
        });
        same = same_map (plain t) m (λ q. sym (sw.is q));
        from_list = λ x k. inl (no_new node.0 from.0 to.0 from.1 to.1 x k);
        apart = no_port node.0 to.0 to.1;
      }
    where
      no_new : (x : Node I) (d d' : I) (n n' : Name) (y : I) → Contains (subjects_of (stands x d' n' ∷ [])) y → Contains (subjects_of (stands x d n ∷ [])) y
      no_new (Folder x) d d' n n' y k = k
      no_new (FileWith x hp c) d d' n n' y k = k

      no_port : (x : Node I) (d : I) (n : Name) → Distinct (ports_of (stands x d n ∷ []))
      no_port (Folder x) d n = tt
      no_port (FileWith x hp c) d n = tt

  pub has_step : (p : Prim) (s : NodeMap I) (m : Map) (ids : List I) → OffRoot p → IsTree s → Applies p (plain s) m →
      Distinct ids → enough p ≤ length ids → ((x : I) → Contains ids x → IsIn x s → ⊥) → HasStep p s m ids
  has_step (At p AddFile) s m ids off tree h a k new = adds_file p s m ids tree off a new h ids refl k
  has_step (At p RmFile) s m ids off tree h a k new = removes_file p s m ids tree off a new h
  has_step (At p AddDir) s m ids off tree h a k new = adds_folder p s m ids tree off a new h ids refl k
  has_step (At p RmDir) s m ids off tree h a k new = removes_folder p s m ids tree off a new h
  has_step (At p (Hunk l old more)) s m ids off tree h a k new = edits_file p s m ids tree off a new l old more h k
  has_step (At p (Binary old more)) s m ids off tree h a k new = rewrites_file p s m ids tree off a new old more h k
  has_step (At p (Replace set old more)) s m ids off tree h a k new = turns_file p s m ids tree off a new set old more h
  has_step (Move a b) s m ids off tree h d k new = moves a b s m ids tree h
  has_step (ChangePref name old new) s m ids off tree h a k more =
      let e : Effect I = record { taken = []; added = [] } in record { effect = e; end = s; steps = (refl, refl); same = sym h; from_list = takes_alone e ids refl; apart = tt }

  -- what applies to a tree with its identities left out is a step of that tree
  pub steps_off_root : (p : Prim) (s : NodeMap I) (m : Map) (ids : List I) → OffRoot p → IsTree s → Applies p (plain s) m → Distinct ids → enough p ≤ length ids →
      ((x : I) → Contains ids x → IsIn x s → ⊥) → (e : Effect I) × (t : NodeMap I) × Steps p e s t × (plain t ≡ m) × AddsNew e s × UsesOf ids e
  steps_off_root p s m ids off tree h a k new =
      let r = has_step p s m ids off tree h a k new in
      (r.effect, r.end, r.steps, r.same, record { new = λ x i. new x (elim (r.from_list x i.0) [ inl k ↦ absurd (i.1 k) | inr k ↦ k ]); apart = r.apart }, r.from_list)
