-- A hunk and a replace of one file, and two replaces, where they may change places: the same tree and the same effects in both orders.
use Rattle.std.proofs.Common.{◌≡◌, ◌≢◌, ℕ, List, [], ◌∷◌, ◌++◌, map, false, Some, refl, sym, ap, ap₂, subst, ◌∙◌}
use Rattle.dm_tree.specs.Paths.{Path}
use Rattle.dm_tree.specs.Trees.{Lines}
use Rattle.dm_tokens.specs.Sets.{ByteSet, set_of}
use Rattle.dm_tokens.specs.Pieces.{IsToken}
use Rattle.dm_tokens.specs.Turning.{TurnAll}
use Rattle.dm_tokens.specs.Validity.{TokenWords}
use Rattle.dm_tokens.proofs.ExchangeLemmas.{lines_exchanged}
use Rattle.dm_tokens.proofs.TurnLemmas.{turnings_pass}
use Rattle.dm_prim.specs.Primitives.{Hunk, Replace, At, TurnsLines}
use Rattle.dm_prim.proofs.Maps.{child_differs}
use Rattle.dm_prim.proofs.TurnedLines.{one_set}
use Rattle.dm_chain.specs.Chains.{lines_of}
use Rattle.dm_chain.proofs.Stepping.{steps_replace}
use Rattle.dm_facts.specs.Heaps.{leans, undoing, Heap, IsHeap, exchange, spelled}
use Rattle.dm_facts.specs.Nodes.{FileWith, NodeMap, IsFile, texts_of}
use Rattle.dm_facts.specs.Facts.{Effect, inverse}
use Rattle.dm_facts.specs.Steps.{ChangesHeap, Edits, TurnsFile, StepsAt}
use Rattle.dm_facts.proofs.Crossing.{undoing_good, change_spells, Crosses, crosses}
use Rattle.dm_facts.proofs.HeapLemmas.{AreGood, apart, exchange_twice}
use Rattle.dm_facts.proofs.SquareLemmas.{BothStep, put, put_same, put_other}
use Rattle.dm_facts.proofs.TextLemmas.{none_left, each_exchange, texts_replaced}
use Rattle.dm_facts.proofs.Undoing.{name_kept, works_back}

-- lines turn in parts
turned_apart : (set : ByteSet) (o n : List ℕ) (a b zs : Lines) → TurnAll set o n (a ++ b) zs → (x : Lines) × (y : Lines) × TurnAll set o n a x × TurnAll set o n b y
turned_apart set o n [] b zs h = ([], zs, tt, h)
turned_apart set o n (l ∷ a) b [] h = absurd h
turned_apart set o n (l ∷ a) b (z ∷ zs) h = let r = turned_apart set o n a b zs h.1 in (z ∷ r.0, r.1, (h.0, r.2), r.3)

turned_both : (set : ByteSet) (o n : List ℕ) (a b x y : Lines) → TurnAll set o n a x → TurnAll set o n b y → TurnAll set o n (a ++ b) (x ++ y)
turned_both set o n [] b [] y h k = k
turned_both set o n [] b (z ∷ x) y h k = absurd h
turned_both set o n (l ∷ a) b [] y h k = absurd h
turned_both set o n (l ∷ a) b (z ∷ x) y h k = (h.0, turned_both set o n a b x y h.1 k)

-- lines that turn are exchanged
pub are_exchanged : (w : TokenWords) (good : AreGood w) (ls zs : Lines) → TurnAll good.set w.old w.new ls zs → zs ≡ map (exchange w) ls
are_exchanged w good ls zs h = lines_exchanged good.set w.old w.new ls zs h ∙ sym (each_exchange w good ls)

exchanged_back : (w : TokenWords) → AreGood w → (ls : Lines) → map (exchange w) (map (exchange w) ls) ≡ ls
exchanged_back w good [] = refl
exchanged_back w good (l ∷ ls) = ap₂ (λ z zs. z ∷ zs) (exchange_twice w good l) (exchanged_back w good ls)

-- the texts of a file whose heap a replace changed
pub texts_change : {I : Type 0} (file : I) (w : TokenWords) (h h' : Heap) (e : Effect I) → AreGood w → IsHeap h → IsHeap h' → ChangesHeap file w h h' e → (ls : Lines) →
    map (spelled h') ls ≡ map (exchange w) (map (spelled h) ls)
texts_change file w h h' e good heap heap' k [] = refl
texts_change file w h h' e good heap heap' k (l ∷ ls) = ap₂ (λ z zs. z ∷ zs) (change_spells file w h h' e good heap heap' k l) (texts_change file w h h' e good heap heap' k ls)

-- turnings of other tokens pass each other, line by line
lines_pass : (set : ByteSet) (v w : TokenWords) → leans v w ≡ false → IsToken set v.old → IsToken set v.new → IsToken set w.old → IsToken set w.new → (xs ys zs : Lines) →
    TurnAll set v.old v.new xs ys → TurnAll set w.old w.new ys zs → (ws : Lines) × TurnAll set w.old w.new xs ws × TurnAll set v.old v.new ws zs
lines_pass set v w off a b c d [] [] [] h k = ([], tt, tt)
lines_pass set v w off a b c d [] [] (z ∷ zs) h k = absurd k
lines_pass set v w off a b c d [] (y ∷ ys) zs h k = absurd h
lines_pass set v w off a b c d (x ∷ xs) [] zs h k = absurd h
lines_pass set v w off a b c d (x ∷ xs) (y ∷ ys) [] h k = absurd k
lines_pass set v w off a b c d (x ∷ xs) (y ∷ ys) (z ∷ zs) h k =
    let n = apart v w off in
    let first = turnings_pass set v.old v.new w.old w.new x y z a b c d n.oo n.on n.new_old n.nn h.0 k.0 in
    let rest = lines_pass set v w off a b c d xs ys zs h.1 k.1 in
    (first.0 ∷ rest.0, (first.1, rest.1), (first.2, rest.2))

-- where lines turn after some of them were replaced, and those that were replaced do, all lines turned before
turned_before : (w : TokenWords) (good : AreGood w) (front old new back zs old' : Lines) → TurnAll good.set w.old w.new (front ++ (new ++ back)) zs → TurnAll good.set w.old w.new old old' →
    TurnAll good.set w.old w.new (front ++ (old ++ back)) (map (exchange w) (front ++ (old ++ back)))
turned_before w good front old new back zs old' all mid =
    let a = turned_apart good.set w.old w.new front (new ++ back) zs all in
    let b = turned_apart good.set w.old w.new new back a.1 a.3 in
    let r = turned_both good.set w.old w.new front (old ++ back) a.0 (old' ++ b.1) a.2 (turned_both good.set w.old w.new old back old' b.1 mid b.3) in
    subst (TurnAll good.set w.old w.new (front ++ (old ++ back))) (are_exchanged w good (front ++ (old ++ back)) (a.0 ++ (old' ++ b.1)) r) r

-- lines that turn by tokens of a set are the lines of a file that turns
turns : (w : TokenWords) (good : AreGood w) (ls ls' : Lines) → TurnAll good.set w.old w.new ls ls' → ls' ≢ [] → TurnsLines w.set w.old w.new ls ls'
turns w good ls ls' turned left = record { tokens = good; turned = turned; left = left }

module _ (I : Type 0) (f : Path) where
  pub hunk_then_replace : (l : ℕ) (old new old' new' : Lines) (w : TokenWords) (good : AreGood w) → TurnAll good.set w.old w.new old old' → TurnAll good.set w.old w.new new new' → (x y : Effect I) (s t u : NodeMap I) → StepsAt f (Hunk l old new) x s t → StepsAt f (Replace w.set w.old w.new) y t u →
      BothStep I (At f (Replace w.set w.old w.new)) (At f (Hunk l old' new')) y x s u
  hunk_then_replace l old new old' new' w good told tnew x y s t u h j = go h.here j.here
    where
      go : Edits l old new (s f) (t f) x → TurnsFile w.set w.old w.new (t f) (u f) y → BothStep I (At f (Replace w.set w.old w.new)) (At f (Hunk l old' new')) y x s u
      go p q = (
        m,
        record {
          directory = h.directory;
          name = h.name;
          placed = h.placed;
          empty = λ i. absurd i;
          here = record {
            file = p.file;
            heap = p.heap;
            heap' = q.heap';
            tokens = p.tokens;
            stood = p.stood;
            there = put_same s f (Some (FileWith p.file q.heap' p.tokens));
            was_file = p.is_file;
            is_file = (p.is_file.0, p.is_file.1, q.is_file.2);
            turned = turns w good (texts_of p.heap p.tokens) (texts_of q.heap' p.tokens) before_turn (λ z. p.is_file.1.has_lines (none_left (spelled q.heap') (lines_of p.tokens) z));
            change = changed;
          };
          elsewhere = λ z n. put_other s f (Some (FileWith p.file q.heap' p.tokens)) z n;
        },
        record {
          directory = h.directory;
          name = h.name;
          placed = name_kept I f h.directory h.name s m h.placed (put_other s f (Some (FileWith p.file q.heap' p.tokens)) h.placed.parent (λ i. child_differs f h.name (sym (rw i at h.placed.is))));
          empty = λ i. absurd i;
          here = record {
            file = p.file;
            heap = q.heap';
            tokens = p.tokens;
            tokens' = p.tokens';
            taken = p.taken;
            added = p.added;
            was = p.was;
            is = p.is;
            stood = put_same s f (Some (FileWith p.file q.heap' p.tokens));
            there = q.there ∙ ap (λ z. Some (FileWith z q.heap' q.tokens)) one ∙ ap (λ z. Some (FileWith p.file q.heap' z)) same;
            is_file = (p.is_file.0, p.is_file.1, q.is_file.2);
            old_is = texts p.was ∙ ap (map (exchange w)) p.old_is ∙ sym (are_exchanged w good old old' told);
            new_is = texts p.is ∙ ap (map (exchange w)) p.new_is ∙ sym (are_exchanged w good new new' tnew);
            replaced = p.replaced;
            effect = p.effect;
          };
          elsewhere = λ z n. j.elsewhere z n ∙ h.elsewhere z n ∙ sym (put_other s f (Some (FileWith p.file q.heap' p.tokens)) z n);
        },
      )
        where
          m : NodeMap I
          m = put s f (Some (FileWith p.file q.heap' p.tokens))

          one : q.file ≡ p.file
          one = cc (p.there, q.stood)

          heap : q.heap ≡ p.heap
          heap = cc (p.there, q.stood)

          same : q.tokens ≡ p.tokens'
          same = cc (p.there, q.stood)

          changed : ChangesHeap p.file w p.heap q.heap' y
          changed = rw (← one, ← heap) q.change

          texts : (ls : Lines) → map (spelled q.heap') ls ≡ map (exchange w) (map (spelled p.heap) ls)
          texts ls = texts_change p.file w p.heap q.heap' y good p.is_file.2 q.is_file.2 changed ls

          -- the lines after the hunk turn by this set
          after_turn : TurnAll good.set w.old w.new (texts_of p.heap p.tokens') (texts_of q.heap' q.tokens)
          after_turn = subst (λ z. TurnAll z w.old w.new (texts_of p.heap p.tokens') (texts_of q.heap' q.tokens)) (one_set w.set q.turned.tokens.set good.set q.turned.tokens.means good.means)
              (subst (λ z. TurnAll q.turned.tokens.set w.old w.new z (texts_of q.heap' q.tokens)) (ap₂ texts_of heap same) q.turned.turned)

          before_turn : TurnAll good.set w.old w.new (texts_of p.heap p.tokens) (texts_of q.heap' p.tokens)
          before_turn =
              let r = texts_replaced (spelled p.heap) l p.was p.is (lines_of p.tokens) (lines_of p.tokens') (steps_replace I l p.was p.is p.taken p.added p.tokens p.tokens' p.replaced) in
              let o : TurnAll good.set w.old w.new (map (spelled p.heap) p.was) old' = subst (λ z. TurnAll good.set w.old w.new z old') (sym p.old_is) told in
              let all = turned_before w good r.front (map (spelled p.heap) p.was) (map (spelled p.heap) p.is) r.back (texts_of q.heap' q.tokens) old'
              (subst (λ z. TurnAll good.set w.old w.new z (texts_of q.heap' q.tokens)) r.after after_turn) o in
              rw (texts (lines_of p.tokens)) (subst (λ z. TurnAll good.set w.old w.new z (map (exchange w) z)) (sym r.before) all)

  -- a replace, then a hunk: what leads from u to s, undone
  pub replace_then_hunk : (l : ℕ) (old new old' new' : Lines) (w : TokenWords) (good : AreGood w) → TurnAll good.set w.new w.old old old' → TurnAll good.set w.new w.old new new' → (x y : Effect I) (s t u : NodeMap I) →
      StepsAt f (Replace w.set w.old w.new) x s t → StepsAt f (Hunk l old new) y t u → BothStep I (At f (Hunk l old' new')) (At f (Replace w.set w.old w.new)) y x s u
  replace_then_hunk l old new old' new' w good told tnew x y s t u h j =
      let r = hunk_then_replace l new old new' old' (undoing w) (undoing_good w good) tnew told (inverse y) (inverse x) u t s
      (works_back I f (Hunk l old new) y t u j) (works_back I f (Replace w.set w.old w.new) x s t h) in
      (r.0, works_back I f (Hunk l new' old') (inverse y) r.0 s r.2, works_back I f (Replace w.set w.new w.old) (inverse x) u r.0 r.1)

  -- two replaces that don't lean on each other
  pub replace_then_replace : (v w : TokenWords) → leans v w ≡ false → (x y : Effect I) (s t u : NodeMap I) →
      StepsAt f (Replace v.set v.old v.new) x s t → StepsAt f (Replace w.set w.old w.new) y t u → BothStep I (At f (Replace w.set w.old w.new)) (At f (Replace v.set v.old v.new)) y x s u
  replace_then_replace v w off x y s t u h j = go h.here j.here
    where
      go : TurnsFile v.set v.old v.new (s f) (t f) x → TurnsFile w.set w.old w.new (t f) (u f) y → BothStep I (At f (Replace w.set w.old w.new)) (At f (Replace v.set v.old v.new)) y x s u
      go p q = (
        m,
        record {
          directory = h.directory;
          name = h.name;
          placed = h.placed;
          empty = λ i. absurd i;
          here = record {
            file = p.file;
            heap = p.heap;
            heap' = r.between;
            tokens = p.tokens;
            stood = p.stood;
            there = put_same s f (Some (FileWith p.file r.between p.tokens));
            was_file = p.was_file;
            is_file = between_file;
            turned = turns w q.turned.tokens (texts_of p.heap p.tokens) (texts_of r.between p.tokens) (subst (TurnAll q.turned.tokens.set w.old w.new (texts_of p.heap p.tokens)) passed_is passed.1) (some r.between);
            change = r.first;
          };
          elsewhere = λ z n. put_other s f (Some (FileWith p.file r.between p.tokens)) z n;
        },
        record {
          directory = h.directory;
          name = h.name;
          placed = name_kept I f h.directory h.name s m h.placed (put_other s f (Some (FileWith p.file r.between p.tokens)) h.placed.parent (λ i. child_differs f h.name (sym (rw i at h.placed.is))));
          empty = λ i. absurd i;
          here = record {
            file = p.file;
            heap = r.between;
            heap' = q.heap';
            tokens = p.tokens;
            stood = put_same s f (Some (FileWith p.file r.between p.tokens));
            there = q.there ∙ ap (λ z. Some (FileWith z q.heap' q.tokens)) one ∙ ap (λ z. Some (FileWith p.file q.heap' z)) same;
            was_file = between_file;
            is_file = (p.is_file.0, p.is_file.1, q.is_file.2);
            turned = turns v p.turned.tokens (texts_of r.between p.tokens) (texts_of q.heap' p.tokens) (subst (λ z. TurnAll p.turned.tokens.set v.old v.new z (texts_of q.heap' p.tokens)) passed_is passed.2) (some q.heap');
            change = r.second;
          };
          elsewhere = λ z n. j.elsewhere z n ∙ h.elsewhere z n ∙ sym (put_other s f (Some (FileWith p.file r.between p.tokens)) z n);
        },
      )
        where
          one : q.file ≡ p.file
          one = cc (p.there, q.stood)

          heap : q.heap ≡ p.heap'
          heap = cc (p.there, q.stood)

          same : q.tokens ≡ p.tokens
          same = cc (p.there, q.stood)

          changed : ChangesHeap p.file w p.heap' q.heap' y
          changed = rw (← one, ← heap) q.change

          r : Crosses I p.file v w p.heap q.heap' x y
          r = crosses I p.file v w p.heap p.heap' q.heap' x y off p.turned.tokens q.turned.tokens p.was_file.2 p.is_file.2 q.is_file.2 p.change changed

          m : NodeMap I
          m = put s f (Some (FileWith p.file r.between p.tokens))

          between_file : IsFile p.file r.between p.tokens
          between_file = (p.was_file.0, p.was_file.1, r.is_heap)

          some : (k : Heap) → texts_of k p.tokens ≢ []
          some k z = p.was_file.1.has_lines (none_left (spelled k) (lines_of p.tokens) z)

          one_of : q.turned.tokens.set ≡ p.turned.tokens.set
          one_of = one_set w.set q.turned.tokens.set p.turned.tokens.set q.turned.tokens.means (ap set_of (sym (apart v w off).one_set) ∙ p.turned.tokens.means)

          second_turn : TurnAll p.turned.tokens.set w.old w.new (texts_of p.heap' p.tokens) (texts_of q.heap' p.tokens)
          second_turn = subst (λ z. TurnAll z w.old w.new (texts_of p.heap' p.tokens) (texts_of q.heap' p.tokens)) one_of
              (subst (λ z. TurnAll q.turned.tokens.set w.old w.new z (texts_of q.heap' p.tokens)) (ap (λ z. texts_of z p.tokens) heap)
              (subst (λ z. TurnAll q.turned.tokens.set w.old w.new (texts_of q.heap z) (texts_of q.heap' z)) same q.turned.turned))

          passed : (ws : Lines) × TurnAll q.turned.tokens.set w.old w.new (texts_of p.heap p.tokens) ws × TurnAll p.turned.tokens.set v.old v.new ws (texts_of q.heap' p.tokens)
          passed =
              let a = lines_pass p.turned.tokens.set v w off p.turned.tokens.old_token p.turned.tokens.new_token (rw (← one_of) q.turned.tokens.old_token) (rw (← one_of) q.turned.tokens.new_token)
              (texts_of p.heap p.tokens) (texts_of p.heap' p.tokens) (texts_of q.heap' p.tokens) p.turned.turned second_turn in
              (a.0, subst (λ z. TurnAll z w.old w.new (texts_of p.heap p.tokens) a.0) (sym one_of) a.1, a.2)

          passed_is : passed.0 ≡ texts_of r.between p.tokens
          passed_is = are_exchanged w q.turned.tokens (texts_of p.heap p.tokens) passed.0 passed.1
              ∙ sym (texts_change p.file w p.heap r.between y q.turned.tokens p.was_file.2 r.is_heap r.first (lines_of p.tokens))
