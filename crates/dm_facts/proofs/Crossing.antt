-- Replaces of one file that don't lean on each other change its heap alike in both orders.
use Rattle.std.proofs.Common.{◌≡◌, inl, inr, ℕ, List, [], ◌∷◌, false, refl, sym, ap, ◌∙◌}
use Rattle.dm_tokens.specs.Validity.{TokenWords}
use Rattle.dm_facts.specs.Heaps.{leans, undoing, Heap, height_on, entry_on, put_on, IsHeap, exchange, spelled}
use Rattle.dm_facts.specs.Facts.{Turned, Effect, inverse}
use Rattle.dm_facts.specs.Steps.{ChangesHeap}
use Rattle.dm_facts.proofs.HeapLemmas.{AreGood, apart, not_leaning, leans_turn, height_stays, put_on_heap, put_on_spells, orders_alike, parted, exchange_twice, exchange_round}

-- the words of what undoes a replace are tokens too
abbrev pub undoing_good : (w : TokenWords) → AreGood w → AreGood (undoing w)
undoing_good w h = record { set = h.set; means = h.means; no_newline = h.no_newline; old_token = h.new_token; new_token = h.old_token }

-- what doesn't lean on a replace doesn't lean on what undoes it
off_undoing : (v w : TokenWords) → leans v w ≡ false → leans v (undoing w) ≡ false
off_undoing v w h = let a = apart v w h in not_leaning v (undoing w) (record { one_set = a.one_set; oo = a.on; on = a.oo; new_old = a.nn; nn = a.new_old })

undoing_off : (v w : TokenWords) → leans v w ≡ false → leans (undoing v) w ≡ false
undoing_off v w h = leans_turn w (undoing v) (off_undoing w v (leans_turn v w h))

-- a replace that changes a heap exchanges its tokens in what the heap spells, whether it is put on or taken off
pub change_spells : {I : Type 0} (file : I) (w : TokenWords) (h h' : Heap) (e : Effect I) → AreGood w → IsHeap h → IsHeap h' → ChangesHeap file w h h' e → (x : List ℕ) →
    spelled h' x ≡ exchange w (spelled h x)
change_spells file w h h' e good heap heap' (inl k) x = ap (λ z. spelled z x) k.on ∙ put_on_spells w h heap good x
change_spells file w h h' e good heap heap' (inr k) x =
    sym (ap (exchange w) (ap (λ z. spelled z x) k.on ∙ put_on_spells (undoing w) h' heap' (undoing_good w good) x ∙ exchange_round w (spelled h' x)) ∙ exchange_twice w good (spelled h' x))

module _ (I : Type 0) (file : I) where
  -- an entry is the same where the heap has the same height
  same_put : (w : TokenWords) (h k : Heap) (e : Effect I) → height_on w h ≡ height_on w k → e ≡ record { taken = []; added = Turned file (entry_on w h) ∷ [] } →
      e ≡ record { taken = []; added = Turned file (entry_on w k) ∷ [] }
  same_put w h k e same is = is ∙ ap (λ (n : ℕ). record { taken = []; added = Turned file (record { height = n; words = w }) ∷ [] }) same

  -- a height stays where a replace is put on that it doesn't lean on
  stays : (v w : TokenWords) (h k : Heap) → leans v w ≡ false → k ≡ put_on v h → height_on w k ≡ height_on w h
  stays v w h k off on = ap (height_on w) on ∙ height_stays w (entry_on v h) h off

  -- the other order: w first, and then v, with the effects that they had
  pub record Crosses (v w : TokenWords) (h k : Heap) (e f : Effect I) : Type 0 where
    pub between : Heap
    pub is_heap : IsHeap between
    pub first : ChangesHeap file w h between f
    pub second : ChangesHeap file v between k e

  pub crosses : (v w : TokenWords) (h m k : Heap) (e f : Effect I) → leans v w ≡ false → AreGood v → AreGood w → IsHeap h → IsHeap m → IsHeap k →
      ChangesHeap file v h m e → ChangesHeap file w m k f → Crosses v w h k e f
  crosses v w h m k e f off good_v good_w heap_h heap_m heap_k (inl a) (inl b) = record {
    between = put_on w h;
    is_heap = put_on_heap w h heap_h good_w;
    first = inl (record { on = refl; effect = same_put w m h f (stays v w h m off a.on) b.effect });
    second = inl (record {
      on = b.on ∙ ap (put_on w) a.on ∙ sym (orders_alike v w h off heap_h good_v good_w);
      effect = same_put v h (put_on w h) e (sym (stays w v h (put_on w h) (leans_turn v w off) refl)) a.effect;
    });
  }
  crosses v w h m k e f off good_v good_w heap_h heap_m heap_k (inl a) (inr b) =
      let u = undoing w in
      let off_u : leans v u ≡ false = off_undoing v w off in
      let r = parted v u h k off_u heap_h heap_k good_v (undoing_good w good_w) (sym a.on ∙ b.on) in
      record {
        between = r.rest;
        is_heap = r.is_heap;
        first = inr (record { on = r.first; effect = same_put u k r.rest (inverse f) (stays v u r.rest k off_u r.second) b.effect });
        second = inl (record { on = r.second; effect = same_put v h r.rest e (stays u v r.rest h (leans_turn v u off_u) r.first) a.effect });
      }
  crosses v w h m k e f off good_v good_w heap_h heap_m heap_k (inr a) (inl b) =
      let u = undoing v in
      let off_u : leans u w ≡ false = undoing_off v w off in
      record {
        between = put_on w h;
        is_heap = put_on_heap w h heap_h good_w;
        first = inl (record { on = refl; effect = same_put w m h f (sym (stays u w m h off_u a.on)) b.effect });
        second = inr (record {
          on = ap (put_on w) a.on ∙ sym (orders_alike u w m off_u heap_m (undoing_good v good_v) good_w) ∙ ap (put_on u) (sym b.on);
          effect = same_put u m k (inverse e) (sym (stays w u m k (leans_turn u w off_u) b.on)) a.effect;
        });
      }
  crosses v w h m k e f off good_v good_w heap_h heap_m heap_k (inr a) (inr b) =
      let u = undoing v in
      let y = undoing w in
      let off_u : leans u y ≡ false = undoing_off v y (off_undoing v w off) in
      record {
        between = put_on u k;
        is_heap = put_on_heap u k heap_k (undoing_good v good_v);
        first = inr (record {
          on = a.on ∙ ap (put_on u) b.on ∙ orders_alike u y k off_u heap_k (undoing_good v good_v) (undoing_good w good_w);
          effect = same_put y k (put_on u k) (inverse f) (sym (stays u y k (put_on u k) off_u refl)) b.effect;
        });
        second = inr (record { on = refl; effect = same_put u m k (inverse e) (stays y u k m (leans_turn u y off_u) b.on) a.effect });
      }
