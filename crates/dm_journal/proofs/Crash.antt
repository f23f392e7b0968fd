-- What a crash leaves in each of the two writes of an append.
use Rattle.std.proofs.Common.{◌≡◌, ◌≢◌, inl, inr, ℕ, ◌+◌, ◌-◌, ◌<◌, ◌≤◌, ◌^◌, List, [], ◌∷◌, ◌++◌, length, Option, get_or, take, drop, refl, sym, ◌∙◌, ap, subst, arith, append_assoc, length-append, take-append-drop}
use Rattle.std.proofs.lemmas.List.{append-nil, take_at, take-take, drop_at, drop_more, drop_all, length-take-le}
use Rattle.std.proofs.lemmas.Bool.{cases_eq}
use Rattle.dm_journal.specs.declared.format.Format.{Format}
use Rattle.dm_journal.specs.Format.{unit, filled}
use Rattle.dm_journal.specs.Device.{IsWrittenAt, Torn, IsDurable, IsSameBefore}
use Rattle.dm_journal.specs.Journal.{checksum_of, next_link, link_after, link_bytes, IsNext, Begins, StandsIn, IsZeros}
use Rattle.dm_journal.specs.Reading.{EndsSo, staged}
use Rattle.dm_journal.specs.Ready.{HasTexts, StandsWithOrWithout}
use Rattle.dm_journal.specs.declared.journal.Journal.{Journal}
use Rattle.dm_journal.proofs.Blocks.{file_front, begins_push, link_push}
use Rattle.dm_journal.proofs.Made.{IsStage, is_stage}
use Rattle.dm_journal.proofs.Once.{length-checksum}

-- bytes, and what stands behind them
module _ (head rest : List ℕ) (at : ℕ) (size : length head ≡ at) where
  -- they stand in each outcome of a write behind them
  pub torn_behind : (n : ℕ) (c : List ℕ) → Torn at n (head ++ rest) c → c ≡ head ++ drop at c
  torn_behind n c torn = sym (take-append-drop at c) ∙ ap (λ (l : List ℕ). l ++ drop at c) (torn.before ∙ take_at head rest at size)

  pub written_behind : (bytes c : List ℕ) → length rest ≤ length bytes → IsWrittenAt (head ++ rest) at bytes c → c ≡ head ++ bytes
  written_behind bytes c covers holds =
      let none : drop (at + length bytes) (head ++ rest) ≡ [] = drop_all (at + length bytes) (head ++ rest) (omega (arith, covers, size, length-append head rest)) in
      holds ∙ ap (λ (l : List ℕ). take at (head ++ rest) ++ bytes ++ l) none ∙ append-nil (take at (head ++ rest) ++ bytes) ∙ ap (λ (l : List ℕ). l ++ bytes) (take_at head rest at size)

-- no write changes a byte in front of where it begins
pub torn_front : (latch at n : ℕ) (old c : List ℕ) → latch ≤ at → Torn at n old c → IsSameBefore latch old c
torn_front latch at n old c le torn = sym (take-take latch at c le) ∙ ap (take latch) torn.before ∙ take-take latch at old le

pub held_front : (latch at : ℕ) (bytes old c : List ℕ) → latch ≤ at → at ≤ length old → IsWrittenAt old at bytes c → IsSameBefore latch old c
held_front latch at bytes old c le within holds =
    let whole = holds ∙ append_assoc (take at old) bytes (drop (at + length bytes) old) in
    let front : take at c ≡ take at old = ap (take at) whole ∙ take_at (take at old) (bytes ++ drop (at + length bytes) old) at (length-take-le at old within) in
    sym (take-take latch at c le) ∙ ap (take latch) front ∙ take-take latch at old le

-- bytes in front of a latch, the latch, and what stands behind it
module _ (front rest : List ℕ) (latch : ℕ) (size : length front ≡ latch) where
  behind : drop (latch + 1) (front ++ 0 ∷ rest) ≡ rest
  behind =
      ap (drop (latch + 1)) (sym (append_assoc front (0 ∷ []) rest)) ∙ drop_at (front ++ 0 ∷ []) rest (latch + 1) (omega (arith, size, length-append front (0 ∷ [])))

  long : length (front ++ 0 ∷ rest) ≡ latch + 1 + length rest
  long = omega (arith, size, length-append front (0 ∷ rest))

  -- only the latch changes in each outcome of a write of the latch
  pub torn_latch : (c : List ℕ) → Torn latch 1 (front ++ 0 ∷ rest) c → c ≡ front ++ get_or c latch 0 ∷ rest
  torn_latch c torn =
      let at = drop_more c latch 0 (omega (arith, torn.no_shorter, long)) in
      sym (take-append-drop latch c)
      ∙ ap (λ (l : List ℕ). l ++ drop latch c) (torn.before ∙ take_at front (0 ∷ rest) latch size)
      ∙ ap (λ (l : List ℕ). front ++ l) (at ∙ ap (λ (l : List ℕ). get_or c latch 0 ∷ l) (torn.after ∙ behind))

  pub written_latch : (c : List ℕ) → IsWrittenAt (front ++ 0 ∷ rest) latch (255 ∷ []) c → c ≡ front ++ 255 ∷ rest
  written_latch c holds =
      holds
      ∙ append_assoc (take latch (front ++ 0 ∷ rest)) (255 ∷ []) (drop (latch + 1) (front ++ 0 ∷ rest))
      ∙ ap (λ (l : List ℕ). l ++ 255 ∷ drop (latch + 1) (front ++ 0 ∷ rest)) (take_at front (0 ∷ rest) latch size)
      ∙ ap (λ (l : List ℕ). front ++ 255 ∷ l) behind

-- the file when the block of a text stands behind a closed latch
pub record IsStaged (format : Format) (texts : List (List ℕ)) (text : List ℕ) (latch : ℕ) (bytes file : List ℕ) : Type 0 where
  pub front : List ℕ
  pub size : length front ≡ latch
  pub moves : (r : List ℕ) → Begins format (front ++ r) texts r
  pub fill : List ℕ
  pub filled : 1 + length fill ≡ unit format
  pub stage : IsStage format (checksum_of format (link_after format [] texts) text) text bytes
  pub is : file ≡ front ++ 0 ∷ (fill ++ bytes)

module _ {D : Type 0} (seen : D → List ℕ) (may_leave file_may_leave : D → List ℕ → Type 0) (journal : Journal D) (texts : List (List ℕ)) (has : HasTexts seen may_leave file_may_leave journal texts) (b : ℕ) (at : b ≡ journal.end.latch + unit journal.end.format) where
  record Fronts : Type 0 where
    pub front : List ℕ
    pub size : length front ≡ journal.end.latch
    pub moves : (r : List ℕ) → Begins journal.end.format (front ++ r) texts r
    pub fill : List ℕ
    pub filled : 1 + length fill ≡ unit journal.end.format
    pub is : seen journal.device ≡ (front ++ 0 ∷ fill) ++ has.rest
    pub far : length (front ++ 0 ∷ fill) ≡ b

  fronts : Fronts
  fronts =
      let file = seen journal.device in
      let format = journal.end.format in
      let rest = has.begins.0 in
      let begins = has.begins.1 in
      let latch = has.begins.2 in
      let f = file_front format file texts rest begins in
      record {
        front = f.0;
        size = omega (arith, has.end.place, ap length f.1, length-append f.0 rest);
        moves = f.2;
        fill = latch.fill;
        filled = latch.filled;
        is = f.1 ∙ ap (λ (l : List ℕ). f.0 ++ l) latch.is ∙ sym (append_assoc f.0 (0 ∷ latch.fill) has.rest);
        far = omega (arith, at, has.end.place, latch.filled, ap length f.1, length-append f.0 rest, length-append f.0 (0 ∷ latch.fill));
      }

  -- what stands in front of the latch is the same in each outcome
  pub first_front : (n : ℕ) (c : List ℕ) → Torn b n (seen journal.device) c → IsSameBefore journal.end.latch (seen journal.device) c
  first_front n c = torn_front journal.end.latch b n (seen journal.device) c (omega (arith, at))

  pub second_front : (bytes mid c : List ℕ) → IsWrittenAt (seen journal.device) b bytes mid → Torn journal.end.latch 1 mid c → IsSameBefore journal.end.latch (seen journal.device) c
  second_front bytes mid c holds torn =
      let f = fronts in
      let within : b ≤ length (seen journal.device) = omega (arith, f.far, ap length f.is, length-append (f.front ++ 0 ∷ f.fill) has.rest) in
      torn_front journal.end.latch journal.end.latch 1 mid c (omega arith) torn ∙ held_front journal.end.latch b bytes (seen journal.device) mid (omega (arith, at)) within holds

  -- the texts as they were
  without : (f : Fronts) (r c : List ℕ) → c ≡ (f.front ++ 0 ∷ f.fill) ++ r → StandsIn journal.end.format c texts
  without f r c is =
      let rest : List ℕ = 0 ∷ (f.fill ++ r) in
      let is' : c ≡ f.front ++ rest = is ∙ append_assoc f.front (0 ∷ f.fill) r in
      (r, (rest, subst (λ (l : List ℕ). Begins journal.end.format l texts rest) (sym is') (f.moves rest), record { fill = f.fill; filled = f.filled; is = refl }))

  -- each outcome of the first write stands for the texts as they were
  pub first_leaves : (text : List ℕ) (n : ℕ) (c : List ℕ) → Torn b n (seen journal.device) c → StandsWithOrWithout journal.end.format texts text c
  first_leaves text n c torn =
      let f = fronts in
      let torn' = subst (λ l. Torn b n l c) f.is torn in
      inl (without f (drop b c) c (torn_behind (f.front ++ 0 ∷ f.fill) has.rest b f.far n c torn'))

  staged_so : (text bytes c : List ℕ) → IsStage journal.end.format (checksum_of journal.end.format (link_bytes journal.end.link) text) text bytes → length (seen journal.device) ≤ b + length bytes → IsWrittenAt (seen journal.device) b bytes c → IsStaged journal.end.format texts text journal.end.latch bytes c
  staged_so text bytes c stage covers holds =
      let f = fronts in
      let head : List ℕ = f.front ++ 0 ∷ f.fill in
      let holds' = subst (λ l. IsWrittenAt l b bytes c) f.is holds in
      let is = written_behind head has.rest b f.far bytes c (omega (arith, covers, ap length f.is, f.far, length-append head has.rest)) holds' in
      record {
        front = f.front;
        size = f.size;
        moves = f.moves;
        fill = f.fill;
        filled = f.filled;
        stage = subst (λ (l : List ℕ). IsStage journal.end.format (checksum_of journal.end.format l text) text bytes) has.end.link stage;
        is = is ∙ append_assoc f.front (0 ∷ f.fill) bytes;
      }

  -- the first write, when it is done
  pub staged_by : (text checksum bytes : List ℕ) (room : ℕ) (c : List ℕ) → checksum ≡ checksum_of journal.end.format (link_bytes journal.end.link) text → room ≡ journal.end.size - b → bytes ≡ staged journal.end.format checksum text room → length text < 2 ^ 64 → 1 ≤ unit journal.end.format → IsWrittenAt (seen journal.device) b bytes c → IsStaged journal.end.format texts text journal.end.latch bytes c
  staged_by text checksum bytes room c sum rooms are fits some holds =
      let format = journal.end.format in
      let link = link_bytes journal.end.link in
      let same = are ∙ ap (λ (l : List ℕ). staged format l text room) sum in
      let stage = is_stage format (checksum_of format link text) text room (length-checksum format link text) some fits in
      staged_so text bytes c (subst (IsStage format (checksum_of format link text) text) (sym same) stage.0) (omega (arith, ap length same, stage.1, rooms, has.end.size)) holds

module _ (format : Format) (texts : List (List ℕ)) (text : List ℕ) (latch : ℕ) (bytes file : List ℕ) (s : IsStaged format texts text latch bytes file) where
  opened : (g : ℕ) → g ≢ 0 → Begins format (s.front ++ g ∷ (s.fill ++ bytes)) (texts ++ text ∷ []) s.stage.closing
  opened g is_open =
      let rest : List ℕ = g ∷ (s.fill ++ bytes) in
      let next : IsNext format (link_after format [] texts) text s.stage.closing rest = record { latch = g; is_open = is_open; behind = bytes; stands = record { fill = s.fill; filled = s.filled; is = refl }; has = s.stage.stands } in
      begins_push format (s.front ++ rest) texts text rest s.stage.closing (s.moves rest) next

  with_text : (c : List ℕ) (g : ℕ) → g ≢ 0 → c ≡ s.front ++ g ∷ (s.fill ++ bytes) → Begins format c (texts ++ text ∷ []) s.stage.closing
  with_text c g is_open is = subst (λ (l : List ℕ). Begins format l (texts ++ text ∷ []) s.stage.closing) (sym is) (opened g is_open)

  -- each outcome of the second write has the text or not
  pub second_leaves : (c : List ℕ) → Torn latch 1 file c → StandsWithOrWithout format texts text c
  second_leaves c torn =
      let torn' = subst (λ l. Torn latch 1 l c) s.is torn in
      let is = torn_latch s.front (s.fill ++ bytes) latch s.size c torn' in
      elim (cases_eq (get_or c latch 0) 0) [
        | inl closed ↦ inl (closed_still c (is ∙ ap (λ (g : ℕ). s.front ++ g ∷ (s.fill ++ bytes)) closed))
        | inr is_open ↦ inr (s.stage.behind, (s.stage.closing, with_text c (get_or c latch 0) is_open is, s.stage.closed))
      ]
    where
      closed_still : (c : List ℕ) → c ≡ s.front ++ 0 ∷ (s.fill ++ bytes) → StandsIn format c texts
      closed_still c is =
          let rest : List ℕ = 0 ∷ (s.fill ++ bytes) in
          (bytes, (rest, subst (λ (l : List ℕ). Begins format l texts rest) (sym is) (s.moves rest), record { fill = s.fill; filled = s.filled; is = refl }))

  -- and when it is done, it has the text
  pub acknowledged : (new : List ℕ) (link : Option (List ℕ)) (place size : ℕ) → IsWrittenAt file latch (255 ∷ []) new → link_bytes link ≡ next_link format (checksum_of format (link_after format [] texts) text) → place ≡ latch + unit format + filled format (40 + length text) → size ≡ latch + unit format + length bytes → EndsSo new (texts ++ text ∷ []) (record { format = format; link = link; latch = place; size = size })
  acknowledged new link place size holds links moved grown =
      let is = written_latch s.front (s.fill ++ bytes) latch s.size new (subst (λ l. IsWrittenAt l latch (255 ∷ []) new) s.is holds) in
      let all : length new ≡ latch + unit format + length bytes = omega (arith, ap length is, s.size, s.filled, length-append s.front (255 ∷ (s.fill ++ bytes)), length-append s.fill bytes) in
      record {
        behind = s.stage.behind;
        closes = (s.stage.closing, with_text new 255 (omega arith) is, s.stage.closed);
        is = record {
          link = links ∙ link_push format [] texts text;
          place = omega (arith, moved, all, s.stage.long);
          size = omega (arith, grown, all);
        };
      }

  -- with zeros from the closed latch on
  pub cleared : (new : List ℕ) (place : ℕ) → IsWrittenAt file latch (255 ∷ []) new → place ≡ latch + unit format + filled format (40 + length text) → IsZeros (drop place new)
  cleared new place holds moved =
      let is = written_latch s.front (s.fill ++ bytes) latch s.size new (subst (λ l. IsWrittenAt l latch (255 ∷ []) new) s.is holds) in
      let f = file_front format new (texts ++ text ∷ []) s.stage.closing (with_text new 255 (omega arith) is) in
      let far : length f.0 ≡ place = omega (arith, moved, s.size, s.filled, s.stage.long, ap length is, length-append s.front (255 ∷ (s.fill ++ bytes)), length-append s.fill bytes, ap length f.1, length-append f.0 s.stage.closing) in
      (s.stage.zeros, ap (drop place) f.1 ∙ drop_at f.0 s.stage.closing place far ∙ s.stage.are)

-- a journal of a file that ends so
pub has_texts : {D : Type 0} (seen : D → List ℕ) (may_leave file_may_leave : D → List ℕ → Type 0) (journal : Journal D) (file : List ℕ) (texts : List (List ℕ)) → EndsSo file texts journal.end → seen journal.device ≡ file → IsDurable seen may_leave file_may_leave journal.device → HasTexts seen may_leave file_may_leave journal texts
has_texts seen may_leave file_may_leave journal file texts ends same durable =
    let here = subst (λ (l : List ℕ). EndsSo l texts journal.end) (sym same) ends in
    record { rest = here.behind; begins = here.closes; end = here.is; durable = durable }
