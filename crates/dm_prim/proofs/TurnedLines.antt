-- Lines that turn: in one way, and back.
use Rattle.std.proofs.Common.{◌≡◌, ◌≢◌, ℕ, suc, ◌+◌, ◌-◌, ◌<◌, ◌≤◌, Bool, true, false, List, [], ◌∷◌, ◌++◌, length, Some, Contains, get_or, take, drop, slice_index_or, arith, refl, sym, ap, ◌∙◌, subst, append_assoc, length-append}
use Rattle.std.specs.Prelude.{sum_by}
use Rattle.std.specs.List.{AllZip}
use Rattle.std.proofs.lemmas.List.Elements.{AllZip-get_or, Contains-append_left, Contains-append_right}
use Rattle.std.proofs.lemmas.List.{take_more, drop_more}
use Rattle.std.proofs.lemmas.List.Sums.{sum_by-append}
use Rattle.dm_tree.specs.Trees.{Lines}
use Rattle.dm_tree.specs.Listings.{file_size}
use Rattle.dm_tree.specs.Validity.{IsPlain, ArePlain}
use Rattle.dm_tokens.specs.Sets.{ByteSet, set_of}
use Rattle.dm_tokens.specs.Pieces.{HasPiece, IsToken}
use Rattle.dm_tokens.specs.Turning.{TurnAll, Turns}
use Rattle.dm_tokens.specs.Validity.{AreOfSet, AreTokens, TokenWords}
use Rattle.dm_tokens.specs.Walks.{has, turned}
use Rattle.dm_tokens.specs.declared.turning.Turned.{Turned}
use Rattle.dm_tokens.specs.declared.turning.Turned.TheVariants.{Same, Other, Nothing}
use Rattle.dm_tokens.proofs.PieceLemmas.{has_piece, piece_from}
use Rattle.dm_tokens.proofs.TurnLemmas.{line_stays, lines_stay, lines_one_answer, lines_turn_back, no_turn, turns_to}
use Rattle.dm_prim.specs.Primitives.{TurnsLines}
use Rattle.dm_prim.specs.Limits.{most_turned}
use Rattle.dm_prim.specs.Table.{TurnsPart, lines_size, most_passed}
use Rattle.dm_prim.specs.Applying.{HasNewToken, GrowsTooLarge}
use Rattle.dm_prim.specs.Turning.{LinesTurnAs, TurnsBy}

-- a text means one set
pub one_set : (text : List ℕ) (s s' : ByteSet) → set_of text ≡ Some s → set_of text ≡ Some s' → s ≡ s'
one_set text s s' h k = cc

pub turned_one : (set old new : List ℕ) (ls one other : Lines) → TurnsLines set old new ls one → TurnsLines set old new ls other → one ≡ other
turned_one set old new ls one other h k =
    let same = one_set set h.tokens.set k.tokens.set h.tokens.means k.tokens.means in
    lines_one_answer h.tokens.set old new ls one other h.turned (subst (λ s. TurnAll s old new ls other) (sym same) k.turned)

abbrev tokens_back : (set old new : List ℕ) → AreOfSet set old new → AreOfSet set new old
tokens_back set old new h = record { set = h.set; means = h.means; no_newline = h.no_newline; old_token = h.new_token; new_token = h.old_token }

pub turned_back : (set old new : List ℕ) (ls ls' : Lines) → TurnsLines set old new ls ls' → ls ≢ [] → TurnsLines set new old ls' ls
turned_back set old new ls ls' h some = record {
  tokens = tokens_back set old new h.tokens;
  turned = lines_turn_back h.tokens.set old new ls ls' h.tokens.old_token h.tokens.new_token h.turned;
  left = some;
}

-- lines of a hunk turn back
pub part_back : (set old new : List ℕ) (ls ls' : Lines) → TurnsPart set old new ls ls' → TurnsPart set new old ls' ls
part_back set old new ls ls' h = record {
  tokens = tokens_back set old new h.tokens;
  turned = lines_turn_back h.tokens.set old new ls ls' h.tokens.old_token h.tokens.new_token h.turned;
  was_small = h.is_small;
  is_small = h.was_small;
}

-- and stay plain
pub part_plain : (set old new : List ℕ) (ls ls' : Lines) → TurnsPart set old new ls ls' → ArePlain ls → ArePlain ls'
part_plain set old new ls ls' h plain = lines_stay h.tokens.set old new ls ls' h.tokens.no_newline h.tokens.new_token plain h.turned

-- they turn in one way
pub part_one : (set old new : List ℕ) (ls one other : Lines) → TurnsPart set old new ls one → TurnsPart set old new ls other → one ≡ other
part_one set old new ls one other h k =
    let same = one_set set h.tokens.set k.tokens.set h.tokens.means k.tokens.means in
    lines_one_answer h.tokens.set old new ls one other h.turned (subst (λ s. TurnAll s old new ls other) (sym same) k.turned)

-- valid tokens are valid the other way round
pub tokens_turned : (set old new : List ℕ) → AreTokens (record { set = set; old = old; new = new }) → AreTokens (record { set = set; old = new; new = old })
tokens_turned set old new h = record { set_word = h.set_word; old_word = h.new_word; new_word = h.old_word; of_set = tokens_back set old new h.of_set }

-- each of the lines turns
some_turn : (s : ByteSet) (old new : List ℕ) (ls ls' : Lines) (line : List ℕ) → TurnAll s old new ls ls' → Contains ls line → (y : List ℕ) × Turns s old new line y
some_turn s old new ls ls' line h (k, l, e) =
    (get_or ls' k line, subst (λ z. Turns s old new z (get_or ls' k line)) e (AllZip-get_or (Turns s old new) ls ls' k line line h l))

-- lines with the new token turn to none
pub no_new_token : (set old new : List ℕ) (ls ls' : Lines) → HasNewToken set old new ls → TurnsLines set old new ls ls' → ⊥
no_new_token set old new ls ls' h k =
    let same = one_set set h.set k.tokens.set h.means k.tokens.means in
    let turned = some_turn h.set old new ls ls' h.line (subst (λ s. TurnAll s old new ls ls') (sym same) k.turned) h.among in
    no_turn h.set old new h.line turned.0 h.differ (has_piece h.set h.line new h.there) turned.1

-- lines that grow too large turn to lines that are
pub grown : (set old new : List ℕ) (ls ls' : Lines) → GrowsTooLarge set old new ls → TurnsLines set old new ls ls' → most_turned < file_size ls'
grown set old new ls ls' h k =
    let same = one_set set h.set k.tokens.set h.means k.tokens.means in
    let one = lines_one_answer h.set old new ls h.lines ls' h.turned (subst (λ s. TurnAll s old new ls ls') (sym same) k.turned) in
    let size : file_size h.lines ≡ file_size ls' = ap file_size one in
    omega (arith, size, h.large)

-- lines with the new token don't grow
pub there_is_no_growth : (set old new : List ℕ) (ls : Lines) → HasNewToken set old new ls → GrowsTooLarge set old new ls → ⊥
there_is_no_growth set old new ls h k =
    let same = one_set set h.set k.set h.means k.means in
    let turned = some_turn h.set old new ls k.lines h.line (subst (λ s. TurnAll s old new ls k.lines) (sym same) k.turned) h.among in
    no_turn h.set old new h.line turned.0 h.differ (has_piece h.set h.line new h.there) turned.1

-- one line more
pub zip_more : {X Y : Type 0} (R : X → Y → Type 0) (xs : List X) (ys : List Y) (x : X) (y : Y) → AllZip R xs ys → R x y → AllZip R (xs ++ x ∷ []) (ys ++ y ∷ [])
zip_more R [] [] x y h k = (k, tt)
zip_more R [] (b ∷ ys) x y h k = absurd h
zip_more R (a ∷ xs) [] x y h k = absurd h
zip_more R (a ∷ xs) (b ∷ ys) x y h k = (h.0, zip_more R xs ys x y h.1 k)

-- lists that go together: in two parts, both parts of them, us many, and none of something
pub zip_apart : {X Y : Type 0} (R : X → Y → Type 0) (us bs : List X) (zs : List Y) → AllZip R (us ++ bs) zs → (xs : List Y) × (ys : List Y) × (zs ≡ xs ++ ys) × AllZip R us xs × AllZip R bs ys
zip_apart R [] bs zs h = ([], zs, refl, tt, h)
zip_apart R (a ∷ us) bs [] h = absurd h
zip_apart R (a ∷ us) bs (z ∷ zs) h = let r = zip_apart R us bs zs h.1 in (z ∷ r.0, r.1, ap (λ v. z ∷ v) r.2, (h.0, r.3), r.4)

pub zip_both : {X Y : Type 0} (R : X → Y → Type 0) (us : List X) (xs : List Y) (bs : List X) (ys : List Y) → AllZip R us xs → AllZip R bs ys → AllZip R (us ++ bs) (xs ++ ys)
zip_both R [] [] bs ys h k = k
zip_both R [] (x ∷ xs) bs ys h k = absurd h
zip_both R (a ∷ us) [] bs ys h k = absurd h
zip_both R (a ∷ us) (x ∷ xs) bs ys h k = (h.0, zip_both R us xs bs ys h.1 k)

pub zip_length : {X Y : Type 0} (R : X → Y → Type 0) (us : List X) (xs : List Y) → AllZip R us xs → length xs ≡ length us
zip_length R [] [] h = refl
zip_length R [] (x ∷ xs) h = absurd h
zip_length R (a ∷ us) [] h = absurd h
zip_length R (a ∷ us) (x ∷ xs) h = ap suc (zip_length R us xs h.1)

pub zip_left : {X Y : Type 0} (R : X → Y → Type 0) (us : List X) (xs : List Y) → AllZip R us xs → us ≢ [] → xs ≢ []
zip_left R [] xs h some e = some refl
zip_left R (a ∷ us) [] h some e = h
zip_left R (a ∷ us) (x ∷ xs) h some e = cc

-- those before a line, the line, and those after it
zip_at : {X Y : Type 0} (R : X → Y → Type 0) (done : List X) (x : X) (rest : List X) (zs : List Y) → AllZip R (done ++ x ∷ rest) zs →
    (ys : List Y) × (y : Y) × (ws : List Y) × (zs ≡ ys ++ y ∷ ws) × AllZip R done ys × R x y × AllZip R rest ws
zip_at R [] x rest [] h = absurd h
zip_at R [] x rest (y ∷ ws) h = ([], y, ws, refl, tt, h.0, h.1)
zip_at R (d ∷ done) x rest [] h = absurd h
zip_at R (d ∷ done) x rest (z ∷ zs) h =
    let k = zip_at R done x rest zs h.1 in
    (z ∷ k.0, k.1, k.2, ap (λ v. z ∷ v) k.3, (h.0, k.4), k.5, k.6)

-- a text in which the new token doesn't stand turns
turns_free : (s : ByteSet) (old new x : List ℕ) → (HasPiece s x new → ⊥) → (y : List ℕ) × Turns s old new x y
turns_free s old new x none = (turned s old new x, turns_to s old new x (λ _. absent (has s x new) refl))
  where
    absent : (b : Bool) → has s x new ≡ b → has s x new ≡ false
    absent true h = absurd (none (piece_from s x new h))
    absent false h = h

-- a line that comes next, behind those that are done
module _ (file done rest was : Lines) (x : List ℕ) (all : done ++ was ≡ file) (next : was ≡ x ∷ rest) where
  placed : done ++ x ∷ rest ≡ file
  placed = ap (λ (z : Lines). done ++ z) (sym next) ∙ all

  pub one_more : (done ++ x ∷ []) ++ rest ≡ file
  one_more = append_assoc done (x ∷ []) rest ∙ placed

  pub is_among : Contains file x
  is_among = subst (λ (z : Lines). Contains z x) placed (Contains-append_right done (x ∷ rest) x (0, omega arith, refl))

  pub plain_line : ArePlain file → IsPlain x
  plain_line plain = let c = is_among in subst IsPlain c.2 (plain c.0 x c.1)

  module _ (s : ByteSet) (old new : List ℕ) where
    -- where all lines turn, this one does
    pub line_turns : (ls' : Lines) → TurnAll s old new file ls' → (y : List ℕ) × Turns s old new x y
    line_turns ls' h = let k = zip_at (Turns s old new) done x rest ls' (subst (λ (z : Lines). TurnAll s old new z ls') (sym placed) h) in (k.1, k.5)

    -- what it turns to is plain
    pub turned_plain : (y : List ℕ) → ArePlain file → s 10 ≡ false → IsToken s new → Turns s old new x y → IsPlain y
    turned_plain y plain none token h = line_stays s old new x y none token (plain_line plain) h

    -- the turned lines are too large if those up to this one are
    pub size_past : (most room : ℕ) → ((ys : Lines) → TurnAll s old new done ys → room + (sum_by length ys + length ys) ≡ most) →
        ((y : List ℕ) → Turns s old new x y → room ≤ length y) → (zs : Lines) → TurnAll s old new file zs → most < sum_by length zs + length zs
    size_past most room sum past zs h =
        let k = zip_at (Turns s old new) done x rest zs (subst (λ (z : Lines). TurnAll s old new z zs) (sym placed) h) in
        let before = sum k.0 k.4 in
        let line = past k.1 k.5 in
        let bytes : sum_by length zs ≡ sum_by length k.0 + sum_by length (k.1 ∷ k.2) = ap (sum_by length) k.3 ∙ sum_by-append length k.0 (k.1 ∷ k.2) in
        let one : sum_by length (k.1 ∷ k.2) ≡ (0 + length k.1) + sum_by length k.2 = sum_by-append length (k.1 ∷ []) k.2 in
        let count : length zs ≡ length k.0 + suc (length k.2) = ap length k.3 ∙ length-append k.0 (k.1 ∷ k.2) in
        omega (arith, before, line, bytes, one, count)

    pub grows_past : (room : ℕ) → ((ys : Lines) → TurnAll s old new done ys → room + (sum_by length ys + length ys) ≡ most_turned + 1) →
        ((y : List ℕ) → Turns s old new x y → room ≤ length y) → (zs : Lines) → TurnAll s old new file zs → most_turned < file_size zs
    grows_past room sum past zs h = let k = size_past (most_turned + 1) room sum past zs h in omega (arith, k)

-- no line turns to none
pub none_left : (s : ByteSet) (old new : List ℕ) (ws : Lines) → TurnAll s old new [] ws → (length ws ≡ 0) × (sum_by length ws ≡ 0)
none_left s old new [] h = (refl, refl)
none_left s old new (w ∷ ws) h = absurd h

-- so much room is left behind one line more
pub less_room : (s : ByteSet) (old new : List ℕ) (done : Lines) (x : List ℕ) (most room left : ℕ) →
    ((ys : Lines) → TurnAll s old new done ys → room + (sum_by length ys + length ys) ≡ most) → ((y : List ℕ) → Turns s old new x y → left + length y ≡ room) → 0 < left →
    (zs : Lines) → TurnAll s old new (done ++ x ∷ []) zs → (left - 1) + (sum_by length zs + length zs) ≡ most
less_room s old new done x most room left sum line some zs h =
    let k = zip_at (Turns s old new) done x [] zs h in
    let none = none_left s old new k.2 k.6 in
    let before = sum k.0 k.4 in
    let at = line k.1 k.5 in
    let bytes : sum_by length zs ≡ sum_by length k.0 + sum_by length (k.1 ∷ k.2) = ap (sum_by length) k.3 ∙ sum_by-append length k.0 (k.1 ∷ k.2) in
    let one : sum_by length (k.1 ∷ k.2) ≡ (0 + length k.1) + sum_by length k.2 = sum_by-append length (k.1 ∷ []) k.2 in
    let count : length zs ≡ length k.0 + suc (length k.2) = ap length k.3 ∙ length-append k.0 (k.1 ∷ k.2) in
    omega (arith, none.0, none.1, before, at, bytes, one, count, some)

some_turned : (s : ByteSet) (old new : List ℕ) (ls zs : Lines) → 0 < length ls → TurnAll s old new ls zs → 0 < length zs
some_turned s old new [] zs l h = absurd (omega (arith, l))
some_turned s old new (x ∷ ls) [] l h = absurd h
some_turned s old new (x ∷ ls) (z ∷ zs) l h = omega arith

-- all of them fit
pub all_fit : (s : ByteSet) (old new : List ℕ) (file : Lines) (room : ℕ) → 0 < length file → ((ys : Lines) → TurnAll s old new file ys → room + (sum_by length ys + length ys) ≡ most_turned + 1) →
    (zs : Lines) → TurnAll s old new file zs → file_size zs ≤ most_turned
all_fit s old new file room some sum zs h = let k = sum zs h in let l = some_turned s old new file zs some h in omega (arith, k, l)

module _ (s : ByteSet) (old new : List ℕ) where
  -- what lines turn to that turn
  abbrev pub TurnSo : Lines → Turned → Type 0
  TurnSo ls Same = TurnAll s old new ls ls
  TurnSo ls Other = (old ≢ new) × ((line : List ℕ) × Contains ls line × HasPiece s line old) × ((ls' : Lines) × TurnAll s old new ls ls')
  TurnSo ls Nothing = ⊥

  pub turn_as : (ls : Lines) (t : Turned) → TurnSo ls t → LinesTurnAs s old new ls t
  turn_as ls Same h = h
  turn_as ls Other h = h
  turn_as ls Nothing h = absurd h

  some_so : (ls : Lines) (t : Turned) → TurnSo ls t → (ls' : Lines) × TurnAll s old new ls ls'
  some_so ls Same h = (ls, h)
  some_so ls Other h = h.2
  some_so ls Nothing h = absurd h

  module _ (done : Lines) (x : List ℕ) where
    pub stays_so : (t : Turned) → TurnSo done t → Turns s old new x x → TurnSo (done ++ x ∷ []) t
    stays_so Same h k = zip_more (Turns s old new) done done x x h k
    stays_so Other h k = (h.0, (h.1.0, Contains-append_left done (x ∷ []) h.1.0 h.1.1, h.1.2), (h.2.0 ++ x ∷ [], zip_more (Turns s old new) done h.2.0 x x h.2.1 k))
    stays_so Nothing h k = absurd h

    pub turns_so : (t : Turned) → TurnSo done t → old ≢ new → HasPiece s x old → (HasPiece s x new → ⊥) → TurnSo (done ++ x ∷ []) Other
    turns_so t h differ there none =
        let before = some_so done t h in
        let y = turns_free s old new x none in (
          differ,
          (x, Contains-append_right done (x ∷ []) x (0, omega arith, refl), there),
          (before.0 ++ y.0 ∷ [], zip_more (Turns s old new) done before.0 x y.0 before.1 y.1),
        )

-- the next line of a list, by its place
module _ (file : Lines) (i : ℕ) (x : List ℕ) (there : i < length file) (is : x ≡ slice_index_or file i []) where
  pub next_line : take (i + 1) file ≡ take i file ++ x ∷ []
  next_line = take_more file i [] there ∙ ap (λ z. take i file ++ z ∷ []) (sym is)

  pub lines_behind : drop i file ≡ x ∷ drop (i + 1) file
  lines_behind = drop_more file i [] there ∙ ap (λ z. z ∷ drop (i + 1) file) (sym is)

-- tokens with the set that was read from its text
module _ (w : TokenWords) (s : ByteSet) (tokens : AreTokens w) (read : set_of w.set ≡ Some s) where
  set_is : tokens.of_set.set ≡ s
  set_is = one_set w.set tokens.of_set.set s tokens.of_set.means read

  pub no_newline_in : s 10 ≡ false
  no_newline_in = subst (λ z. z 10 ≡ false) set_is tokens.of_set.no_newline

  pub new_is_token : IsToken s w.new
  new_is_token = subst (λ z. IsToken z w.new) set_is tokens.of_set.new_token

  some_left : (ls ls' : Lines) → TurnAll s w.old w.new ls ls' → 0 < length ls → ls' ≢ []
  some_left [] ls' h l e = omega (arith, l)
  some_left (l ∷ ls) [] h k e = h
  some_left (l ∷ ls) (l' ∷ ls') h k e = cc

  pub turned_by : (ls ls' : Lines) → TurnAll s w.old w.new ls ls' → 0 < length ls → file_size ls ≤ most_turned → file_size ls' ≤ most_turned → TurnsBy w ls ls'
  turned_by ls ls' h some was is = record {
    turns = record {
      tokens = record { set = s; means = read; no_newline = no_newline_in; old_token = subst (λ z. IsToken z w.old) set_is tokens.of_set.old_token; new_token = new_is_token };
      turned = h;
      left = some_left ls ls' h some;
    };
    was_small = was;
    is_small = is;
  }

  pub part_by : (ls ls' : Lines) → TurnAll s w.old w.new ls ls' → lines_size ls ≤ most_passed → lines_size ls' ≤ most_passed → TurnsPart w.set w.old w.new ls ls'
  part_by ls ls' h was is = record {
    tokens = record { set = s; means = read; no_newline = no_newline_in; old_token = subst (λ z. IsToken z w.old) set_is tokens.of_set.old_token; new_token = new_is_token };
    turned = h;
    was_small = was;
    is_small = is;
  }

  -- so they turn where a part does
  pub part_turned : (ls ls' : Lines) → TurnsPart w.set w.old w.new ls ls' → TurnAll s w.old w.new ls ls'
  part_turned ls ls' h = subst (λ z. TurnAll z w.old w.new ls ls') (one_set w.set h.tokens.set s h.tokens.means read) h.turned

  -- lines in one of which the new token stands turn to none
  pub no_part : (ls : Lines) → LinesTurnAs s w.old w.new ls Nothing → (ls' : Lines) → TurnsPart w.set w.old w.new ls ls' → ⊥
  no_part ls h ls' k =
      let turned = some_turn s w.old w.new ls ls' h.1.0 (part_turned ls ls' k) h.1.1 in
      no_turn s w.old w.new h.1.0 turned.0 h.0 (has_piece s h.1.0 w.new h.1.2) turned.1

  pub token_there : (ls : Lines) → LinesTurnAs s w.old w.new ls Nothing → HasNewToken w.set w.old w.new ls
  token_there ls h = record { set = s; means = read; differ = h.0; line = h.1.0; among = h.1.1; there = h.1.2 }

  pub too_large : (ls ls' : Lines) → TurnAll s w.old w.new ls ls' → most_turned < file_size ls' → GrowsTooLarge w.set w.old w.new ls
  too_large ls ls' h l = record { set = s; means = read; lines = ls'; turned = h; large = l }
