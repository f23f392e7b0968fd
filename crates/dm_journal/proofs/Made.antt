-- What a file is made of.
use Rattle.std.proofs.Common.{◌≡◌, ℕ, ◌+◌, ◌-◌, ◌<◌, ◌≤◌, ◌^◌, max, List, [], ◌∷◌, ◌++◌, length, Option, get_or, take, map, refl, sym, ◌∙◌, ap, subst, arith, append_assoc, length-append}
use Rattle.std.proofs.Math.ListN.{replicate}
use Rattle.std.specs.Int.{w64, to_le_bytes}
use Rattle.std.proofs.lemmas.List.{append-nil, map-append, take_more, length-replicate, replicate-append-replicate}
use Rattle.dm_journal.specs.declared.format.Format.{Format}
use Rattle.dm_journal.specs.Format.{line, unit, filling, filled}
use Rattle.dm_journal.specs.Journal.{block, checksum_of, next_link, link_after, IsLatch, IsBlock, IsNext, Begins, StandsIn, link_bytes}
use Rattle.dm_journal.specs.Reading.{staged, IsFront, IsPushed, IsReading, IsWholeFile, EndsSo}
use Rattle.dm_journal.specs.Texts.{ranges_of}
use Rattle.dm_journal.specs.declared.reading.Reading.{Reading}
use Rattle.dm_journal.proofs.Blocks.{length-block, file_front, begins_push, link_push, end_more}

pub header_made : (format : Format) (bytes : List ℕ) → bytes ≡ line format ++ replicate (filling format (length (line format))) 0 → Begins format bytes [] []
header_made format bytes is =
    let k = filling format (length (line format)) in
    record {
      fill = replicate k 0;
      filled = length-replicate k 0;
      bytes = [];
      is = is ∙ ap (λ (l : List ℕ). line format ++ l) (sym (append-nil (replicate k 0)));
      blocks = refl;
    }

pub closed_made : (format : Format) (file new : List ℕ) (texts : List (List ℕ)) (more : List ℕ) → Begins format file texts [] → new ≡ file ++ more → Begins format new texts more
closed_made format file new texts more b is = subst (λ (l : List ℕ). Begins format l texts more) (sym is) (end_more format file texts more b)

-- the text at an index joins those before it
pub next_text : {X : Type 0} (format : Format) (f : X → List ℕ) (xs : List X) (i : ℕ) (d : X) (old new link next : List ℕ) → i < length xs → Begins format old (map f (take i xs)) [] → link ≡ link_after format [] (map f (take i xs)) → IsPushed format link (f (get_or xs i d)) old new → next ≡ next_link format (checksum_of format link (f (get_or xs i d))) →
    Begins format new (map f (take (i + 1) xs)) [] × (next ≡ link_after format [] (map f (take (i + 1) xs)))
next_text format f xs i d old new link next lt begins linked p is =
    let before = map f (take i xs) in
    let text = f (get_or xs i d) in
    let all : before ++ text ∷ [] ≡ map f (take (i + 1) xs) = sym (map-append f (take i xs) (get_or xs i d ∷ [])) ∙ ap (map f) (sym (take_more xs i d lt)) in
    let longer = closed_made format old new before p.more begins p.is in
    let one = subst (λ (l : List ℕ). IsNext format l text [] p.more) linked p.next in (
      subst (λ l. Begins format new l []) all (begins_push format new before text p.more [] longer one),
      is ∙ ap (λ (l : List ℕ). next_link format (checksum_of format l text)) linked ∙ link_push format [] before text ∙ ap (link_after format []) all,
    )

flat_front : (h l n c t z : List ℕ) → ((h ++ (l ++ (n ++ c))) ++ t) ++ z ≡ h ++ (l ++ ((n ++ (c ++ t)) ++ z))
flat_front h l n c t z =
    ap (λ (x : List ℕ). x ++ z) (append_assoc h (l ++ (n ++ c)) t ∙ ap (λ (x : List ℕ). h ++ x) (append_assoc l (n ++ c) t ∙ ap (λ (x : List ℕ). l ++ x) (append_assoc n c t)))
    ∙ append_assoc h (l ++ (n ++ (c ++ t))) z
    ∙ ap (λ (x : List ℕ). h ++ x) (append_assoc l (n ++ (c ++ t)) z)

not_closed : (latch : ℕ) → 0 < latch → latch ≡ 0 → ⊥
not_closed latch some e = absurd (omega (arith, some, e))

-- the block of the first text, behind its latch
first_next : (format : Format) (text latch : List ℕ) → length text < 2 ^ 64 → IsLatch format 255 [] latch →
    IsNext format [] text [] (latch ++ (block (checksum_of format [] text) text ++ replicate (filling format (40 + length text)) 0))
first_next format text latch fits opens =
    let fill = replicate (filling format (40 + length text)) 0 in
    let whole = block (checksum_of format [] text) text in
    let opened : latch ≡ 255 ∷ opens.fill = opens.is ∙ ap (λ (l : List ℕ). 255 ∷ l) (append-nil opens.fill) in
    record {
      latch = 255;
      is_open = not_closed 255 (omega arith);
      behind = whole ++ (fill ++ []);
      stands = record {
        fill = opens.fill;
        filled = opens.filled;
        is = ap (λ (l : List ℕ). l ++ (whole ++ fill)) opened ∙ ap (λ (l : List ℕ). 255 ∷ (opens.fill ++ (whole ++ l))) (sym (append-nil fill));
      };
      has = record { fits = fits; fill = fill; filled = length-replicate (filling format (40 + length text)) 0; is = refl };
    }

-- a file of one text, in front of which stands what has to
pub one_made : (format : Format) (checksum text front file closing link : List ℕ) → length text < 2 ^ 64 → checksum ≡ checksum_of format [] text → IsFront format (length text) checksum front →
    file ≡ ((front ++ text) ++ replicate (filling format (40 + length text)) 0) ++ closing → IsLatch format 0 [] closing → link ≡ next_link format checksum → IsWholeFile format file (text ∷ []) link
one_made format checksum text front file closing link fits sum f is closed next =
    let fill = replicate (filling format (40 + length text)) 0 in
    let first = f.latch ++ (block checksum text ++ fill) in
    let flat : (front ++ text) ++ fill ≡ f.header ++ first = ap (λ (l : List ℕ). (l ++ text) ++ fill) f.is ∙ flat_front f.header f.latch (to_le_bytes w64 (length text)) checksum text fill in
    let one : IsNext format [] text [] first = subst (λ (l : List ℕ). IsNext format [] text [] (f.latch ++ (block l text ++ fill))) (sym sum) (first_next format text f.latch fits f.opens) in
    let begins = closed_made format f.header (f.header ++ first) [] first f.begins refl in
    let longer = begins_push format (f.header ++ first) [] text first [] begins one in
    record {
      rest = closing;
      begins = closed_made format (f.header ++ first) file (text ∷ []) closing longer (is ∙ ap (λ (l : List ℕ). l ++ closing) flat);
      closed = closed;
      is = next ∙ ap (next_link format) sum;
    }

-- a block, and zeros behind it, among them a closed latch
pub record IsStage (format : Format) (checksum text bytes : List ℕ) : Type 0 where
  pub zeros : ℕ
  pub closing : List ℕ
  pub are : closing ≡ replicate zeros 0
  pub behind : List ℕ
  pub closed : IsLatch format 0 behind closing
  pub stands : IsBlock format checksum text closing bytes
  pub long : length bytes ≡ filled format (40 + length text) + length closing

abbrev zeros : ℕ → List ℕ
zeros n = replicate n 0

join : (a b : ℕ) → zeros a ++ zeros b ≡ zeros (a + b)
join a b = let nil : ℕ = 0 in replicate-append-replicate a b nil

-- zeros in three parts: some, a latch in its unit, and the rest
latch_and_rest : (u z : ℕ) → 0 ∷ (zeros u ++ zeros z) ≡ zeros (1 + (u + z))
latch_and_rest u z = ap (λ (l : List ℕ). 0 ∷ l) (join u z) ∙ join 1 (u + z)

stage_of : (format : Format) (checksum text bytes : List ℕ) (k u z : ℕ) → length checksum ≡ 32 → length text < 2 ^ 64 → 1 + u ≡ unit format → k ≡ filling format (40 + length text) + (1 + (u + z)) → bytes ≡ block checksum text ++ replicate k 0 → IsStage format checksum text bytes
stage_of format checksum text bytes k u z whole fits one enough is =
    let a : ℕ = filling format (40 + length text) in
    let closing : List ℕ = 0 ∷ (zeros u ++ zeros z) in
    let all : zeros k ≡ zeros a ++ closing = ap zeros enough ∙ sym (join a (1 + (u + z))) ∙ ap (λ (l : List ℕ). zeros a ++ l) (sym (latch_and_rest u z)) in
    let la : length (zeros a) ≡ a = length-replicate a 0 in
    let lk : length (zeros k) ≡ k = length-replicate k 0 in
    let lu : length (zeros u) ≡ u = length-replicate u 0 in
    record {
      zeros = 1 + (u + z);
      closing = closing;
      are = latch_and_rest u z;
      behind = zeros z;
      closed = record { fill = zeros u; filled = omega (arith, one, lu); is = refl };
      stands = record { fits = fits; fill = zeros a; filled = la; is = is ∙ ap (λ (l : List ℕ). block checksum text ++ l) all };
      long = omega (arith, la, lk, ap length all, length-append (zeros a) closing, ap length is, length-block checksum text (zeros k) whole);
    }

pub is_stage : (format : Format) (checksum text : List ℕ) (room : ℕ) → length checksum ≡ 32 → 1 ≤ unit format → length text < 2 ^ 64 → IsStage format checksum text (staged format checksum text room) × (room ≤ length (staged format checksum text room))
is_stage format checksum text room whole some fits =
    let n : ℕ = 40 + length text in
    let k : ℕ = max (filled format n + unit format) room - n in
    let u : ℕ = unit format - 1 in
    let lk : length (zeros k) ≡ k = length-replicate k 0 in (
      stage_of format checksum text (staged format checksum text room) k u (k - filling format n - unit format) whole fits (omega arith) (omega arith) refl,
      omega (arith, length-block checksum text (zeros k) whole, lk),
    )

begins_long : (format : Format) (file : List ℕ) (texts : List (List ℕ)) (rest : List ℕ) → Begins format file texts rest → length rest ≤ length file
begins_long format file texts rest b = let f = file_front format file texts rest b in omega (arith, ap length f.1, length-append f.0 rest)

-- how a file ends that was read
pub ends_so : (file : List ℕ) (reading : Reading) (size : ℕ) → IsReading file reading → size ≡ length file → EndsSo file (ranges_of file reading.ranges.items) (record { format = reading.format; link = reading.link; latch = reading.latch; size = size })
ends_so file reading size r is = record {
  behind = r.behind;
  closes = (r.rest, r.begins, r.closed);
  is = record { link = r.link; place = r.place; size = is };
}

-- how a file ends that is made
pub has_latch : (format : Format) (file : List ℕ) (texts : List (List ℕ)) (link : List ℕ) → IsWholeFile format file texts link → unit format ≤ length file
has_latch format file texts link w =
    omega (arith, begins_long format file texts w.rest w.begins, w.closed.filled, ap length w.closed.is, length-append w.closed.fill [])

pub made_so : (format : Format) (file : List ℕ) (texts : List (List ℕ)) (link : Option (List ℕ)) (latch size : ℕ) → IsWholeFile format file texts (link_bytes link) → latch + unit format ≡ length file → size ≡ length file → EndsSo file texts (record { format = format; link = link; latch = latch; size = size })
made_so format file texts link latch size w place is = record {
  behind = [];
  closes = (w.rest, w.begins, w.closed);
  is = record { link = w.is; place = omega (arith, place, w.closed.filled, ap length w.closed.is, length-append w.closed.fill []); size = is };
}

pub stands_so : (format : Format) (file : List ℕ) (texts : List (List ℕ)) (link : List ℕ) → IsWholeFile format file texts link → StandsIn format file texts
stands_so format file texts link w = ([], (w.rest, w.begins, w.closed))
