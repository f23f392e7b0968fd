-- Where the blocks of a file end there is one answer.
use Rattle.std.proofs.Common.{◌≡◌, inl, inr, ℕ, ◌+◌, ◌<◌, ◌^◌, List, [], ◌∷◌, ◌++◌, length, get_or, take, drop, nat_eq, cond, refl, sym, ◌∙◌, ap, subst, arith, length-append}
use Rattle.std.specs.Int.{w64, to_le_bytes}
use Rattle.std.proofs.lemmas.List.{take_at}
use Rattle.sha2.proofs.Facts256.{length-sha256}
use Rattle.dm_journal.specs.declared.format.Format.{Format}
use Rattle.dm_journal.specs.declared.format.Format.TheVariants.{First, Second, Third, Fields}
use Rattle.dm_journal.specs.declared.format.KindsField.TheVariants.{Six, All}
use Rattle.dm_journal.specs.declared.format.ChecksumField.TheVariants.{Sha256, Lanes}
use Rattle.dm_journal.specs.Format.{family, line, filling}
use Rattle.dm_journal.specs.Journal.{block, checksum_of, next_link, link_after, IsLatch, IsBlock, IsNext, AreBlocks, Begins}
use Rattle.dm_journal.specs.Lanes.{lanes}
use Rattle.dm_journal.specs.Faults.{IsShort, EndsEarly, HasOtherChecksum, IsDamaged, BeginsWith}
use Rattle.dm_journal.proofs.Blocks.{flat, length-block, same_parts, same_number}

same_head : (a b : ℕ) (xs ys : List ℕ) → a ∷ xs ≡ b ∷ ys → a ≡ b
same_head a b xs ys same = ap (λ (l : List ℕ). get_or l 0 0) same

same_tail : (a b : ℕ) (xs ys : List ℕ) → a ∷ xs ≡ b ∷ ys → xs ≡ ys
same_tail a b xs ys same = ap (λ (l : List ℕ). drop 1 l) same

same_blocks : (s t m u v n : List ℕ) → length s ≡ 32 → length u ≡ 32 → length t < 2 ^ 64 → length v < 2 ^ 64 → block s t ++ m ≡ block u v ++ n → (s ≡ u) × (t ≡ v) × (m ≡ n)
same_blocks s t m u v n ls lu lt lv same =
    let numbers = same_parts (to_le_bytes w64 (length t)) (s ++ (t ++ m)) (to_le_bytes w64 (length v)) (u ++ (v ++ n)) refl (sym (flat s t m) ∙ same ∙ flat u v n) in
    let sums = same_parts s (t ++ m) u (v ++ n) (ls ∙ sym lu) numbers.1 in
    let texts = same_parts t m v n (same_number (length t) (length v) lt lv numbers.0) sums.1 in
    (sums.0, texts.0, texts.1)

pub length-checksum : (format : Format) (link text : List ℕ) → length (checksum_of format link text) ≡ 32
unfolding checksum_of lanes
length-checksum First link text = length-sha256 (link ++ text)
length-checksum Second link text = length-sha256 (link ++ text)
length-checksum Third link text = length-sha256 (link ++ text)
length-checksum (Fields kinds Sha256) link text = length-sha256 (link ++ text)
length-checksum (Fields kinds Lanes) link text = refl

-- what the header of a format begins with
pub in_family : (format : Format) (more : List ℕ) → BeginsWith family (line format ++ more)
unfolding line
in_family First more = (drop 11 (line First) ++ more, refl)
in_family Second more = (drop 11 (line Second) ++ more, refl)
in_family Third more = (drop 11 (line Third) ++ more, refl)
in_family (Fields Six Sha256) more = (drop 11 (line (Fields Six Sha256)) ++ more, refl)
in_family (Fields All Sha256) more = (drop 11 (line (Fields All Sha256)) ++ more, refl)
in_family (Fields Six Lanes) more = (drop 11 (line (Fields Six Lanes)) ++ more, refl)
in_family (Fields All Lanes) more = (drop 11 (line (Fields All Lanes)) ++ more, refl)

-- the format of a file, by three bytes of its header
told : List ℕ → Format
told file = cond (nat_eq (get_or file 11 0) 49) First (cond (nat_eq (get_or file 11 0) 50) Second (cond (nat_eq (get_or file 11 0) 52) Third (cond (nat_eq (get_or file 37 0) 115) (cond (nat_eq (get_or file 24 0) 115) (Fields Six Sha256) (Fields All Sha256)) (cond (nat_eq (get_or file 24 0) 115) (Fields Six Lanes) (Fields All Lanes)))))

told_line : (format : Format) (more : List ℕ) → told (line format ++ more) ≡ format
unfolding line told
told_line First more = refl
told_line Second more = refl
told_line Third more = refl
told_line (Fields Six Sha256) more = refl
told_line (Fields All Sha256) more = refl
told_line (Fields Six Lanes) more = refl
told_line (Fields All Lanes) more = refl

pub one_line : (f g : Format) (m n : List ℕ) → line f ++ m ≡ line g ++ n → f ≡ g
one_line f g m n same = sym (told_line f m) ∙ ap told same ∙ told_line g n

module _ (format : Format) where
  pub same_latch : (g h : ℕ) (a b bytes : List ℕ) → IsLatch format g a bytes → IsLatch format h b bytes → (g ≡ h) × (a ≡ b)
  same_latch g h a b bytes p q =
      let same = sym p.is ∙ q.is in
      let parts = same_parts p.fill a q.fill b (omega (arith, p.filled, q.filled)) (same_tail g h (p.fill ++ a) (q.fill ++ b) same) in
      (same_head g h (p.fill ++ a) (q.fill ++ b) same, parts.1)

  pub same_block : (s t m u v n bytes : List ℕ) → length s ≡ 32 → length u ≡ 32 → IsBlock format s t m bytes → IsBlock format u v n bytes → (s ≡ u) × (t ≡ v) × (m ≡ n)
  same_block s t m u v n bytes ls lu p q =
      let parts = same_blocks s t (p.fill ++ m) u v (q.fill ++ n) ls lu p.fits q.fits (sym p.is ∙ q.is) in
      let fills = p.filled ∙ ap (λ (l : List ℕ). filling format (40 + length l)) parts.1 ∙ sym q.filled in
      (parts.0, parts.1, (same_parts p.fill m q.fill n fills parts.2).1)

  pub same_next : (link t m u n bytes : List ℕ) → IsNext format link t m bytes → IsNext format link u n bytes → (t ≡ u) × (m ≡ n)
  same_next link t m u n bytes p q =
      let behind = (same_latch p.latch q.latch p.behind q.behind bytes p.stands q.stands).1 in
      let parts = same_block (checksum_of format link t) t m (checksum_of format link u) u n q.behind (length-checksum format link t) (length-checksum format link u) (subst (λ (l : List ℕ). IsBlock format (checksum_of format link t) t m l) behind p.has) q.has in
      (parts.1, parts.2)

  -- no block that follows on the link stands here
  abbrev pub HasNone : List ℕ → List ℕ → Type 0
  HasNone link bytes = (text more : List ℕ) → IsNext format link text more bytes → ⊥

  ends_alike : (link bytes : List ℕ) (a b : List (List ℕ)) (r s : List ℕ) → HasNone (link_after format link a) r → HasNone (link_after format link b) s → AreBlocks format link bytes a r → AreBlocks format link bytes b s → (a ≡ b) × (r ≡ s)
  ends_alike link bytes [] [] r s none none' p q = (refl, sym p ∙ q)
  ends_alike link bytes [] (u ∷ b) r s none none' p q = absurd (none u q.0 (subst (λ (l : List ℕ). IsNext format link u q.0 l) p q.1))
  ends_alike link bytes (t ∷ a) [] r s none none' p q = absurd (none' t p.0 (subst (λ (l : List ℕ). IsNext format link t p.0 l) q p.1))
  ends_alike link bytes (t ∷ a) (u ∷ b) r s none none' p q =
      let same = same_next link t p.0 u q.0 bytes p.1 q.1 in
      let next = λ (x : List ℕ). next_link format (checksum_of format link x) in
      let none'' = subst (λ (x : List ℕ). HasNone (link_after format (next x) a) r) same.0 none in
      let blocks = subst (λ (x : List ℕ). AreBlocks format (next x) q.0 a r) same.0 (subst (λ (l : List ℕ). AreBlocks format (next t) l a r) same.1 p.2) in
      let rest = ends_alike (next u) q.0 a b r s none'' none' blocks q.2 in
      (ap (λ h. h ∷ a) same.0 ∙ ap (λ l. u ∷ l) rest.0, rest.1)

  alike : (file : List ℕ) (a b : List (List ℕ)) (r s : List ℕ) → HasNone (link_after format [] a) r → HasNone (link_after format [] b) s → Begins format file a r → Begins format file b s → (a ≡ b) × (r ≡ s)
  alike file a b r s none none' p q =
      let fills = same_parts (line format) (p.fill ++ p.bytes) (line format) (q.fill ++ q.bytes) refl (sym p.is ∙ q.is) in
      let bytes = (same_parts p.fill p.bytes q.fill q.bytes (p.filled ∙ sym q.filled) fills.1).1 in
      ends_alike [] q.bytes a b r s none none' (subst (λ (l : List ℕ). AreBlocks format [] l a r) bytes p.blocks) q.blocks

  -- where no block stands
  pub short_has_none : (s t m bytes : List ℕ) → length s ≡ 32 → IsShort format bytes → IsBlock format s t m bytes → ⊥
  short_has_none s t m bytes ls (inl short) b = omega (arith, short, ap length b.is, length-block s t (b.fill ++ m) ls)
  short_has_none s t m bytes ls (inr short) b =
      let number = take_at (to_le_bytes w64 (length t)) (s ++ (t ++ (b.fill ++ m))) 8 refl in
      let same = same_number short.0 (length t) short.1 b.fits (sym short.2 ∙ ap (take 8) (b.is ∙ flat s t (b.fill ++ m)) ∙ number) in
      let fill = b.filled ∙ ap (λ (n : ℕ). filling format (40 + n)) (sym same) in
      omega (arith, same, fill, short.3, ap length b.is, length-block s t (b.fill ++ m) ls, length-append b.fill m)

  pub other_has_none : (link t m bytes : List ℕ) → HasOtherChecksum format link bytes → IsBlock format (checksum_of format link t) t m bytes → ⊥
  other_has_none link t m bytes o b =
      let same = same_block o.checksum o.text o.more (checksum_of format link t) t m bytes o.whole (length-checksum format link t) o.stands b in
      o.differs (same.0 ∙ ap (checksum_of format link) (sym same.1))

  pub closed_has_none : (link behind bytes : List ℕ) → IsLatch format 0 behind bytes → HasNone link bytes
  closed_has_none link behind bytes g text more n = n.is_open (sym (same_latch 0 n.latch behind n.behind bytes g n.stands).0)

  pub early_has_none : (link bytes : List ℕ) → EndsEarly format link bytes → HasNone link bytes
  early_has_none link bytes (inl short) text more n =
      omega (arith, short, n.stands.filled, ap length n.stands.is, length-append n.stands.fill n.behind)
  early_has_none link bytes (inr early) text more n =
      let behind = (same_latch n.latch early.latch n.behind early.behind bytes n.stands early.stands).1 in
      short_has_none (checksum_of format link text) text more early.behind (length-checksum format link text) early.has (subst (λ (l : List ℕ). IsBlock format (checksum_of format link text) text more l) behind n.has)

  pub damaged_has_none : (link bytes : List ℕ) → IsDamaged format link bytes → HasNone link bytes
  damaged_has_none link bytes d text more n =
      let behind = (same_latch n.latch d.latch n.behind d.behind bytes n.stands d.stands).1 in
      other_has_none link text more d.behind d.has (subst (λ (l : List ℕ). IsBlock format (checksum_of format link text) text more l) behind n.has)

  -- no two answers at one place
  pub closed_is_not_early : (link behind bytes : List ℕ) → IsLatch format 0 behind bytes → EndsEarly format link bytes → ⊥
  closed_is_not_early link behind bytes g (inl short) = omega (arith, short, g.filled, ap length g.is, length-append g.fill behind)
  closed_is_not_early link behind bytes g (inr early) = early.is_open (sym (same_latch 0 early.latch behind early.behind bytes g early.stands).0)

  pub closed_is_not_damaged : (link behind bytes : List ℕ) → IsLatch format 0 behind bytes → IsDamaged format link bytes → ⊥
  closed_is_not_damaged link behind bytes g d = d.is_open (sym (same_latch 0 d.latch behind d.behind bytes g d.stands).0)

  pub early_is_not_damaged : (link bytes : List ℕ) → EndsEarly format link bytes → IsDamaged format link bytes → ⊥
  early_is_not_damaged link bytes (inl short) d = omega (arith, short, d.stands.filled, ap length d.stands.is, length-append d.stands.fill d.behind)
  early_is_not_damaged link bytes (inr early) d =
      let behind = (same_latch d.latch early.latch d.behind early.behind bytes d.stands early.stands).1 in
      let o = d.has in
      short_has_none o.checksum o.text o.more early.behind o.whole early.has (subst (λ (l : List ℕ). IsBlock format o.checksum o.text o.more l) behind o.stands)

-- two formats
pub one_format : (f g : Format) (file : List ℕ) (a b : List (List ℕ)) (r s : List ℕ) → Begins f file a r → Begins g file b s → f ≡ g
one_format f g file a b r s p q = one_line f g (p.fill ++ p.bytes) (q.fill ++ q.bytes) (sym p.is ∙ q.is)

pub files_end_alike : (f g : Format) (file : List ℕ) (a b : List (List ℕ)) (r s : List ℕ) → HasNone f (link_after f [] a) r → HasNone g (link_after g [] b) s → Begins f file a r → Begins g file b s → (f ≡ g) × (a ≡ b) × (r ≡ s)
files_end_alike f g file a b r s none none' p q =
    let same = one_format f g file a b r s p q in
    let ends = alike g file a b r s (subst (λ (h : Format). HasNone h (link_after h [] a) r) same none) none' (subst (λ (h : Format). Begins h file a r) same p) q in
    (same, ends.0, ends.1)
