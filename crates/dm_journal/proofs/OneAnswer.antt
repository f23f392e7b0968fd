-- A file has one answer.
use Rattle.std.proofs.Common.{◌≡◌, inl, inr, ℕ, List, [], ◌++◌, length, refl, sym, ◌∙◌, ap, subst, arith, length-append}
use Rattle.dm_journal.specs.declared.format.Format.{Format}
use Rattle.dm_journal.specs.Format.{family, line, filling}
use Rattle.dm_journal.specs.Journal.{IsLatch, Begins, link_after}
use Rattle.dm_journal.specs.Faults.{EndsEarly, IsDamaged, StopsAt, EndsInHeader, BeginsWith, HasFault}
use Rattle.dm_journal.specs.Hidden.{AreTwoBlocks, Hides}
use Rattle.dm_journal.specs.Laws.{StandsForOneList, FilesHaveOneFormat, JournalsHaveNoFault, FilesHaveOneFault}
use Rattle.dm_journal.specs.declared.fault.Fault.TheVariants.{NotAJournal, Unknown, Cut, Damaged}
use Rattle.dm_journal.proofs.Once.{in_family, one_line, HasNone, closed_has_none, early_has_none, damaged_has_none, closed_is_not_early, closed_is_not_damaged, early_is_not_damaged, same_latch, one_format, files_end_alike}

closes_alike : (file : List ℕ) (f g : Format) (a b : List (List ℕ)) (r s m n : List ℕ) → Begins f file a r → IsLatch f 0 m r → Begins g file b s → IsLatch g 0 n s → (f ≡ g) × (a ≡ b) × (r ≡ s)
closes_alike file f g a b r s m n p closed q closed' =
    files_end_alike f g file a b r s (closed_has_none f (link_after f [] a) m r closed) (closed_has_none g (link_after g [] b) n s closed') p q

pub one_list : StandsForOneList
one_list file a b p q = (closes_alike file p.0 q.0 a b p.1.1.0 q.1.1.0 p.1.0 q.1.0 p.1.1.1 p.1.1.2 q.1.1.1 q.1.1.2).1

pub one_file_format : FilesHaveOneFormat
one_file_format file f g a b p q = one_format f g file a b p.1.0 q.1.0 p.1.1 q.1.1

-- a file that begins so begins with a line
has_line : (f : Format) (file : List ℕ) (texts : List (List ℕ)) (rest : List ℕ) → Begins f file texts rest → BeginsWith (line f) file
has_line f file texts rest b = (b.fill ++ b.bytes, b.is)

line_in_family : (f : Format) (file : List ℕ) → BeginsWith (line f) file → BeginsWith family file
line_in_family f file front = let more = in_family f front.0 in (more.0, front.1 ∙ more.1)

whole_header : (f : Format) (file : List ℕ) (texts : List (List ℕ)) (rest : List ℕ) (at : ℕ) → Begins f file texts rest → EndsInHeader file at → ⊥
whole_header f file texts rest at b e =
    let same = one_line f e.format (b.fill ++ b.bytes) e.more (sym b.is ∙ e.is) in
    let fill = b.filled ∙ ap (λ (g : Format). filling g (length (line g))) same in
    let lines = ap (λ (g : Format). length (line g)) same in
    omega (arith, fill, lines, e.place, e.ends, ap length b.is, length-append (line f) (b.fill ++ b.bytes), length-append b.fill b.bytes)

-- where two blocks end alike
stops_alike : (file : List ℕ) (a b : ℕ) (P Q : Format → List ℕ → List ℕ → Type 0) → ((f : Format) (link bytes : List ℕ) → P f link bytes → HasNone f link bytes) → ((f : Format) (link bytes : List ℕ) → Q f link bytes → HasNone f link bytes) → (p : StopsAt file a P) (q : StopsAt file b Q) → (p.format ≡ q.format) × (p.texts ≡ q.texts) × (p.rest ≡ q.rest)
stops_alike file a b P Q np nq p q =
    files_end_alike p.format q.format file p.texts q.texts p.rest q.rest (np p.format (link_after p.format [] p.texts) p.rest p.why) (nq q.format (link_after q.format [] q.texts) q.rest q.why) p.begins q.begins

same_place : (file : List ℕ) (a b : ℕ) (P Q : Format → List ℕ → List ℕ → Type 0) (p : StopsAt file a P) (q : StopsAt file b Q) → p.rest ≡ q.rest → a ≡ b
same_place file a b P Q p q same = omega (arith, ap length same, p.place, q.place)

closed_at : (f g : Format) (behind r s : List ℕ) → f ≡ g → r ≡ s → IsLatch f 0 behind r → IsLatch g 0 behind s
closed_at f g behind r s formats rests closed =
    subst (λ (l : List ℕ). IsLatch g 0 behind l) rests (subst (λ (h : Format). IsLatch h 0 behind r) formats closed)

pub no_fault : JournalsHaveNoFault
no_fault file texts NotAJournal p fault = fault (line_in_family p.0 file (has_line p.0 file texts p.1.1.0 p.1.1.1))
no_fault file texts Unknown p fault = fault.1 p.0 (has_line p.0 file texts p.1.1.0 p.1.1.1)
no_fault file texts (Cut at) p (inl fault) = whole_header p.0 file texts p.1.1.0 at p.1.1.1 fault
no_fault file texts (Cut at) p (inr s) =
    let link = link_after s.format [] s.texts in
    let same = files_end_alike p.0 s.format file texts s.texts p.1.1.0 s.rest (closed_has_none p.0 (link_after p.0 [] texts) p.1.0 p.1.1.0 p.1.1.2) (early_has_none s.format link s.rest s.why) p.1.1.1 s.begins in
    closed_is_not_early s.format link p.1.0 s.rest (closed_at p.0 s.format p.1.0 p.1.1.0 s.rest same.0 same.2 p.1.1.2) s.why
no_fault file texts (Damaged at) p s =
    let link = link_after s.format [] s.texts in
    let same = files_end_alike p.0 s.format file texts s.texts p.1.1.0 s.rest (closed_has_none p.0 (link_after p.0 [] texts) p.1.0 p.1.1.0 p.1.1.2) (damaged_has_none s.format link s.rest s.why) p.1.1.1 s.begins in
    closed_is_not_damaged s.format link p.1.0 s.rest (closed_at p.0 s.format p.1.0 p.1.1.0 s.rest same.0 same.2 p.1.1.2) s.why

-- a file that is cut or damaged begins with a line
abbrev HasLine : List ℕ → Type 0
HasLine file = (f : Format) × BeginsWith (line f) file

stop_has_line : (file : List ℕ) (at : ℕ) (P : Format → List ℕ → List ℕ → Type 0) → StopsAt file at P → HasLine file
stop_has_line file at P s = (s.format, has_line s.format file s.texts s.rest s.begins)

cut_has_line : (file : List ℕ) (at : ℕ) → HasFault file (Cut at) → HasLine file
cut_has_line file at (inl e) = (e.format, (e.more, e.is))
cut_has_line file at (inr s) = stop_has_line file at EndsEarly s

not_a_journal : (file : List ℕ) → HasFault file NotAJournal → HasLine file → ⊥
not_a_journal file p q = p (line_in_family q.0 file q.1)

not_known : (file : List ℕ) → HasFault file Unknown → HasLine file → ⊥
not_known file p q = p.1 q.0 q.1

one_cut : (file : List ℕ) (a b : ℕ) → HasFault file (Cut a) → HasFault file (Cut b) → a ≡ b
one_cut file a b (inl p) (inl q) =
    let same = one_line p.format q.format p.more q.more (sym p.is ∙ q.is) in
    let fill = ap (λ (g : Format). filling g (length (line g))) same in
    let lines = ap (λ (g : Format). length (line g)) same in
    omega (arith, fill, lines, p.place, q.place)
one_cut file a b (inl p) (inr q) = absurd (whole_header q.format file q.texts q.rest a q.begins p)
one_cut file a b (inr p) (inl q) = absurd (whole_header p.format file p.texts p.rest b p.begins q)
one_cut file a b (inr p) (inr q) = same_place file a b EndsEarly EndsEarly p q (stops_alike file a b EndsEarly EndsEarly early_has_none early_has_none p q).2

cut_or_damaged : (file : List ℕ) (a b : ℕ) → HasFault file (Cut a) → HasFault file (Damaged b) → ⊥
cut_or_damaged file a b (inl p) q = whole_header q.format file q.texts q.rest a q.begins p
cut_or_damaged file a b (inr p) q =
    let same = stops_alike file a b EndsEarly IsDamaged early_has_none damaged_has_none p q in
    let link = link_after q.format [] q.texts in
    let early = subst (λ (l : List ℕ). EndsEarly q.format link l) same.2 (subst (λ (h : Format). EndsEarly h link p.rest) same.0 p.why) in
    early_is_not_damaged q.format link q.rest early q.why

pub one_fault : FilesHaveOneFault
one_fault file NotAJournal NotAJournal p q = refl
one_fault file NotAJournal Unknown p q = absurd (p q.0)
one_fault file NotAJournal (Cut b) p q = absurd (not_a_journal file p (cut_has_line file b q))
one_fault file NotAJournal (Damaged b) p q = absurd (not_a_journal file p (stop_has_line file b IsDamaged q))
one_fault file Unknown NotAJournal p q = absurd (q p.0)
one_fault file Unknown Unknown p q = refl
one_fault file Unknown (Cut b) p q = absurd (not_known file p (cut_has_line file b q))
one_fault file Unknown (Damaged b) p q = absurd (not_known file p (stop_has_line file b IsDamaged q))
one_fault file (Cut a) NotAJournal p q = absurd (not_a_journal file q (cut_has_line file a p))
one_fault file (Cut a) Unknown p q = absurd (not_known file q (cut_has_line file a p))
one_fault file (Cut a) (Cut b) p q = ap Cut (one_cut file a b p q)
one_fault file (Cut a) (Damaged b) p q = absurd (cut_or_damaged file a b p q)
one_fault file (Damaged a) NotAJournal p q = absurd (not_a_journal file q (stop_has_line file a IsDamaged p))
one_fault file (Damaged a) Unknown p q = absurd (not_known file q (stop_has_line file a IsDamaged p))
one_fault file (Damaged a) (Cut b) p q = absurd (cut_or_damaged file b a q p)
one_fault file (Damaged a) (Damaged b) p q = ap Damaged (same_place file a b IsDamaged IsDamaged p q (stops_alike file a b IsDamaged IsDamaged damaged_has_none damaged_has_none p q).2)

-- where the one closed latch hides nothing, none does
pub none_hidden : (f : Format) (file : List ℕ) (texts : List (List ℕ)) (rest behind : List ℕ) → Begins f file texts rest → IsLatch f 0 behind rest → (AreTwoBlocks f (link_after f [] texts) behind → ⊥) → (at : ℕ) → Hides file at → ⊥
none_hidden f file texts rest behind b closed none at h =
    let same = closes_alike file h.format f h.texts texts h.rest rest h.behind behind h.begins h.closed b closed in
    let closed' = closed_at h.format f h.behind h.rest rest same.0 same.2 h.closed in
    let behinds = (same_latch f 0 0 h.behind behind rest closed' closed).1 in
    let links = ap (λ (g : Format). link_after g [] h.texts) same.0 ∙ ap (link_after f []) same.1 in
    let blocks = subst (λ (g : Format). AreTwoBlocks g (link_after h.format [] h.texts) h.behind) same.0 h.blocks in
    none (subst (AreTwoBlocks f (link_after f [] texts)) behinds (subst (λ (l : List ℕ). AreTwoBlocks f l h.behind) links blocks))
