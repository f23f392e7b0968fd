-- Where a text has a fault, no named patch stands.
use Rattle.std.proofs.Common.{◌≡◌, ℕ, List, [], ◌∷◌, length, refl, sym, ap, subst, ◌∙◌, arith, inl, inr}
use Rattle.std.specs.Prelude.{codes, ◌≢◌, ◌⊎◌}
use Rattle.std.specs.Cmp.Lexicographic.{other_text}
use Rattle.dm_info.proofs.SpellingLemmas.{one_info, stands_opens, not_both}
use Rattle.dm_info.specs.PatchInfo.{PatchInfo}
use Rattle.dm_info.specs.Spelling.{Stands}
use Rattle.dm_tree.specs.Paths.{Path}
use Rattle.dm_tree.specs.Trees.{Lines}
use Rattle.dm_tokens.specs.Validity.{TokenWords}
use Rattle.dm_prim.specs.Primitives.{Prim, AddFile, RmFile, AddDir, RmDir, Hunk, Binary, Replace, At, Move, ChangePref}
use Rattle.dm_named.specs.Words.{skipped, Word, WordAmong, Begins, LineGroup, NumberLine}
use Rattle.dm_named.specs.Paths.{NextPath, PathWord, WordAndPath}
use Rattle.dm_named.specs.Binaries.{WordAndStars, BinaryBody}
use Rattle.dm_named.specs.Replaces.{TokensText}
use Rattle.dm_named.specs.Preferences.{PreferenceLines}
use Rattle.dm_named.specs.Many.{Many}
use Rattle.dm_named.specs.Patches.{HunkBody, PrimText, NextPrim, NextInfo, Dependencies, Body, RunEnds, prim_words_of, Patch, PatchTextIn}
use Rattle.dm_named.specs.Faults.{InfoFaultAt, PathFaultAt, NoChange, HunkFaultAt, HexFaultAt, old_hex, new_hex, BinaryFaultAt, ReplaceFaultAt, PreferenceFaultAt, path_words, PrimFaultAt, path, second, hunk, binary, replace, preference, CountFaultWithin, BraceFaultAt, RunFaultAt, DependsFaultAt, AfterPrimsWithin, PrimsFaultWithin, BodyFaultWithin, in_braces, in_run, InfosFaultAt, OpenFaultAt, DepsFaultAt, PatchFaultWithin, info, deps, body, ExcludesPatch}
use Rattle.dm_named.specs.declared.fault.FaultKind.{FaultKind}
use Rattle.dm_named.specs.declared.fault.FaultKind.TheVariants as K
use Rattle.dm_named.specs.declared.limits.Limits.{Limits}
use Rattle.dm_named.specs.declared.limits.Kinds.{Kinds}
use Rattle.dm_named.proofs.WordLemmas.{one_word}
use Rattle.dm_named.proofs.GroupLemmas.{one_group, one_number_line}
use Rattle.dm_named.proofs.ManyLemmas.{many_follows}
use Rattle.dm_named.proofs.KindLemmas.{not_here, both_words, no_close_word, no_open_word, no_paren_word, no_prim_at_end, no_close_refused, no_prim_ends, no_refused_ends}
use Rattle.dm_named.proofs.BinaryLemmas.{one_word_and_stars, stars_or_none}
use Rattle.dm_named.proofs.OnePatch.{one_single, stands_word, prim_word, prim_a_word, no_move, no_preference, one_next, no_next, one_depends}

pub no_info : (kind : FaultKind) (text here : List ℕ) → kind ≢ K.NoMemory → InfoFaultAt kind text here → (i : PatchInfo) (r : List ℕ) → Stands text i r → ⊥
no_info K.BadInfo text here k f i r s = f.1.none i r s
no_info K.Inverted text here k f i r s = not_both text i r s f.1
no_info K.NoMemory text here k f i r s = k refl
no_info kind text here k f i r s = absurd f

pub no_path : (kind : FaultKind) (text here : List ℕ) → kind ≢ K.NoMemory → PathFaultAt kind text here → (p : Path) (r : List ℕ) → NextPath text p r → ⊥
no_path K.BadPath text here k f p r s = f.1 p r (subst (λ (t : List ℕ). PathWord t p r) (sym f.0) s)
no_path K.NoMemory text here k f p r s = k refl
no_path kind text here k f p r s = absurd f

nothing_read : (b : ℕ) (text rest : List ℕ) (lines : List (List ℕ)) → LineGroup b text lines rest → (Begins b text → ⊥) → (lines ≡ []) × (text ≡ rest)
nothing_read b text rest [] g none = (refl, g.read)
nothing_read b text rest (l ∷ ls) g none = absurd (none (g.read.1.inside, g.read.1.mark))

no_lines : (text : List ℕ) (n : ℕ) (old new : List (List ℕ)) (r : List ℕ) → NoChange text → HunkBody text n old new r → ⊥
no_lines text n old new r e h =
    let line = one_number_line (skipped text) e.number n e.lines h.lines e.number_read h.number_read in
    let l = h.lines_read in
    let above = one_group 32 h.lines e.above l.above e.olds l.olds (subst (λ (t : List ℕ). LineGroup 32 t e.above e.olds) line.1 e.above_read) l.above_read in
    let olds = nothing_read 45 l.olds l.news old l.old_read (λ b. e.no_old (subst (Begins 45) (sym above.1) b)) in
    let news = nothing_read 43 l.news l.last new l.new_read (λ b. e.no_new (subst (Begins 43) (sym olds.1 ∙ sym above.1) b)) in
    elim l.some [ inl x ↦ x olds.0 | inr y ↦ y news.0 ]

no_hunk : (kind : FaultKind) (start text here : List ℕ) → kind ≢ K.NoMemory → HunkFaultAt kind start text here → (n : ℕ) (old new : List (List ℕ)) (r : List ℕ) → HunkBody text n old new r → ⊥
no_hunk K.BadNumber start text here k f n old new r h = f.1 n h.lines (subst (λ (t : List ℕ). NumberLine t n h.lines) (sym f.0) h.number_read)
no_hunk K.EmptyHunk start text here k f n old new r h = no_lines text n old new r f.1 h
no_hunk K.NoMemory start text here k f n old new r h = k refl
no_hunk kind start text here k f n old new r h = absurd f

-- a path that stands after a primitive's word is not at fault
pub path_stands : (kind : FaultKind) (w text mid here : List ℕ) (p : Path) (stands : WordAmong path_words text) → kind ≢ K.NoMemory → PathFaultAt kind stands.rest here → WordAndPath w text p mid → ⊥
path_stands kind w text mid here p stands k f s =
    let one = one_word text w stands.word s.after stands.rest s.named stands.stands in
    no_path kind stands.rest here k f p mid (subst (λ (t : List ℕ). NextPath t p mid) one.1 s.path)

-- the word of a change of a preference has no path after it
pub no_path_word : (text mid : List ℕ) → Word text (codes "changepref") mid → WordAmong path_words text → ⊥
no_path_word text mid w stands = not_here path_words stands.word (codes "changepref") refl (one_word text stands.word (codes "changepref") stands.rest mid stands.stands w).0 stands.among

no_first : (kind : FaultKind) (text here : List ℕ) (stands : WordAmong path_words text) → kind ≢ K.NoMemory → PathFaultAt kind stands.rest here → (q : Prim) (r : List ℕ) → PrimText text q r → ⊥
no_first kind text here stands k f (At p AddFile) r a = path_stands kind (codes "addfile") text r here p stands k f a
no_first kind text here stands k f (At p RmFile) r a = path_stands kind (codes "rmfile") text r here p stands k f a
no_first kind text here stands k f (At p AddDir) r a = path_stands kind (codes "adddir") text r here p stands k f a
no_first kind text here stands k f (At p RmDir) r a = path_stands kind (codes "rmdir") text r here p stands k f a
no_first kind text here stands k f (At p (Hunk n old new)) r a = path_stands kind (codes "hunk") text a.mid here p stands k f a.first
no_first kind text here stands k f (At p (Binary old new)) r a = path_stands kind (codes "binary") text a.mid here p stands k f a.first
no_first kind text here stands k f (At p (Replace set old new)) r a = path_stands kind (codes "replace") text a.mid here p stands k f a.first
no_first kind text here stands k f (Move p q) r a = path_stands kind (codes "move") text a.mid here p stands k f a.first
no_first kind text here stands k f (ChangePref name old new) r a = no_path_word text a.after a.named stands

no_second : (kind : FaultKind) (text mid here : List ℕ) (p : Path) → kind ≢ K.NoMemory → WordAndPath (codes "move") text p mid → PathFaultAt kind mid here → (q : Prim) (r : List ℕ) → codes "move" ≡ prim_word q → PrimText text q r → ⊥
no_second kind text mid here p k s f (At q w) r e t = no_move q w e
no_second kind text mid here p k s f (ChangePref name old new) r e t = other_text (codes "move") (codes "changepref") refl e
no_second kind text mid here p k s f (Move q v) r e t =
    let one = one_single (codes "move") text q p t.mid mid t.first s in
    no_path kind mid here k f v r (subst (λ (x : List ℕ). NextPath x v r) one.1 t.second)

no_body : (kind : FaultKind) (text mid here : List ℕ) (p : Path) → kind ≢ K.NoMemory → WordAndPath (codes "hunk") text p mid → HunkFaultAt kind text mid here → (q : Prim) (r : List ℕ) → codes "hunk" ≡ prim_word q → PrimText text q r → ⊥
no_body kind text mid here p k s f (At q (Hunk n old new)) r e t =
    let one = one_single (codes "hunk") text q p t.mid mid t.first s in
    no_hunk kind text mid here k f n old new r (subst (λ (x : List ℕ). HunkBody x n old new r) one.1 t.body)
no_body kind text mid here p k s f q r e t = other_text (codes "hunk") (prim_word q) refl e

-- ---- contents in hex, tokens and preferences

no_content : (text here : List ℕ) (old new : Lines) (r : List ℕ) → HexFaultAt text here → BinaryBody text old new r → ⊥
no_content text here old new r (old_hex f) b = stars_or_none (codes "oldhex") text here old b.mid f b.olds
no_content text here old new r (new_hex lines mid stands f) b =
    let one = (one_word_and_stars (codes "oldhex") (skipped text) old lines b.mid mid b.olds stands).1 in
    stars_or_none (codes "newhex") mid here new r f (subst (λ (t : List ℕ). WordAndStars (codes "newhex") (skipped t) new r) one b.news)

no_hex : (kind : FaultKind) (text here : List ℕ) → kind ≢ K.NoMemory → BinaryFaultAt kind text here → (old new : Lines) (r : List ℕ) → BinaryBody text old new r → ⊥
no_hex K.BadHex text here k f old new r b = no_content text here old new r f b
no_hex K.NoMemory text here k f old new r b = k refl
no_hex kind text here k f old new r b = absurd f

no_binary : (kind : FaultKind) (text mid here : List ℕ) (p : Path) → kind ≢ K.NoMemory → WordAndPath (codes "binary") text p mid → BinaryFaultAt kind mid here → (q : Prim) (r : List ℕ) → codes "binary" ≡ prim_word q → PrimText text q r → ⊥
no_binary kind text mid here p k s f (At q (Binary old new)) r e t =
    let one = one_single (codes "binary") text q p t.mid mid t.first s in
    no_hex kind mid here k f old new r (subst (λ (x : List ℕ). BinaryBody x old new r) one.1 t.body)
no_binary kind text mid here p k s f q r e t = other_text (codes "binary") (prim_word q) refl e

no_tokens_there : (kind : FaultKind) (text here : List ℕ) → kind ≢ K.NoMemory → ReplaceFaultAt kind text here → (words : TokenWords) (r : List ℕ) → TokensText (skipped text) words r → ⊥
no_tokens_there K.BadTokens text here k f words r b = f.1 words r (subst (λ (t : List ℕ). TokensText t words r) (sym f.0) b)
no_tokens_there K.NoMemory text here k f words r b = k refl
no_tokens_there kind text here k f words r b = absurd f

no_replace : (kind : FaultKind) (text mid here : List ℕ) (p : Path) → kind ≢ K.NoMemory → WordAndPath (codes "replace") text p mid → ReplaceFaultAt kind mid here → (q : Prim) (r : List ℕ) → codes "replace" ≡ prim_word q → PrimText text q r → ⊥
no_replace kind text mid here p k s f (At q (Replace set old new)) r e t =
    let words : TokenWords = record { set = set; old = old; new = new } in
    let one = one_single (codes "replace") text q p t.mid mid t.first s in
    no_tokens_there kind mid here k f words r (subst (λ (x : List ℕ). TokensText (skipped x) words r) one.1 t.tokens)
no_replace kind text mid here p k s f q r e t = other_text (codes "replace") (prim_word q) refl e

no_lines_there : (kind : FaultKind) (text here : List ℕ) → kind ≢ K.NoMemory → PreferenceFaultAt kind text here → (name old new r : List ℕ) → PreferenceLines (skipped text) name old new r → ⊥
no_lines_there K.BadPreference text here k f name old new r b = f.1 name old new r (subst (λ (t : List ℕ). PreferenceLines t name old new r) (sym f.0) b)
no_lines_there K.NoMemory text here k f name old new r b = k refl
no_lines_there kind text here k f name old new r b = absurd f

no_change : (kind : FaultKind) (text mid here : List ℕ) → kind ≢ K.NoMemory → Word text (codes "changepref") mid → PreferenceFaultAt kind mid here → (q : Prim) (r : List ℕ) → codes "changepref" ≡ prim_word q → PrimText text q r → ⊥
no_change kind text mid here k s f (ChangePref name old new) r e t =
    let one = (one_word text (codes "changepref") (codes "changepref") t.after mid t.named s).1 in
    no_lines_there kind mid here k f name old new r (subst (λ (x : List ℕ). PreferenceLines (skipped x) name old new r) one t.lines)
no_change kind text mid here k s f (At q w) r e t = no_preference q w e
no_change kind text mid here k s f (Move q v) r e t = other_text (codes "changepref") (codes "move") refl e

word_is : (text w after : List ℕ) (q : Prim) (r : List ℕ) → Word text w after → PrimText text q r → w ≡ prim_word q
word_is text w after q r a t = let s = stands_word text q r t in (one_word text w (prim_word q) after s.0 a s.1).0

pub no_prim : (kind : FaultKind) (text here : List ℕ) → kind ≢ K.NoMemory → PrimFaultAt kind text here → (q : Prim) (r : List ℕ) → PrimText text q r → ⊥
no_prim kind text here k (path stands f) q r t = no_first kind text here stands k f q r t
no_prim kind text here k (second p mid s f) q r t = no_second kind text mid here p k s f q r (word_is text (codes "move") s.after q r s.named t) t
no_prim kind text here k (hunk p mid s f) q r t = no_body kind text mid here p k s f q r (word_is text (codes "hunk") s.after q r s.named t) t
no_prim kind text here k (binary p mid s f) q r t = no_binary kind text mid here p k s f q r (word_is text (codes "binary") s.after q r s.named t) t
no_prim kind text here k (replace p mid s f) q r t = no_replace kind text mid here p k s f q r (word_is text (codes "replace") s.after q r s.named t) t
no_prim kind text here k (preference mid s f) q r t = no_change kind text mid here k s f q r (word_is text (codes "changepref") mid q r s t) t

-- ---- repetitions

split : (kinds : Kinds) (mid s : List ℕ) (more : List Prim) → Many (NextPrim kinds) mid more s → (mid ≡ s) ⊎ ((q : Prim) × (after : List ℕ) × NextPrim kinds mid q after)
split kinds mid s [] e = inl e
split kinds mid s (q ∷ more) r = inr (q, r.0, r.1)

-- what was read before the fault is the front of what stands there, and either nothing more does, or a primitive
pub ahead : (kinds : Kinds) (text : List ℕ) (ps qs : List Prim) (mid s : List ℕ) → Many (NextPrim kinds) text ps mid → Many (NextPrim kinds) text qs s → (WordAmong (prim_words_of kinds) (skipped s) → ⊥)
    → (mid ≡ s) ⊎ ((q : Prim) × (after : List ℕ) × NextPrim kinds mid q after)
ahead kinds text ps qs mid s a b closed =
    let m = many_follows (NextPrim kinds) (one_next kinds) text ps qs mid s a b (no_next kinds s closed) in
    split kinds mid s m.0 m.2

no_next_fault : (limits : Limits) (kind : FaultKind) (count : ℕ) (text here : List ℕ) → ExcludesPatch kind → CountFaultWithin limits kind count text here → ⊥
no_next_fault limits K.TooMany count text here k f = k.count refl
no_next_fault limits K.NoMemory count text here k f = k.memory refl
no_next_fault limits kind count text here k f = absurd f

pub no_prims : (limits : Limits) (kind : FaultKind) (text here : List ℕ) → ExcludesPatch kind → PrimsFaultWithin limits kind text here → (qs : List Prim) (s : List ℕ) → Many (NextPrim limits.kinds) text qs s → (WordAmong (prim_words_of limits.kinds) (skipped s) → ⊥) → ⊥
no_prims limits kind text here k f qs s r closed =
    elim f.wrong [
      | inl n ↦ no_next_fault limits kind (length f.prims) (skipped f.mid) here k n
      | inr w ↦ elim (ahead limits.kinds text f.prims qs f.mid s f.read r closed) [
        | inl e ↦ closed (subst (λ (t : List ℕ). WordAmong (prim_words_of limits.kinds) (skipped t)) e w.1.due)
        | inr q ↦ no_prim kind (skipped f.mid) here k.memory w.1.wrong q.0 q.1 q.2.read
      ]
    ]

-- ---- marks

pub begins_two : (b c : ℕ) (text tail : List ℕ) → (b ≡ c → ⊥) → text ≡ b ∷ tail → Begins c text → ⊥
begins_two b c text tail other e o = other (let both : b ∷ tail ≡ c ∷ o.0 = sym e ∙ o.1 in cc)

-- ---- bodies

-- what stands after the primitives of a braced body is no fault of braces
pub not_closed : (kinds : Kinds) (kind : FaultKind) (text here r : List ℕ) → BraceFaultAt kinds kind text here → text ≡ 125 ∷ r → ⊥
not_closed kinds K.Unclosed text here r f e = let both : [] ≡ 125 ∷ r = sym f.1 ∙ e in cc
not_closed kinds K.Unsupported text here r f e =
    elim f.1 [
      | inl w ↦ no_close_refused kinds text r e w
      | inr p ↦ elim p [ inl b ↦ begins_two 125 123 text r (λ x. omega (arith, x)) e b | inr b ↦ begins_two 125 40 text r (λ x. omega (arith, x)) e b ]
    ]
not_closed kinds K.BadPatch text here r f e = f.2 (r, e)
not_closed kinds kind text here r f e = absurd f

pub not_prim : (kinds : Kinds) (kind : FaultKind) (text here : List ℕ) → BraceFaultAt kinds kind text here → WordAmong (prim_words_of kinds) text → ⊥
not_prim kinds K.Unclosed text here f w = no_prim_at_end kinds text f.1 w
not_prim kinds K.Unsupported text here f w =
    elim f.1 [ inl o ↦ both_words kinds text w o | inr p ↦ elim p [ inl b ↦ no_open_word kinds text b.0 b.1 w | inr b ↦ no_paren_word kinds text b.0 b.1 w ] ]
not_prim kinds K.BadPatch text here f w = no_prim_ends kinds text f.4 w
not_prim kinds kind text here f w = absurd f

no_brace : (limits : Limits) (kind : FaultKind) (inside here : List ℕ) → AfterPrimsWithin limits (λ _. BraceFaultAt limits.kinds kind) inside here → (qs : List Prim) (s r : List ℕ) → Many (NextPrim limits.kinds) inside qs s → skipped s ≡ 125 ∷ r → ⊥
no_brace limits kind inside here f qs s r q closes =
    elim (ahead limits.kinds inside f.prims qs f.mid s f.read q (no_close_word limits.kinds (skipped s) r closes)) [
      | inl e ↦ not_closed limits.kinds kind (skipped f.mid) here r f.wrong (ap skipped e ∙ closes)
      | inr p ↦ not_prim limits.kinds kind (skipped f.mid) here f.wrong (prim_a_word limits.kinds (skipped f.mid) p.0 p.1 p.2.read p.2.kind)
    ]

pub run_goes_on : (kinds : Kinds) (kind : FaultKind) (text here : List ℕ) → RunFaultAt kinds kind text here → RunEnds text → ⊥
run_goes_on kinds K.Unsupported text here f e = elim f.1 [ inl o ↦ no_refused_ends kinds text e o | inr b ↦ e.paren b ]
run_goes_on kinds kind text here f e = absurd f

pub run_no_prim : (kinds : Kinds) (kind : FaultKind) (text here : List ℕ) → RunFaultAt kinds kind text here → WordAmong (prim_words_of kinds) text → ⊥
run_no_prim kinds K.Unsupported text here f w = elim f.1 [ inl o ↦ both_words kinds text w o | inr b ↦ no_paren_word kinds text b.0 b.1 w ]
run_no_prim kinds kind text here f w = absurd f

no_run : (limits : Limits) (kind : FaultKind) (text here : List ℕ) → AfterPrimsWithin limits (λ _. RunFaultAt limits.kinds kind) text here → (qs : List Prim) (s : List ℕ) → Many (NextPrim limits.kinds) text qs s → RunEnds (skipped s) → ⊥
no_run limits kind text here f qs s q ends =
    elim (ahead limits.kinds text f.prims qs f.mid s f.read q (no_prim_ends limits.kinds (skipped s) ends)) [
      | inl e ↦ run_goes_on limits.kinds kind (skipped f.mid) here f.wrong (subst (λ (t : List ℕ). RunEnds (skipped t)) (sym e) ends)
      | inr p ↦ run_no_prim limits.kinds kind (skipped f.mid) here f.wrong (prim_a_word limits.kinds (skipped f.mid) p.0 p.1 p.2.read p.2.kind)
    ]

pub tail_same : (b : ℕ) (text x y : List ℕ) → text ≡ b ∷ x → text ≡ b ∷ y → x ≡ y
tail_same b text x y e f = let both : b ∷ x ≡ b ∷ y = sym e ∙ f in cc

no_a_body : (limits : Limits) (kind : FaultKind) (text here : List ℕ) → ExcludesPatch kind → BodyFaultWithin limits kind text here → (qs : List Prim) (r : List ℕ) → Body limits.kinds text qs r → ⊥
no_a_body limits kind text here k (in_braces inside opens f) qs r b =
    elim b [
      | inl x ↦
          let same = tail_same 123 (skipped text) x.inside inside x.opens opens in
          let read = subst (λ (t : List ℕ). Many (NextPrim limits.kinds) t qs x.mid) same x.read in
          elim f [ inl g ↦ no_prims limits kind inside here k g qs x.mid read (no_close_word limits.kinds (skipped x.mid) r x.closes) | inr g ↦ no_brace limits kind inside here g qs x.mid r read x.closes ]
      | inr x ↦ x.bare (inside, opens)
    ]
no_a_body limits kind text here k (in_run bare f) qs r b =
    elim b [
      | inl x ↦ bare (x.inside, x.opens)
      | inr x ↦ elim f [ inl g ↦ no_prims limits kind text here k g qs r x.read (no_prim_ends limits.kinds (skipped r) x.ends) | inr g ↦ no_run limits kind text here g qs r x.read x.ends ]
    ]

-- ---- dependencies

split_infos : (mid s : List ℕ) (more : List PatchInfo) → Many NextInfo mid more s → (mid ≡ s) ⊎ ((i : PatchInfo) × (after : List ℕ) × Stands (skipped mid) i after)
split_infos mid s [] e = inl e
split_infos mid s (i ∷ more) r = inr (i, r.0, r.1)

infos_ahead : (text : List ℕ) (is js : List PatchInfo) (mid s : List ℕ) → Many NextInfo text is mid → Many NextInfo text js s → (Begins 91 (skipped s) → ⊥)
    → (mid ≡ s) ⊎ ((i : PatchInfo) × (after : List ℕ) × Stands (skipped mid) i after)
infos_ahead text is js mid s a b closed =
    let m = many_follows NextInfo (λ t i j r u x y. one_info (skipped t) i j r u x y) text is js mid s a b (λ i after x. closed (stands_opens (skipped s) i after x)) in
    split_infos mid s m.0 m.2

not_depends : (kind : FaultKind) (text here r : List ℕ) → DependsFaultAt kind text here → text ≡ 62 ∷ r → ⊥
not_depends K.BadDepends text here r f e = f.2 (r, e)
not_depends kind text here r f e = absurd f

pub no_more_infos : (kind : FaultKind) (text here : List ℕ) → DependsFaultAt kind text here → Begins 91 text → ⊥
no_more_infos K.BadDepends text here f b = f.1 b
no_more_infos kind text here f b = absurd f

no_infos : (kind : FaultKind) (text here : List ℕ) → kind ≢ K.NoMemory → InfosFaultAt kind text here → (js : List PatchInfo) (s : List ℕ) → Many NextInfo text js s → (Begins 91 (skipped s) → ⊥) → ⊥
no_infos kind text here k f js s r closed =
    elim (infos_ahead text f.infos js f.mid s f.read r closed) [
      | inl e ↦ closed (subst (λ (t : List ℕ). Begins 91 (skipped t)) e f.opens)
      | inr q ↦ no_info kind (skipped f.mid) here k f.wrong q.0 q.1 q.2
    ]

no_open : (kind : FaultKind) (text here : List ℕ) → OpenFaultAt kind text here → (js : List PatchInfo) (s r : List ℕ) → Many NextInfo text js s → skipped s ≡ 62 ∷ r → ⊥
no_open kind text here f js s r q closes =
    elim (infos_ahead text f.infos js f.mid s f.read q (begins_two 62 91 (skipped s) r (λ x. omega (arith, x)) closes)) [
      | inl e ↦ not_depends kind (skipped f.mid) here r f.wrong (ap skipped e ∙ closes)
      | inr p ↦ no_more_infos kind (skipped f.mid) here f.wrong (stands_opens (skipped f.mid) p.0 p.1 p.2)
    ]

pub no_deps : (kind : FaultKind) (text here : List ℕ) → kind ≢ K.NoMemory → DepsFaultAt kind text here → (ds : List PatchInfo) (r : List ℕ) → Dependencies text ds r → ⊥
no_deps kind text here k f ds r d =
    elim d [
      | inl x ↦
          let same = tail_same 60 (skipped text) x.inside f.inside x.opens f.opens in
          let read = subst (λ (t : List ℕ). Many NextInfo t ds x.mid) same x.read in
          elim f.wrong [
            | inl g ↦ no_infos kind f.inside here k g ds x.mid read (begins_two 62 91 (skipped x.mid) r (λ e. omega (arith, e)) x.closes)
            | inr g ↦ no_open kind f.inside here g ds x.mid r read x.closes
          ]
      | inr x ↦ x.0 (f.inside, f.opens)
    ]

one_deps : (text : List ℕ) (ds es : List PatchInfo) (r s : List ℕ) → Dependencies text ds r → Dependencies text es s → (ds ≡ es) × (r ≡ s)
one_deps = one_depends

pub no_patch : (limits : Limits) (kind : FaultKind) (text here : List ℕ) → ExcludesPatch kind → PatchFaultWithin limits kind text here → (p : Patch) (r : List ℕ) → PatchTextIn limits.kinds text p r → ⊥
no_patch limits kind text here k (info f) p r t = no_info kind text here k.memory f p.info t.after t.info
no_patch limits kind text here k (deps i after s f) p r t =
    let one = one_info text p.info i t.after after t.info s in
    no_deps kind after here k.memory f p.deps t.body (subst (λ (x : List ℕ). Dependencies x p.deps t.body) one.1 t.deps)
no_patch limits kind text here k (body i ds after start s d f) p r t =
    let one = one_info text p.info i t.after after t.info s in
    let two = one_deps after p.deps ds t.body start (subst (λ (x : List ℕ). Dependencies x p.deps t.body) one.1 t.deps) d in
    no_a_body limits kind start here k f p.prims r (subst (λ (x : List ℕ). Body limits.kinds x p.prims r) two.1 t.prims)
