-- A text has at most one named patch at its front.
use Rattle.std.proofs.Common.{◌≡◌, ℕ, List, ◌∷◌, refl, sym, subst, ◌∙◌, arith, inl, inr, false}
use Rattle.std.specs.Prelude.{codes, nat_eq, ◌⊎◌}
use Rattle.std.specs.Cmp.Lexicographic.{other_text, pointwise}
use Rattle.dm_info.proofs.SpellingLemmas.{one_info, stands_opens}
use Rattle.dm_info.specs.PatchInfo.{PatchInfo}
use Rattle.dm_tree.specs.Paths.{Path}
use Rattle.dm_prim.specs.Primitives.{Work, Prim, AddFile, RmFile, AddDir, RmDir, Hunk, Binary, Replace, At, Move, ChangePref}
use Rattle.dm_tree.specs.Trees.{Lines}
use Rattle.dm_tokens.specs.Validity.{TokenWords}
use Rattle.dm_named.specs.Kinds.{IsOfSix, IsOf}
use Rattle.dm_named.specs.Words.{skipped, Word, Among, WordAmong, Begins, LineGroup}
use Rattle.dm_named.specs.Paths.{NextPath, WordAndPath}
use Rattle.dm_named.specs.Binaries.{BinaryBody, BinaryText}
use Rattle.dm_named.specs.Replaces.{TokensText, ReplaceText}
use Rattle.dm_named.specs.Preferences.{PreferenceLines, PreferenceText}
use Rattle.dm_named.specs.Many.{Many}
use Rattle.dm_named.specs.Patches.{WordAndPaths, HunkLines, HunkBody, HunkText, PrimText, NextPrim, NextInfo, Dependencies, Body, prim_words, wider_words, prim_words_of, Patch, PatchTextIn}
use Rattle.dm_named.specs.declared.limits.Kinds.{Kinds}
use Rattle.dm_named.specs.declared.limits.Kinds.TheVariants as these
use Rattle.dm_named.proofs.WordLemmas.{one_word}
use Rattle.dm_named.proofs.KindLemmas.{no_close_word, no_prim_ends, wider_in_all}
use Rattle.dm_named.proofs.BinaryLemmas.{one_binary_body}
use Rattle.dm_named.proofs.ReplaceLemmas.{one_tokens_text}
use Rattle.dm_named.proofs.PreferenceLemmas.{one_preference_lines}
use Rattle.dm_named.proofs.PathLemmas.{one_path_here}
use Rattle.dm_named.proofs.GroupLemmas.{one_group, one_number_line}
use Rattle.dm_named.proofs.ManyLemmas.{one_many, Closed}

pub one_single : (w text : List ℕ) (p q : Path) (r s : List ℕ) → WordAndPath w text p r → WordAndPath w text q s → (p ≡ q) × (r ≡ s)
one_single w text p q r s a b =
    let after = (one_word text w w a.after b.after a.named b.named).1 in
    one_path_here (skipped b.after) p q r s (subst (λ (t : List ℕ). NextPath t p r) after a.path) b.path

one_double : (w text : List ℕ) (p q v x : Path) (r s : List ℕ) → WordAndPaths w text p q r → WordAndPaths w text v x s → (p ≡ v) × (q ≡ x) × (r ≡ s)
one_double w text p q v x r s a b =
    let first = one_single w text p v a.mid b.mid a.first b.first in
    let second = one_path_here (skipped b.mid) q x r s (subst (λ (t : List ℕ). NextPath t q r) first.1 a.second) b.second in
    (first.0, second.0, second.1)

one_lines : (text : List ℕ) (old new old' new' : List (List ℕ)) (r s : List ℕ) → HunkLines text old new r → HunkLines text old' new' s → (old ≡ old') × (new ≡ new') × (r ≡ s)
one_lines text old new old' new' r s a b =
    let above = one_group 32 text a.above b.above a.olds b.olds a.above_read b.above_read in
    let olds = one_group 45 b.olds old old' a.news b.news (subst (λ (t : List ℕ). LineGroup 45 t old a.news) above.1 a.old_read) b.old_read in
    let news = one_group 43 b.news new new' a.last b.last (subst (λ (t : List ℕ). LineGroup 43 t new a.last) olds.1 a.new_read) b.new_read in
    let below = one_group 32 b.last a.below b.below r s (subst (λ (t : List ℕ). LineGroup 32 t a.below r) news.1 a.below_read) b.below_read in
    (olds.0, news.0, below.1)

one_hunk : (text : List ℕ) (p q : Path) (n m : ℕ) (old new old' new' : List (List ℕ)) (r s : List ℕ) → HunkText text p n old new r → HunkText text q m old' new' s → (p ≡ q) × (n ≡ m) × (old ≡ old') × (new ≡ new') × (r ≡ s)
one_hunk text p q n m old new old' new' r s a b =
    let first = one_single (codes "hunk") text p q a.mid b.mid a.first b.first in
    let body = subst (λ (t : List ℕ). HunkBody t n old new r) first.1 a.body in
    let line = one_number_line (skipped b.mid) n m body.lines b.body.lines body.number_read b.body.number_read in
    let lines = one_lines b.body.lines old new old' new' r s (subst (λ (t : List ℕ). HunkLines t old new r) line.1 body.lines_read) b.body.lines_read in
    (first.0, line.0, lines.0, lines.1, lines.2)

one_binary : (text : List ℕ) (p q : Path) (old new old' new' : Lines) (r s : List ℕ) → BinaryText text p old new r → BinaryText text q old' new' s → (p ≡ q) × (old ≡ old') × (new ≡ new') × (r ≡ s)
one_binary text p q old new old' new' r s a b =
    let first = one_single (codes "binary") text p q a.mid b.mid a.first b.first in
    let body = one_binary_body b.mid old new old' new' r s (subst (λ (t : List ℕ). BinaryBody t old new r) first.1 a.body) b.body in
    (first.0, body.0, body.1, body.2)

one_replace : (text : List ℕ) (p q : Path) (v w : TokenWords) (r s : List ℕ) → ReplaceText text p v r → ReplaceText text q w s → (p ≡ q) × (v ≡ w) × (r ≡ s)
one_replace text p q v w r s a b =
    let first = one_single (codes "replace") text p q a.mid b.mid a.first b.first in
    let tokens = one_tokens_text (skipped b.mid) v w r s (subst (λ (t : List ℕ). TokensText (skipped t) v r) first.1 a.tokens) b.tokens in
    (first.0, tokens.0, tokens.1)

one_preference : (text name old new name' old' new' r s : List ℕ) → PreferenceText text name old new r → PreferenceText text name' old' new' s → (name ≡ name') × (old ≡ old') × (new ≡ new') × (r ≡ s)
one_preference text name old new name' old' new' r s a b =
    let after = (one_word text (codes "changepref") (codes "changepref") a.after b.after a.named b.named).1 in
    one_preference_lines (skipped b.after) name old new name' old' new' r s (subst (λ (t : List ℕ). PreferenceLines (skipped t) name old new r) after a.lines) b.lines

-- a primitive's word, and what stands after it
abbrev pub prim_word : Prim → List ℕ
prim_word (At p AddFile) = codes "addfile"
prim_word (At p RmFile) = codes "rmfile"
prim_word (At p AddDir) = codes "adddir"
prim_word (At p RmDir) = codes "rmdir"
prim_word (At p (Hunk n old new)) = codes "hunk"
prim_word (At p (Binary old new)) = codes "binary"
prim_word (At p (Replace set old new)) = codes "replace"
prim_word (Move p q) = codes "move"
prim_word (ChangePref name old new) = codes "changepref"

pub stands_word : (text : List ℕ) (p : Prim) (r : List ℕ) → PrimText text p r → (after : List ℕ) × Word text (prim_word p) after
stands_word text (At p AddFile) r a = (a.after, a.named)
stands_word text (At p RmFile) r a = (a.after, a.named)
stands_word text (At p AddDir) r a = (a.after, a.named)
stands_word text (At p RmDir) r a = (a.after, a.named)
stands_word text (At p (Hunk n old new)) r a = (a.first.after, a.first.named)
stands_word text (At p (Binary old new)) r a = (a.first.after, a.first.named)
stands_word text (At p (Replace set old new)) r a = (a.first.after, a.first.named)
stands_word text (Move p q) r a = (a.first.after, a.first.named)
stands_word text (ChangePref name old new) r a = (a.after, a.named)

pub same_word : (text : List ℕ) (p q : Prim) (r s : List ℕ) → PrimText text p r → PrimText text q s → prim_word p ≡ prim_word q
same_word text p q r s a b =
    let x = stands_word text p r a in
    let y = stands_word text q s b in
    (one_word text (prim_word p) (prim_word q) x.0 y.0 x.1 y.1).0

word_in_six : (p : Prim) → IsOfSix p → Among prim_words (prim_word p)
word_in_six (At p AddFile) o = inl refl
word_in_six (At p RmFile) o = inr (inl refl)
word_in_six (At p AddDir) o = inr (inr (inl refl))
word_in_six (At p RmDir) o = inr (inr (inr (inl refl)))
word_in_six (Move p q) o = inr (inr (inr (inr (inl refl))))
word_in_six (At p (Hunk n old new)) o = inr (inr (inr (inr (inr (inl refl)))))
word_in_six (At p (Binary old new)) o = absurd o
word_in_six (At p (Replace set old new)) o = absurd o
word_in_six (ChangePref name old new) o = absurd o

word_in_all : (p : Prim) → Among (prim_words_of these.All) (prim_word p)
word_in_all (At p (Binary old new)) = wider_in_all (codes "binary") (inl refl)
word_in_all (At p (Replace set old new)) = wider_in_all (codes "replace") (inr (inl refl))
word_in_all (ChangePref name old new) = wider_in_all (codes "changepref") (inr (inr (inl refl)))
word_in_all (At p AddFile) = inl refl
word_in_all (At p RmFile) = inr (inl refl)
word_in_all (At p AddDir) = inr (inr (inl refl))
word_in_all (At p RmDir) = inr (inr (inr (inl refl)))
word_in_all (Move p q) = inr (inr (inr (inr (inl refl))))
word_in_all (At p (Hunk n old new)) = inr (inr (inr (inr (inr (inl refl)))))

word_in : (kinds : Kinds) (p : Prim) → IsOf kinds p → Among (prim_words_of kinds) (prim_word p)
word_in these.Six p o = word_in_six p o
word_in these.All p o = word_in_all p

-- a primitive that isn't of the six kinds has a word of the further ones
pub of_six_or_wider : (p : Prim) → IsOfSix p ⊎ Among wider_words (prim_word p)
of_six_or_wider (At p AddFile) = inl tt
of_six_or_wider (At p RmFile) = inl tt
of_six_or_wider (At p AddDir) = inl tt
of_six_or_wider (At p RmDir) = inl tt
of_six_or_wider (Move p q) = inl tt
of_six_or_wider (At p (Hunk n old new)) = inl tt
of_six_or_wider (At p (Binary old new)) = inr (inl refl)
of_six_or_wider (At p (Replace set old new)) = inr (inr (inl refl))
of_six_or_wider (ChangePref name old new) = inr (inr (inr (inl refl)))

pub prim_a_word : (kinds : Kinds) (text : List ℕ) (p : Prim) (r : List ℕ) → PrimText text p r → IsOf kinds p → WordAmong (prim_words_of kinds) text
prim_a_word kinds text p r a o = let s = stands_word text p r a in record { word = prim_word p; rest = s.0; stands = s.1; among = word_in kinds p o }

differ : (x y : List ℕ) → false ≡ pointwise nat_eq x y → x ≡ y → ⊥
differ x y f e = other_text x y f e

-- work at a path has another word than a move, and than a change of a preference
pub no_move : (q : Path) (w : Work) → codes "move" ≡ prim_word (At q w) → ⊥
no_move q AddFile e = differ (codes "move") (codes "addfile") refl e
no_move q w e = differ (codes "move") (prim_word (At q w)) refl e

pub no_preference : (q : Path) (w : Work) → codes "changepref" ≡ prim_word (At q w) → ⊥
no_preference q AddFile e = differ (codes "changepref") (codes "addfile") refl e
no_preference q w e = differ (codes "changepref") (prim_word (At q w)) refl e

pub one_prim : (text : List ℕ) (p q : Prim) (r s : List ℕ) → PrimText text p r → PrimText text q s → (p ≡ q) × (r ≡ s)
one_prim text (At p AddFile) (At q AddFile) r s a b = let o = one_single (codes "addfile") text p q r s a b in ((λ k. At (o.0 k) AddFile), o.1)
one_prim text (At p AddFile) q r s a b = absurd (differ (codes "addfile") (prim_word q) refl (same_word text (At p AddFile) q r s a b))
one_prim text (At p RmFile) (At q RmFile) r s a b = let o = one_single (codes "rmfile") text p q r s a b in ((λ k. At (o.0 k) RmFile), o.1)
one_prim text (At p RmFile) q r s a b = absurd (differ (codes "rmfile") (prim_word q) refl (same_word text (At p RmFile) q r s a b))
one_prim text (At p AddDir) (At q AddDir) r s a b = let o = one_single (codes "adddir") text p q r s a b in ((λ k. At (o.0 k) AddDir), o.1)
one_prim text (At p AddDir) q r s a b = absurd (differ (codes "adddir") (prim_word q) refl (same_word text (At p AddDir) q r s a b))
one_prim text (At p RmDir) (At q RmDir) r s a b = let o = one_single (codes "rmdir") text p q r s a b in ((λ k. At (o.0 k) RmDir), o.1)
one_prim text (At p RmDir) q r s a b = absurd (differ (codes "rmdir") (prim_word q) refl (same_word text (At p RmDir) q r s a b))
one_prim text (Move p p2) (Move q q2) r s a b = let o = one_double (codes "move") text p p2 q q2 r s a b in ((λ k. Move (o.0 k) (o.1 k)), o.2)
one_prim text (Move p p2) (At q w) r s a b = absurd (no_move q w (same_word text (Move p p2) (At q w) r s a b))
one_prim text (Move p p2) (ChangePref qn qo qw) r s a b = absurd (differ (codes "move") (codes "changepref") refl (same_word text (Move p p2) (ChangePref qn qo qw) r s a b))
one_prim text (At p (Hunk pn po pw)) (At q (Hunk qn qo qw)) r s a b = let o = one_hunk text p q pn qn po pw qo qw r s a b in ((λ k. At (o.0 k) (Hunk (o.1 k) (o.2 k) (o.3 k))), o.4)
one_prim text (At p (Hunk pn po pw)) q r s a b = absurd (differ (codes "hunk") (prim_word q) refl (same_word text (At p (Hunk pn po pw)) q r s a b))
one_prim text (At p (Binary po pw)) (At q (Binary qo qw)) r s a b = let o = one_binary text p q po pw qo qw r s a b in ((λ k. At (o.0 k) (Binary (o.1 k) (o.2 k))), o.3)
one_prim text (At p (Binary po pw)) q r s a b = absurd (differ (codes "binary") (prim_word q) refl (same_word text (At p (Binary po pw)) q r s a b))
one_prim text (At p (Replace ps po pn)) (At q (Replace qs qo qn)) r s a b =
    let o = one_replace text p q (record { set = ps; old = po; new = pn }) (record { set = qs; old = qo; new = qn }) r s a b in
    ((λ k. let w = o.1 k in At (o.0 k) (Replace w.set w.old w.new)), o.2)
one_prim text (At p (Replace ps po pn)) q r s a b = absurd (differ (codes "replace") (prim_word q) refl (same_word text (At p (Replace ps po pn)) q r s a b))
one_prim text (ChangePref pn po pw) (ChangePref qn qo qw) r s a b = let o = one_preference text pn po pw qn qo qw r s a b in ((λ k. ChangePref (o.0 k) (o.1 k) (o.2 k)), o.3)
one_prim text (ChangePref pn po pw) (At q w) r s a b = absurd (no_preference q w (same_word text (ChangePref pn po pw) (At q w) r s a b))
one_prim text (ChangePref pn po pw) (Move q q2) r s a b = absurd (differ (codes "changepref") (codes "move") refl (same_word text (ChangePref pn po pw) (Move q q2) r s a b))

pub one_next : (kinds : Kinds) (text : List ℕ) (p q : Prim) (r s : List ℕ) → NextPrim kinds text p r → NextPrim kinds text q s → (p ≡ q) × (r ≡ s)
one_next kinds text p q r s a b = one_prim (skipped text) p q r s a.read b.read

pub no_next : (kinds : Kinds) (rest : List ℕ) → (WordAmong (prim_words_of kinds) (skipped rest) → ⊥) → Closed (NextPrim kinds) rest
no_next kinds rest none p after a = none (prim_a_word kinds (skipped rest) p after a.read a.kind)

-- where no primitive's word stands after both, two readings are one
pub one_prims : (kinds : Kinds) (text : List ℕ) (ps qs : List Prim) (r s : List ℕ) → Many (NextPrim kinds) text ps r → Many (NextPrim kinds) text qs s → (WordAmong (prim_words_of kinds) (skipped r) → ⊥) → (WordAmong (prim_words_of kinds) (skipped s) → ⊥) → (ps ≡ qs) × (r ≡ s)
one_prims kinds text ps qs r s a b x y = one_many (NextPrim kinds) (one_next kinds) text ps qs r s a b (no_next kinds r x) (no_next kinds s y)

one_next_info : (text : List ℕ) (i j : PatchInfo) (r s : List ℕ) → NextInfo text i r → NextInfo text j s → (i ≡ j) × (r ≡ s)
one_next_info text i j r s a b = one_info (skipped text) i j r s a b

no_next_info : (rest : List ℕ) → (Begins 91 (skipped rest) → ⊥) → Closed NextInfo rest
no_next_info rest none i after a = none (stands_opens (skipped rest) i after a)

pub one_infos : (text : List ℕ) (is js : List PatchInfo) (r s : List ℕ) → Many NextInfo text is r → Many NextInfo text js s → (Begins 91 (skipped r) → ⊥) → (Begins 91 (skipped s) → ⊥) → (is ≡ js) × (r ≡ s)
one_infos text is js r s a b x y = one_many NextInfo one_next_info text is js r s a b (no_next_info r x) (no_next_info s y)

-- ---- marks

tail_same : (b : ℕ) (text x y : List ℕ) → text ≡ b ∷ x → text ≡ b ∷ y → x ≡ y
tail_same b text x y e f = let both : b ∷ x ≡ b ∷ y = sym e ∙ f in cc

other_mark : (b c : ℕ) (text x : List ℕ) → (b ≡ c → ⊥) → text ≡ b ∷ x → Begins c text → ⊥
other_mark b c text x other e o = other (let both : b ∷ x ≡ c ∷ o.0 = sym e ∙ o.1 in cc)

pub one_depends : (text : List ℕ) (ds es : List PatchInfo) (r s : List ℕ) → Dependencies text ds r → Dependencies text es s → (ds ≡ es) × (r ≡ s)
one_depends text ds es r s a b =
    elim a [
      | inl x ↦ elim b [
        | inl y ↦
            let inside = tail_same 60 (skipped text) x.inside y.inside x.opens y.opens in
            let infos = one_infos y.inside ds es x.mid y.mid (subst (λ (t : List ℕ). Many NextInfo t ds x.mid) inside x.read) y.read (other_mark 62 91 (skipped x.mid) r (λ e. omega (arith, e)) x.closes) (other_mark 62 91 (skipped y.mid) s (λ e. omega (arith, e)) y.closes) in
            (infos.0, tail_same 62 (skipped y.mid) r s (subst (λ (t : List ℕ). skipped t ≡ 62 ∷ r) infos.1 x.closes) y.closes)
        | inr y ↦ absurd (y.0 (x.inside, x.opens))
      ]
      | inr x ↦ elim b [ inl y ↦ absurd (x.0 (y.inside, y.opens)) | inr y ↦ (x.1 ∙ sym y.1, sym x.2 ∙ y.2) ]
    ]

one_body : (kinds : Kinds) (text : List ℕ) (ps qs : List Prim) (r s : List ℕ) → Body kinds text ps r → Body kinds text qs s → (ps ≡ qs) × (r ≡ s)
one_body kinds text ps qs r s a b =
    elim a [
      | inl x ↦ elim b [
        | inl y ↦
            let inside = tail_same 123 (skipped text) x.inside y.inside x.opens y.opens in
            let prims = one_prims kinds y.inside ps qs x.mid y.mid (subst (λ (t : List ℕ). Many (NextPrim kinds) t ps x.mid) inside x.read) y.read (no_close_word kinds (skipped x.mid) r x.closes) (no_close_word kinds (skipped y.mid) s y.closes) in
            (prims.0, tail_same 125 (skipped y.mid) r s (subst (λ (t : List ℕ). skipped t ≡ 125 ∷ r) prims.1 x.closes) y.closes)
        | inr y ↦ absurd (y.bare (x.inside, x.opens))
      ]
      | inr x ↦ elim b [ inl y ↦ absurd (x.bare (y.inside, y.opens)) | inr y ↦ one_prims kinds text ps qs r s x.read y.read (no_prim_ends kinds (skipped r) x.ends) (no_prim_ends kinds (skipped s) y.ends) ]
    ]

pub one_patch : (kinds : Kinds) (text : List ℕ) (p q : Patch) (r s : List ℕ) → PatchTextIn kinds text p r → PatchTextIn kinds text q s → (p ≡ q) × (r ≡ s)
one_patch kinds text p q r s a b =
    let info = one_info text p.info q.info a.after b.after a.info b.info in
    let deps = one_depends b.after p.deps q.deps a.body b.body (subst (λ (t : List ℕ). Dependencies t p.deps a.body) info.1 a.deps) b.deps in
    let prims = one_body kinds b.body p.prims q.prims r s (subst (λ (t : List ℕ). Body kinds t p.prims r) deps.1 a.prims) b.prims in
    ((λ k. record { info = info.0 k; deps = deps.0 k; prims = prims.0 k }), prims.1)
