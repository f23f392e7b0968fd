-- What is left after a part of a text is no longer than the text.
use Rattle.std.proofs.Common.{◌≡◌, ◌≤◌, ℕ, Bool, true, false, List, [], ◌∷◌, length, refl, ap, arith, inl, inr, length-append}
use Rattle.std.specs.Prelude.{◌≢◌, codes}
use Rattle.dm_tree.specs.Paths.{Path}
use Rattle.dm_prim.specs.Primitives.{Prim, AddFile, RmFile, AddDir, RmDir, Hunk, Binary, Replace, At, Move, ChangePref}
use Rattle.dm_named.specs.Words.{is_white, skipped, Word, Line, MarkedLine, NumberLine}
use Rattle.dm_named.specs.Paths.{NextPath, WordAndPath}
use Rattle.dm_tokens.specs.Validity.{TokenWords}
use Rattle.dm_named.specs.Binaries.{WordAndStars, BinaryBody}
use Rattle.dm_named.specs.Replaces.{bracketed, TokensText}
use Rattle.dm_named.specs.Preferences.{WholeLine, PreferenceLines}
use Rattle.dm_named.specs.Many.{Many}
use Rattle.dm_named.specs.Patches.{HunkBody, PrimText, NextPrim}
use Rattle.dm_named.specs.Faults.{PathFaultAt, HunkFaultAt, HexFaultAt, old_hex, new_hex, BinaryFaultAt, ReplaceFaultAt, PreferenceFaultAt, PrimFaultAt, path, second, hunk, binary, replace, preference}
use Rattle.dm_named.specs.declared.fault.FaultKind.{FaultKind}
use Rattle.dm_named.specs.declared.fault.FaultKind.TheVariants as K
use Rattle.dm_named.specs.declared.limits.Kinds.{Kinds}

one_skipped : (b : ℕ) (text : List ℕ) (w : Bool) → is_white b ≡ w → length (skipped text) ≤ length text → length (skipped (b ∷ text)) ≤ length (b ∷ text)
one_skipped b text true e le = rw e (omega (arith, le))
one_skipped b text false e le = rw e (omega arith)

pub skipped_shorter : (text : List ℕ) → length (skipped text) ≤ length text
skipped_shorter [] = omega arith
skipped_shorter (b ∷ text) = one_skipped b text (is_white b) refl (skipped_shorter text)

word_shorter : (text word rest : List ℕ) → Word text word rest → length rest ≤ length text
word_shorter text word rest w = omega (arith, ap length w.parts, length-append word rest)

line_shorter : (text line rest : List ℕ) → Line text line rest → length rest ≤ length text
line_shorter text line rest l = elim l.parts [ inl e ↦ omega (arith, ap length e, length-append line (10 ∷ rest)) | inr e ↦ omega (arith, ap length e.1) ]

whole_shorter : (text line rest : List ℕ) → WholeLine text line rest → length rest ≤ length text
whole_shorter text line rest l = omega (arith, ap length l.parts, length-append line (10 ∷ rest))

lines_shorter : (b : ℕ) (text : List ℕ) (lines : List (List ℕ)) (rest : List ℕ) → Many (MarkedLine b) text lines rest → length rest ≤ length text
lines_shorter b text [] rest r = omega (arith, ap length r)
lines_shorter b text (l ∷ ls) rest r =
    let first = r.1 in
    omega (arith, lines_shorter b r.0 ls rest r.2, line_shorter first.inside l r.0 first.read, ap length first.mark)

path_shorter : (text : List ℕ) (p : Path) (rest : List ℕ) → NextPath text p rest → length rest ≤ length text
path_shorter text p rest a = omega (arith, word_shorter (skipped text) a.word rest a.stands, skipped_shorter text)

after_path : (w text : List ℕ) (p : Path) (rest : List ℕ) → WordAndPath w text p rest → length rest ≤ length text
after_path w text p rest a = omega (arith, word_shorter text w a.after a.named, path_shorter a.after p rest a.path)

number_shorter : (text : List ℕ) (n : ℕ) (rest : List ℕ) → NumberLine text n rest → length rest ≤ length text
number_shorter text n rest a = omega (arith, word_shorter text a.digits a.after a.word, line_shorter a.after a.end.blank rest a.end.line)

hunk_shorter : (text : List ℕ) (n : ℕ) (old new : List (List ℕ)) (rest : List ℕ) → HunkBody text n old new rest → length rest ≤ length text
hunk_shorter text n old new rest h =
    let l = h.lines_read in
    omega (
      arith,
      skipped_shorter text,
      number_shorter (skipped text) n h.lines h.number_read,
      lines_shorter 32 h.lines l.above l.olds l.above_read.read,
      lines_shorter 45 l.olds old l.news l.old_read.read,
      lines_shorter 43 l.news new l.last l.new_read.read,
      lines_shorter 32 l.last l.below rest l.below_read.read,
    )

stars_shorter : (w text : List ℕ) (lines : List (List ℕ)) (rest : List ℕ) → WordAndStars w text lines rest → length rest ≤ length text
stars_shorter w text lines rest a = omega (arith, word_shorter text w a.after a.named, skipped_shorter a.after, lines_shorter 42 (skipped a.after) a.stars.digits rest a.stars.read.read)

binary_shorter : (text : List ℕ) (old new : List (List ℕ)) (rest : List ℕ) → BinaryBody text old new rest → length rest ≤ length text
binary_shorter text old new rest b =
    omega (arith, skipped_shorter text, stars_shorter (codes "oldhex") (skipped text) old b.mid b.olds, skipped_shorter b.mid, stars_shorter (codes "newhex") (skipped b.mid) new rest b.news)

tokens_shorter : (text : List ℕ) (words : TokenWords) (rest : List ℕ) → TokensText text words rest → length rest ≤ length text
tokens_shorter text words rest a =
    omega (
      arith,
      word_shorter text (bracketed words.set) a.olds a.set_read,
      skipped_shorter a.olds,
      word_shorter (skipped a.olds) words.old a.news a.old_read,
      skipped_shorter a.news,
      word_shorter (skipped a.news) words.new rest a.new_read,
    )

preference_shorter : (text name old new rest : List ℕ) → PreferenceLines text name old new rest → length rest ≤ length text
preference_shorter text name old new rest a =
    omega (arith, word_shorter text name a.after a.word, whole_shorter a.after a.end.blank a.olds a.end.line, whole_shorter a.olds old a.news a.old_read, line_shorter a.news new rest a.new_read)

pub prim_shorter : (text : List ℕ) (p : Prim) (rest : List ℕ) → PrimText text p rest → length rest ≤ length text
prim_shorter text (At p AddFile) rest a = after_path (codes "addfile") text p rest a
prim_shorter text (At p RmFile) rest a = after_path (codes "rmfile") text p rest a
prim_shorter text (At p AddDir) rest a = after_path (codes "adddir") text p rest a
prim_shorter text (At p RmDir) rest a = after_path (codes "rmdir") text p rest a
prim_shorter text (At p (Hunk n old new)) rest a = omega (arith, after_path (codes "hunk") text p a.mid a.first, hunk_shorter a.mid n old new rest a.body)
prim_shorter text (At p (Binary old new)) rest a = omega (arith, after_path (codes "binary") text p a.mid a.first, binary_shorter a.mid old new rest a.body)
prim_shorter text (At p (Replace set old new)) rest a =
    omega (arith, after_path (codes "replace") text p a.mid a.first, skipped_shorter a.mid, tokens_shorter (skipped a.mid) (record { set = set; old = old; new = new }) rest a.tokens)
prim_shorter text (Move p q) rest a = omega (arith, after_path (codes "move") text p a.mid a.first, path_shorter a.mid q rest a.second)
prim_shorter text (ChangePref name old new) rest a =
    omega (arith, word_shorter text (codes "changepref") a.after a.named, skipped_shorter a.after, preference_shorter (skipped a.after) name old new rest a.lines)

-- primitives leave no more than their text
pub run_shorter : (kinds : Kinds) (text : List ℕ) (ps : List Prim) (rest : List ℕ) → Many (NextPrim kinds) text ps rest → length rest ≤ length text
run_shorter kinds text [] rest r = omega (arith, ap length r)
run_shorter kinds text (p ∷ ps) rest r =
    let first = r.1 in
    omega (arith, run_shorter kinds r.0 ps rest r.2, prim_shorter (skipped text) p r.0 first.read, skipped_shorter text)

-- the same past white space
pub prims_shorter : (kinds : Kinds) (text : List ℕ) (ps : List Prim) (rest : List ℕ) → Many (NextPrim kinds) text ps rest → length (skipped rest) ≤ length (skipped text)
prims_shorter kinds text [] rest r = omega (arith, ap (λ (t : List ℕ). length (skipped t)) r)
prims_shorter kinds text (p ∷ ps) rest r =
    let first = r.1 in
    omega (arith, prims_shorter kinds r.0 ps rest r.2, skipped_shorter r.0, prim_shorter (skipped text) p r.0 first.read)

-- ---- the places of faults

path_place : (kind : FaultKind) (text here : List ℕ) → kind ≢ K.NoMemory → PathFaultAt kind text here → length here ≤ length text
path_place K.BadPath text here k f = omega (arith, skipped_shorter text, ap length f.0)
path_place K.NoMemory text here k f = absurd (k refl)
path_place kind text here k f = absurd f

hunk_place : (kind : FaultKind) (start text here : List ℕ) → kind ≢ K.NoMemory → length text ≤ length start → HunkFaultAt kind start text here → length here ≤ length start
hunk_place K.BadNumber start text here k le f = omega (arith, le, skipped_shorter text, ap length f.0)
hunk_place K.EmptyHunk start text here k le f = omega (arith, ap length f.0)
hunk_place K.NoMemory start text here k le f = absurd (k refl)
hunk_place kind start text here k le f = absurd f

hex_place : (text here : List ℕ) → HexFaultAt text here → length here ≤ length text
hex_place text here (old_hex f) = omega (arith, skipped_shorter text, ap length f.place)
hex_place text here (new_hex lines mid a f) = omega (arith, skipped_shorter text, stars_shorter (codes "oldhex") (skipped text) lines mid a, skipped_shorter mid, ap length f.place)

binary_place : (kind : FaultKind) (text here : List ℕ) → kind ≢ K.NoMemory → BinaryFaultAt kind text here → length here ≤ length text
binary_place K.BadHex text here k f = hex_place text here f
binary_place K.NoMemory text here k f = absurd (k refl)
binary_place kind text here k f = absurd f

replace_place : (kind : FaultKind) (text here : List ℕ) → kind ≢ K.NoMemory → ReplaceFaultAt kind text here → length here ≤ length text
replace_place K.BadTokens text here k f = omega (arith, skipped_shorter text, ap length f.0)
replace_place K.NoMemory text here k f = absurd (k refl)
replace_place kind text here k f = absurd f

preference_place : (kind : FaultKind) (text here : List ℕ) → kind ≢ K.NoMemory → PreferenceFaultAt kind text here → length here ≤ length text
preference_place K.BadPreference text here k f = omega (arith, skipped_shorter text, ap length f.0)
preference_place K.NoMemory text here k f = absurd (k refl)
preference_place kind text here k f = absurd f

pub prim_place : (kind : FaultKind) (text here : List ℕ) → kind ≢ K.NoMemory → PrimFaultAt kind text here → length here ≤ length text
prim_place kind text here k (path a f) = omega (arith, word_shorter text a.word a.rest a.stands, path_place kind a.rest here k f)
prim_place kind text here k (second p mid s f) = omega (arith, after_path (codes "move") text p mid s, path_place kind mid here k f)
prim_place kind text here k (hunk p mid s f) = hunk_place kind text mid here k (after_path (codes "hunk") text p mid s) f
prim_place kind text here k (binary p mid s f) = omega (arith, after_path (codes "binary") text p mid s, binary_place kind mid here k f)
prim_place kind text here k (replace p mid s f) = omega (arith, after_path (codes "replace") text p mid s, replace_place kind mid here k f)
prim_place kind text here k (preference mid s f) = omega (arith, word_shorter text (codes "changepref") mid s, preference_place kind mid here k f)
