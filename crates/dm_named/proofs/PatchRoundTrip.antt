-- Written primitives and named patches are read again.
use Rattle.std.proofs.Common.{◌≡◌, ◌≢◌, ◌≤◌, ◌<◌, ◌^◌, ◌==◌, ℕ, List, [], ◌∷◌, ◌++◌, length, refl, sym, ap, subst, ◌∙◌, arith, inl, inr, false, append_assoc}
use Rattle.std.proofs.lemmas.List.{append-nil}
use Rattle.std.specs.Prelude.{codes, ◌⊎◌}
use Rattle.std.specs.List.{AllByRecursion, flat_map}
use Rattle.std.specs.Fmt.{decimal}
use Rattle.hex.specs.Hex.{IsBytes}
use Rattle.dm_info.proofs.SpellingLemmas.{canonical_stands}
use Rattle.dm_info.specs.PatchInfo.{PatchInfo, IsInfo}
use Rattle.dm_info.specs.Spelling.{Stands, canonical}
use Rattle.dm_tree.specs.Paths.{Path}
use Rattle.dm_tree.specs.Trees.{Lines}
use Rattle.dm_tokens.specs.Validity.{TokenWords, AreTokens}
use Rattle.dm_hex.specs.Contents.{content, AreFileLines}
use Rattle.dm_hex.specs.Digits.{star_lines, star_text, stars_text}
use Rattle.dm_hex.proofs.StarLemmas.{lines_stand, lines_count, lines_plain}
use Rattle.dm_prim.specs.Primitives.{Prim, AddFile, RmFile, AddDir, RmDir, Hunk, Binary, Replace, At, Move, ChangePref}
use Rattle.dm_tree.specs.Validity.{IsValidPath}
use Rattle.dm_prim.specs.Commuting.{IsValidPrim, IsValidWork, IsPreference}
use Rattle.dm_named.specs.Kinds.{IsOf, HasByteWork, IsWritable, AreWritable}
use Rattle.dm_named.specs.Words.{NoNewline, is_white, skipped, EndsWord, Word, number_from, Begins, MarkedLine, LineGroup, NumberLine}
use Rattle.dm_named.specs.Paths.{NoSlash, EndsPiece, SlashName, NameByte, PathWord, WordAndPath}
use Rattle.dm_named.specs.Binaries.{WordAndStars, BinaryBody, BinaryText}
use Rattle.dm_named.specs.Replaces.{bracketed, TokensText, ReplaceText}
use Rattle.dm_named.specs.Preferences.{PreferenceLines, PreferenceText}
use Rattle.dm_named.specs.Patches.{WordAndPaths, HunkBody, HunkText, PrimText, NextPrim, NextInfo, Dependencies, Body, RunEnds, Patch, IsValidPatch}
use Rattle.dm_named.specs.declared.limits.Kinds.{Kinds}
use Rattle.dm_named.specs.declared.limits.Kinds.TheVariants as these
use Rattle.dm_named.proofs.ReplaceLemmas.{part_solid}
use Rattle.dm_named.proofs.ValidParts.{path_free, free_lines, some_lines, none_of}
use Rattle.dm_named.specs.Canonical.{name_text, info_line, byte_text, path_text, lines_text, prim_text, deps_text, body_text, patch_text}
use Rattle.dm_named.specs.Laws.{NoLine, NoLineOf, ReadsPrim, ReadsPatchIn}
use Rattle.dm_named.specs.Many.{Many}
use Rattle.dm_named.proofs.NameRoundTrip.{Plain, decimal_numeral, Numeral, bytes_back, name_plain, digits_plain}

plain_slash : (xs : List ℕ) → AllByRecursion Plain xs → NoSlash xs
plain_slash [] f = tt
plain_slash (x ∷ xs) f = (f.0.1, plain_slash xs f.1)

plain_solid : (xs : List ℕ) → AllByRecursion Plain xs → AllByRecursion (λ b. is_white b ≡ false) xs
plain_solid [] f = tt
plain_solid (x ∷ xs) f = (f.0.0, plain_solid xs f.1)

solid_append : (xs ys : List ℕ) → AllByRecursion (λ b. is_white b ≡ false) xs → AllByRecursion (λ b. is_white b ≡ false) ys → AllByRecursion (λ b. is_white b ≡ false) (xs ++ ys)
solid_append [] ys f g = g
solid_append (x ∷ xs) ys f g = (f.0, solid_append xs ys f.1 g)

ends_names : (ns : Path) → EndsPiece (flat_map name_text ns)
ends_names [] = inl refl
ends_names (n ∷ ns) = inr (flat_map byte_text n ++ flat_map name_text ns, refl)

whole_name : (n : List ℕ) → Many NameByte (flat_map byte_text n) n []
whole_name n = subst (λ (t : List ℕ). Many NameByte t n []) (append-nil (flat_map byte_text n)) (bytes_back n [])

names_back : (ns : Path) → AllByRecursion NoSlash ns → Many SlashName (flat_map name_text ns) ns []
names_back [] f = refl
names_back (n ∷ ns) f = (
  flat_map name_text ns,
  record {
    inside = flat_map byte_text n ++ flat_map name_text ns;
    piece = flat_map byte_text n;
    slash = refl;
    cut = record { parts = refl; free = plain_slash (flat_map byte_text n) (name_plain n f.0); ends = ends_names ns };
    spelled = whole_name n;
  },
  names_back ns f.1,
)

names_solid : (ns : Path) → AllByRecursion NoSlash ns → AllByRecursion (λ b. is_white b ≡ false) (flat_map name_text ns)
names_solid [] f = tt
names_solid (n ∷ ns) f = (refl, solid_append (flat_map byte_text n) (flat_map name_text ns) (plain_solid (flat_map byte_text n) (name_plain n f.0)) (names_solid ns f.1))

-- a path's text is read again, whatever follows that ends a word
pub path_back : (p : Path) (rest : List ℕ) → IsValidPath p → EndsWord rest → PathWord (path_text p ++ rest) p rest
path_back p rest valid ends =
    record {
      word = path_text p;
      stands = record { parts = refl; solid = (refl, names_solid p (path_free p valid)); ends = ends };
      spelled = record { names = flat_map name_text p; dot = refl; each = names_back p (path_free p valid); valid = valid };
    }

-- ---- primitives

single_back : (word : List ℕ) (p : Path) (rest : List ℕ) → AllByRecursion (λ b. is_white b ≡ false) word → IsValidPath p → EndsWord rest → WordAndPath word (word ++ 32 ∷ (path_text p ++ rest)) p rest
single_back word p rest solid valid ends =
    record { after = 32 ∷ (path_text p ++ rest); named = record { parts = refl; solid = solid; ends = refl }; path = path_back p rest valid ends }

lines_back : (b : ℕ) (lines : List (List ℕ)) (rest : List ℕ) → AllByRecursion NoNewline lines → Many (MarkedLine b) (lines_text b lines ++ rest) lines rest
lines_back b [] rest f = refl
lines_back b (l ∷ ls) rest f = (
  lines_text b ls ++ rest,
  record {
    inside = l ++ 10 ∷ (lines_text b ls ++ rest);
    mark = ap (λ (t : List ℕ). b ∷ t) (append_assoc (l ++ 10 ∷ []) (lines_text b ls) rest ∙ append_assoc l (10 ∷ []) (lines_text b ls ++ rest));
    read = record { free = f.0; parts = inl refl };
  },
  lines_back b ls rest f.1,
)

pub front_same : (c b : ℕ) (x y : List ℕ) → c ∷ x ≡ b ∷ y → c ≡ b
front_same c b x y e = cc

other_front : (b c : ℕ) (lines : List (List ℕ)) (rest : List ℕ) → (c ≡ b → ⊥) → (Begins b rest → ⊥) → Begins b (lines_text c lines ++ rest) → ⊥
other_front b c [] rest other none o = none o
other_front b c (l ∷ ls) rest other none o = other (front_same c b (((l ++ 10 ∷ []) ++ lines_text c ls) ++ rest) o.0 o.1)

number_back : (n : ℕ) (rest : List ℕ) → 1 ≤ n → n < 2 ^ 32 → NumberLine (decimal n ++ 10 ∷ rest) n rest
number_back n rest low high =
    let d = decimal_numeral n (omega (arith, high)) in
    record {
      digits = decimal n;
      after = 10 ∷ rest;
      word = record { parts = refl; solid = plain_solid (decimal n) (digits_plain (decimal n) d.each); ends = refl };
      number = record { each = d.each; value = d.value; low = low; high = high };
      end = record { blank = []; line = record { free = tt; parts = inl refl }; white = tt };
    }

skipped_solid : (b : ℕ) (text : List ℕ) → is_white b ≡ false → skipped (b ∷ text) ≡ b ∷ text
skipped_solid b text e = rw e refl

digits_skipped : (ds rest : List ℕ) → (ds ≡ [] → ⊥) → AllByRecursion Plain ds → skipped (ds ++ rest) ≡ ds ++ rest
digits_skipped [] rest some f = absurd (some refl)
digits_skipped (d ∷ ds) rest some f = skipped_solid d (ds ++ rest) f.0.0

no_numeral : (n : ℕ) (ds : List ℕ) → 1 ≤ n → Numeral n ds → ds ≡ [] → ⊥
no_numeral n ds low h e = omega (arith, h.value, ap (number_from 0) e)

hunk_back : (n : ℕ) (old new : List (List ℕ)) (rest : List ℕ) → IsValidWork (Hunk n old new) → NoLine rest → HunkBody (32 ∷ (decimal n ++ 10 ∷ (lines_text 45 old ++ (lines_text 43 new ++ rest)))) n old new rest
hunk_back n old new rest valid none =
    let d = decimal_numeral n (omega (arith, valid.0.1)) in
    let tail = lines_text 45 old ++ (lines_text 43 new ++ rest) in
    let skips : skipped (decimal n ++ 10 ∷ tail) ≡ decimal n ++ 10 ∷ tail = digits_skipped (decimal n) (10 ∷ tail) (no_numeral n (decimal n) valid.0.0 d) (digits_plain (decimal n) d.each) in
    record {
      lines = tail;
      number_read = subst (λ (t : List ℕ). NumberLine t n tail) (sym skips) (number_back n tail valid.0.0 valid.0.1);
      lines_read = record {
        above = [];
        olds = tail;
        news = lines_text 43 new ++ rest;
        last = rest;
        below = [];
        above_read = record { read = refl; ends = other_front 32 45 old (lines_text 43 new ++ rest) (λ e. omega (arith, e)) (other_front 32 43 new rest (λ e. omega (arith, e)) none.space) };
        old_read = record { read = lines_back 45 old (lines_text 43 new ++ rest) (free_lines old valid.2); ends = other_front 45 43 new rest (λ e. omega (arith, e)) none.old };
        new_read = record { read = lines_back 43 new rest (free_lines new valid.3); ends = none.new };
        below_read = record { read = refl; ends = none.space };
        some = some_lines old new valid.1;
      };
    }

joined_hunk : (a b c d e : List ℕ) → (a ++ 32 ∷ (b ++ 10 ∷ (c ++ d))) ++ e ≡ a ++ 32 ∷ (b ++ 10 ∷ (c ++ (d ++ e)))
joined_hunk a b c d e = simp append_assoc refl

joined_info : (a b c : List ℕ) → a ++ 10 ∷ (b ++ c) ≡ ((a ++ 10 ∷ []) ++ b) ++ c
joined_info a b c = simp append_assoc refl

pub joined_patch : (a b c d : List ℕ) → a ++ (b ++ (c ++ d)) ≡ (a ++ (b ++ c)) ++ d
joined_patch a b c d = simp append_assoc refl

joined_move : (a b e : List ℕ) → (a ++ 32 ∷ (b ++ 10 ∷ [])) ++ e ≡ a ++ 32 ∷ (b ++ 10 ∷ e)
joined_move a b e = simp append_assoc refl

joined_binary : (a o b n c e : List ℕ) → (a ++ 10 ∷ (o ++ (b ++ (n ++ c)))) ++ e ≡ a ++ 10 ∷ (o ++ (b ++ (n ++ (c ++ e))))
joined_binary a o b n c e = simp append_assoc refl

joined_replace : (a b o n e : List ℕ) → (a ++ 32 ∷ (b ++ 32 ∷ (o ++ 32 ∷ (n ++ 10 ∷ [])))) ++ e ≡ a ++ 32 ∷ (b ++ 32 ∷ (o ++ 32 ∷ (n ++ 10 ∷ e)))
joined_replace a b o n e = simp append_assoc refl

joined_preference : (a b c e : List ℕ) → (a ++ 10 ∷ (b ++ 10 ∷ (c ++ 10 ∷ []))) ++ e ≡ a ++ 10 ∷ (b ++ 10 ∷ (c ++ 10 ∷ e))
joined_preference a b c e = simp append_assoc refl

some_skipped : (ls : Lines) (rest : List ℕ) → 1 ≤ length ls → skipped (flat_map star_text ls ++ rest) ≡ flat_map star_text ls ++ rest
some_skipped [] rest some = absurd (omega (arith, some))
some_skipped (l ∷ ls) rest some = refl

-- contents in hex are read again, before anything but a further star
stars_back : (w : List ℕ) (lines : Lines) (rest : List ℕ) → AllByRecursion (λ b. is_white b ≡ false) w → AreFileLines lines → IsBytes (content lines) → (Begins 42 rest → ⊥) → WordAndStars w (w ++ 10 ∷ (stars_text lines ++ rest)) lines rest
stars_back w lines rest solid file bytes none =
    let digits : Lines = star_lines (content lines) in
    let some : 1 ≤ length digits = omega (arith, lines_count (content lines)) in
    record {
      after = 10 ∷ (stars_text lines ++ rest);
      named = record { parts = refl; solid = solid; ends = refl };
      stars = record {
        digits = digits;
        read = subst (λ (t : List ℕ). LineGroup 42 t digits rest) (sym (some_skipped digits rest some)) (record { read = lines_back 42 digits rest (free_lines digits (lines_plain (content lines))); ends = none });
        hex = (file, lines_stand (content lines) bytes);
      };
    }

binary_back : (old new : Lines) (rest : List ℕ) → IsValidWork (Binary old new) → HasByteWork (Binary old new) → (Begins 42 rest → ⊥) → BinaryBody (10 ∷ (codes "oldhex\n" ++ (stars_text old ++ (codes "newhex\n" ++ (stars_text new ++ rest))))) old new rest
binary_back old new rest valid bytes none =
    let mid = codes "newhex\n" ++ (stars_text new ++ rest) in
    record {
      mid = mid;
      olds = stars_back (codes "oldhex") old mid (refl, (refl, (refl, (refl, (refl, (refl, tt)))))) (valid.0, valid.2) bytes.0 (λ o. omega (arith, front_same 110 42 _ o.0 o.1));
      news = stars_back (codes "newhex") new rest (refl, (refl, (refl, (refl, (refl, (refl, tt)))))) (valid.1, valid.3) bytes.1 none;
    }

name_skipped : (name rest : List ℕ) → name ≢ [] → AllByRecursion (λ b. is_white b ≡ false) name → skipped (name ++ rest) ≡ name ++ rest
name_skipped [] rest some f = absurd (some refl)
name_skipped (b ∷ name) rest some f = skipped_solid b (name ++ rest) f.0

-- a word is read again after a space, before anything that ends it
word_back : (word rest : List ℕ) → word ≢ [] → AllByRecursion (λ b. is_white b ≡ false) word → EndsWord rest → Word (skipped (32 ∷ (word ++ rest))) word rest
word_back word rest some solid ends = subst (λ (t : List ℕ). Word t word rest) (sym (name_skipped word rest some solid)) (record { parts = refl; solid = solid; ends = ends })

tokens_back : (words : TokenWords) (rest : List ℕ) → AreTokens words → TokensText (bracketed words.set ++ 32 ∷ (words.old ++ 32 ∷ (words.new ++ 10 ∷ rest))) words (10 ∷ rest)
tokens_back words rest valid =
    let set_solid = solid_append words.set (93 ∷ []) (part_solid words.set valid.set_word) (refl, tt) in
    record {
      olds = 32 ∷ (words.old ++ 32 ∷ (words.new ++ 10 ∷ rest));
      news = 32 ∷ (words.new ++ 10 ∷ rest);
      set_read = record { parts = refl; solid = (refl, set_solid); ends = refl };
      old_read = word_back words.old (32 ∷ (words.new ++ 10 ∷ rest)) valid.of_set.old_token.0 (part_solid words.old valid.old_word) refl;
      new_read = word_back words.new (10 ∷ rest) valid.of_set.new_token.0 (part_solid words.new valid.new_word) refl;
      valid = valid;
    }

preference_back : (name old new rest : List ℕ) → IsPreference name old new → PreferenceLines (name ++ 10 ∷ (old ++ 10 ∷ (new ++ 10 ∷ rest))) name old new rest
preference_back name old new rest valid =
    record {
      after = 10 ∷ (old ++ 10 ∷ (new ++ 10 ∷ rest));
      olds = old ++ 10 ∷ (new ++ 10 ∷ rest);
      news = new ++ 10 ∷ rest;
      word = record { parts = refl; solid = none_of is_white name valid.1; ends = refl };
      some = valid.0;
      end = record { blank = []; line = record { free = tt; parts = refl }; white = tt };
      old_read = record { free = none_of (λ y. y == 10) old valid.2; parts = refl };
      new_read = record { free = none_of (λ y. y == 10) new valid.3; parts = inl refl };
    }

-- no further line of a hunk begins here
no_line : (kinds : Kinds) (rest : List ℕ) → NoLineOf kinds rest → NoLine rest
no_line these.Six rest none = none
no_line these.All rest none = none.0

single_text : (word : List ℕ) (p : Path) (rest : List ℕ) → AllByRecursion (λ b. is_white b ≡ false) word → IsValidPath p → WordAndPath word (word ++ 32 ∷ ((path_text p ++ 10 ∷ []) ++ rest)) p (10 ∷ rest)
single_text word p rest solid valid = subst (λ (t : List ℕ). WordAndPath word (word ++ 32 ∷ t) p (10 ∷ rest)) (sym (append_assoc (path_text p) (10 ∷ []) rest)) (single_back word p (10 ∷ rest) solid valid refl)

pub prim_back : (kinds : Kinds) (p : Prim) (rest : List ℕ) → IsValidPrim p → IsWritable kinds p → NoLineOf kinds rest → ReadsPrim (prim_text p ++ rest) p rest
prim_back kinds (At p AddFile) rest valid can none = record { after = 10 ∷ rest; read = single_text (codes "addfile") p rest (refl, (refl, (refl, (refl, (refl, (refl, (refl, tt))))))) valid.0; left = refl }
prim_back kinds (At p RmFile) rest valid can none = record { after = 10 ∷ rest; read = single_text (codes "rmfile") p rest (refl, (refl, (refl, (refl, (refl, (refl, tt)))))) valid.0; left = refl }
prim_back kinds (At p AddDir) rest valid can none = record { after = 10 ∷ rest; read = single_text (codes "adddir") p rest (refl, (refl, (refl, (refl, (refl, (refl, tt)))))) valid.0; left = refl }
prim_back kinds (At p RmDir) rest valid can none = record { after = 10 ∷ rest; read = single_text (codes "rmdir") p rest (refl, (refl, (refl, (refl, (refl, tt))))) valid.0; left = refl }
prim_back kinds (At p (Hunk n old new)) rest valid can none =
    let tail = lines_text 45 old ++ (lines_text 43 new ++ rest) in
    record {
      after = rest;
      read = subst (λ (t : List ℕ). HunkText (codes "hunk" ++ 32 ∷ t) p n old new rest) (sym (joined_hunk (path_text p) (decimal n) (lines_text 45 old) (lines_text 43 new) rest))
          (record { mid = 32 ∷ (decimal n ++ 10 ∷ tail); first = single_back (codes "hunk") p (32 ∷ (decimal n ++ 10 ∷ tail)) (refl, (refl, (refl, (refl, tt)))) valid.0 refl; body = hunk_back n old new rest valid.1 (no_line kinds rest none) });
      left = refl;
    }
prim_back kinds (Move p q) rest valid can none =
    record {
      after = 10 ∷ rest;
      read = subst (λ (t : List ℕ). WordAndPaths (codes "move") (codes "move" ++ 32 ∷ t) p q (10 ∷ rest)) (sym (joined_move (path_text p) (path_text q) rest))
          (record { mid = 32 ∷ (path_text q ++ 10 ∷ rest); first = single_back (codes "move") p (32 ∷ (path_text q ++ 10 ∷ rest)) (refl, (refl, (refl, (refl, tt)))) valid.0 refl; second = path_back q (10 ∷ rest) valid.1 refl });
      left = refl;
    }
prim_back these.Six (At p (Binary old new)) rest valid can none = absurd can
prim_back these.All (At p (Binary old new)) rest valid can none =
    let tail = 10 ∷ (codes "oldhex\n" ++ (stars_text old ++ (codes "newhex\n" ++ (stars_text new ++ rest)))) in
    record {
      after = rest;
      read = subst (λ (t : List ℕ). BinaryText (codes "binary" ++ 32 ∷ t) p old new rest) (sym (joined_binary (path_text p) (codes "oldhex\n") (stars_text old) (codes "newhex\n") (stars_text new) rest))
          (record { mid = tail; first = single_back (codes "binary") p tail (refl, (refl, (refl, (refl, (refl, (refl, tt)))))) valid.0 refl; body = binary_back old new rest valid.1 can none.1 });
      left = refl;
    }
prim_back these.Six (At p (Replace set old new)) rest valid can none = absurd can
prim_back these.All (At p (Replace set old new)) rest valid can none =
    let words : TokenWords = record { set = set; old = old; new = new } in
    let tail = bracketed set ++ 32 ∷ (old ++ 32 ∷ (new ++ 10 ∷ rest)) in
    record {
      after = 10 ∷ rest;
      read = subst (λ (t : List ℕ). ReplaceText (codes "replace" ++ 32 ∷ t) p words (10 ∷ rest)) (sym (joined_replace (path_text p) (bracketed set) old new rest))
          (record { mid = 32 ∷ tail; first = single_back (codes "replace") p (32 ∷ tail) (refl, (refl, (refl, (refl, (refl, (refl, (refl, tt))))))) valid.0 refl; tokens = tokens_back words rest valid.1 });
      left = refl;
    }
prim_back these.Six (ChangePref name old new) rest valid can none = absurd can
prim_back these.All (ChangePref name old new) rest valid can none =
    let tail = name ++ 10 ∷ (old ++ 10 ∷ (new ++ 10 ∷ rest)) in
    let skips : skipped tail ≡ tail = name_skipped name (10 ∷ (old ++ 10 ∷ (new ++ 10 ∷ rest))) valid.0 (none_of is_white name valid.1) in
    record {
      after = rest;
      read = subst (λ (t : List ℕ). PreferenceText (codes "changepref" ++ 32 ∷ t) name old new rest) (sym (joined_preference name old new rest))
          (record {
            after = 32 ∷ tail;
            named = record { parts = refl; solid = (refl, (refl, (refl, (refl, (refl, (refl, (refl, (refl, (refl, (refl, tt)))))))))); ends = refl };
            lines = subst (λ (t : List ℕ). PreferenceLines t name old new rest) (sym skips) (preference_back name old new rest valid);
          });
      left = refl;
    }

-- it begins with a letter
pub record Lettered (text : List ℕ) : Type 0 where
  pub first : ℕ
  pub more : List ℕ
  pub parts : text ≡ first ∷ more
  pub low : 97 ≤ first
  pub high : first ≤ 122

pub lettered : (p : Prim) (rest : List ℕ) → Lettered (prim_text p ++ rest)
lettered (At p AddFile) rest = record { first = 97; more = _; parts = refl; low = omega arith; high = omega arith }
lettered (At p RmFile) rest = record { first = 114; more = _; parts = refl; low = omega arith; high = omega arith }
lettered (At p AddDir) rest = record { first = 97; more = _; parts = refl; low = omega arith; high = omega arith }
lettered (At p RmDir) rest = record { first = 114; more = _; parts = refl; low = omega arith; high = omega arith }
lettered (At p (Hunk n old new)) rest = record { first = 104; more = _; parts = refl; low = omega arith; high = omega arith }
lettered (At p (Binary old new)) rest = record { first = 98; more = _; parts = refl; low = omega arith; high = omega arith }
lettered (At p (Replace set old new)) rest = record { first = 114; more = _; parts = refl; low = omega arith; high = omega arith }
lettered (ChangePref name old new) rest = record { first = 99; more = _; parts = refl; low = omega arith; high = omega arith }
lettered (Move p q) rest = record { first = 109; more = _; parts = refl; low = omega arith; high = omega arith }

pub skipped_prim : (p : Prim) (rest : List ℕ) → skipped (prim_text p ++ rest) ≡ prim_text p ++ rest
skipped_prim (At p AddFile) rest = refl
skipped_prim (At p RmFile) rest = refl
skipped_prim (At p AddDir) rest = refl
skipped_prim (At p RmDir) rest = refl
skipped_prim (At p (Hunk n old new)) rest = refl
skipped_prim (At p (Binary old new)) rest = refl
skipped_prim (At p (Replace set old new)) rest = refl
skipped_prim (ChangePref name old new) rest = refl
skipped_prim (Move p q) rest = refl

pub not_letter : (b : ℕ) (text : List ℕ) → Lettered text → (b < 97) ⊎ (122 < b) → Begins b text → ⊥
not_letter b text l out o =
    let same : l.first ≡ b = front_same l.first b l.more o.0 (sym l.parts ∙ o.1) in
    elim out [ inl x ↦ omega (arith, l.low, same, x) | inr x ↦ omega (arith, l.high, same, x) ]

no_hunk_line : (text : List ℕ) → Lettered text → NoLine text
no_hunk_line text l = record { space = not_letter 32 text l (inl (omega arith)); old = not_letter 45 text l (inl (omega arith)); new = not_letter 43 text l (inl (omega arith)) }

pub letter_no_line : (kinds : Kinds) (text : List ℕ) → Lettered text → NoLineOf kinds text
letter_no_line these.Six text l = no_hunk_line text l
letter_no_line these.All text l = (no_hunk_line text l, not_letter 42 text l (inl (omega arith)))

pub no_line_prims : (kinds : Kinds) (ps : List Prim) (rest : List ℕ) → NoLineOf kinds rest → NoLineOf kinds (flat_map prim_text ps ++ rest)
no_line_prims kinds [] rest none = none
no_line_prims kinds (p ∷ ps) rest none =
    letter_no_line kinds ((prim_text p ++ flat_map prim_text ps) ++ rest) (subst Lettered (sym (append_assoc (prim_text p) (flat_map prim_text ps) rest)) (lettered p (flat_map prim_text ps ++ rest)))

pub record ReadsAll (kinds : Kinds) (text : List ℕ) (ps : List Prim) (rest : List ℕ) : Type 0 where
  pub mid : List ℕ
  pub read : Many (NextPrim kinds) text ps mid
  pub left : skipped mid ≡ skipped rest

-- white space before primitives doesn't matter
pub prims_skip : (kinds : Kinds) (t u : List ℕ) (ps : List Prim) (rest : List ℕ) → skipped t ≡ skipped u → ReadsAll kinds t ps rest → ReadsAll kinds u ps rest
prims_skip kinds t u [] rest e r = record { mid = u; read = refl; left = sym e ∙ (ap skipped r.read ∙ r.left) }
prims_skip kinds t u (p ∷ ps) rest e r =
    let first = r.read.1 in
    record { mid = r.mid; read = (r.read.0, record { read = subst (λ (s : List ℕ). PrimText s p r.read.0) e first.read; kind = first.kind }, r.read.2); left = r.left }

pub of_kind : (kinds : Kinds) (p : Prim) → IsWritable kinds p → IsOf kinds p
of_kind these.Six p can = can
of_kind these.All p can = tt

pub prims_back : (kinds : Kinds) (ps : List Prim) (rest : List ℕ) → AllByRecursion IsValidPrim ps → AreWritable kinds ps → NoLineOf kinds rest → ReadsAll kinds (flat_map prim_text ps ++ rest) ps rest
prims_back kinds [] rest valid can none = record { mid = rest; read = refl; left = refl }
prims_back kinds (p ∷ ps) rest valid can none =
    let tail = flat_map prim_text ps ++ rest in
    let one = prim_back kinds p tail valid.0 can.0 (no_line_prims kinds ps rest none) in
    let more = prims_skip kinds tail one.after ps rest (sym one.left) (prims_back kinds ps rest valid.1 can.1 none) in
    let whole : prim_text p ++ tail ≡ (prim_text p ++ flat_map prim_text ps) ++ rest = sym (append_assoc (prim_text p) (flat_map prim_text ps) rest) in
    let first = subst (λ (t : List ℕ). PrimText t p one.after) (sym (skipped_prim p tail)) one.read in
    record {
      mid = more.mid;
      read = (one.after, record { read = subst (λ (t : List ℕ). PrimText (skipped t) p one.after) whole first; kind = of_kind kinds p can.0 }, more.read);
      left = more.left;
    }

-- ---- dependencies

pub record ReadsInfos (text : List ℕ) (is : List PatchInfo) (rest : List ℕ) : Type 0 where
  pub mid : List ℕ
  pub read : Many NextInfo text is mid
  pub left : skipped mid ≡ skipped rest

pub infos_skip : (t u : List ℕ) (is : List PatchInfo) (rest : List ℕ) → skipped t ≡ skipped u → ReadsInfos t is rest → ReadsInfos u is rest
infos_skip t u [] rest e r = record { mid = u; read = refl; left = sym e ∙ (ap skipped r.read ∙ r.left) }
infos_skip t u (i ∷ is) rest e r = record { mid = r.mid; read = (r.read.0, subst (λ (s : List ℕ). Stands s i r.read.0) e r.read.1, r.read.2); left = r.left }

pub infos_back : (is : List PatchInfo) (rest : List ℕ) → AllByRecursion IsInfo is → ReadsInfos (flat_map info_line is ++ rest) is rest
infos_back [] rest valid = record { mid = rest; read = refl; left = refl }
infos_back (i ∷ is) rest valid =
    let tail = flat_map info_line is ++ rest in
    let one = canonical_stands i (10 ∷ tail) valid.0 in
    let more = infos_skip tail (32 ∷ 10 ∷ tail) is rest refl (infos_back is rest valid.1) in
    let whole : canonical i ++ 10 ∷ tail ≡ ((canonical i ++ 10 ∷ []) ++ flat_map info_line is) ++ rest = joined_info (canonical i) (flat_map info_line is) rest in
    record { mid = more.mid; read = (32 ∷ 10 ∷ tail, subst (λ (t : List ℕ). Stands (skipped t) i (32 ∷ 10 ∷ tail)) whole one, more.read); left = more.left }

pub record ReadsDeps (text : List ℕ) (ds : List PatchInfo) (rest : List ℕ) : Type 0 where
  pub after : List ℕ
  pub read : Dependencies text ds after
  pub left : skipped after ≡ skipped rest

pub deps_back : (ds : List PatchInfo) (rest : List ℕ) → AllByRecursion IsInfo ds → (Begins 60 (skipped rest) → ⊥) → ReadsDeps (32 ∷ (deps_text ds ++ rest)) ds rest
deps_back [] rest valid none = record { after = 32 ∷ rest; read = inr (none, refl, refl); left = refl }
deps_back (d ∷ ds) rest valid none =
    let inner = flat_map info_line (d ∷ ds) in
    let tail = 62 ∷ 32 ∷ rest in
    let r = infos_skip (inner ++ tail) (10 ∷ (inner ++ tail)) (d ∷ ds) tail refl (infos_back (d ∷ ds) tail valid) in
    let whole : inner ++ tail ≡ (inner ++ codes "> ") ++ rest = sym (append_assoc inner (codes "> ") rest) in
    record {
      after = 32 ∷ rest;
      read = inl (record { inside = 10 ∷ (inner ++ tail); mid = r.mid; opens = ap (λ (t : List ℕ). 60 ∷ 10 ∷ t) (sym whole); read = r.read; closes = r.left });
      left = refl;
    }

-- ---- bodies and patches

pub record ReadsBody (kinds : Kinds) (text : List ℕ) (ps : List Prim) (rest : List ℕ) : Type 0 where
  pub after : List ℕ
  pub read : Body kinds text ps after
  pub left : skipped after ≡ skipped rest

no_brace : (b : ℕ) (rest : List ℕ) → (125 ≡ b → ⊥) → Begins b (125 ∷ rest) → ⊥
no_brace b rest other o = other (front_same 125 b rest o.0 o.1)

hunk_brace : (rest : List ℕ) → NoLine (125 ∷ rest)
hunk_brace rest = record { space = no_brace 32 rest (λ e. omega (arith, e)); old = no_brace 45 rest (λ e. omega (arith, e)); new = no_brace 43 rest (λ e. omega (arith, e)) }

pub brace_line : (kinds : Kinds) (rest : List ℕ) → NoLineOf kinds (125 ∷ rest)
brace_line these.Six rest = hunk_brace rest
brace_line these.All rest = (hunk_brace rest, no_brace 42 rest (λ e. omega (arith, e)))

in_braces_back : (kinds : Kinds) (t : List ℕ) (ps : List Prim) (rest : List ℕ) → AllByRecursion IsValidPrim ps → AreWritable kinds ps → skipped t ≡ skipped ((codes "{\n" ++ (flat_map prim_text ps ++ codes "}\n")) ++ rest) → ReadsBody kinds t ps rest
in_braces_back kinds t ps rest valid can e =
    let inner = flat_map prim_text ps in
    let tail = 125 ∷ 10 ∷ rest in
    let r = prims_skip kinds (inner ++ tail) (10 ∷ (inner ++ tail)) ps tail refl (prims_back kinds ps tail valid can (brace_line kinds (10 ∷ rest))) in
    let whole : (inner ++ codes "}\n") ++ rest ≡ inner ++ tail = append_assoc inner (codes "}\n") rest in
    record {
      after = 10 ∷ rest;
      read = inl (record { inside = 10 ∷ (inner ++ tail); mid = r.mid; opens = e ∙ ap (λ (x : List ℕ). 123 ∷ 10 ∷ x) whole; read = r.read; closes = r.left });
      left = refl;
    }

pub body_back : (kinds : Kinds) (t : List ℕ) (ps : List Prim) (rest : List ℕ) → AllByRecursion IsValidPrim ps → AreWritable kinds ps → NoLineOf kinds rest → RunEnds (skipped rest) → skipped t ≡ skipped (body_text ps ++ rest) → ReadsBody kinds t ps rest
body_back kinds t [] rest valid can none ends e = in_braces_back kinds t [] rest valid can e
body_back kinds t (p ∷ q ∷ ps) rest valid can none ends e = in_braces_back kinds t (p ∷ q ∷ ps) rest valid can e
body_back kinds t (p ∷ []) rest valid can none ends e =
    let one = prim_back kinds p rest valid.0 can.0 none in
    let same : prim_text p ++ rest ≡ skipped t = sym (skipped_prim p rest) ∙ sym e in
    record {
      after = one.after;
      read = inr (record {
        bare = not_letter 123 (skipped t) (subst Lettered same (lettered p rest)) (inr (omega arith));
        read = (one.after, record { read = subst (λ (s : List ℕ). PrimText s p one.after) same one.read; kind = of_kind kinds p can.0 }, refl);
        ends = subst RunEnds (sym one.left) ends;
      });
      left = one.left;
    }

no_angle : (ps : List Prim) (rest : List ℕ) → Begins 60 (skipped (body_text ps ++ rest)) → ⊥
no_angle [] rest o = omega (arith, front_same 123 60 _ o.0 o.1)
no_angle (p ∷ q ∷ ps) rest o = omega (arith, front_same 123 60 _ o.0 o.1)
no_angle (p ∷ []) rest o = not_letter 60 (skipped (prim_text p ++ rest)) (subst Lettered (sym (skipped_prim p rest)) (lettered p rest)) (inl (omega arith)) o

pub patch_back : (kinds : Kinds) (p : Patch) (rest : List ℕ) → IsValidPatch p → AreWritable kinds p.prims → NoLineOf kinds rest → RunEnds (skipped rest) → ReadsPatchIn kinds (patch_text p ++ rest) p rest
patch_back kinds p rest valid can none ends =
    let body = body_text p.prims ++ rest in
    let info = canonical_stands p.info (deps_text p.deps ++ body) valid.info in
    let deps = deps_back p.deps body valid.deps (no_angle p.prims rest) in
    let b = body_back kinds deps.after p.prims rest valid.prims can none ends deps.left in
    let whole : canonical p.info ++ (deps_text p.deps ++ body) ≡ (canonical p.info ++ (deps_text p.deps ++ body_text p.prims)) ++ rest = joined_patch (canonical p.info) (deps_text p.deps) (body_text p.prims) rest in
    record { after = b.after; read = record { after = 32 ∷ (deps_text p.deps ++ body); body = deps.after; info = subst (λ (t : List ℕ). Stands t p.info (32 ∷ (deps_text p.deps ++ body))) whole info; deps = deps.read; prims = b.read }; left = b.left }
