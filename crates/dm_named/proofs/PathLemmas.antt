-- A path's text is cut in one way.
use Rattle.std.proofs.Common.{◌≡◌, ◌<◌, ◌+◌, ℕ, suc, true, false, List, [], ◌∷◌, ◌++◌, length, get_or, take, drop, refl, sym, ap, subst, ◌∙◌, arith, length-append, inl, inr, Option, Some, None, Bool, cond, nat_lt, ◌≤◌, ◌==◌}
use Rattle.std.proofs.lemmas.Bool.{false≢true}
use Rattle.std.proofs.lemmas.Bool.Decides.{nat_tests}
use Rattle.std.proofs.lemmas.List.{take-append-drop, drop_more}
use Rattle.memchr.specs.Find.{IsFirstByte, is_byte}
use Rattle.dm_info.proofs.Cuts.{cut_found, cut_takes, byte_is, false_is}
use Rattle.dm_tree.specs.Paths.{Path}
use Rattle.dm_tree.specs.Validity.{IsValidPath, is_bad_name, names_fault}
use Rattle.dm_tree.specs.declared.fault.PathFault.{PathFault}
use Rattle.dm_tree.specs.declared.fault.PathFault.TheVariants.{BadName, TooLong}
use Rattle.dm_tree.proofs.ValidityLemmas.{valid_parts, names_right}
use Rattle.dm_named.specs.Words.{skipped, Word}
use Rattle.dm_named.specs.Many.{Many}
use Rattle.dm_named.specs.Paths.{NoSlash, EndsPiece, Piece, SlashName, IsNameText, IsPathText, PathWord}
use Rattle.dm_named.specs.Faults.{kind_of_name, PathFaultAt}
use Rattle.dm_named.specs.declared.reading.names.NameFault.{NameFault}
use Rattle.dm_named.specs.declared.reading.names.NameFault.TheVariants.{BadPath, NoMemory}
use Rattle.dm_named.proofs.NameLemmas.{one_name}
use Rattle.dm_named.proofs.ManyLemmas.{many_follows, one_many}
use Rattle.dm_named.proofs.WordLemmas.{one_word}

none_free : (text : List ℕ) → ((j : ℕ) → j < length text → is_byte 47 (get_or text j 0) ≡ true → ⊥) → NoSlash text
none_free [] h = tt
none_free (b ∷ text) h = (false_is (is_byte 47 b) (h 0 (omega arith)), none_free text (λ j lt. h (suc j) (omega arith)))

pub piece_found : (text : List ℕ) (i : ℕ) → IsFirstByte (is_byte 47) text (Some i) → Piece text (take i text) (drop i text)
piece_found text i first =
    let c = cut_takes (is_byte 47) text _ (cut_found (is_byte 47) text i first) in
    record {
      parts = sym (take-append-drop i text);
      free = c.free;
      ends = inr (drop (i + 1) text, drop_more text i 0 first.0.high ∙ ap (λ (b : ℕ). b ∷ drop (i + 1) text) (byte_is _ 47 c.stops));
    }

end_nil : (xs : List ℕ) → xs ≡ xs ++ []
end_nil [] = refl
end_nil (x ∷ xs) = λ k. x ∷ end_nil xs k

pub piece_last : (text : List ℕ) → IsFirstByte (is_byte 47) text None → Piece text text []
piece_last text nowhere = record { parts = end_nil text; free = none_free text (λ j lt. nowhere j (omega arith) lt); ends = inl refl }

no_front : (b : ℕ) (w s : List ℕ) → EndsPiece s → (b == 47) ≡ false → s ≡ b ∷ w → ⊥
no_front b w s ends other e =
    elim ends [
      | inl p ↦ (let both : [] ≡ b ∷ w = sym p ∙ e in cc)
      | inr p ↦ (let both : 47 ∷ p.0 ≡ b ∷ w = sym p.1 ∙ e in let same : 47 ≡ b = cc in false≢true (sym other ∙ ap (λ (x : ℕ). x == 47) (sym same)))
    ]

one_front : (w v r s : List ℕ) → NoSlash w → NoSlash v → EndsPiece r → EndsPiece s → w ++ r ≡ v ++ s → (w ≡ v) × (r ≡ s)
one_front [] [] r s f g p q e = (refl, e)
one_front [] (y ∷ v) r s f g p q e = absurd (no_front y (v ++ s) r p g.0 e)
one_front (x ∷ w) [] r s f g p q e = absurd (no_front x (w ++ r) s q f.0 (sym e))
one_front (x ∷ w) (y ∷ v) r s f g p q e =
    let heads : x ≡ y = cc in
    let tails : w ++ r ≡ v ++ s = cc in
    let t = one_front w v r s f.1 g.1 p q tails in
    ((λ k. heads k ∷ t.0 k), t.1)

pub one_piece : (text w v r s : List ℕ) → Piece text w r → Piece text v s → (w ≡ v) × (r ≡ s)
one_piece text w v r s a b = one_front w v r s a.free b.free a.ends b.ends (sym a.parts ∙ b.parts)

inside_same : (text x y : List ℕ) → text ≡ 47 ∷ x → text ≡ 47 ∷ y → x ≡ y
inside_same text x y e f = let both : 47 ∷ x ≡ 47 ∷ y = sym e ∙ f in cc

pub long_name_at : (text inside piece rest : List ℕ) → text ≡ 47 ∷ inside → Piece inside piece rest → ((name : List ℕ) → IsNameText piece name → 255 < length name) → (name r : List ℕ) → SlashName text name r → 255 < length name
long_name_at text inside piece rest e p long name r n =
    let same = inside_same text n.inside inside n.slash e in
    let one = one_piece inside n.piece piece r rest (subst (λ (t : List ℕ). Piece t n.piece r) same n.cut) p in
    long name (subst (λ (t : List ℕ). IsNameText t name) one.0 n.spelled)

pub one_name_at : (text n m r s : List ℕ) → SlashName text n r → SlashName text m s → (n ≡ m) × (r ≡ s)
one_name_at text n m r s a b =
    let same = inside_same text a.inside b.inside a.slash b.slash in
    let one = one_piece b.inside a.piece b.piece r s (subst (λ (t : List ℕ). Piece t a.piece r) same a.cut) b.cut in
    (one_name b.piece n m [] (subst (λ (t : List ℕ). IsNameText t n) one.0 a.spelled) refl b.spelled, one.1)

closed_end : (v after : List ℕ) → SlashName [] v after → ⊥
closed_end v after a = let e : [] ≡ 47 ∷ a.inside = a.slash in cc

pub one_names : (text : List ℕ) (ns ms : Path) → Many SlashName text ns [] → Many SlashName text ms [] → ns ≡ ms
one_names text ns ms a b = (one_many SlashName one_name_at text ns ms [] [] a b closed_end closed_end).0

not_long : (s t : Bool) (f : Option PathFault) → cond s (Some BadName) (cond t (Some TooLong) f) ≡ None → t ≡ false
not_long true t f h = cc
not_long false true f h = cc
not_long false false f h = refl

-- a path with a name of more than 255 bytes is none
long_none : (front : Path) (n : List ℕ) (more : Path) → 255 < length n → IsValidPath (front ++ n ∷ more) → ⊥
long_none front n more long valid =
    let named = names_right front (n ∷ more) (valid_parts (front ++ n ∷ more) valid).named in
    let short : nat_lt 255 (length n) ≡ false = not_long (is_bad_name n) (nat_lt 255 (length n)) (names_fault more) named in
    let le : length n ≤ 255 = grind (arith, nat_tests, short) in
    omega (arith, le, long)

stuck : (front : Path) (mid : List ℕ) (more : Path) → (length mid ≡ 0 → ⊥) → ((name rest : List ℕ) → SlashName mid name rest → 255 < length name) → Many SlashName mid more [] → IsValidPath (front ++ more) → ⊥
stuck front mid [] some long r valid = some (ap length r)
stuck front mid (n ∷ more) some long r valid = long_none front n more (long n r.0 r.1) valid

-- where a name that is too long, or none, stands after some names, they go on to no path
pub no_names : (text : List ℕ) (ns : Path) (mid : List ℕ) → Many SlashName text ns mid → (length mid ≡ 0 → ⊥) → ((name rest : List ℕ) → SlashName mid name rest → 255 < length name) → (ms : Path) → Many SlashName text ms [] → IsValidPath ms → ⊥
no_names text ns mid r some long ms s valid =
    let m = many_follows SlashName one_name_at text ns ms mid [] r s closed_end in
    stuck ns mid m.0 some long m.2 (subst IsValidPath m.1 valid)

some_more : (mid : List ℕ) (more : Path) → (length mid ≡ 0 → ⊥) → Many SlashName mid more [] → 0 < length more
some_more mid [] some r = absurd (some (ap length r))
some_more mid (n ∷ ns) some r = omega arith

-- where something is left after some names, there are more of them
pub more_names : (text : List ℕ) (ns : Path) (mid : List ℕ) → Many SlashName text ns mid → (length mid ≡ 0 → ⊥) → (ms : Path) → Many SlashName text ms [] → length ns < length ms
more_names text ns mid r some ms s =
    let m = many_follows SlashName one_name_at text ns ms mid [] r s closed_end in
    omega (arith, some_more mid m.0 some m.2, ap length m.1, length-append ns m.0)

pub ended : (mid : List ℕ) → length mid ≡ 0 → mid ≡ []
ended [] none = refl
ended (b ∷ mid) none = absurd (omega arith)

pub names_done : (text : List ℕ) (ns : Path) (mid : List ℕ) → Many SlashName text ns mid → length mid ≡ 0 → Many SlashName text ns []
names_done text ns mid r none = subst (λ (t : List ℕ). Many SlashName text ns t) (ended mid none) r

-- ---- a word

dot_same : (word x y : List ℕ) → word ≡ 46 ∷ x → word ≡ 46 ∷ y → x ≡ y
dot_same word x y e f = let both : 46 ∷ x ≡ 46 ∷ y = sym e ∙ f in cc

pub one_path_text : (word : List ℕ) (p q : Path) → IsPathText word p → IsPathText word q → p ≡ q
one_path_text word p q a b = one_names b.names p q (subst (λ (t : List ℕ). Many SlashName t p []) (dot_same word a.names b.names a.dot b.dot) a.each) b.each

-- the names are those, so a path that is refused is none
pub same_dot_path : (word names : List ℕ) (ns : Path) → word ≡ 46 ∷ names → Many SlashName names ns [] → (p : Path) → IsPathText word p → p ≡ ns
same_dot_path word names ns e r p a = one_names names p ns (subst (λ (t : List ℕ). Many SlashName t p []) (dot_same word a.names names a.dot e) a.each) r

pub one_path_here : (here : List ℕ) (p q : Path) (r s : List ℕ) → PathWord here p r → PathWord here q s → (p ≡ q) × (r ≡ s)
one_path_here here p q r s a b =
    let one = one_word here a.word b.word r s a.stands b.stands in
    (one_path_text b.word p q (subst (λ (t : List ℕ). IsPathText t p) one.0 a.spelled) b.spelled, one.1)

pub no_path_here : (here word rest : List ℕ) → Word here word rest → ((p : Path) → IsPathText word p → ⊥) → (p : Path) (r : List ℕ) → PathWord here p r → ⊥
no_path_here here word rest w none p r a =
    let one = one_word here a.word word r rest a.stands w in
    none p (subst (λ (t : List ℕ). IsPathText t p) one.0 a.spelled)

-- what is wrong with the names is wrong with the path
pub path_wrong : (fault : NameFault) (text here word rest : List ℕ) → here ≡ skipped text → Word here word rest → ((fault ≡ BadPath) → (p : Path) → IsPathText word p → ⊥) → PathFaultAt (kind_of_name fault) text here
path_wrong BadPath text here word rest e w none = (e, no_path_here here word rest w (none refl))
path_wrong NoMemory text here word rest e w none = tt
