-- Sets and tokens as text, and that a text has one set and two tokens at most.
use Rattle.std.proofs.Common.{◌≡◌, ◌<◌, ℕ, false, List, [], ◌∷◌, ◌++◌, length, refl, ap, subst, arith, length-append}
use Rattle.std.specs.Prelude.{All}
use Rattle.std.specs.List.{AllByRecursion}
use Rattle.std.proofs.lemmas.List.Elements.{All-head, All-tail}
use Rattle.dm_tokens.specs.Validity.{TokenWords, AreTokens, IsWordPart, is_space}
use Rattle.dm_named.specs.Words.{skipped, Word, is_white}
use Rattle.dm_named.specs.Replaces.{bracketed, NextWord, TokensText}
use Rattle.dm_named.proofs.WordLemmas.{one_word}

one_before_end : (xs ys : List ℕ) → xs ++ 93 ∷ [] ≡ ys ++ 93 ∷ [] → xs ≡ ys
one_before_end [] [] e = refl
one_before_end [] (y ∷ ys) e = absurd (omega (arith, ap length e, length-append ys (93 ∷ [])))
one_before_end (x ∷ xs) [] e = absurd (omega (arith, ap length e, length-append xs (93 ∷ [])))
one_before_end (x ∷ xs) (y ∷ ys) e =
    let heads : x ≡ y = cc in
    let tails : xs ++ 93 ∷ [] ≡ ys ++ 93 ∷ [] = cc in
    λ k. heads k ∷ one_before_end xs ys tails k

-- a text in brackets has one text between them
one_in_brackets : (set other : List ℕ) → bracketed set ≡ bracketed other → set ≡ other
one_in_brackets set other e = one_before_end set other (let both : 91 ∷ (set ++ 93 ∷ []) ≡ 91 ∷ (other ++ 93 ∷ []) = e in cc)

-- a set in brackets, and two words
pub record ThreeWords (text : List ℕ) (words : TokenWords) (rest : List ℕ) : Type 0 where
  pub olds : List ℕ
  pub news : List ℕ
  pub set_read : Word text (bracketed words.set) olds
  pub old_read : NextWord olds words.old news
  pub new_read : NextWord news words.new rest

three_words : (text : List ℕ) (words : TokenWords) (rest : List ℕ) → TokensText text words rest → ThreeWords text words rest
three_words text words rest a = record { olds = a.olds; news = a.news; set_read = a.set_read; old_read = a.old_read; new_read = a.new_read }

one_three : (text : List ℕ) (v w : TokenWords) (r s : List ℕ) → ThreeWords text v r → ThreeWords text w s → (v ≡ w) × (r ≡ s)
one_three text v w r s a b =
    let sets = one_word text (bracketed v.set) (bracketed w.set) a.olds b.olds a.set_read b.set_read in
    let olds = one_word (skipped b.olds) v.old w.old a.news b.news (subst (λ (t : List ℕ). NextWord t v.old a.news) sets.1 a.old_read) b.old_read in
    let news = one_word (skipped b.news) v.new w.new r s (subst (λ (t : List ℕ). NextWord t v.new r) olds.1 a.new_read) b.new_read in
    let set = one_in_brackets v.set w.set sets.0 in
    ((λ k. record { set = set k; old = olds.0 k; new = news.0 k }), news.1)

pub one_tokens_text : (text : List ℕ) (v w : TokenWords) (r s : List ℕ) → TokensText text v r → TokensText text w s → (v ≡ w) × (r ≡ s)
one_tokens_text text v w r s a b = one_three text v w r s (three_words text v r a) (three_words text w s b)

-- ---- where none stand

-- no set and no tokens of it stand here
abbrev pub NoTokens : List ℕ → Type 0
NoTokens text = (words : TokenWords) (rest : List ℕ) → TokensText text words rest → ⊥

pub no_set : (text word olds : List ℕ) → Word text word olds → ((set : List ℕ) → word ≡ bracketed set → ⊥) → NoTokens text
no_set text word olds stands none words rest a = none words.set (one_word text word (bracketed words.set) olds a.olds stands a.set_read).0

pub no_tokens : (text word olds mid news mid' end : List ℕ) (words : TokenWords) → Word text word olds → word ≡ bracketed words.set → mid ≡ skipped olds → Word mid words.old news → mid' ≡ skipped news → Word mid' words.new end → (AreTokens words → ⊥) → NoTokens text
no_tokens text word olds mid news mid' end words sets e olds_at old news_at new none other rest a =
    let here : ThreeWords text words end = record {
      olds = olds;
      news = news;
      set_read = subst (λ (w : List ℕ). Word text w olds) e sets;
      old_read = subst (λ (t : List ℕ). Word t words.old news) olds_at old;
      new_read = subst (λ (t : List ℕ). Word t words.new end) news_at new;
    } in
    none (subst AreTokens (one_three text other words rest end (three_words text other rest a) here).0 a.valid)

-- ---- what may stand in a word has no white space

each_solid : (xs : List ℕ) → All (λ b. (b < 128) × (is_space b ≡ false)) xs → AllByRecursion (λ b. is_white b ≡ false) xs
each_solid [] all = tt
each_solid (x ∷ xs) all = ((All-head (λ b. (b < 128) × (is_space b ≡ false)) x xs all).1, each_solid xs (All-tail (λ b. (b < 128) × (is_space b ≡ false)) x xs all))

pub part_solid : (word : List ℕ) → IsWordPart word → AllByRecursion (λ b. is_white b ≡ false) word
part_solid word part = each_solid word part.1
