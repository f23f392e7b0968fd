-- Changes of preferences, and that a text has one.
use Rattle.std.proofs.Common.{◌≡◌, ℕ, List, [], ◌∷◌, length, sym, ap, subst, ◌∙◌, arith, refl, ◌==◌, true, inl, inr, length-append}
use Rattle.std.proofs.lemmas.Bool.{eqb-true}
use Rattle.std.specs.List.{AllByRecursion}
use Rattle.dm_named.specs.Words.{Word, Line, is_white}
use Rattle.dm_named.specs.Preferences.{WholeLine, PreferenceLines}
use Rattle.dm_prim.specs.Commuting.{IsPreference}
use Rattle.dm_named.proofs.WordLemmas.{one_word}
use Rattle.dm_named.proofs.ValidParts.{any_of, plain_line}
use Rattle.dm_named.proofs.GroupLemmas.{one_line}

a_line : (text l r : List ℕ) → WholeLine text l r → Line text l r
a_line text l r a = record { free = a.free; parts = inl a.parts }

pub one_whole_line : (text l m r s : List ℕ) → WholeLine text l r → WholeLine text m s → (l ≡ m) × (r ≡ s)
one_whole_line text l m r s a b = one_line text l m r s (a_line text l r a) (a_line text m s b)

pub whole_line : (text line rest : List ℕ) → Line text line rest → (length line ≡ length text → ⊥) → WholeLine text line rest
whole_line text line rest l more = record { free = l.free; parts = elim l.parts [ inl e ↦ e | inr e ↦ absurd (more (sym (ap length e.0))) ] }

pub no_whole_line : (text line rest : List ℕ) → Line text line rest → length line ≡ length text → (l r : List ℕ) → WholeLine text l r → ⊥
no_whole_line text line rest at_end all l r a =
    let one = (one_line text l line r rest (a_line text l r a) at_end).0 in
    omega (arith, all, ap length one, ap length a.parts, length-append l (10 ∷ r))

-- the lines of two readings, from the front on
end_same : (text name old new name' old' new' r s : List ℕ) → (a : PreferenceLines text name old new r) → (b : PreferenceLines text name' old' new' s) → (name ≡ name') × (a.olds ≡ b.olds)
end_same text name old new name' old' new' r s a b =
    let word = one_word text name name' a.after b.after a.word b.word in
    let end = one_whole_line b.after a.end.blank b.end.blank a.olds b.olds (subst (λ (t : List ℕ). WholeLine t a.end.blank a.olds) word.1 a.end.line) b.end.line in
    (word.0, end.1)

pub one_preference_lines : (text name old new name' old' new' r s : List ℕ) → PreferenceLines text name old new r → PreferenceLines text name' old' new' s → (name ≡ name') × (old ≡ old') × (new ≡ new') × (r ≡ s)
one_preference_lines text name old new name' old' new' r s a b =
    let front = end_same text name old new name' old' new' r s a b in
    let olds = one_whole_line b.olds old old' a.news b.news (subst (λ (t : List ℕ). WholeLine t old a.news) front.1 a.old_read) b.old_read in
    let news = one_line b.news new new' r s (subst (λ (t : List ℕ). Line t new r) olds.1 a.new_read) b.new_read in
    (front.0, olds.0, news.0, news.1)

-- ---- where none stands

-- no change of a preference stands here
abbrev pub NoPreference : List ℕ → Type 0
NoPreference text = (name old new rest : List ℕ) → PreferenceLines text name old new rest → ⊥

pub empty_nil : (xs : List ℕ) → (length xs == 0) ≡ true → xs ≡ []
empty_nil [] e = refl
empty_nil (x ∷ xs) e = absurd (let none = eqb-true (length (x ∷ xs)) 0 e in omega (arith, none))

pub no_name : (text name after : List ℕ) → Word text name after → name ≡ [] → NoPreference text
no_name text name after stands none name' old new rest a = a.some ((one_word text name' name a.after after a.word stands).0 ∙ none)

pub no_first_line : (text name after : List ℕ) → Word text name after → ((line rest : List ℕ) → WholeLine after line rest → ⊥) → NoPreference text
no_first_line text name after stands none name' old new rest a =
    let one = (one_word text name' name a.after after a.word stands).1 in
    none a.end.blank a.olds (subst (λ (t : List ℕ). WholeLine t a.end.blank a.olds) one a.end.line)

pub no_blank : (text name after blank olds : List ℕ) → Word text name after → WholeLine after blank olds → (AllByRecursion (λ b. is_white b ≡ true) blank → ⊥) → NoPreference text
no_blank text name after blank olds stands line none name' old new rest a =
    let one = (one_word text name' name a.after after a.word stands).1 in
    let end = one_whole_line after a.end.blank blank a.olds olds (subst (λ (t : List ℕ). WholeLine t a.end.blank a.olds) one a.end.line) line in
    none (subst (λ (t : List ℕ). AllByRecursion (λ b. is_white b ≡ true) t) end.0 a.end.white)

pub no_second_line : (text name after blank olds : List ℕ) → Word text name after → WholeLine after blank olds → ((line rest : List ℕ) → WholeLine olds line rest → ⊥) → NoPreference text
no_second_line text name after blank olds stands line none name' old new rest a =
    let one = (one_word text name' name a.after after a.word stands).1 in
    let end = one_whole_line after a.end.blank blank a.olds olds (subst (λ (t : List ℕ). WholeLine t a.end.blank a.olds) one a.end.line) line in
    none old a.news (subst (λ (t : List ℕ). WholeLine t old a.news) end.1 a.old_read)

-- ---- a change of a preference that is read is valid

pub read_is_valid : (text name old new rest : List ℕ) → PreferenceLines text name old new rest → IsPreference name old new
read_is_valid text name old new rest a = (a.some, any_of is_white name a.word.solid, plain_line old a.old_read.free, plain_line new a.new_read.free)
