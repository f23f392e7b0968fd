-- Contents in hex, and that a text has one.
use Rattle.std.proofs.Common.{◌≡◌, ◌≢◌, ℕ, List, sym, subst, inl, inr}
use Rattle.std.specs.Prelude.{codes, ◌⊎◌}
use Rattle.std.specs.List.{concat}
use Rattle.dm_tree.specs.Trees.{Lines}
use Rattle.dm_hex.specs.Contents.{content}
use Rattle.dm_hex.specs.Digits.{IsHexOf, IsHexOfLines}
use Rattle.dm_hex.proofs.ContentLemmas.{one_list}
use Rattle.dm_hex.proofs.DigitLemmas.{one_meaning}
use Rattle.dm_named.specs.Words.{skipped, Word, LineGroup}
use Rattle.dm_named.specs.Binaries.{Stars, WordAndStars, BinaryBody}
use Rattle.dm_named.specs.Faults.{NoStars, new_hex, BinaryFaultAt}
use Rattle.dm_named.specs.declared.fault.FaultKind.{FaultKind}
use Rattle.dm_named.specs.declared.fault.FaultKind.TheVariants as K
use Rattle.dm_named.proofs.WordLemmas.{one_word}
use Rattle.dm_named.proofs.GroupLemmas.{one_group}

one_content : (digits one other : Lines) → IsHexOfLines digits one → IsHexOfLines digits other → one ≡ other
one_content digits one other h k = one_list one other h.0 k.0 (one_meaning (concat digits) (content one) (content other) h.1 k.1)

one_stars : (text : List ℕ) (ls ms : Lines) (r s : List ℕ) → Stars text ls r → Stars text ms s → (ls ≡ ms) × (r ≡ s)
one_stars text ls ms r s a b =
    let g = one_group 42 text a.digits b.digits r s a.read b.read in
    (one_content b.digits ls ms (subst (λ (d : Lines). IsHexOfLines d ls) g.0 a.hex) b.hex, g.1)

pub one_word_and_stars : (w text : List ℕ) (ls ms : Lines) (r s : List ℕ) → WordAndStars w text ls r → WordAndStars w text ms s → (ls ≡ ms) × (r ≡ s)
one_word_and_stars w text ls ms r s a b =
    let after = (one_word text w w a.after b.after a.named b.named).1 in
    one_stars (skipped b.after) ls ms r s (subst (λ (t : List ℕ). Stars (skipped t) ls r) after a.stars) b.stars

pub one_binary_body : (text : List ℕ) (old new old' new' : Lines) (r s : List ℕ) → BinaryBody text old new r → BinaryBody text old' new' s → (old ≡ old') × (new ≡ new') × (r ≡ s)
one_binary_body text old new old' new' r s a b =
    let olds = one_word_and_stars (codes "oldhex") (skipped text) old old' a.mid b.mid a.olds b.olds in
    let news = one_word_and_stars (codes "newhex") (skipped b.mid) new new' r s (subst (λ (t : List ℕ). WordAndStars (codes "newhex") (skipped t) new r) olds.1 a.news) b.news in
    (olds.0, news.0, news.1)

-- ---- where none stands

-- another word stands there
pub no_such_word : (w text word after : List ℕ) → Word text word after → word ≢ w → (ls : Lines) (r : List ℕ) → WordAndStars w text ls r → ⊥
no_such_word w text word after stands other ls r a = other (one_word text word w after a.after stands a.named).0

-- the digits behind the word stand for no bytes
pub no_hex_there : (w text after : List ℕ) (digits : Lines) (rest : List ℕ) → Word text w after → LineGroup 42 (skipped after) digits rest → ((bytes : List ℕ) → IsHexOf (concat digits) bytes → ⊥)
    → (ls : Lines) (r : List ℕ) → WordAndStars w text ls r → ⊥
no_hex_there w text after digits rest stands read none ls r a =
    let one = (one_word text w w a.after after a.named stands).1 in
    let g = one_group 42 (skipped after) a.stars.digits digits r rest (subst (λ (t : List ℕ). LineGroup 42 (skipped t) a.stars.digits r) one a.stars.read) read in
    none (content ls) (subst (λ (d : Lines). IsHexOf (concat d) (content ls)) g.0 a.stars.hex.1)

-- ---- no fault where a binary stands

pub stars_or_none : (w text here : List ℕ) (ls : Lines) (r : List ℕ) → NoStars w text here → WordAndStars w (skipped text) ls r → ⊥
stars_or_none w text here ls r f a = f.none ls r (subst (λ (t : List ℕ). WordAndStars w t ls r) (sym f.place) a)

-- ---- faults

pub new_fault : (kind : FaultKind) (text here : List ℕ) (lines : Lines) (mid : List ℕ) → WordAndStars (codes "oldhex") (skipped text) lines mid → (kind ≡ K.NoMemory) ⊎ ((kind ≡ K.BadHex) × NoStars (codes "newhex") mid here) → BinaryFaultAt kind text here
new_fault kind text here lines mid a f =
    elim f [ inl e ↦ subst (λ (k : FaultKind). BinaryFaultAt k text here) (sym e) tt | inr e ↦ subst (λ (k : FaultKind). BinaryFaultAt k text here) (sym e.0) (new_hex lines mid a e.1) ]
