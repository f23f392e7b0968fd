-- Symbols of lines, and the texts that a heap spells of them.
use Rattle.std.proofs.Common.{◌≡◌, ◌+◌, ℕ, List, [], ◌∷◌, ◌++◌, length, map, refl, sym, ap, ap₂, ◌∙◌}
use Rattle.std.proofs.lemmas.List.{length-map, map-append}
use Rattle.dm_tree.specs.Trees.{Lines}
use Rattle.dm_tree.specs.Changes.{ReplacesLines}
use Rattle.dm_tokens.specs.Turning.{TurnAll}
use Rattle.dm_tokens.specs.Validity.{TokenWords}
use Rattle.dm_tokens.specs.Exchanging.{exchanged}
use Rattle.dm_tokens.proofs.ExchangeLemmas.{lines_exchanged}
use Rattle.dm_facts.specs.Heaps.{Heap, put_on, IsHeap, exchange, spelled}
use Rattle.dm_facts.proofs.HeapLemmas.{AreGood, exchange_is, put_on_spells, symbol, symbol_spells}

pub none_left : {A B : Type 0} (f : A → B) (xs : List A) → map f xs ≡ [] → xs ≡ []
none_left f [] e = refl
none_left f (x ∷ xs) e = absurd (cc e)

pub as_many : {A B : Type 0} (f : A → B) (xs : List A) (ys : List B) → map f xs ≡ ys → length xs ≡ length ys
as_many f xs ys e = sym (length-map xs f) ∙ ap length e

-- two parts of what lines became are what two parts of them became
map_parts : (f : List ℕ → List ℕ) (xs a b : Lines) → map f xs ≡ a ++ b → (ys : Lines) × (zs : Lines) × (xs ≡ ys ++ zs) × (map f ys ≡ a) × (map f zs ≡ b)
map_parts f xs [] b e = ([], xs, refl, refl, e)
map_parts f [] (y ∷ a) b e = absurd (cc e)
map_parts f (x ∷ xs) (y ∷ a) b e = one_more (cc e) (map_parts f xs a b (cc e))
  where
    one_more : f x ≡ y → (ys : Lines) × (zs : Lines) × (xs ≡ ys ++ zs) × (map f ys ≡ a) × (map f zs ≡ b) →
        (ys : Lines) × (zs : Lines) × (x ∷ xs ≡ ys ++ zs) × (map f ys ≡ y ∷ a) × (map f zs ≡ b)
    one_more first (ys, zs, is, i, j) = (x ∷ ys, zs, ap (λ z. x ∷ z) is, ap₂ (λ z zs. z ∷ zs) first i, j)

-- where symbols are replaced, so are the texts that are made of them
pub texts_replaced : (f : List ℕ → List ℕ) (l : ℕ) (old new ls ls' : Lines) → ReplacesLines l old new ls ls' → ReplacesLines l (map f old) (map f new) (map f ls) (map f ls')
texts_replaced f l old new ls ls' h = record {
  front = map f h.front;
  back = map f h.back;
  at = ap (λ z. z + 1) (length-map h.front f) ∙ h.at;
  before = ap (map f) h.before ∙ parts old;
  after = ap (map f) h.after ∙ parts new;
  left = λ e. h.left (none_left f ls' e);
}
  where
    parts : (mid : Lines) → map f (h.front ++ (mid ++ h.back)) ≡ map f h.front ++ (map f mid ++ map f h.back)
    parts mid = map-append f h.front (mid ++ h.back) ∙ ap (λ z. map f h.front ++ z) (map-append f mid h.back)

-- the symbols of lines that are replaced, of those that replace them, and of all lines then
pub record SymbolsReplaced (f : List ℕ → List ℕ) (l : ℕ) (old new ls ls' : Lines) : Type 0 where
  pub was : Lines
  pub is : Lines
  pub all : Lines
  pub old_is : map f was ≡ old
  pub new_is : map f is ≡ new
  pub all_is : map f all ≡ ls'
  pub replaces : ReplacesLines l was is ls all

each_back : (f g : List ℕ → List ℕ) → ((y : List ℕ) → f (g y) ≡ y) → (ys : Lines) → map f (map g ys) ≡ ys
each_back f g back [] = refl
each_back f g back (y ∷ ys) = ap₂ (λ z zs. z ∷ zs) (back y) (each_back f g back ys)

-- where texts are replaced, so are symbols of theirs
pub symbols_replaced : (f g : List ℕ → List ℕ) → ((y : List ℕ) → f (g y) ≡ y) → (l : ℕ) (old new ls ls' : Lines) → ReplacesLines l old new (map f ls) ls' → SymbolsReplaced f l old new ls ls'
symbols_replaced f g back l old new ls ls' h =
    let a = map_parts f ls h.front (old ++ h.back) h.before in
    let b = map_parts f a.1 old h.back a.4 in
    let count : length a.0 ≡ length h.front = as_many f a.0 h.front a.3 in
    let after : map f (a.0 ++ (map g new ++ b.1)) ≡ ls' =
    map-append f a.0 (map g new ++ b.1) ∙ ap (λ z. map f a.0 ++ z) (map-append f (map g new) b.1) ∙ ap (λ z. z ++ (map f (map g new) ++ map f b.1)) a.3
    ∙ ap (λ z. h.front ++ (z ++ map f b.1)) (each_back f g back new) ∙ ap (λ z. h.front ++ (new ++ z)) b.4 ∙ sym h.after in
    record {
      was = b.0;
      is = map g new;
      all = a.0 ++ (map g new ++ b.1);
      old_is = b.3;
      new_is = each_back f g back new;
      all_is = after;
      replaces = record {
        front = a.0;
        back = b.1;
        at = ap (λ z. z + 1) count ∙ h.at;
        before = a.2 ∙ ap (λ z. a.0 ++ z) b.2;
        after = refl;
        left = λ e. h.left (sym after ∙ ap (map f) e);
      };
    }

-- the symbols of texts are spelled as these
pub symbols_spell : (h : Heap) → IsHeap h → (ys : Lines) → map (spelled h) (map (symbol h) ys) ≡ ys
symbols_spell h heap ys = each_back (spelled h) (symbol h) (symbol_spells h heap) ys

each_spells : (w : TokenWords) (h : Heap) → IsHeap h → AreGood w → (ls : Lines) → map (spelled (put_on w h)) ls ≡ map (exchange w) (map (spelled h) ls)
each_spells w h heap good [] = refl
each_spells w h heap good (l ∷ ls) = ap₂ (λ z zs. z ∷ zs) (put_on_spells w h heap good l) (each_spells w h heap good ls)

pub each_exchange : (w : TokenWords) (good : AreGood w) (ls : Lines) → map (exchange w) ls ≡ map (exchanged good.set w.old w.new) ls
each_exchange w good [] = refl
each_exchange w good (l ∷ ls) = ap₂ (λ z zs. z ∷ zs) (exchange_is w good.set good.means l) (each_exchange w good ls)

-- lines that turn are what the heap spells with the replace on it
pub turned_spells : (w : TokenWords) (h : Heap) → IsHeap h → (good : AreGood w) → (ls ls' : Lines) → TurnAll good.set w.old w.new (map (spelled h) ls) ls' → map (spelled (put_on w h)) ls ≡ ls'
turned_spells w h heap good ls ls' turned =
    each_spells w h heap good ls ∙ each_exchange w good (map (spelled h) ls) ∙ sym (lines_exchanged good.set w.old w.new (map (spelled h) ls) ls' turned)
