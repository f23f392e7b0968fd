-- A name's text stands for one name.
use Rattle.std.proofs.Common.{◌≡◌, ◌≢◌, ℕ, ◌+◌, ◌<◌, List, [], ◌∷◌, ◌++◌, length, get_or, take, drop, refl, sym, ap, subst, ◌∙◌, arith, inl, inr, false, Some, None}
use Rattle.std.proofs.lemmas.List.{length-append, get_or_at}
use Rattle.std.proofs.lemmas.Bool.{false≢true, eq-eqb}
use Rattle.memchr.specs.Find.{IsFirstByte, is_byte}
use Rattle.dm_info.proofs.Cuts.{cut_found, cut_takes, byte_is}
use Rattle.std.specs.List.{AllByRecursion}
use Rattle.dm_named.specs.Words.{IsDigit, number_from}
use Rattle.dm_named.specs.Paths.{IsCode, Escape, NameByte, IsNameText}
use Rattle.dm_named.specs.Many.{Many}

-- the digits end at the first backslash
one_end : (l m r s : List ℕ) → AllByRecursion IsDigit l → AllByRecursion IsDigit m → l ++ 92 ∷ r ≡ m ++ 92 ∷ s → (l ≡ m) × (r ≡ s)
one_end [] [] r s f g e = (refl, cc)
one_end [] (y ∷ m) r s f g e = let y-is : 92 ≡ y = cc in absurd (omega arith)
one_end (x ∷ l) [] r s f g e = let x-is : x ≡ 92 = cc in absurd (omega arith)
one_end (x ∷ l) (y ∷ m) r s f g e =
    let heads : x ≡ y = cc in
    let tails : l ++ 92 ∷ r ≡ m ++ 92 ∷ s = cc in
    let t = one_end l m r s f.1 g.1 tails in
    ((λ k. heads k ∷ t.0 k), t.1)

escapes_one : (text : List ℕ) (b c : ℕ) (r s : List ℕ) → Escape text b r → Escape text c s → (b ≡ c) × (r ≡ s)
escapes_one text b c r s x y =
    let inside : x.digits ++ 92 ∷ r ≡ y.digits ++ 92 ∷ s = (let both : 92 ∷ (x.digits ++ 92 ∷ r) ≡ 92 ∷ (y.digits ++ 92 ∷ s) = sym x.parts ∙ y.parts in cc) in
    let one = one_end x.digits y.digits r s x.code.each y.code.each inside in
    (sym x.code.value ∙ ap (number_from 0) one.0 ∙ y.code.value, one.1)

pub one_byte : (text : List ℕ) (b c : ℕ) (r s : List ℕ) → NameByte text b r → NameByte text c s → (b ≡ c) × (r ≡ s)
one_byte text b c r s x y =
    elim x [
      | inl p ↦ elim y [
        | inl q ↦ (let both : b ∷ r ≡ c ∷ s = sym p.0 ∙ q.0 in (cc, cc))
        | inr q ↦ absurd (p.1 (let both : b ∷ r ≡ 92 ∷ (q.digits ++ 92 ∷ s) = sym p.0 ∙ q.parts in cc))
      ]
      | inr p ↦ elim y [
        | inl q ↦ absurd (q.1 (let both : c ∷ s ≡ 92 ∷ (p.digits ++ 92 ∷ r) = sym q.0 ∙ p.parts in cc))
        | inr q ↦ escapes_one text b c r s p q
      ]
    ]

pub bytes_more : (text name mid : List ℕ) (b : ℕ) (after : List ℕ) → Many NameByte text name mid → NameByte mid b after → Many NameByte text (name ++ b ∷ []) after
bytes_more text [] mid b after r s = (after, subst (λ (t : List ℕ). NameByte t b after) (sym r) s, refl)
bytes_more text (c ∷ name) mid b after r s = (r.0, r.1, bytes_more r.0 name mid b after r.2 s)

-- a byte takes up some of the text
pub byte_short : (text : List ℕ) (b : ℕ) (rest : List ℕ) → NameByte text b rest → length rest < length text
byte_short text b rest x = elim x [ inl p ↦ omega (arith, ap length p.0) | inr p ↦ omega (arith, ap length p.parts, length-append p.digits (92 ∷ rest)) ]

-- a whole name's text goes on from where a part of it was read
follows : (text name other mid : List ℕ) → Many NameByte text name mid → IsNameText text other → (more : List ℕ) × (other ≡ name ++ more) × IsNameText mid more
follows text [] other mid r s = (other, refl, subst (λ (t : List ℕ). IsNameText t other) r s)
follows text (b ∷ name) [] mid r s = absurd (omega (arith, byte_short text b r.0 r.1, ap length s))
follows text (b ∷ name) (c ∷ other) mid r s =
    let same = one_byte text b c r.0 s.0 r.1 s.1 in
    let m = follows r.0 name other mid r.2 (subst (λ (t : List ℕ). IsNameText t other) (sym same.1) s.2) in
    (m.0, (λ k. sym same.0 k ∷ m.1 k), m.2)

append_nil : (xs : List ℕ) → xs ++ [] ≡ xs
append_nil [] = refl
append_nil (x ∷ xs) = λ k. x ∷ append_nil xs k

nothing_left : (mid more : List ℕ) → length mid ≡ 0 → IsNameText mid more → more ≡ []
nothing_left mid [] none r = refl
nothing_left mid (b ∷ more) none r = absurd (omega (arith, byte_short mid b r.0 r.1))

pub one_name : (text name other mid : List ℕ) → Many NameByte text name mid → length mid ≡ 0 → IsNameText text other → name ≡ other
one_name text name other mid r none s =
    let m = follows text name other mid r s in
    sym (m.1 ∙ ap (λ (l : List ℕ). name ++ l) (nothing_left mid m.0 none m.2) ∙ append_nil name)

stuck_here : (mid more : List ℕ) → (length mid ≡ 0 → ⊥) → ((b : ℕ) (rest : List ℕ) → NameByte mid b rest → ⊥) → IsNameText mid more → ⊥
stuck_here mid [] some stuck r = some (ap length r)
stuck_here mid (b ∷ more) some stuck r = stuck b r.0 r.1

pub no_name : (text name mid : List ℕ) → Many NameByte text name mid → (length mid ≡ 0 → ⊥) → ((b : ℕ) (rest : List ℕ) → NameByte mid b rest → ⊥) → (other : List ℕ) → IsNameText text other → ⊥
no_name text name mid r some stuck other s = let m = follows text name other mid r s in stuck_here mid m.0 some stuck m.2

some_byte : (mid more : List ℕ) → (length mid ≡ 0 → ⊥) → IsNameText mid more → 0 < length more
some_byte mid [] some r = absurd (some (ap length r))
some_byte mid (b ∷ more) some r = omega arith

-- where something is left after some bytes of a name, it has more of them
pub more_bytes : (text name mid : List ℕ) → Many NameByte text name mid → (length mid ≡ 0 → ⊥) → (other : List ℕ) → IsNameText text other → length name < length other
more_bytes text name mid r some other s =
    let m = follows text name other mid r s in
    omega (arith, some_byte mid m.0 some m.2, ap length m.1, length-append name m.0)

-- ---- where no byte stands

plain_not : (text inside : List ℕ) (b : ℕ) (rest : List ℕ) → text ≡ 92 ∷ inside → text ≡ b ∷ rest → b ≢ 92 → ⊥
plain_not text inside b rest begins is other = other (let both : b ∷ rest ≡ 92 ∷ inside = sym is ∙ begins in cc)

inside_is : (text inside digits rest : List ℕ) → text ≡ 92 ∷ inside → text ≡ 92 ∷ (digits ++ 92 ∷ rest) → inside ≡ digits ++ 92 ∷ rest
inside_is text inside digits rest begins is = let both : 92 ∷ inside ≡ 92 ∷ (digits ++ 92 ∷ rest) = sym begins ∙ is in cc

pub no_end : (text inside : List ℕ) → text ≡ 92 ∷ inside → IsFirstByte (is_byte 92) inside None → (b : ℕ) (rest : List ℕ) → NameByte text b rest → ⊥
no_end text inside begins nowhere b rest x =
    elim x [
      | inl p ↦ plain_not text inside b rest begins p.0 p.1
      | inr p ↦
          let e = inside_is text inside p.digits rest begins p.parts in
          nowhere (length p.digits) (omega arith) (omega (arith, ap length e, length-append p.digits (92 ∷ rest))) (eq-eqb _ _ (ap (λ (t : List ℕ). get_or t (length p.digits) 0) e ∙ get_or_at p.digits 92 rest 0 (length p.digits) refl))
    ]

code_end : (l m r s : List ℕ) → AllByRecursion (λ b. is_byte 92 b ≡ false) l → AllByRecursion IsDigit m → l ++ 92 ∷ r ≡ m ++ 92 ∷ s → l ≡ m
code_end [] [] r s f g e = refl
code_end [] (y ∷ m) r s f g e = let y-is : 92 ≡ y = cc in absurd (omega arith)
code_end (x ∷ l) [] r s f g e = let x-is : x ≡ 92 = cc in absurd (false≢true (sym f.0 ∙ eq-eqb x 92 x-is))
code_end (x ∷ l) (y ∷ m) r s f g e =
    let heads : x ≡ y = cc in
    let tails : l ++ 92 ∷ r ≡ m ++ 92 ∷ s = cc in
    let t = code_end l m r s f.1 g.1 tails in
    λ k. heads k ∷ t k

pub no_code : (text inside : List ℕ) (end : ℕ) → text ≡ 92 ∷ inside → IsFirstByte (is_byte 92) inside (Some end) → ((b : ℕ) → IsCode (take end inside) b → ⊥) → (b : ℕ) (rest : List ℕ) → NameByte text b rest → ⊥
no_code text inside end begins first none b rest x =
    elim x [
      | inl p ↦ plain_not text inside b rest begins p.0 p.1
      | inr p ↦
          let e = inside_is text inside p.digits rest begins p.parts in
          let c = cut_takes (is_byte 92) inside _ (cut_found (is_byte 92) inside end first) in
          let mark = byte_is (get_or inside end 0) 92 c.stops in
          let whole : take end inside ++ 92 ∷ drop (end + 1) inside ≡ p.digits ++ 92 ∷ rest = ap (λ (y : ℕ). take end inside ++ y ∷ drop (end + 1) inside) (sym mark) ∙ sym c.parts ∙ e in
          let same = code_end (take end inside) p.digits (drop (end + 1) inside) rest c.free p.code.each whole in
          none b (subst (λ (l : List ℕ). IsCode l b) (sym same) p.code)
    ]
