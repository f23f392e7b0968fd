-- A beginning has the form of a base.
use Rattle.std.proofs.Common.{◌≡◌, ◌≢◌, ◌↔◌, ◌⊎◌, inl, inr, ◌≤◌, ℕ, zero, suc, take, List, [], ◌∷◌, ◌++◌, length, refl, sym, ap, ap₂, subst, ◌∙◌, arith, append-nil}
use Rattle.std.proofs.lemmas.List.{length-append, length-map, length-take-le, same_from_push, take_all}
use Rattle.dm_info.specs.PatchInfo.{PatchInfo}
use Rattle.dm_tree.specs.Paths.{Path}
use Rattle.dm_tree.specs.Trees.{Dir, Entry, File, Tree}
use Rattle.dm_prim.specs.Primitives.{Prim}
use Rattle.dm_named.specs.Patches.{Patch}
use Rattle.dm_bundle.specs.Patches.{infos_of}
use Rattle.dm_repo.proofs.Members.{infos_of-append}
use Rattle.dm_begin.specs.Bases.{BeginsWith, IsBase, IsLast, IsTag, MayHaveBase}
use Rattle.dm_begin.specs.BaseLaws.{BaseStays, BeginningIsBase}
use Rattle.dm_begin.specs.Beginnings.{IsBeginning, IsPacked, prims_in}
use Rattle.dm_begin.specs.Making.{making_all, rows}
use Rattle.dm_begin.proofs.BaseLemmas.{filled_more}

none_or : (ps : List Prim) → (ps ≡ []) ⊎ (ps ≢ [])
none_or [] = inl refl
none_or (p ∷ ps) = inr (λ e. absurd (cc))

-- where the last of packed patches has no primitive, none has
none_in : (xs : List Patch) (x : Patch) → IsPacked (xs ++ x ∷ []) → x.prims ≡ [] → prims_in (xs ++ x ∷ []) ≡ []
none_in [] x p e = append-nil x.prims ∙ e
none_in (y ∷ ys) x p e = elim (none_or y.prims) [
  | inl none ↦ ap₂ (λ a b. a ++ b) none (none_in ys x p.1 e)
  | inr some ↦ let f = ((filled_more ys x).0 (p.0 some)).1 in let z : length x.prims ≡ 0 = ap length e in absurd (omega (arith, f, z))
]

-- what makes a tree that has an entry is something
makes_some : (rs : List (Path × Entry)) → rs ≢ [] → making_all rs ≢ []
makes_some [] some e = some refl
makes_some ((p, Dir) ∷ rs) some e = absurd (cc)
makes_some ((p, File ls) ∷ rs) some e = absurd (cc)

ends : (xs : List Patch) → (xs ≡ []) ⊎ ((front : List Patch) × (x : Patch) × (xs ≡ front ++ x ∷ []))
ends [] = inl refl
ends (y ∷ ys) = inr (elim (ends ys) [
  | inl e ↦ ([], y, ap (λ l. y ∷ l) e)
  | inr r ↦ (y ∷ r.0, r.1, ap (λ l. y ∷ l) r.2)
])

module _ (names : List PatchInfo) (tree : Tree) (patches : List Patch) (tag : PatchInfo) (b : IsBeginning names tree patches) (last : IsLast names tag) (is_tag : IsTag tag) (some : rows tree ≢ []) where
  same_length : length names ≡ length patches
  same_length = ap length (sym b.named) ∙ length-map patches (λ (x : Patch). x.info)

  of_last : (front : List Patch) (x : Patch) → patches ≡ front ++ x ∷ [] → IsBase patches
  of_last front x e =
      let i : infos_of front ++ x.info ∷ [] ≡ last.0 ++ tag ∷ [] = sym (infos_of-append front (x ∷ [])) ∙ ap infos_of (sym e) ∙ b.named ∙ last.1 in
      record {
        chained = b.chained;
        packed = b.packed;
        tag = record {
          before = front;
          last = x;
          is_last = e;
          is_tag = record {
            is_tag = subst IsTag (sym (same_from_push (infos_of front) last.0 x.info tag i).1) is_tag;
            some = λ none. makes_some (rows tree) some (sym b.makes ∙ ap prims_in e ∙ none_in front x (subst IsPacked e b.packed) none);
          };
        };
      }

  begun : IsBase patches
  begun = by (ends patches)
    where
      nothing : (before : List PatchInfo) → before ++ tag ∷ [] ≡ [] → ⊥
      nothing [] e = absurd (cc)
      nothing (i ∷ is) e = absurd (cc)

      by : (patches ≡ []) ⊎ ((front : List Patch) × (x : Patch) × (patches ≡ front ++ x ∷ [])) → IsBase patches
      by (inl e) = absurd (nothing last.0 (sym last.1 ∙ sym b.named ∙ ap infos_of e))
      by (inr (front, x, e)) = of_last front x e

  begins : BeginsWith patches (length names)
  begins = record {
    within = let n = same_length in omega (arith, n);
    is_base = inr (subst IsBase (sym (take_all (length names) patches (let n = same_length in omega (arith, n)))) begun);
    greatest = λ m l c. let n = same_length in omega (arith, n, l);
  }

pub beginning_is_base : BeginningIsBase
beginning_is_base names tree patches tag b last is_tag some = begins names tree patches tag b last is_tag some

-- as many of more patches
take_of_more : (xs ys : List Patch) (n : ℕ) → n ≤ length xs → take n (xs ++ ys) ≡ take n xs
take_of_more xs ys zero l = refl
take_of_more [] ys (suc n) l = absurd (omega (arith, l))
take_of_more (x ∷ xs) ys (suc n) l = ap (λ z. x ∷ z) (take_of_more xs ys n (omega (arith, l)))

pub base_stays : BaseStays
base_stays repo more base b =
    let e = take_of_more repo more base b.within in (
      record {
        within = let l = b.within in let k = length-append repo more in omega (arith, l, k);
        is_base = elim b.is_base [ inl z ↦ inl z | inr c ↦ inr (subst IsBase (sym e) c) ];
      },
      e,
    )

-- whether the form goes as far as that
pub may_be : (repo : List Patch) (base n : ℕ) → (base ≡ 0 → ⊥) → base ≤ length repo → BeginsWith (take base repo) n → (n ≡ base) ↔ MayHaveBase repo base
may_be repo base n some l b =
    let t : take base (take base repo) ≡ take base repo = take_all base (take base repo) (let f = length-take-le base repo l in omega (arith, f)) in (
      λ e. record { within = l; is_base = elim b.is_base [ inl z ↦ absurd (some (sym e ∙ z)) | inr c ↦ inr (rw t at (rw e at c)) ] },
      λ m. elim m.is_base [
        | inl z ↦ absurd (some z)
        | inr c ↦ let f = length-take-le base repo l in let g = b.greatest base (omega (arith, f)) (rw t c) in let w = b.within in omega (arith, f, g, w)
      ],
    )

pub no_base : (repo : List Patch) → MayHaveBase repo 0
no_base repo = record { within = omega arith; is_base = inl refl }

pub form_may : (repo : List Patch) (n : ℕ) → BeginsWith repo n → MayHaveBase repo n
form_may repo n b = record { within = b.within; is_base = b.is_base }
