-- Comparisons tell whether two patch infos are the same.
use Rattle.std.proofs.Common.{◌≡◌, Bool, true, refl, sym, ap, ◌∙◌}
use Rattle.std.specs.Prelude.{IsTrue, ◌&&◌, ◌↔◌}
use Rattle.std.specs.Ordering.{is_eq}
use Rattle.std.specs.declared.cmp.Ordering.{Ordering}
use Rattle.std.specs.declared.cmp.Ordering.TheVariants.{Less, Equal, Greater}
use Rattle.std.specs.Cmp.Lexicographic.{pointwise}
use Rattle.dm_info.specs.PatchInfo.{PatchInfo}
use Rattle.dm_info.specs.Compared.{text_eq, info_eq, info_cmp, ComparesAllParts}
use Rattle.dm_info.specs.ComparedLaws.{info_same, info_ties, same_info}

tells : (x y : PatchInfo) (b : Bool) → b ≡ info_eq x y → IsTrue b ↔ (x ≡ y)
tells x y b e = ((λ h. info_same x y (sym e ∙ h)), (λ same. e ∙ same_info x y same))

pub joined : (x y : PatchInfo) (a b c d : Bool) → a ≡ text_eq x.name y.name → b ≡ text_eq x.author y.author → c ≡ text_eq x.date y.date → d ≡ pointwise text_eq x.log y.log → IsTrue (a && b && c && d) ↔ (x ≡ y)
joined x y a b c d e₁ e₂ e₃ e₄ = tells x y (a && b && c && d) (λ i. e₁ i && e₂ i && e₃ i && e₄ i)

eq_tied : (o : Ordering) → is_eq o ≡ true → o ≡ Equal
eq_tied Less e = absurd cc
eq_tied Equal e = refl
eq_tied Greater e = absurd cc

rank_tells : (x y : PatchInfo) → (info_cmp x y ≡ Equal) ↔ (x ≡ y)
rank_tells x y = (
  (λ tied. info_same x y (info_ties x y ∙ ap is_eq tied)),
  λ same. eq_tied (info_cmp x y) (sym (info_ties x y) ∙ same_info x y same),
)

pub compares_all : ComparesAllParts
compares_all x y = (tells x y (info_eq x y) refl, rank_tells x y)
