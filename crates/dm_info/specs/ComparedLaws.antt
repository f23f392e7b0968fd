-- The laws of the comparison of patch infos: `==` says that all four parts are the same.
use Rattle.std.specs.Prelude.{◌≡◌, true, ◌&&◌, refl}
use Rattle.std.proofs.Common.{ap, subst}
use Rattle.std.specs.Ordering.{eq_by_cmp}
use Rattle.std.specs.Cmp.{both_tied, first_so, second_so}
use Rattle.std.specs.Cmp.Lexicographic.{lists_ties, texts_ties}
use lib.Pointwise.{bytes_decides, pointwise_decides}
use Rattle.dm_info.specs.PatchInfo.{PatchInfo}
use Rattle.dm_info.specs.Compared.{text_cmp, info_eq, info_cmp, info_writes}

pub info_ties : (x y : PatchInfo) → info_eq x y ≡ eq_by_cmp info_cmp x y
info_ties x y = both_tied _ _ _ _ (both_tied _ _ _ _ (both_tied _ _ _ _ (texts_ties x.name y.name) (texts_ties x.author y.author)) (texts_ties x.date y.date)) (lists_ties text_cmp texts_ties x.log y.log)

-- `==` returns true only at the same parts
pub info_same : (x y : PatchInfo) → info_eq x y ≡ true → x ≡ y
info_same x y h =
    let three = first_so _ _ h in
    let two = first_so _ _ three in
    let name : x.name ≡ y.name = (bytes_decides x.name y.name).0 (first_so _ _ two) in
    let author : x.author ≡ y.author = (bytes_decides x.author y.author).0 (second_so _ _ two) in
    let date : x.date ≡ y.date = (bytes_decides x.date y.date).0 (second_so _ _ three) in
    let log : x.log ≡ y.log = (pointwise_decides bytes_decides x.log y.log).0 (second_so _ _ h) in
    λ i. record { name = name i; author = author i; date = date i; log = log i }

-- and at the same parts it does
pub same_info : (x y : PatchInfo) → x ≡ y → info_eq x y ≡ true
same_info x y e =
    let own : info_eq x x ≡ true =
    λ i. (bytes_decides x.name x.name).1 refl i && (bytes_decides x.author x.author).1 refl i && (bytes_decides x.date x.date).1 refl i && (pointwise_decides bytes_decides x.log x.log).1 refl i in
    subst (λ (z : PatchInfo). info_eq x z ≡ true) e own

pub info_alike : (x y : PatchInfo) → info_eq x y ≡ true → info_writes x ≡ info_writes y
info_alike x y h = ap info_writes (info_same x y h)
