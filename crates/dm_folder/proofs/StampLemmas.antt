-- Two stamps that are equal by their parts are one.
use Rattle.std.proofs.Common.{◌≡◌, ◌∙◌, Bool, true, false, ◌&&◌, ◌==◌, refl, sym}
use Rattle.std.specs.Prelude.{not}
use Rattle.std.proofs.lemmas.Bool.{eqb-true, false≢true}
use Rattle.std.specs.Ordering.{int_eq}
use Rattle.std.proofs.lemmas.Bool.Decides.{Decides-int_eq}
use Rattle.dm_folder.specs.declared.stamp.Stamp.{Stamp}

first : (a b : Bool) → (a && b) ≡ true → a ≡ true
first true b e = refl
first false b e = absurd (false≢true e)

second : (a b : Bool) → (a && b) ≡ true → b ≡ true
second true b e = e
second false b e = absurd (false≢true e)

-- what is not unequal
not_false : (x r : Bool) → r ≡ not x → r ≡ false → x ≡ true
not_false true r p q = refl
not_false false r p q = absurd (false≢true (sym q ∙ p))

-- the parts of both, compared
abbrev pub parts : Stamp → Stamp → Bool
parts a b =
    a.device == b.device && (a.node == b.node && (a.mode == b.mode && (a.size == b.size && (int_eq a.written b.written && (int_eq a.written_nanos b.written_nanos && (int_eq a.changed b.changed && int_eq a.changed_nanos b.changed_nanos))))))

same_parts : (a b : Stamp) → parts a b ≡ true → a ≡ b
same_parts a b e =
    let e1 = second (a.device == b.device) _ e in
    let e2 = second (a.node == b.node) _ e1 in
    let e3 = second (a.mode == b.mode) _ e2 in
    let e4 = second (a.size == b.size) _ e3 in
    let e5 = second (int_eq a.written b.written) _ e4 in
    let e6 = second (int_eq a.written_nanos b.written_nanos) _ e5 in
    let device = eqb-true a.device b.device (first (a.device == b.device) _ e) in
    let node = eqb-true a.node b.node (first (a.node == b.node) _ e1) in
    let mode = eqb-true a.mode b.mode (first (a.mode == b.mode) _ e2) in
    let size = eqb-true a.size b.size (first (a.size == b.size) _ e3) in
    let written = (Decides-int_eq a.written b.written).0 (first (int_eq a.written b.written) _ e4) in
    let written_nanos = (Decides-int_eq a.written_nanos b.written_nanos).0 (first (int_eq a.written_nanos b.written_nanos) _ e5) in
    let changed = (Decides-int_eq a.changed b.changed).0 (first (int_eq a.changed b.changed) _ e6) in
    let changed_nanos = (Decides-int_eq a.changed_nanos b.changed_nanos).0 (second (int_eq a.changed b.changed) _ e6) in
    λ i. record {
      device = device i;
      node = node i;
      mode = mode i;
      size = size i;
      written = written i;
      written_nanos = written_nanos i;
      changed = changed i;
      changed_nanos = changed_nanos i;
    }

pub same_stamp : (a b : Stamp) (r : Bool) → r ≡ not (parts a b) → r ≡ false → a ≡ b
same_stamp a b r p q = same_parts a b (not_false (parts a b) r p q)
