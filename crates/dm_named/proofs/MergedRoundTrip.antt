-- Written named patches of items are read again.
use Rattle.std.proofs.Common.{◌≡◌, ℕ, List, [], ◌∷◌, ◌++◌, refl, sym, ap, subst, ◌∙◌, arith, inl, inr, append_assoc}
use Rattle.std.specs.Prelude.{codes}
use Rattle.std.specs.List.{flat_map}
use Rattle.dm_info.proofs.SpellingLemmas.{canonical_stands}
use Rattle.dm_info.specs.Spelling.{Stands, canonical}
use Rattle.dm_prim.specs.Commuting.{IsValidPrim}
use Rattle.dm_named.specs.Kinds.{IsWritable}
use Rattle.dm_named.specs.Words.{skipped, Begins}
use Rattle.dm_named.specs.Many.{Many}
use Rattle.dm_named.specs.Patches.{RunEnds}
use Rattle.dm_named.specs.Canonical.{deps_text}
use Rattle.dm_named.specs.Laws.{NoLineOf}
use Rattle.dm_named.specs.MergedPatches.{Item, Plain, Conflicted, MergedPatch, ItemText, NextItem, BodyOfItems, EachOfItem, EachOfItems, IsValidMerged, IsWritableMerged}
use Rattle.dm_named.specs.CanonicalMerged.{item_text, items_text, merged_text}
use Rattle.dm_named.specs.MergedLaws.{ReadsMerged}
use Rattle.dm_named.specs.declared.limits.Kinds.{Kinds}
use Rattle.dm_named.proofs.PatchRoundTrip.{front_same, prim_back, Lettered, lettered, skipped_prim, not_letter, letter_no_line, of_kind, deps_back, brace_line, joined_patch}
use Rattle.dm_named.proofs.ConflictorRoundTrip.{conflictor_back}

-- ---- items

pub record ReadsItem (kinds : Kinds) (text : List ℕ) (i : Item) (rest : List ℕ) : Type 0 where
  pub after : List ℕ
  pub read : ItemText kinds text i after
  pub left : skipped after ≡ skipped rest

item_back : (kinds : Kinds) (i : Item) (rest : List ℕ) → EachOfItem IsValidPrim i → EachOfItem (IsWritable kinds) i → NoLineOf kinds rest → ReadsItem kinds (item_text i ++ rest) i rest
item_back kinds (Plain p) rest valid can none = let one = prim_back kinds p rest valid can none in record { after = one.after; read = (one.read, of_kind kinds p can); left = one.left }
item_back kinds (Conflicted c) rest valid can none = let one = conflictor_back kinds c rest valid can none in record { after = one.after; read = one.read; left = one.left }

item_lettered : (i : Item) (rest : List ℕ) → Lettered (item_text i ++ rest)
item_lettered (Plain p) rest = lettered p rest
item_lettered (Conflicted c) rest = record { first = 99; more = _; parts = refl; low = omega arith; high = omega arith }

skipped_item : (i : Item) (rest : List ℕ) → skipped (item_text i ++ rest) ≡ item_text i ++ rest
skipped_item (Plain p) rest = skipped_prim p rest
skipped_item (Conflicted c) rest = refl

no_line_items : (kinds : Kinds) (is : List Item) (rest : List ℕ) → NoLineOf kinds rest → NoLineOf kinds (flat_map item_text is ++ rest)
no_line_items kinds [] rest none = none
no_line_items kinds (i ∷ is) rest none =
    letter_no_line kinds ((item_text i ++ flat_map item_text is) ++ rest) (subst Lettered (sym (append_assoc (item_text i) (flat_map item_text is) rest)) (item_lettered i (flat_map item_text is ++ rest)))

pub record ReadsItems (kinds : Kinds) (text : List ℕ) (is : List Item) (rest : List ℕ) : Type 0 where
  pub mid : List ℕ
  pub read : Many (NextItem kinds) text is mid
  pub left : skipped mid ≡ skipped rest

-- white space before items doesn't matter
items_skip : (kinds : Kinds) (t u : List ℕ) (is : List Item) (rest : List ℕ) → skipped t ≡ skipped u → ReadsItems kinds t is rest → ReadsItems kinds u is rest
items_skip kinds t u [] rest e r = record { mid = u; read = refl; left = sym e ∙ (ap skipped r.read ∙ r.left) }
items_skip kinds t u (i ∷ is) rest e r = record { mid = r.mid; read = (r.read.0, subst (λ (s : List ℕ). ItemText kinds s i r.read.0) e r.read.1, r.read.2); left = r.left }

items_back : (kinds : Kinds) (is : List Item) (rest : List ℕ) → EachOfItems IsValidPrim is → EachOfItems (IsWritable kinds) is → NoLineOf kinds rest → ReadsItems kinds (flat_map item_text is ++ rest) is rest
items_back kinds [] rest valid can none = record { mid = rest; read = refl; left = refl }
items_back kinds (i ∷ is) rest valid can none =
    let tail = flat_map item_text is ++ rest in
    let one = item_back kinds i tail valid.0 can.0 (no_line_items kinds is rest none) in
    let more = items_skip kinds tail one.after is rest (sym one.left) (items_back kinds is rest valid.1 can.1 none) in
    let whole : item_text i ++ tail ≡ (item_text i ++ flat_map item_text is) ++ rest = sym (append_assoc (item_text i) (flat_map item_text is) rest) in
    let first = subst (λ (t : List ℕ). ItemText kinds t i one.after) (sym (skipped_item i tail)) one.read in
    record { mid = more.mid; read = (one.after, subst (λ (t : List ℕ). ItemText kinds (skipped t) i one.after) whole first, more.read); left = more.left }

-- ---- bodies and patches

pub record ReadsBodyOfItems (kinds : Kinds) (text : List ℕ) (is : List Item) (rest : List ℕ) : Type 0 where
  pub after : List ℕ
  pub read : BodyOfItems kinds text is after
  pub left : skipped after ≡ skipped rest

in_braces_back : (kinds : Kinds) (t : List ℕ) (is : List Item) (rest : List ℕ) → EachOfItems IsValidPrim is → EachOfItems (IsWritable kinds) is → skipped t ≡ skipped ((codes "{\n" ++ (flat_map item_text is ++ codes "}\n")) ++ rest) → ReadsBodyOfItems kinds t is rest
in_braces_back kinds t is rest valid can e =
    let inner = flat_map item_text is in
    let tail = 125 ∷ 10 ∷ rest in
    let r = items_skip kinds (inner ++ tail) (10 ∷ (inner ++ tail)) is tail refl (items_back kinds is tail valid can (brace_line kinds (10 ∷ rest))) in
    let whole : (inner ++ codes "}\n") ++ rest ≡ inner ++ tail = append_assoc inner (codes "}\n") rest in
    record {
      after = 10 ∷ rest;
      read = inl (record { inside = 10 ∷ (inner ++ tail); mid = r.mid; opens = e ∙ ap (λ (x : List ℕ). 123 ∷ 10 ∷ x) whole; read = r.read; closes = r.left });
      left = refl;
    }

body_back : (kinds : Kinds) (t : List ℕ) (is : List Item) (rest : List ℕ) → EachOfItems IsValidPrim is → EachOfItems (IsWritable kinds) is → NoLineOf kinds rest → RunEnds (skipped rest) → skipped t ≡ skipped (items_text is ++ rest) → ReadsBodyOfItems kinds t is rest
body_back kinds t [] rest valid can none ends e = in_braces_back kinds t [] rest valid can e
body_back kinds t (i ∷ j ∷ is) rest valid can none ends e = in_braces_back kinds t (i ∷ j ∷ is) rest valid can e
body_back kinds t (i ∷ []) rest valid can none ends e =
    let one = item_back kinds i rest valid.0 can.0 none in
    let same : item_text i ++ rest ≡ skipped t = sym (skipped_item i rest) ∙ sym e in
    record {
      after = one.after;
      read = inr (record {
        bare = not_letter 123 (skipped t) (subst Lettered same (item_lettered i rest)) (inr (omega arith));
        read = (one.after, subst (λ (s : List ℕ). ItemText kinds s i one.after) same one.read, refl);
        ends = subst RunEnds (sym one.left) ends;
      });
      left = one.left;
    }

no_angle : (is : List Item) (rest : List ℕ) → Begins 60 (skipped (items_text is ++ rest)) → ⊥
no_angle [] rest o = omega (arith, front_same 123 60 _ o.0 o.1)
no_angle (i ∷ j ∷ is) rest o = omega (arith, front_same 123 60 _ o.0 o.1)
no_angle (i ∷ []) rest o = not_letter 60 (skipped (item_text i ++ rest)) (subst Lettered (sym (skipped_item i rest)) (item_lettered i rest)) (inl (omega arith)) o

pub merged_back : (kinds : Kinds) (p : MergedPatch) (rest : List ℕ) → IsValidMerged p → IsWritableMerged kinds p → NoLineOf kinds rest → RunEnds (skipped rest) → ReadsMerged kinds (merged_text p ++ rest) p rest
merged_back kinds p rest valid can none ends =
    let tail = items_text p.body ++ rest in
    let info = canonical_stands p.info (deps_text p.deps ++ tail) valid.info in
    let deps = deps_back p.deps tail valid.deps (no_angle p.body rest) in
    let b = body_back kinds deps.after p.body rest valid.body can none ends deps.left in
    let whole : canonical p.info ++ (deps_text p.deps ++ tail) ≡ (canonical p.info ++ (deps_text p.deps ++ items_text p.body)) ++ rest = joined_patch (canonical p.info) (deps_text p.deps) (items_text p.body) rest in
    record { after = b.after; read = record { after = 32 ∷ (deps_text p.deps ++ tail); start = deps.after; info = subst (λ (t : List ℕ). Stands t p.info (32 ∷ (deps_text p.deps ++ tail))) whole info; deps = deps.read; body = b.read }; left = b.left }
