-- Written conflictors are read again.
use Rattle.std.proofs.Common.{◌≡◌, ℕ, List, [], ◌∷◌, ◌++◌, refl, sym, ap, subst, ◌∙◌, arith, inl, inr, append_assoc}
use Rattle.std.specs.Prelude.{codes}
use Rattle.std.specs.List.{AllByRecursion, flat_map}
use Rattle.dm_prim.specs.Primitives.{Prim}
use Rattle.dm_prim.specs.Commuting.{IsValidPrim}
use Rattle.dm_named.specs.Kinds.{IsWritable, AreWritable}
use Rattle.dm_named.specs.Words.{skipped, Begins}
use Rattle.dm_named.specs.Patches.{PrimText}
use Rattle.dm_named.specs.Canonical.{prim_text}
use Rattle.dm_named.specs.Laws.{NoLine, NoLineOf}
use Rattle.dm_named.specs.Many.{Many}
use Rattle.dm_named.specs.Conflictors.{Original, Conflictor, OriginalText, BeginsTwice, Partners, InBrackets, EachOfOriginal, IsValidConflictor, IsWritableConflictor}
use Rattle.dm_named.specs.CanonicalConflictors.{original_text, partners_text, undone_text, conflictor_text}
use Rattle.dm_named.specs.ConflictorLaws.{ReadsConflictor}
use Rattle.dm_named.specs.declared.limits.Kinds.{Kinds}
use Rattle.dm_named.specs.declared.limits.Kinds.TheVariants as these
use Rattle.dm_named.proofs.PatchRoundTrip.{front_same, prim_back, prims_back, prims_skip, skipped_prim, no_line_prims, of_kind}

-- a mark begins no line of a primitive
other_byte : (b c : ℕ) (rest : List ℕ) → (c ≡ b → ⊥) → Begins b (c ∷ rest) → ⊥
other_byte b c rest other o = other (front_same c b rest o.0 o.1)

mark_hunk : (c : ℕ) (rest : List ℕ) → (c ≡ 32 → ⊥) → (c ≡ 45 → ⊥) → (c ≡ 43 → ⊥) → NoLine (c ∷ rest)
mark_hunk c rest space old new = record { space = other_byte 32 c rest space; old = other_byte 45 c rest old; new = other_byte 43 c rest new }

mark_line : (kinds : Kinds) (c : ℕ) (rest : List ℕ) → (c ≡ 32 → ⊥) → (c ≡ 45 → ⊥) → (c ≡ 43 → ⊥) → (c ≡ 42 → ⊥) → NoLineOf kinds (c ∷ rest)
mark_line these.Six c rest space old new star = mark_hunk c rest space old new
mark_line these.All c rest space old new star = (mark_hunk c rest space old new, other_byte 42 c rest star)

colon_line : (kinds : Kinds) (rest : List ℕ) → NoLineOf kinds (58 ∷ rest)
colon_line kinds rest = mark_line kinds 58 rest (λ e. omega (arith, e)) (λ e. omega (arith, e)) (λ e. omega (arith, e)) (λ e. omega (arith, e))

bracket_line : (kinds : Kinds) (rest : List ℕ) → NoLineOf kinds (93 ∷ rest)
bracket_line kinds rest = mark_line kinds 93 rest (λ e. omega (arith, e)) (λ e. omega (arith, e)) (λ e. omega (arith, e)) (λ e. omega (arith, e))

brace_line : (kinds : Kinds) (rest : List ℕ) → NoLineOf kinds (125 ∷ rest)
brace_line kinds rest = mark_line kinds 125 rest (λ e. omega (arith, e)) (λ e. omega (arith, e)) (λ e. omega (arith, e)) (λ e. omega (arith, e))

-- ---- originals

pub record ReadsOriginal (kinds : Kinds) (text : List ℕ) (o : Original) (rest : List ℕ) : Type 0 where
  pub after : List ℕ
  pub read : OriginalText kinds text o after
  pub left : skipped after ≡ skipped rest

-- its text before this, with its context in front
whole_original : (o : Original) (rest : List ℕ) → original_text o ++ rest ≡ flat_map prim_text o.context ++ 58 ∷ 10 ∷ (prim_text o.prim ++ rest)
whole_original o rest = append_assoc (flat_map prim_text o.context) (58 ∷ 10 ∷ prim_text o.prim) rest

original_back : (kinds : Kinds) (t : List ℕ) (o : Original) (rest : List ℕ) → EachOfOriginal IsValidPrim o → EachOfOriginal (IsWritable kinds) o → NoLineOf kinds rest → skipped t ≡ skipped (original_text o ++ rest) → ReadsOriginal kinds t o rest
original_back kinds t o rest valid can none e =
    let last = 10 ∷ (prim_text o.prim ++ rest) in
    let front = flat_map prim_text o.context ++ 58 ∷ last in
    let same : skipped front ≡ skipped t = sym (e ∙ ap skipped (whole_original o rest)) in
    let r = prims_skip kinds front t o.context (58 ∷ last) same (prims_back kinds o.context (58 ∷ last) valid.context can.context (colon_line kinds last)) in
    let one = prim_back kinds o.prim rest valid.prim can.prim none in
    let first = subst (λ (x : List ℕ). PrimText x o.prim one.after) (sym (skipped_prim o.prim rest)) one.read in
    record {
      after = one.after;
      read = record { mid = r.mid; last = last; context = r.read; colon = r.left; prim = record { read = first; kind = of_kind kinds o.prim can.prim } };
      left = one.left;
    }

-- originals begin no line of a primitive
no_line_originals : (kinds : Kinds) (os : List Original) (rest : List ℕ) → NoLineOf kinds rest → NoLineOf kinds (flat_map original_text os ++ rest)
no_line_originals kinds [] rest none = none
no_line_originals kinds (o ∷ os) rest none =
    let tail = flat_map original_text os ++ rest in
    let last = 10 ∷ (prim_text o.prim ++ tail) in
    subst (NoLineOf kinds) (sym (append_assoc (original_text o) (flat_map original_text os) rest ∙ whole_original o tail)) (no_line_prims kinds o.context (58 ∷ last) (colon_line kinds last))

pub record ReadsOriginals (kinds : Kinds) (text : List ℕ) (os : List Original) (rest : List ℕ) : Type 0 where
  pub mid : List ℕ
  pub read : Many (OriginalText kinds) text os mid
  pub left : skipped mid ≡ skipped rest

originals_back : (kinds : Kinds) (t : List ℕ) (os : List Original) (rest : List ℕ) → AllByRecursion (EachOfOriginal IsValidPrim) os → AllByRecursion (EachOfOriginal (IsWritable kinds)) os → NoLineOf kinds rest
    → skipped t ≡ skipped (flat_map original_text os ++ rest) → ReadsOriginals kinds t os rest
originals_back kinds t [] rest valid can none e = record { mid = t; read = refl; left = e }
originals_back kinds t (o ∷ os) rest valid can none e =
    let tail = flat_map original_text os ++ rest in
    let one = original_back kinds t o tail valid.0 can.0 (no_line_originals kinds os rest none) (e ∙ ap skipped (append_assoc (original_text o) (flat_map original_text os) rest)) in
    let more = originals_back kinds one.after os rest valid.1 can.1 none one.left in
    record { mid = more.mid; read = (one.after, one.read, more.read); left = more.left }

-- ---- partners

pub record ReadsPartners (kinds : Kinds) (text : List ℕ) (os : List Original) (rest : List ℕ) : Type 0 where
  pub after : List ℕ
  pub read : Partners kinds text os after
  pub left : skipped after ≡ skipped rest

partners_back : (kinds : Kinds) (t : List ℕ) (os : List Original) (rest : List ℕ) → AllByRecursion (EachOfOriginal IsValidPrim) os → AllByRecursion (EachOfOriginal (IsWritable kinds)) os → (BeginsTwice 123 (skipped rest) → ⊥)
    → skipped t ≡ skipped (partners_text os ++ rest) → ReadsPartners kinds t os rest
partners_back kinds t [] rest valid can none e = record { after = t; read = inr (subst (λ (x : List ℕ). BeginsTwice 123 x → ⊥) (sym e) none, refl, refl); left = e }
partners_back kinds t (o ∷ os) rest valid can none e =
    let inner = flat_map original_text (o ∷ os) in
    let tail = 125 ∷ 125 ∷ 32 ∷ rest in
    let r = originals_back kinds (10 ∷ (inner ++ tail)) (o ∷ os) tail valid can (brace_line kinds (125 ∷ 32 ∷ rest)) refl in
    let whole : (inner ++ codes "}} ") ++ rest ≡ inner ++ tail = append_assoc inner (codes "}} ") rest in
    record {
      after = 32 ∷ rest;
      read = inl (record { inside = 10 ∷ (inner ++ tail); mid = r.mid; opens = e ∙ ap (λ (x : List ℕ). 123 ∷ 123 ∷ 10 ∷ x) whole; read = r.read; closes = r.left });
      left = refl;
    }

-- ---- what is undone

pub record ReadsBrackets (kinds : Kinds) (text : List ℕ) (ps : List Prim) (rest : List ℕ) : Type 0 where
  pub after : List ℕ
  pub read : InBrackets kinds text ps after
  pub left : skipped after ≡ skipped rest

undone_back : (kinds : Kinds) (t : List ℕ) (ps : List Prim) (rest : List ℕ) → AllByRecursion IsValidPrim ps → AreWritable kinds ps → skipped t ≡ skipped (undone_text ps ++ rest) → ReadsBrackets kinds t ps rest
undone_back kinds t [] rest valid can e = record { after = 10 ∷ rest; read = record { inside = 93 ∷ 10 ∷ rest; mid = 93 ∷ 10 ∷ rest; opens = e; read = refl; closes = refl }; left = refl }
undone_back kinds t (p ∷ ps) rest valid can e =
    let inner = flat_map prim_text (p ∷ ps) in
    let tail = 93 ∷ 10 ∷ rest in
    let r = prims_skip kinds (inner ++ tail) (10 ∷ (inner ++ tail)) (p ∷ ps) tail refl (prims_back kinds (p ∷ ps) tail valid can (bracket_line kinds (10 ∷ rest))) in
    let whole : (inner ++ codes "]\n") ++ rest ≡ inner ++ tail = append_assoc inner (codes "]\n") rest in
    record {
      after = 10 ∷ rest;
      read = record { inside = 10 ∷ (inner ++ tail); mid = r.mid; opens = e ∙ ap (λ (x : List ℕ). 91 ∷ 10 ∷ x) whole; read = r.read; closes = r.left };
      left = refl;
    }

no_braces : (ps : List Prim) (rest : List ℕ) → BeginsTwice 123 (skipped (undone_text ps ++ rest)) → ⊥
no_braces [] rest o = omega (arith, front_same 91 123 _ _ o.1)
no_braces (p ∷ ps) rest o = omega (arith, front_same 91 123 _ _ o.1)

-- ---- conflictors

joined : (a b c d : List ℕ) → (a ++ (b ++ c)) ++ d ≡ a ++ (b ++ (c ++ d))
joined a b c d = simp append_assoc refl

pub conflictor_back : (kinds : Kinds) (c : Conflictor) (rest : List ℕ) → IsValidConflictor c → IsWritableConflictor kinds c → NoLineOf kinds rest → ReadsConflictor kinds (conflictor_text c ++ rest) c rest
conflictor_back kinds c rest valid can none =
    let own_text = original_text c.own ++ rest in
    let list_text = undone_text c.undone ++ own_text in
    let after = 32 ∷ (partners_text c.partners ++ list_text) in
    let p = partners_back kinds after c.partners list_text valid.partners can.partners (no_braces c.undone own_text) refl in
    let u = undone_back kinds p.after c.undone own_text valid.undone can.undone p.left in
    let o = original_back kinds u.after c.own rest valid.own can.own none u.left in
    let parts : conflictor_text c ++ rest ≡ codes "conflictor" ++ after = ap (λ (x : List ℕ). codes "conflictor " ++ x) (joined (partners_text c.partners) (undone_text c.undone) (original_text c.own) rest) in
    record {
      after = o.after;
      read = record {
        after = after;
        list = p.after;
        last = u.after;
        named = record { parts = parts; solid = (refl, (refl, (refl, (refl, (refl, (refl, (refl, (refl, (refl, (refl, tt)))))))))); ends = refl };
        partners = p.read;
        undone = u.read;
        own = o.read;
      };
      left = o.left;
    }
