-- Named patches: the laws of their lists of primitives, one by one.
use Rattle.std.proofs.Common.{◌≡◌, sym, ap, ◌∙◌}
use Rattle.dm_prim.specs.Primitives.{inv_all}
use Rattle.dm_prim.specs.Primitives.{LawfulMap}
use Rattle.dm_named.specs.Patches.{Patch}
use Rattle.dm_named.specs.Commuting.{Stays, NamedCommutes}
use Rattle.dm_repo.specs.Squares.{Merges, Placed}
use Rattle.dm_repo.specs.Folds.{PatchLeads}
use Rattle.dm_prim.proofs.LawProofs.{lists_end_alike, lists_back, list_inverses_lead_back}
use Rattle.dm_repo.proofs.Inverses.{inv_all-inv_all}
use Rattle.dm_prim.proofs.Single.{lists_one}

pub same_named : (x y : Patch) → x.info ≡ y.info → x.deps ≡ y.deps → x.prims ≡ y.prims → x ≡ y
same_named x y e f g = λ i. record { info = e i; deps = f i; prims = g i }

pub same_placed : (x y : Placed) → x.0 ≡ y.0 → x.1 ≡ y.1 → x ≡ y
same_placed x y e f = λ i. (e i, f i)

pub stays_back : {x x' : Patch} → Stays x x' → Stays x' x
stays_back s = record { info = sym s.info; deps = sym s.deps }

pub named_back : (x y y' x' : Patch) → NamedCommutes x y y' x' → NamedCommutes y' x' x y
named_back x y y' x' c = record {
  x_named = λ h. c.y_named (rw (c.y_stays.info, c.x_stays.deps) at h);
  y_named = λ h. c.x_named (rw (c.x_stays.info, c.y_stays.deps) at h);
  x_stays = stays_back c.y_stays;
  y_stays = stays_back c.x_stays;
  prims = lists_back x.prims y.prims y'.prims x'.prims c.prims;
}

pub named_runs : (x y y' x' : Patch) → NamedCommutes x y y' x' → (s u z : LawfulMap) → PatchLeads x s u → PatchLeads y u z → (m : LawfulMap) × PatchLeads y' s m × PatchLeads x' m z
named_runs x y y' x' c s u z h k = lists_end_alike x.prims y.prims y'.prims x'.prims c.prims s u z h k

pub named_one : (x y y1 x1 y2 x2 : Patch) → NamedCommutes x y y1 x1 → NamedCommutes x y y2 x2 → (y1 ≡ y2) × (x1 ≡ x2)
named_one x y y1 x1 y2 x2 c d =
    let e = lists_one c.prims d.prims in (
      same_named y1 y2 (c.y_stays.info ∙ sym d.y_stays.info) (c.y_stays.deps ∙ sym d.y_stays.deps) e.0,
      same_named x1 x2 (c.x_stays.info ∙ sym d.x_stays.info) (c.x_stays.deps ∙ sym d.x_stays.deps) e.1,
    )

pub merges_one : (r n n1 r1 n2 r2 : Patch) → Merges r n n1 r1 → Merges r n n2 r2 → (n1 ≡ n2) × (r1 ≡ r2)
merges_one r n n1 r1 n2 r2 c d =
    let e = lists_one c.prims d.prims in
    let f : r1.prims ≡ r2.prims = sym (inv_all-inv_all r1.prims) ∙ ap inv_all e.1 ∙ inv_all-inv_all r2.prims in (
      same_named n1 n2 (c.n_stays.info ∙ sym d.n_stays.info) (c.n_stays.deps ∙ sym d.n_stays.deps) e.0,
      same_named r1 r2 (c.r_stays.info ∙ sym d.r_stays.info) (c.r_stays.deps ∙ sym d.r_stays.deps) f,
    )

pub merges_runs : (r n n' r' : Patch) → Merges r n n' r' → (s b a : LawfulMap) → PatchLeads r s b → PatchLeads n s a → (z : LawfulMap) × PatchLeads n' b z × PatchLeads r' a z
merges_runs r n n' r' m s b a h k =
    let e = lists_end_alike (inv_all r.prims) n.prims n'.prims (inv_all r'.prims) m.prims b s a ((list_inverses_lead_back r.prims s b).0 h) k in
    (e.0, e.1, (list_inverses_lead_back r'.prims a e.0).1 e.2)
