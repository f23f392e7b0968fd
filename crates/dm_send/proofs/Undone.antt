-- A patch that undoes others: the trees, and the bundle.
use Rattle.std.proofs.Common.{◌≡◌, ◌↔◌, ℕ, List, [], ◌∷◌, ◌++◌, reverse, inl, inr, refl, sym, ap, ◌∙◌}
use Rattle.std.specs.List.{Contains}
use Rattle.dm_info.specs.PatchInfo.{PatchInfo}
use Rattle.dm_prim.specs.InTurn.{InTurn, done, step}
use Rattle.dm_prim.specs.Primitives.{Prim, LawfulMap, LeadsAll, inv_all}
use Rattle.dm_prim.proofs.LawProofs.{list_inverses_lead_back}
use Rattle.dm_named.specs.Patches.{Patch}
use Rattle.dm_named.specs.Commuting.{NamedCommutes}
use Rattle.dm_bundle.specs.Bundles.{HasNoDoubles}
use Rattle.dm_bundle.specs.Patches.{infos_of}
use Rattle.dm_repo.specs.Folds.{Fold, PatchLeads}
use Rattle.dm_repo.specs.Repositories.{Holds, IsRepo}
use Rattle.dm_repo.specs.declared.refusal.Refusal.{Refusal}
use Rattle.dm_repo.specs.declared.refusal.Refusal.TheVariants.{MissingContext, MissingDependency, ContextDepends, HeldDepends, DoesNotFit, Conflicts, Full, NoMemory}
use Rattle.dm_repo.proofs.Inverses.{inv_all-inv_all}
use Rattle.dm_repo.proofs.Members.{none_of, one_of}
use Rattle.dm_repo.proofs.Staircases.{runs_on, runs_part}
use Rattle.dm_repo.proofs.Trees.{fold_one, grows_fold}
use Rattle.dm_send.specs.Leaving.{Leaves}
use Rattle.dm_send.specs.Minimizing.{MinimizesBehind}
use Rattle.dm_send.specs.Sending.{Accepts, RefusesThere, behind}
use Rattle.dm_send.specs.Undoing.{RefusesUndoing, RollsBack, Undoes, prims_in}
use Rattle.dm_send.proofs.Left.{same_tree}
use Rattle.dm_send.proofs.Minimal.{sent_apart, takes}
use Rattle.dm_send.proofs.Parting.{in_reverse}

-- what patches do in turn, their primitives do
all_lead : {go : List Patch} {s t : LawfulMap} → InTurn PatchLeads go s t → LeadsAll (prims_in go) s t
all_lead done = done
all_lead (step h r) = runs_on h (all_lead r)

-- the patch that undoes these
abbrev pub undo_of : PatchInfo → List Patch → Patch
undo_of name go = record { info = name; deps = []; prims = inv_all (prims_in go) }

module _ (repo : List Patch) (chosen : List PatchInfo) (name : PatchInfo) (stay go : List Patch) (ok : IsRepo repo) (l : Leaves chosen repo stay go []) where
  abbrev pub undo : Patch
  undo = undo_of name go

  -- from the tree of the repository the patch leads to that of what stays
  record Way (s m : LawfulMap) : Type 0 where
    stays : Fold stay m
    leads : PatchLeads undo s m

  way : (s : LawfulMap) → Fold repo s → (m : LawfulMap) × Way s m
  way s f =
      let a = (same_tree repo chosen stay go [] ok.distinct l s).0 f in
      let p = runs_part stay a.runs in
      (p.0, record { stays = record { start = a.start; is_root = a.is_root; runs = p.1 }; leads = (list_inverses_lead_back (prims_in go) p.0 s).0 (all_lead p.2) })

  onto : {s m : LawfulMap} → Fold repo s → PatchLeads undo s m → Fold (repo ++ undo ∷ []) m
  onto f h = record { start = f.start; is_root = f.is_root; runs = runs_on f.runs (step h done) }

  undone_tree : (t : LawfulMap) → Fold (repo ++ undo ∷ []) t ↔ Fold stay t
  undone_tree t = (there, back)
    where
      there : Fold (repo ++ undo ∷ []) t → Fold stay t
      there f =
          let p = runs_part repo f.runs in
          let r : Fold repo p.0 = record { start = f.start; is_root = f.is_root; runs = p.1 } in
          let w = way p.0 r in
          rw (fold_one (repo ++ undo ∷ []) t w.0 f (onto r w.1.leads)) w.1.stays

      back : Fold stay t → Fold (repo ++ undo ∷ []) t
      back f =
          let r = grows_fold repo ok.tree ok.folds in
          let w = way ok.tree r in
          rw (fold_one stay t w.0 f w.1.stays) (onto r w.1.leads)

  pub undoes : Undoes repo chosen name undo
  undoes = record { stay = stay; go = go; leaves = l; is_undo = refl; same_tree = undone_tree }

-- what has no inverses has nothing
pub no_inverses : (xs : List Prim) → inv_all xs ≡ [] → xs ≡ []
no_inverses xs e = sym (inv_all-inv_all xs) ∙ ap inv_all e

module _ (repo : List Patch) (chosen : List PatchInfo) (name : PatchInfo) (undo : Patch) (ok : IsRepo repo) (new : Holds repo name → ⊥) (u : Undoes repo chosen name undo) where
  apart : (i : PatchInfo) → Contains (infos_of (undo ∷ [])) i → Contains (infos_of repo) i → ⊥
  apart i c h = elim (one_of undo.info [] c) [ inl e ↦ new (rw (sym (ap (λ (p : Patch). p.info) u.is_undo) ∙ e) h) | inr n ↦ absurd (none_of n) ]

  doubles : HasNoDoubles (undo ∷ []) (reverse (infos_of repo))
  doubles = record { distinct = ((λ c. none_of c), tt); apart = λ i c h. apart i c (in_reverse (infos_of repo) h) }

  module _ (kept sent passed : List Patch) {base : ℕ} (m : MinimizesBehind NamedCommutes base repo (undo ∷ []) kept sent passed) where
    pub undo_apart : HasNoDoubles sent (reverse (infos_of kept))
    undo_apart = sent_apart repo (undo ∷ []) ok apart kept sent passed m doubles

    pub rolls_back : Accepts repo (behind kept sent) → RollsBack repo base chosen name (behind kept sent)
    rolls_back a = record {
      undo = undo;
      undoes = u;
      kept = kept;
      sent = sent;
      passed = passed;
      minimizes = m;
      is_bundle = refl;
      is_taken = takes repo (undo ∷ []) ok apart kept sent passed m a;
    }

    pub refuses_undoing : (why : Refusal) → RefusesThere repo (behind kept sent) why → RefusesUndoing repo base chosen name why
    refuses_undoing Full r = (undo, kept, sent, passed, u, m, r)
    refuses_undoing NoMemory r = tt
    refuses_undoing (MissingContext c) r = absurd r
    refuses_undoing (MissingDependency n d) r = absurd r
    refuses_undoing (ContextDepends h k) r = absurd r
    refuses_undoing (HeldDepends h n) r = absurd r
    refuses_undoing (DoesNotFit n) r = absurd r
    refuses_undoing (Conflicts n h) r = absurd r
