use Rattle.std.proofs.Common.{◌∙◌, ◌+◌, ◌++◌, ℕ, [], ◌∷◌, length, refl, sym, ap, subst}
use Rattle.dm_named.specs.declared.limits.Kinds.{Kinds}
use Rattle.dm_store.specs.Growth.{capped}
use Rattle.dm_store.specs.Kinds.{kinds_of, kinds_in}
use Rattle.dm_store.specs.Keeping.{FoldTo, kept_as, kept_in}
use Rattle.dm_store.proofs.GrowthLemmas.{more_grown, text_not_whole}
use Rattle.dm_store.proofs.StoredLemmas.{entry_taken, fold_push, leaves, crashes_keep, weakened}
use Rattle.dm_store.proofs.store.Store.take.Goals as goal

pub returns-then-not-has_taken-clause-takes : goal.returns-then-not-has_taken-clause-takes
returns-then-not-has_taken-clause-takes g c = rw c.kinds-kinds.ensures at c.take_in-verdict.ensures

pub returns-clause-takes : goal.returns-clause-takes
returns-clause-takes g c = rw c.kinds-kinds.ensures at c.take_in-verdict.ensures

pub returns-in_err-append-clause-any_moment : goal.returns-in_err-append-clause-any_moment
returns-in_err-append-clause-any_moment g c =
    let d = g.D.Device in
    let before = kept_in c.args.self.now in
    let after = kept_as c.args.self.now.base c.take_in-verdict.new.repo.patches in
    let is = c.deref.ensures.value ∙ c.in_ok-entry.ensures.entry in
    let t = entry_taken (kinds_in c.args.self.now) c.args.self.now.base c.args.self.now.repo.patches c.deref.result.now c.args.policy c.args.text.now c.take_in-verdict.result c.take_in-verdict.new.repo.patches is (c.if-not-has_taken.ensures.0 refl) (rw c.kinds-kinds.ensures at c.take_in-verdict.ensures) in
    weakened d.moment d.left_since _ _ _ _ (leaves c.args.self.now.journal.end.format c.requires.entries c.deref.result.now before after c.args.text.now c.args.policy is c.requires.folds t)
    (c.append.ensures.any_moment c.requires.entries c.requires.has)

pub returns-clause-stored : goal.returns-clause-stored
returns-clause-stored g c =
    let before = kept_in c.args.self.now in
    let after = kept_as c.args.self.now.base c.take_in-verdict.new.repo.patches in
    let is = c.deref.ensures.value ∙ c.in_ok-entry.ensures.entry in
    let t = entry_taken (kinds_in c.args.self.now) c.args.self.now.base c.args.self.now.repo.patches c.deref.result.now c.args.policy c.args.text.now c.take_in-verdict.result c.take_in-verdict.new.repo.patches is (c.if-not-has_taken.ensures.0 refl) (rw c.kinds-kinds.ensures at c.take_in-verdict.ensures) in
    record {
      entries = c.requires.entries ++ c.deref.result.now ∷ [];
      has = c.in_ok-append.ensures.acknowledged c.requires.entries c.requires.has;
      folds = subst (λ (k : Kinds). FoldTo k (c.requires.entries ++ c.deref.result.now ∷ []) after) (ap kinds_of (sym c.append.ensures.format)) (fold_push (kinds_in c.args.self.now) c.requires.entries c.deref.result.now before after c.requires.folds t);
      grown = more_grown c.requires.entries c.deref.result.now c.args.self.now.growth c.add.new.self (λ none. text_not_whole c.args.policy c.args.text.now c.deref.result.now is) c.requires.grown
          c.add.ensures.whole (c.add.ensures.since ∙ ap (λ (n : ℕ). capped (c.args.self.now.growth.since + n)) (c.len.ensures ∙ c.in_ok-entry.entry.ok.0 ∙ ap length (sym c.deref.ensures.value))) c.add.ensures.entries;
    }

pub returns-clause-kept : goal.returns-clause-kept
returns-clause-kept g c =
    let d = g.D.Device in
    let before = kept_in c.args.self.now in
    let after = kept_as c.args.self.now.base c.take_in-verdict.new.repo.patches in
    let is = c.deref.ensures.value ∙ c.in_ok-entry.ensures.entry in
    let t = entry_taken (kinds_in c.args.self.now) c.args.self.now.base c.args.self.now.repo.patches c.deref.result.now c.args.policy c.args.text.now c.take_in-verdict.result c.take_in-verdict.new.repo.patches is (c.if-not-has_taken.ensures.0 refl) (rw c.kinds-kinds.ensures at c.take_in-verdict.ensures) in
    crashes_keep d.seen d.may_leave d.file_may_leave c.append.new.self (c.requires.entries ++ c.deref.result.now ∷ []) after
    (c.in_ok-append.ensures.acknowledged c.requires.entries c.requires.has)
    (subst (λ (k : Kinds). FoldTo k (c.requires.entries ++ c.deref.result.now ∷ []) after) (ap kinds_of (sym c.append.ensures.format)) (fold_push (kinds_in c.args.self.now) c.requires.entries c.deref.result.now before after c.requires.folds t))

pub returns-clause-any_moment : goal.returns-clause-any_moment
returns-clause-any_moment g c =
    let d = g.D.Device in
    let before = kept_in c.args.self.now in
    let after = kept_as c.args.self.now.base c.take_in-verdict.new.repo.patches in
    let is = c.deref.ensures.value ∙ c.in_ok-entry.ensures.entry in
    let t = entry_taken (kinds_in c.args.self.now) c.args.self.now.base c.args.self.now.repo.patches c.deref.result.now c.args.policy c.args.text.now c.take_in-verdict.result c.take_in-verdict.new.repo.patches is (c.if-not-has_taken.ensures.0 refl) (rw c.kinds-kinds.ensures at c.take_in-verdict.ensures) in
    weakened d.moment d.left_since _ _ _ _ (leaves c.args.self.now.journal.end.format c.requires.entries c.deref.result.now before after c.args.text.now c.args.policy is c.requires.folds t)
    (c.append.ensures.any_moment c.requires.entries c.requires.has)
