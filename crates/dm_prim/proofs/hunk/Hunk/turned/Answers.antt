use Rattle.std.proofs.Common.{refl, sym, subst}
use Rattle.dm_prim.specs.Commuting.{IsValidPrim}
use Rattle.dm_prim.specs.Hunks.{HunkParts, TurnsHunk, hunk_of}
use Rattle.dm_prim.proofs.TableLemmas.{turned_valid}
use Rattle.dm_prim.proofs.hunk.Hunk.turned.Goals as goal

pub returns-in_default-clause-turned : goal.returns-in_default-clause-turned
returns-in_default-clause-turned g c = λ h t.
    let k = subst (λ (z : HunkParts). TurnsHunk c.args.tokens.now z h) (sym c.self.view_is) t in
    (rw c.in_default.is at c.in_ok-old.ensures) h.old k.old

pub returns-in_default-2-clause-turned : goal.returns-in_default-2-clause-turned
returns-in_default-2-clause-turned g c = λ h t.
    let k = subst (λ (z : HunkParts). TurnsHunk c.args.tokens.now z h) (sym c.self.view_is) t in
    (rw c.in_default-2.is at c.in_ok-new.ensures) h.new k.new

pub returns-in_default-2-clause-was_valid : goal.returns-in_default-2-clause-was_valid
returns-in_default-2-clause-was_valid g c = subst (λ (h : HunkParts). IsValidPrim (hunk_of h)) c.self.view_is c.self.invariant

pub invariant_of-result : goal.invariant_of-result
invariant_of-result g c =
    turned_valid c.args.tokens.now (record { path = c.self.inside.path; line = c.self.inside.line; old = c.self.inside.old; new = c.self.inside.new })
    (record { path = c.self.inside.path; line = c.self.inside.line; old = c.in-Some.old; new = c.in-Some-2.new }) c.self.invariant
    (record { path = refl; line = refl; old = rw c.in-Some.is at c.in_ok-old.ensures; new = rw c.in-Some-2.is at c.in_ok-new.ensures })

pub returns-clause-valid : goal.returns-clause-valid
returns-clause-valid g c =
    turned_valid c.args.tokens.now (record { path = c.self.inside.path; line = c.self.inside.line; old = c.self.inside.old; new = c.self.inside.new })
    (record { path = c.self.inside.path; line = c.self.inside.line; old = c.in-Some.old; new = c.in-Some-2.new }) c.self.invariant
    (record { path = refl; line = refl; old = rw c.in-Some.is at c.in_ok-old.ensures; new = rw c.in-Some-2.is at c.in_ok-new.ensures })

pub returns-clause-was_valid : goal.returns-clause-was_valid
returns-clause-was_valid g c = subst (λ (h : HunkParts). IsValidPrim (hunk_of h)) c.self.view_is c.self.invariant
