use Rattle.std.proofs.Common.{◌≡◌, ◌∙◌, ◌-◌, List, length, min, take, sym, subst, arith}
use Rattle.std.proofs.lemmas.List.{take_min}
use Rattle.std.proofs.Math.Nat.{min-le_right}
use Rattle.dm_named.specs.Patches.{Patch}
use Rattle.dm_bundle.specs.Patches.{infos_of}
use Rattle.dm_begin.specs.Bases.{IsLast}
use Rattle.dm_begin.proofs.CutLemmas.{last_of}
use Rattle.dm_commands.proofs.tag.base_tag.Goals as goal

pub returns : goal.returns
returns c =
    let repo = c.args.repo.now.patches in
    let count = min c.args.base (length repo) in
    record {
      count = rw c.len.ensures.value at c.min-count.ensures;
      is_last = subst (λ (l : List Patch). IsLast (infos_of l) c.info-tag.result.now) (take_min c.args.base repo)
          (take (count - 1) (infos_of repo), rw c.info-tag.ensures (last_of repo count c.patch.result.now (let n = rw (c.min-count.ensures, c.len.ensures.value) at c.if-count-eq0.false in omega (arith, n)) (min-le_right c.args.base (length repo)) (rw (c.min-count.ensures, c.len.ensures.value) at c.patch.ensures)));
    }
