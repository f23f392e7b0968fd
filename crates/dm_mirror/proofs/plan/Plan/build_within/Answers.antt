use Rattle.std.proofs.Common.{arith}
use Rattle.std.proofs.lemmas.List.{length-map}
use Rattle.dm_mirror.proofs.PlanLemmas.{as_many_starts, positive}
use Rattle.dm_mirror.proofs.plan.Plan.build_within.Goals as goal

pub of_repos-requires-clause-repos : goal.of_repos-requires-clause-repos
of_repos-requires-clause-repos c =
    let many = as_many_starts c.args.limits _ _ c.in_ok-repos.ensures.ok in
    let repos = length-map c.in_ok-repos.repos.items (λ repo. repo.patches) in
    let bases = length-map c.args.bases.now (λ base. base.now) in
    (omega (arith, many, repos, bases, positive c.args.bases.now c.if-is_empty-2.ensures), omega (arith, many, repos, bases, c.if-bases-gt-MOST_MIRRORS.false))

pub of_repos-requires-clause-as_many : goal.of_repos-requires-clause-as_many
of_repos-requires-clause-as_many c =
    let many = as_many_starts c.args.limits _ _ c.in_ok-repos.ensures.ok in
    let repos = length-map c.in_ok-repos.repos.items (λ repo. repo.patches) in
    let bases = length-map c.args.bases.now (λ base. base.now) in
    omega (arith, many, repos, bases, c.if-policies-bases.false)
