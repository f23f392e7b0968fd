use Rattle.std.proofs.Common.{drop, sym, ◌∙◌, ◌+◌, inr}
use Rattle.dm_named.proofs.BodyLemmas.{open_deps}
use Rattle.dm_named.proofs.reading.dependencies.deps_at.Goals as goal

pub returns-then-not-begins_at-2-clause-err : goal.returns-then-not-begins_at-2-clause-err
returns-then-not-begins_at-2-clause-err g c =
    let text = c.args.text.now in
    record {
      inside = drop (c.skip-here.result + 1) text;
      opens = sym c.skip-here.ensures.rest ∙ c.if-not-begins_at.ensures.0;
      wrong = inr (open_deps (drop c.in_ok-deps.end text) (drop (c.skip-here.result + 1) text) (drop c.skip-close.result text) c.in_ok-deps.deps.items c.in_ok-deps.ensures.ok c.skip-close.ensures.rest c.in_ok-deps.ensures.closed c.if-not-begins_at-2.ensures);
    }
