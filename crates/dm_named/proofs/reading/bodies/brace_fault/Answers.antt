use Rattle.std.proofs.Common.{length, drop, refl, ap, arith}
use Rattle.std.proofs.lemmas.List.{length-drop}
use Rattle.dm_named.proofs.KindLemmas.{run_ends}
use Rattle.dm_named.proofs.reading.bodies.brace_fault.Goals as goal

pub returns : goal.returns
returns c = (
  refl,
  λ none. omega (arith, length-drop c.args.at c.args.text.now, ap length none, c.if-at-text.false),
  c.requires.no_close,
  c.if-begins_at.ensures,
  run_ends c.args.kinds (drop c.args.at c.args.text.now) c.requires.no_prim c.if-is_unsupported_at.ensures.0 c.if-is_unsupported_at.ensures.1,
)
