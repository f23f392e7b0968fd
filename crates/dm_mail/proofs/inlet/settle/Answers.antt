use Rattle.std.proofs.Common.{ap, ◌∙◌}
use Rattle.crossbeam_channel.specs.Claims.{view}
use Rattle.dm_mail.proofs.EndLemmas.{settled_prefix}
use Rattle.dm_mail.proofs.RuleLemmas.{joins, shows}
use Rattle.dm_mail.proofs.inlet.settle.Goals as goal

pub absorb-requires-clause-rule : goal.absorb-requires-clause-rule
absorb-requires-clause-rule g c = joins _ _ _ _ c.args.inlet.now.told c.args.inlet.now.is_mirror c.args.sent.is_poster

pub learn_as-requires-clause-rule : goal.learn_as-requires-clause-rule
learn_as-requires-clause-rule g c = shows _ _ (ap (λ v. v.is_told) c.absorb.ensures.rule ∙ c.args.inlet.now.told) (ap (λ v. v.is_mirror) c.absorb.ensures.rule ∙ c.args.inlet.now.is_mirror)

pub returns-clause-prefix : goal.returns-clause-prefix
returns-clause-prefix g c = settled_prefix (view c.args.inlet.now.pass) (view c.args.sent.pass) _ _ c.absorb.ensures.rule c.learn_as.ensures.channel.2 c.learn_as.ensures.rule.1
