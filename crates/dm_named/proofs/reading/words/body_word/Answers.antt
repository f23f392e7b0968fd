use Rattle.std.proofs.Common.{inl, inr}
use Rattle.dm_named.proofs.KindLemmas.{prim_in_all, refused_of, refused_unless_wider}
use Rattle.dm_named.proofs.reading.words.body_word.Goals as goal

pub returns-then-is_refused : goal.returns-then-is_refused
returns-then-is_refused c =
    let word = c.args.word.now in
    (refused_of c.args.kinds word c.if-is_refused.ensures, λ a. c.in_default.ensures (prim_in_all c.args.kinds word a))

pub returns : goal.returns
returns c =
    let word = c.args.word.now in (
      λ a. c.in_default.ensures (prim_in_all c.args.kinds word a),
      λ a. elim (refused_unless_wider c.args.kinds word a) [ inl b ↦ c.in_default.ensures b | inr b ↦ c.if-is_refused.ensures b ],
    )
