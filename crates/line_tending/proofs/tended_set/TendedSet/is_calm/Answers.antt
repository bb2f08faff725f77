use Rattle.std.proofs.Common.{sym, arith, ◌∙◌}
use Rattle.line_tending.proofs.Calm.{any_more, any_all}
use Rattle.line_tending.proofs.tended_set.TendedSet.is_calm.Goals as goal

pub loop-link-preserved : goal.loop-link-preserved
loop-link-preserved c = any_more c.args.self.now.set.links c.loop-link.link c.loop-link.invariant (sym c.in_changeover.ensures ∙ c.if-in_changeover.false)

pub returns : goal.returns
returns c = λ shown. any_all c.args.self.now.set.links c.loop-link.link (omega arith) c.loop-link.invariant
