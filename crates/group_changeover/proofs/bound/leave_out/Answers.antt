use Rattle.std.proofs.Common.{rules}
use Rattle.std.proofs.lemmas.Fn.{filter_same}
use Rattle.group_changeover.specs.Bound.{unbound}
use Rattle.group_changeover.proofs.bound.leave_out.Goals as goal

pub returns-clause-items : goal.returns-clause-items
unfolding unbound
returns-clause-items c = filter_same _ _ _ (λ x b f' k. search rules) _ _ c.retain.ensures.filtered
