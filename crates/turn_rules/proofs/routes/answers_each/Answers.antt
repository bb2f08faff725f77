use Rattle.turn_rules.proofs.RouteTables.{answered_from, answered_to}
use Rattle.turn_rules.proofs.routes.answers_each.Goals as goal

pub returns : goal.returns
returns c =
    let ps = c.args.draft.now.processes in
    let rs = c.args.draft.now.routes in (
      λ t.
          answered_from ps rs c.args.process.0 c.args.taken c.args.signal c.senders.result c.reached.result c.senders.ensures c.reached.ensures
          (c.is_within.ensures.0 t),
      λ all.
          c.is_within.ensures.1
          (answered_to ps rs c.args.process.0 c.args.taken c.args.signal c.senders.result c.reached.result c.senders.ensures c.reached.ensures all),
    )
