use Rattle.turn_rules.proofs.RouteTables.{senders_are}
use Rattle.turn_rules.proofs.indexed.IndexedDraft.senders.Goals as goal

pub returns : goal.returns
returns c =
    senders_are c.self.inside.table c.self.inside.draft.now c.args.self.now c.self.view_is c.self.invariant c.requires.limits c.args.process.0
    c.requires.process c.args.signal c.get.result c.get.ensures
