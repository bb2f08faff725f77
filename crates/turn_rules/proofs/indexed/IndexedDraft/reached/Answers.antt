use Rattle.turn_rules.proofs.RouteTables.{reached_are}
use Rattle.turn_rules.proofs.indexed.IndexedDraft.reached.Goals as goal

pub returns : goal.returns
returns c =
    reached_are c.self.inside.table c.self.inside.draft.now c.args.self.now c.self.view_is c.self.invariant c.requires.limits c.args.process.0
    c.requires.process c.args.signal c.get.result c.of_first-there.result c.and.result c.len.result c.get.ensures c.len.ensures c.of_first-there.ensures
    c.and.ensures
