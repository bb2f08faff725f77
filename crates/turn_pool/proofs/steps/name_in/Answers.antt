use Rattle.std.proofs.Common.{Option, sym, subst}
use Rattle.turn_pool.specs.Turns.{NamesBegun}
use Rattle.turn_pool.specs.declared.gate.JobName.{JobName}
use Rattle.turn_pool.proofs.Naming.{begun_named}
use Rattle.turn_pool.proofs.steps.name_in.Goals as goal

pub returns-clause-begun : goal.returns-clause-begun
returns-clause-begun c =
    subst (λ (o : Option JobName). NamesBegun c.args.book.now c.args.room.now c.args.moved.now o) (sym c.told_in.ensures) (begun_named c.args.link c.args.book.now c.args.room.now c.args.moved.now)
