use Rattle.std.proofs.Common.{ap, ◌∙◌, subst}
use Rattle.actor_machine.specs.Ledger.{Ledger}
use Rattle.turn_pool.specs.Turns.{told, NamesBegun}
use Rattle.turn_pool.proofs.Counting.{few}
use Rattle.turn_pool.proofs.Naming.{step_named}
use Rattle.turn_pool.proofs.steps.step_on.Goals as goal

pub returns-clause-value : goal.returns-clause-value
returns-clause-value g c =
    c.name_in-name.ensures.value ∙ ap (λ (b : Ledger). told c.args.link b c.work-moved.new.room c.work-moved.result) c.book.ensures

pub returns-clause-named : goal.returns-clause-named
returns-clause-named g c =
    step_named c.args.slot.now.book c.work-moved.new.slot.book c.args.room.now c.work-moved.new.room c.args.step c.work-moved.result c.name_in-name.result
    c.work-moved.ensures.moves
    (subst (λ (b : Ledger). NamesBegun b c.work-moved.new.room c.work-moved.result c.name_in-name.result) c.book.ensures c.name_in-name.ensures.begun)

pub returns-clause-few : goal.returns-clause-few
returns-clause-few g c =
    few c.args.slot.now.book c.work-moved.new.slot.book c.args.room.now c.work-moved.new.room c.args.step c.work-moved.result c.work-moved.ensures.moves
