use Rattle.sdl_tables.proofs.Numbers.{stamped_more}
use Rattle.sdl_tables.proofs.triggers.stamp_one.Goals as goal

pub returns-then-trigger-len-clause-stamped : goal.returns-then-trigger-len-clause-stamped
returns-then-trigger-len-clause-stamped c = λ names before old numbered.
    stamped_more names before c.args.seen.now.items c.args.stamp c.args.trigger.now old numbered
