use Rattle.std.proofs.Common.{arith, ap, ◌∙◌}
use Rattle.std.specs.List.{flat_map}
use Rattle.sdl_tables.specs.Triggers.{taken_in}
use Rattle.sdl_tables.proofs.States.{rows_at-set}
use Rattle.sdl_tables.proofs.Numbers.{joined_push}
use Rattle.sdl_tables.proofs.triggers.push_state.Goals as goal

pub returns-clause-rows : goal.returns-clause-rows
returns-clause-rows c = λ of_part s.
    rows_at-set (taken_in of_part) c.args.rows.now.items c.args.state c.index_mut-row.result.now c.push.new.self (of_part c.args.part) (omega arith)
    c.index_mut-row.ensures.value
    (ap (flat_map of_part) c.in_ok-push.ensures.items ∙ joined_push of_part c.index_mut-row.result.now.items c.args.part) s
