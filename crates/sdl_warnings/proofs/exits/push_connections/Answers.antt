use Rattle.std.proofs.Common.{◌∙◌, ◌++◌, [], if◌then◌else◌, ap}
use Rattle.sdl_ast.specs.Views.{connection_of}
use Rattle.sdl_warnings.specs.Ways.{text_states}
use Rattle.sdl_warnings.proofs.TextStates.{none_marked, states_on}
use Rattle.sdl_warnings.proofs.exits.push_connections.Goals as goal

pub loop-number-init : goal.loop-number-init
loop-number-init c = none_marked c.args.marks.now c.args.ids.now.items

pub loop-number-preserved : goal.loop-number-preserved
loop-number-preserved c =
    states_on c.args.marks.now c.args.connections.now c.loop-number.number c.index-connections-number.result _ _ _ c.loop-number-test.true c.index-connections-number.is
    c.loop-number.invariant
    (c.in_ok-push_if.ensures
    ∙ ap (λ b. c.loop-number.ids.items ++ (if b then text_states (connection_of c.index-connections-number.result).text else [])) c.is_marked.ensures)
