use Rattle.std.proofs.Common.{◌∙◌, ◌++◌, ap}
use Rattle.std.proofs.lemmas.Result.{on_ok_weaker}
use Rattle.sdl_ast.specs.Views.{block_of, process_of}
use Rattle.sdl_warnings.specs.Warned.{unreached_states, vain_saves, unsent_inputs, idle_timers, unread_variables, decision_warnings, unreached_connections}
use Rattle.sdl_warnings.proofs.Pieces.{in_groups}
use Rattle.sdl_warnings.proofs.collected.push_process.Goals as goal

pub returns : goal.returns
returns c =
    let b = block_of c.args.block.now in
    let p = process_of c.args.process.now in
    let old = c.args.found.now.items in
    on_ok_weaker c.push_flow.result
    (λ f.
    in_groups old c.push_standing.new.found.items c.push_uses.new.found.items _ (unreached_states p) (vain_saves p) (unsent_inputs b p) (idle_timers p) (unread_variables p)
    (decision_warnings p) (unreached_connections p)
    (c.in_ok-push_standing.ensures ∙ ap (λ t. old ++ (unreached_states (process_of t) ++ vain_saves (process_of t))) c.table.ensures) c.in_ok-push_uses.ensures f)
    c.push_flow.ensures
