use Rattle.std.proofs.Common.{◌∙◌, ◌++◌, ap, map}
use Rattle.sdl_ast.specs.Views.{connection_of, process_of, text_of}
use Rattle.sdl_warnings.specs.Ways.{text_states}
use Rattle.sdl_warnings.proofs.TextStates.{exits_are}
use Rattle.sdl_warnings.proofs.exits.exits_of.Goals as goal

pub returns : goal.returns
returns c =
    let t = text_of c.args.transition.now in
    exits_are (process_of c.args.process.now) t c.push_text.new.ids.items _ c.deref-2.result.now (map connection_of c.deref.result.now)
    (c.in_ok-push_text.ensures ∙ ap (λ l. l ++ text_states t) c.new-ids.ensures.items)
    (ap (map connection_of) c.deref.ensures.value ∙ ap (λ q. (process_of q).connections) c.process.ensures.process) (c.deref-2.ensures.value ∙ c.in_ok-marks.ensures)
    c.in_ok-push_connections.ensures
