use Rattle.std.proofs.Common.{◌≡◌, ◌∙◌, sym, ap, length}
use Rattle.sdl_ast.specs.Views.{text_of, process_of}
use Rattle.sdl_tables.specs.Names.{states_of}
use Rattle.sdl_unset.specs.Flows.{text_doings}
use Rattle.sdl_unset.proofs.Walkers.{walked_last}
use Rattle.sdl_unset.proofs.walks.connection_walker.Goals as goal

pub returns : goal.returns
returns c = λ told h.
    let p = process_of c.args.table.now in
    let count : length (states_of p) ≡ c.len.result = sym (c.len.ensures ∙ ap length c.states.ensures) in
    walked_last p (text_doings p told (text_of c.args.connection.now.transition)) c.in_ok-walker.walker c.walk_transition.new.walker c.stop.new.self
    (c.in_ok-walker.ensures p count) (c.walk_transition.ensures told h) (c.stop.ensures p)
