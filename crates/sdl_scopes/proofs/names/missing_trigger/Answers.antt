use Rattle.std.proofs.Common.{◌≡◌, sym, ap, ◌∙◌, true}
use Rattle.sdl_ast.specs.Views.{block_of, process_of}
use Rattle.sdl_tables.specs.Names.{is_in, signal_names, timers_of}
use Rattle.sdl_sound.proofs.Places.{known-second}
use Rattle.sdl_scopes.proofs.names.missing_trigger.Goals as goal

pub returns-then-contains : goal.returns-then-contains
returns-then-contains c =
    let there : is_in (timers_of (process_of c.args.process.now)) c.args.id.name ≡ true =
    ap (λ ids. is_in ids c.args.id.name) (sym c.timers.ensures) ∙ (sym c.contains.ensures ∙ c.if-contains.true) in
    known-second (signal_names (block_of c.args.block.now)) (timers_of (process_of c.args.process.now)) c.args.id there
