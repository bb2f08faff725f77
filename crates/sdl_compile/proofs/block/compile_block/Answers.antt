use Rattle.std.proofs.Common.{map, sym, ap, ◌∙◌, subst}
use Rattle.std.specs.List.{flat_map, AllZip}
use Rattle.sdl_ast.specs.Views.{block_of}
use Rattle.sdl_meaning.specs.Declarations.{drafted_signal}
use Rattle.sdl_tables.specs.Names.{processes_of}
use Rattle.sdl_compile.specs.Drafts.{MatchesProcess}
use Rattle.sdl_compile.specs.Blocks.{drafted_path}
use Rattle.sdl_compile.proofs.Meaning.{runs_as_meant}
use Rattle.sdl_compile.proofs.Whole.{valid, few_names, known_routes, each_lawful, each_ordered, all_ready}
use Rattle.sdl_compile.proofs.block.compile_block.Goals as goal

pub compile_routes-requires-clause-known : goal.compile_routes-requires-clause-known
compile_routes-requires-clause-known c = known_routes (block_of c.args.block.now) c.requires.sound c.routes.result.now c.routes.ensures

pub compile_routes-requires-clause-few : goal.compile_routes-requires-clause-few
compile_routes-requires-clause-few c = few_names (block_of c.args.block.now) c.requires.sound

pub compile_processes-requires-clause-ready : goal.compile_processes-requires-clause-ready
compile_processes-requires-clause-ready c =
    let b = block_of c.args.block.now in
    all_ready b c.requires.sound (each_lawful c.budget_law.ensures (processes_of b) c.requires.sound.joined) (each_ordered (processes_of b) c.args.surveys.now.orders.now c.requires.ordered)

pub compile_processes-requires-clause-few : goal.compile_processes-requires-clause-few
compile_processes-requires-clause-few c = few_names (block_of c.args.block.now) c.requires.sound

pub compile_processes-requires-clause-signals : goal.compile_processes-requires-clause-signals
compile_processes-requires-clause-signals c = c.deref.ensures.value ∙ c.in_ok-signals.ensures ∙ ap (map drafted_signal) c.rows.ensures

pub returns-clause-means : goal.returns-clause-means
returns-clause-means c = record {
  signals = c.from.ensures ∙ (c.in_ok-signals.ensures ∙ ap (map drafted_signal) c.rows.ensures);
  routes = c.from-2.ensures ∙ (c.in_ok-paths.ensures ∙ ap (λ rs. map (drafted_path (block_of c.args.block.now)) (flat_map (λ r. r.paths) rs)) c.routes.ensures);
  processes = subst (AllZip (MatchesProcess (block_of c.args.block.now)) (processes_of (block_of c.args.block.now))) (sym c.from-3.ensures) c.in_ok-processes.ensures.matches;
}

pub returns-clause-runs : goal.returns-clause-runs
returns-clause-runs c = runs_as_meant (block_of c.args.block.now) _ c.requires.sound (returns-clause-means c)

pub returns-clause-valid : goal.returns-clause-valid
returns-clause-valid c =
    let b = block_of c.args.block.now in
    valid b c.requires.sound (each_lawful c.budget_law.ensures (processes_of b) c.requires.sound.joined) (each_ordered (processes_of b) c.args.surveys.now.orders.now c.requires.ordered) c.chances_law.ensures
    _ c.in_ok-processes.processes.items
    (c.from.ensures ∙ (c.in_ok-signals.ensures ∙ ap (map drafted_signal) c.rows.ensures))
    (c.from-2.ensures ∙ (c.in_ok-paths.ensures ∙ ap (λ rs. map (drafted_path (block_of c.args.block.now)) (flat_map (λ r. r.paths) rs)) c.routes.ensures))
    c.from-3.ensures c.in_ok-processes.ensures.made
