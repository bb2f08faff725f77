use Rattle.std.proofs.Common.{◌∙◌, ◌++◌, sym, ap, map}
use Rattle.sdl_ast.specs.Views.{connection_of, process_of}
use Rattle.sdl_warnings.specs.Warned.{unless, warned}
use Rattle.sdl_warnings.specs.declared.warning.Kind.TheVariants.{UnreachedConnection}
use Rattle.sdl_warnings.proofs.Unjoined.{unmarked_on}
use Rattle.sdl_warnings.proofs.connections.push_all_unmarked.Goals as goal

pub loop-number-preserved : goal.loop-number-preserved
loop-number-preserved c =
    let x = c.index-connections-number.result in
    unmarked_on (process_of c.args.process.now) c.args.marks.now c.as_slice-connections.result.now c.loop-number.number x _ _ _ c.loop-number-test.true
    c.index-connections-number.is c.requires (sym (ap (map connection_of) c.as_slice-connections.ensures.value ∙ ap (λ q. (process_of q).connections) c.process.ensures.process))
    c.loop-number.invariant
    (c.in_ok-push_unless.ensures ∙ ap (λ b. c.loop-number.found.items ++ unless b (warned x.at (UnreachedConnection x.name.name))) c.is_marked.ensures)
