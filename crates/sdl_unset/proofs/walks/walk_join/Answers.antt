use Rattle.std.proofs.Common.{sym, ap, ◌∙◌}
use Rattle.std.specs.Option.{option_map}
use Rattle.sdl_ast.specs.Views.{process_of}
use Rattle.sdl_unset.proofs.Walkers.{told_there, told_nowhere}
use Rattle.sdl_unset.proofs.walks.walk_join.Goals as goal

pub returns-in-None : goal.returns-in-None
returns-in-None c = λ told t.
    let p = process_of c.args.table.now in
    told_nowhere p told c.args.walkers.now c.args.name c.args.walker.now c.stop.new.self t
    (sym c.joined_walker.ensures ∙ ap (option_map (λ w. w.now)) c.in-None.is) (c.stop.ensures p)

pub returns-in-Some : goal.returns-in-Some
returns-in-Some c = λ told t.
    let p = process_of c.args.table.now in
    c.join.ensures p (λ x q. told x q c.args.name)
    (told_there p told c.args.walkers.now c.args.name c.in-Some.other.now t (sym c.joined_walker.ensures ∙ ap (option_map (λ w. w.now)) c.in-Some.is))
