use Rattle.std.proofs.Common.{rules, ◌≡◌, ◌&&◌, Bool, List, not, Some, length, ap, ◌∙◌}
use Rattle.std.specs.List.{list_any}
use Rattle.sdl_ast.specs.Views.{process_of}
use Rattle.sdl_tables.specs.Names.{number_of, states_of}
use Rattle.sdl_warnings.specs.Marked.{is_marked}
use Rattle.sdl_warnings.specs.Reaches.{is_way_in}
use Rattle.sdl_warnings.specs.Ways.{upto}
use Rattle.sdl_warnings.proofs.StateWays.{vain_state}
use Rattle.sdl_warnings.proofs.saves.is_vain.Goals as goal

pub returns-in-Some : goal.returns-in-Some
returns-in-Some c =
    let p = process_of c.args.process.now in
    let w = c.args.ways.now in
    let t = c.args.takers.now in
    let s = c.in-Some.number in
    let found : number_of (states_of p) c.args.state.name ≡ Some s = search rules in
    let came : c.comes_to.result ≡ list_any (λ n. is_way_in w.to.items s n && is_marked t.marks.items n) (upto (length t.marks.items)) =
    c.comes_to.ensures ∙ ap (λ (l : List Bool). list_any (λ n. is_way_in w.to.items s n && is_marked l n) (upto (length l))) c.deref.ensures.value in
    ap not came ∙ vain_state p w t c.args.state s c.requires.ways c.requires.takers found
