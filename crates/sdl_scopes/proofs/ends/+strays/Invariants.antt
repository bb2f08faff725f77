use Rattle.std.proofs.Common.{◌-◌, [], length, take, drop}
use Rattle.std.specs.List.{flat_map}
use Rattle.sdl_ast.specs.Views.{text_of, statements_before, end_text}
use Rattle.sdl_tables.specs.Scopes.{Marks}
use Rattle.sdl_sound.specs.Ends.{strays}
use Rattle.sdl_scopes.specs.Rests.{IsRest}
use Rattle.sdl_scopes.proofs.ends.+strays.Given as goal

abbrev pub invariant-in_transition-loop-behind : goal.invariant-in_transition-loop-behind
invariant-in_transition-loop-behind l =
    let ss = l.transition.statements.items in
    IsRest l.states l.at (statements_before (drop (length ss - l.behind) ss) (end_text l.transition.end)) l.rest

abbrev pub invariant-in_bodies-loop-answer : goal.invariant-in_bodies-loop-answer
invariant-in_bodies-loop-answer l =
    Marks l.place (flat_map (λ a. strays l.states [] (text_of a.body)) (take l.answer-index l.answer-items))
