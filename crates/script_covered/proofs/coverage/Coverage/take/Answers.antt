use Rattle.std.proofs.Common.{◌≡◌, ap, ◌∙◌, rules}
use Rattle.sdl_ast.specs.Views.{process_of}
use Rattle.script_covered.specs.Covered.{state_in}
use Rattle.script_covered.proofs.Countings.{covers_more, counted_as, taken_as}
use Rattle.script_covered.proofs.coverage.Coverage.take.Goals as goal

pub returns : goal.returns
returns c = λ b ts there are covers.
    let t = c.args.job.now in
    covers_more b ts t (process_of c.args.process.now) c.args.self.now _ there
    (counted_as c.args.self.now.turns.turns.items _ _ t.process.0 _ t.place _ t.input_number c.in_ok-count.ensures
    ((let same : c.from.result ≡ c.process.result.0 = search rules in same) ∙ ap (λ m. m.0) c.process.ensures) (c.state_in.ensures ∙ ap state_in c.place.ensures) c.input_number.ensures)
    (λ xs. taken_as (process_of c.args.process.now) xs _ _ t _ _ _ c.place-2.ensures c.input_number-2.ensures c.input.ensures.value (c.take_turn.ensures xs are))
    covers
