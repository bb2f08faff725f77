use Rattle.std.proofs.Common.{◌≡◌, sym, ap, ◌∙◌, rules}
use Rattle.std.specs.Option.{option_map}
use Rattle.sdl_ast.specs.Views.{process_of}
use Rattle.sdl_tables.specs.Rows.{row_input}
use Rattle.script_covered.proofs.Countings.{at_start, state_taken, taken_nothing}
use Rattle.script_covered.proofs.coverage.Counts.take_turn.Goals as goal

pub returns-in-Start : goal.returns-in-Start
returns-in-Start c = λ xs are has. at_start (process_of c.args.process.now) c.args.number c.args.place c.args.input.now xs c.take_start.new.self c.in-Start.is (c.take_start.ensures xs has)

pub returns-in-Some : goal.returns-in-Some
returns-in-Some c = λ xs are has.
    state_taken (process_of c.args.process.now) c.in-State.field-0 _ c.args.number _ c.args.place _ c.args.input.now xs c.take_row.new.self
    c.in-State.is (let same : c.from.result ≡ c.in-State.field-0.0 = search rules in same) are (sym (ap (option_map (λ r. row_input r.now)) c.in-Some.is) ∙ c.row_at.ensures) (c.take_row.ensures xs has)

pub returns-in-None : goal.returns-in-None
returns-in-None c = λ xs are has.
    state_taken (process_of c.args.process.now) c.in-State.field-0 _ c.args.number _ c.args.place _ c.args.input.now xs c.args.self.now
    c.in-State.is (let same : c.from.result ≡ c.in-State.field-0.0 = search rules in same) are (sym (ap (option_map (λ r. row_input r.now)) c.in-None.is) ∙ c.row_at.ensures) (taken_nothing xs c.args.self.now has)
