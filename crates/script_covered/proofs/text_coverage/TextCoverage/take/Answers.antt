use Rattle.std.proofs.Common.{◌≡◌, [], ◌∷◌, ◌++◌, map, ap, sym, subst, ◌∙◌, rules}
use Rattle.std.specs.Option.{option_map}
use Rattle.std.proofs.lemmas.Result.{on_ok_weaker}
use Rattle.sdl_ast.specs.Views.{process_of}
use Rattle.sdl_tables.specs.Rows.{rows_inputs}
use Rattle.turn_machine.specs.Turn.{Turn}
use Rattle.script_covered.specs.Texts.{inputs_in, IsCovering}
use Rattle.script_covered.proofs.TextCounts.{turn_taken}
use Rattle.script_covered.proofs.text_coverage.TextCoverage.take.Goals as goal

pub returns-in-Some-inputs_at : goal.returns-in-Some-inputs_at
returns-in-Some-inputs_at c =
    on_ok_weaker c.take.result
    (λ step ts known. subst (λ (t : Turn). IsCovering (ts ++ t ∷ []) (record c.args.self.now { coverage = c.take.new.self })) c.job-job.ensures
    (turn_taken ts c.job-job.result.now c.args.self.now c.take.new.self _ _ _ (process_of c.in-Some.process.now) (map rows_inputs c.in-Some-inputs_at.inputs.now)
    c.tables.ensures (ap (map inputs_in) c.deref.ensures.value)
    (sym (ap (option_map (λ p. process_of p.now)) c.in-Some.is) ∙ c.process_at.ensures)
    (sym (ap (option_map (λ v. map rows_inputs v.now)) c.in-Some-inputs_at.is) ∙ c.inputs_at.ensures)
    ((let same : c.from-number.result ≡ c.process.result.0 = search rules in same) ∙ ap (λ m. m.0) c.process.ensures) step known)) c.take.ensures
