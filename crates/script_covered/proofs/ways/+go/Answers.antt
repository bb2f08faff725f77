use Rattle.std.proofs.Common.{◌≡◌, ◌-◌, suc, arith, sym, ap, ◌∙◌}
use Rattle.std.specs.Option.{option_map}
use Rattle.sdl_ast.specs.Views.{text_of, connection_of, process_of}
use Rattle.script_covered.proofs.Walking.{goes_alone, goes_on_by, goes_no_further, with_names}
use Rattle.script_covered.proofs.ways.+go.Goals as goal

pub returns-then-joins-eq0 : goal.returns-then-joins-eq0
returns-then-joins-eq0 t c =
    goes_alone (process_of c.args.process.now) c.args.joins (text_of c.args.transition.now) c.walk-end.result c.args.values.now.items c.walk-end.new.values.items c.args.counts.now c.walk-end.new.counts
    c.if-joins-eq0.true (with_names (process_of c.args.process.now) _ (text_of c.args.transition.now) c.args.values.now.items _ _ _ c.variables.ensures c.walk-end.ensures)

pub returns-in-Some : goal.returns-in-Some
returns-in-Some t c =
    goes_on_by (process_of c.args.process.now) c.args.joins _ (text_of c.args.transition.now) c.walk-end.result (connection_of c.in-Some.connection.now)
    c.args.values.now.items c.walk-end.new.values.items c.args.counts.now c.walk-end.new.counts c.go.new.counts
    (omega (arith, c.if-joins-eq0.false)) (sym c.joined_at.ensures ∙ ap (option_map (λ k. connection_of k.now)) c.in-Some.is)
    (with_names (process_of c.args.process.now) _ (text_of c.args.transition.now) c.args.values.now.items _ _ _ c.variables.ensures c.walk-end.ensures) c.go.ensures

pub returns-in-None : goal.returns-in-None
returns-in-None t c =
    goes_no_further (process_of c.args.process.now) c.args.joins _ (text_of c.args.transition.now) c.walk-end.result
    c.args.values.now.items c.walk-end.new.values.items c.args.counts.now c.walk-end.new.counts
    (let more : c.args.joins ≡ suc (c.args.joins - 1) = omega (arith, c.if-joins-eq0.false) in more) (sym c.joined_at.ensures ∙ ap (option_map (λ k. connection_of k.now)) c.in-None.is)
    (with_names (process_of c.args.process.now) _ (text_of c.args.transition.now) c.args.values.now.items _ _ _ c.variables.ensures c.walk-end.ensures)
