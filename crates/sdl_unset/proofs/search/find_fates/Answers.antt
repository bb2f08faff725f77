use Rattle.std.proofs.Common.{◌≡◌, ℕ, List, ◌∷◌, [], ◌++◌, Some, length, length-append, arith, sym, ap, ◌∙◌, subst}
use Rattle.std.specs.Prelude.{slice_get}
use Rattle.std.proofs.lemmas.List.{length-map}
use Rattle.sdl_ast.specs.Views.{process_of}
use Rattle.sdl_tables.specs.Names.{variables_of}
use Rattle.sdl_tables.specs.Rows.{variable_of}
use Rattle.sdl_unset.specs.declared.paths.Fate.{Fate}
use Rattle.sdl_unset.specs.Fates.{IsFate}
use Rattle.sdl_unset.proofs.Searches.{fate_by, push_at}
use Rattle.sdl_unset.proofs.search.find_fates.Goals as goal

pub loop-variable-preserved : goal.loop-variable-preserved
loop-variable-preserved c =
    let g = c.in_ok-graph.graph in
    let n = c.loop-variable.variable in
    let fates = c.loop-variable.fates.items in
    let f = c.in_ok-first_unset.field-0 in
    let told = c.in_ok-first_unset.ensures in
    let items : c.push.new.self.items ≡ fates ++ f ∷ [] = c.in_ok-push.ensures.items in
    let last : IsFate g n f = fate_by g n f told.found told.fewest told.first c.in_ok-graph.ensures.sorted told.none told.closed in
    let P : List Fate → Type 0 = λ list. (v : ℕ) (x : Fate) → slice_get list v ≡ Some x → IsFate g v x in
    record {
      count = omega (arith, ap length items, length-append fates (f ∷ []), c.loop-variable.invariant.count);
      each = subst P (sym items) (push_at (IsFate g) fates f n c.loop-variable.invariant.count c.loop-variable.invariant.each last);
    }

pub returns : goal.returns
returns c =
    let rows : length c.rows-variable-end.result.now ≡ length (variables_of (process_of c.args.table.now)) =
    sym (length-map c.rows-variable-end.result.now variable_of) ∙ ap length c.rows-variable-end.ensures in
    record {
      graph = c.in_ok-graph.graph;
      is = c.in_ok-graph.ensures.graph;
      count = omega (arith, rows, c.loop-variable.invariant.count, c.loop-variable-test.false, c.loop-variable.auto.variable-end);
      each = c.loop-variable.invariant.each;
    }
