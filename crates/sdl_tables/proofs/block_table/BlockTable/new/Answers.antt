use Rattle.std.proofs.Common.{◌≡◌, ◌++◌, ◌∙◌, subst, [], Option, None, ℕ, List}
use Rattle.std.proofs.lemmas.Result.{err_from_is_err_and}
use Rattle.std.specs.List.{flat_map}
use Rattle.sdl_ast.specs.Plain.{PlainBlock}
use Rattle.sdl_ast.specs.Views.{block_of}
use Rattle.sdl_tables.specs.Names.{processes_of, signal_names, route_names, process_names}
use Rattle.sdl_tables.specs.Scopes.{Marks, repeats, process_scopes, signal_timers, double_names}
use Rattle.sdl_tables.proofs.Repeats.{names_once-distinct}
use Rattle.sdl_tables.proofs.BlockLemmas.{Marks-none}
use Rattle.sdl_tables.proofs.block_table.BlockTable.new.Goals as goal
use Rattle.plain_laws.proofs.Lists.{append-nil_left, append-nil_right}

abbrev inside_of : PlainBlock → List ℕ
inside_of b = flat_map (repeats []) (flat_map process_scopes (processes_of b))

marked : (b : PlainBlock) (one two three four five place : Option ℕ)
    → Marks one (repeats [] (signal_names b)) → Marks two (repeats [] (route_names b)) → Marks three (repeats [] (process_names b)) → Marks four (inside_of b) → Marks five (signal_timers b)
    → ((vs ws xs ys zs : List ℕ) → Marks one vs → Marks two ws → Marks three xs → Marks four ys → Marks five zs → Marks place ((vs ++ (ws ++ (xs ++ ys))) ++ zs))
    → Marks place (double_names b)
marked b one two three four five place m n o p q join =
    join (repeats [] (signal_names b)) (repeats [] (route_names b)) (repeats [] (process_names b)) (inside_of b) (signal_timers b) m n o p q

pub returns-in-Some-clause-double : goal.returns-in-Some-clause-double
returns-in-Some-clause-double c =
    let b = block_of c.args.block.now in
    subst (λ (o : Option ℕ). Marks o (double_names b)) c.in-Some.is
    (marked b c.in_ok-signals.signals.double c.in_ok-routes.routes.double c.in_ok-processes.processes.double c.in_ok-processes.processes.inside c.in_ok-processes.processes.shared c.first_double-double.result
    c.in_ok-signals.ensures.double c.in_ok-routes.ensures.double c.in_ok-processes.ensures.double c.in_ok-processes.ensures.inside c.in_ok-processes.ensures.shared c.first_double-double.ensures)

pub returns-in_err-processes-clause-double : goal.returns-in_err-processes-clause-double
returns-in_err-processes-clause-double c =
    let p = err_from_is_err_and c.from_residual-in_err-processes.result c.from_residual-in_err-processes.ensures.1 in
    rw (p.1, p.2) tt

pub invariant_of-result : goal.invariant_of-result
invariant_of-result c =
    let b = block_of c.args.block.now in
    let none : double_names b ≡ [] =
    subst (λ (o : Option ℕ). Marks o (double_names b)) c.in-None.is
    (marked b c.in_ok-signals.signals.double c.in_ok-routes.routes.double c.in_ok-processes.processes.double c.in_ok-processes.processes.inside c.in_ok-processes.processes.shared c.first_double-double.result
    c.in_ok-signals.ensures.double c.in_ok-routes.ensures.double c.in_ok-processes.ensures.double c.in_ok-processes.ensures.inside c.in_ok-processes.ensures.shared c.first_double-double.ensures) in
    let declared = append-nil_left _ _ none in
    let later = append-nil_right _ _ (append-nil_right _ _ declared) in
    let inside : c.in_ok-processes.processes.inside ≡ None =
    Marks-none c.in_ok-processes.processes.inside (inside_of b) c.in_ok-processes.ensures.inside (append-nil_right _ _ later) in
    record {
      signals = c.in_ok-signals.ensures.names ∙ names_once-distinct (signal_names b) (append-nil_left _ _ declared);
      rows = c.in_ok-signals.ensures.rows;
      routes = c.in_ok-routes.ensures.rows;
      index = c.in_ok-routes.ensures.index;
      processes = c.in_ok-processes.ensures.names ∙ names_once-distinct (process_names b) (append-nil_left _ _ later);
      tables = c.in_ok-processes.ensures.tables inside;
      distinct = none;
    }
