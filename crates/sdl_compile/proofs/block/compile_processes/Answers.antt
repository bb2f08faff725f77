use Rattle.std.proofs.Common.{subst, sym, ap, ◌∙◌, arith, add-one}
use Rattle.sdl_ast.specs.declared.tree.Process as the_process
use Rattle.sdl_ast.specs.Views.{block_of, process_of}
use Rattle.sdl_tables.specs.Names.{processes_of}
use Rattle.sdl_sound.specs.Settled.{AreSettled}
use Rattle.sdl_sound.specs.Orders.{IsOrder}
use Rattle.sdl_emit.specs.Measures.{AreMeasures}
use Rattle.sdl_meaning.specs.Act.{scope_of}
use Rattle.sdl_compile.specs.Drafts.{IsReadyProcess, MatchesProcess, IsProcessOf}
use Rattle.sdl_compile.proofs.Zips.{zip_more}
use Rattle.sdl_compile.proofs.Whole.{row_at, one_ready, paired}
use Rattle.sdl_compile.proofs.block.compile_processes.Goals as goal

pub compile_process-requires-clause-ready : goal.compile_process-requires-clause-ready
compile_process-requires-clause-ready c =
    one_ready (λ p. IsReadyProcess (scope_of (block_of c.args.block.now) p)) (processes_of (block_of c.args.block.now)) c.tables-tables.result.now c.loop-number.number c.index-tables-number.result c.tables-tables.ensures c.loop-number-test.true c.index-tables-number.is c.requires.ready

pub bounds-surveys-number : goal.bounds-surveys-number
bounds-surveys-number c =
    let e = paired AreSettled (processes_of (block_of c.args.block.now)) c.tables-tables.result.now c.args.surveys.now.sets.now c.tables-tables.ensures c.requires.settled in
    let lt = c.loop-number-test.true in
    omega (arith, e, lt)

pub compile_process-requires-clause-settled : goal.compile_process-requires-clause-settled
compile_process-requires-clause-settled c =
    row_at AreSettled (processes_of (block_of c.args.block.now)) c.tables-tables.result.now c.args.surveys.now.sets.now c.loop-number.number c.index-tables-number.result c.index-surveys-number.result c.deref.result.now c.tables-tables.ensures c.loop-number-test.true
    c.index-tables-number.is c.index-surveys-number.is (c.deref.ensures.value ∙ ap (λ v. v.items) (sym c.index-surveys-number.is)) c.requires.settled

pub bounds-surveys-number-in-loop-number : goal.bounds-surveys-number-in-loop-number
bounds-surveys-number-in-loop-number c =
    let e = paired IsOrder (processes_of (block_of c.args.block.now)) c.tables-tables.result.now c.args.surveys.now.orders.now c.tables-tables.ensures c.requires.ordered in
    let lt = c.loop-number-test.true in
    omega (arith, e, lt)

pub compile_process-requires-clause-ordered : goal.compile_process-requires-clause-ordered
compile_process-requires-clause-ordered c =
    row_at IsOrder (processes_of (block_of c.args.block.now)) c.tables-tables.result.now c.args.surveys.now.orders.now c.loop-number.number c.index-tables-number.result c.index-surveys-number-in-loop-number.result c.deref-in-loop-number.result.now c.tables-tables.ensures c.loop-number-test.true
    c.index-tables-number.is c.index-surveys-number-in-loop-number.is (c.deref-in-loop-number.ensures.value ∙ ap (λ v. v.items) (sym c.index-surveys-number-in-loop-number.is)) c.requires.ordered

pub bounds-surveys-number-in-loop-number-2 : goal.bounds-surveys-number-in-loop-number-2
bounds-surveys-number-in-loop-number-2 c =
    let e = paired AreMeasures (processes_of (block_of c.args.block.now)) c.tables-tables.result.now c.args.surveys.now.measures.now c.tables-tables.ensures c.requires.measured in
    let lt = c.loop-number-test.true in
    omega (arith, e, lt)

pub compile_process-requires-clause-measured : goal.compile_process-requires-clause-measured
compile_process-requires-clause-measured c =
    row_at AreMeasures (processes_of (block_of c.args.block.now)) c.tables-tables.result.now c.args.surveys.now.measures.now c.loop-number.number c.index-tables-number.result c.index-surveys-number-in-loop-number-2.result c.deref-in-loop-number-2.result.now c.tables-tables.ensures c.loop-number-test.true
    c.index-tables-number.is c.index-surveys-number-in-loop-number-2.is (c.deref-in-loop-number-2.ensures.value ∙ ap (λ v. v.items) (sym c.index-surveys-number-in-loop-number-2.is)) c.requires.measured

pub loop-number-preserved : goal.loop-number-preserved
loop-number-preserved c =
    let b = block_of c.args.block.now in
    let old = c.loop-number.processes.items in
    let item = c.in_ok-compile_process.field-0 in
    let row = c.index-tables-number.result in
    record {
      matches = rw (add-one, c.in_ok-push.ensures.items)
          (zip_more (MatchesProcess b) process_of c.tables-tables.result.now c.loop-number.number row old item c.loop-number-test.true c.loop-number.invariant.matches
          (subst (λ (t : the_process.Process). MatchesProcess b (process_of t) item) c.index-tables-number.is c.in_ok-compile_process.ensures.matches));
      made = rw (add-one, c.in_ok-push.ensures.items)
          (zip_more (IsProcessOf b) process_of c.tables-tables.result.now c.loop-number.number row old item c.loop-number-test.true c.loop-number.invariant.made
          (subst (λ (t : the_process.Process). IsProcessOf b (process_of t) item) c.index-tables-number.is c.in_ok-compile_process.ensures.made));
    }
