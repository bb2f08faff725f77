use Rattle.std.proofs.Common.{sym, arith, subst}
use lib.Bits.{bit_or}
use Rattle.sdl_ast.specs.declared.tree.Decision.{out-Decision}
use Rattle.sdl_ast.specs.declared.tree.Statement.{Statement}
use Rattle.sdl_ast.specs.Plain.{falls}
use Rattle.sdl_ast.specs.Views.{tree_of, statement_of, choice_of, process_of}
use Rattle.sdl_sound.specs.Paths.{tree_events}
use Rattle.sdl_unset.specs.Flows.{Walked, text_doings, choice_doings}
use Rattle.sdl_unset.proofs.Walkers.{walked_none, fork_start}
use Rattle.sdl_unset.proofs.Walking.{walked_decide, walked_more, walked_through, walked_end, forked_more, forked_through, forked_else, leaving_at}
use Rattle.sdl_unset.proofs.walks.+walking.Goals as goal
use Rattle.sdl_unset.proofs.walks.+walking.Goals.{walk_decision-in-Some, walk_decision-in-None}

pub walk_decision-loop-answer-init : goal.walk_decision-loop-answer-init
walk_decision-loop-answer-init t c = λ told h. fork_start (process_of c.args.table.now) c.args.walker.now

pub walk_decision-loop-answer-preserved : goal.walk_decision-loop-answer-preserved
walk_decision-loop-answer-preserved t c = λ told h.
    forked_more (process_of c.args.table.now) told c.deref-answer-items.result.now c.loop-answer.answer-index c.answer-item.result c.args.walker.now c.loop-answer.walker c.walk_transition.new.walker c.loop-answer.after
    c.loop-answer-test.true c.answer-item.is (c.loop-answer.invariant told h) (c.walk_transition.ensures told h)

pub walk_decision-returns : goal.walk_decision-returns
walk_decision-returns t c = λ told h.
    let p = process_of c.args.table.now in
    let d = c.args.decision.now in
    let list = c.deref-answer-items.result.now in
    let old = c.args.walker.now in
    let now = c.loop-answer.walker in
    elim c.match-decision.branch [
      | walk_decision-in-None w ↦
          leaving_at p (choice_doings p told (choice_of d)) old now c.match-decision.walker c.loop-answer.after c.match-decision.after w.walker-is w.after-is
          (forked_through p told d list c.loop-answer.answer-index old now c.loop-answer.after c.deref-answer-items.ensures.value (omega arith) w.in-None.is (c.loop-answer.invariant told h))
      | walk_decision-in-Some w ↦
          let next = w.walk_transition-in-Some.new.walker in
          leaving_at p (choice_doings p told (choice_of d)) old next c.match-decision.walker (bit_or c.loop-answer.after next.leaves) c.match-decision.after w.walker-is w.after-is
          (forked_else p told d list c.loop-answer.answer-index w.in-Some.body old now next c.loop-answer.after c.deref-answer-items.ensures.value (omega arith) w.in-Some.is
          (c.loop-answer.invariant told h) (w.walk_transition-in-Some.ensures told h))
    ]

pub walk_statement-returns-in-Decide : goal.walk_statement-returns-in-Decide
walk_statement-returns-in-Decide t c = λ told h.
    let p = process_of c.args.table.now in
    subst (λ (s : Statement). Walked p (text_doings p told (statement_of s falls)) c.args.walker.now c.walk_decision.new.walker) (sym c.in-Decide.is)
    (walked_decide p told c.in-Decide.decision c.args.walker.now c.pass.new.self c.walk_decision.new.walker
    (c.pass.ensures p (tree_events (tree_of (out-Decision c.in-Decide.decision).question)) c.expression_flow.ensures)
    (c.walk_decision.ensures told h))

pub walk_transition-loop-statement-init : goal.walk_transition-loop-statement-init
walk_transition-loop-statement-init t c = λ told h. walked_none (process_of c.args.table.now) c.args.walker.now

pub walk_transition-loop-statement-preserved : goal.walk_transition-loop-statement-preserved
walk_transition-loop-statement-preserved t c = λ told h.
    walked_more (process_of c.args.table.now) told c.deref-statement-items.result.now c.loop-statement.statement-index c.statement-item.result c.args.walker.now c.loop-statement.walker c.walk_statement.new.walker
    c.loop-statement-test.true c.statement-item.is (c.loop-statement.invariant told h) (c.walk_statement.ensures told h)

pub walk_transition-returns-in-Some : goal.walk_transition-returns-in-Some
walk_transition-returns-in-Some t c = λ told h.
    walked_end (process_of c.args.table.now) told c.args.transition.now c.deref-statement-items.result.now c.loop-statement.statement-index c.in-Some.end c.args.walker.now c.loop-statement.walker c.walk_end.new.walker
    c.deref-statement-items.ensures.value (omega arith) c.in-Some.is (c.loop-statement.invariant told h) (c.walk_end.ensures told h)

pub walk_transition-returns-in-None : goal.walk_transition-returns-in-None
walk_transition-returns-in-None t c = λ told h.
    walked_through (process_of c.args.table.now) told c.args.transition.now c.deref-statement-items.result.now c.loop-statement.statement-index c.args.walker.now c.loop-statement.walker
    c.deref-statement-items.ensures.value (omega arith) c.in-None.is (c.loop-statement.invariant told h)
