use Rattle.std.proofs.Common.{ℕ, List, take}
use Rattle.sdl_ast.specs.Plain.{falls, nothing_else}
use Rattle.sdl_ast.specs.Views.{process_of, statements_before, answers_before}
use Rattle.sdl_sound.specs.Chances.{Chances}
use Rattle.sdl_unset.specs.Flows.{Walked, Forked, AreTold, text_doings, choice_doings}
use Rattle.sdl_unset.proofs.walks.+walking.Given as goal

abbrev pub invariant-walk_transition-loop-statement : goal.invariant-walk_transition-loop-statement
invariant-walk_transition-loop-statement l =
    (told : List ℕ → ℕ → List ℕ → Chances) → AreTold (process_of l.table) told l.walkers
    → Walked (process_of l.table) (text_doings (process_of l.table) told (statements_before (take l.statement-index l.statement-items) falls)) l.initial.walker l.walker

abbrev pub invariant-walk_decision-loop-answer : goal.invariant-walk_decision-loop-answer
invariant-walk_decision-loop-answer l =
    (told : List ℕ → ℕ → List ℕ → Chances) → AreTold (process_of l.table) told l.walkers
    → Forked (process_of l.table) (choice_doings (process_of l.table) told (answers_before (take l.answer-index l.answer-items) nothing_else)) l.initial.walker l.walker l.after
