-- Views of the stack of operands that the code keeps.
use Rattle.std.specs.Prelude.{◌≡◌, ◌<◌, Option, None, Some, List, [], ◌∷◌, map, reverse, length}
use Rattle.std.specs.Prelude.{Result, Ok, Err}
use Rattle.sdl_lex.specs.declared.lexemes.Token.{Token}
use Rattle.sdl_productions.specs.declared.signs.Sign as the_sign
use Rattle.sdl_productions.specs.declared.signs.Sign.TheVariants as signs
use Rattle.sdl_productions.specs.declared.frames.Terms as the_terms
use Rattle.sdl_productions.specs.declared.frames.Tests as the_tests
use Rattle.sdl_productions.specs.declared.frames.Frame as the_frame
use Rattle.sdl_productions.specs.declared.operands.State as the_state
use Rattle.sdl_productions.specs.declared.operands.Turn as the_turn
use Rattle.sdl_productions.specs.declared.operands.Turn.TheVariants as turns
use Rattle.sdl_productions.specs.declared.part.Part.{Part}
use Rattle.sdl_ast.specs.Plain.{number, truth, variable}
use Rattle.sdl_productions.specs.Expressions.{Sign, leaf, joins, minus, denies, opens, closes}
use Rattle.sdl_productions.specs.Expressions.{other, sign}
use Rattle.sdl_productions.specs.declared.operands.Step as the_step
use Rattle.sdl_productions.specs.declared.operands.Step.TheVariants as steps
use Rattle.sdl_productions.specs.declared.stop.Stop.{Stop}
use Rattle.sdl_productions.specs.Readings.{read}
use Rattle.sdl_productions.specs.Mirrors.{Stops}
use Rattle.sdl_productions.specs.Machine.{run, low_trees, Terms, Tests, Frame, State, wants, has}
use Rattle.sdl_productions.specs.Machine.{Turn, goes, done, stuck}
use Rattle.sdl_productions.specs.Parts.{slot_view}
use Rattle.sdl_ast.specs.Views.{tree_of}

abbrev pub sign_view : the_sign.Sign → Sign
sign_view (signs.Number at value) = leaf (number at value)
sign_view (signs.Truth at value) = leaf (truth at value)
sign_view (signs.Variable at name) = leaf (variable at name)
sign_view (signs.Joins level operator) = joins level operator
sign_view (signs.Minus at) = minus at
sign_view (signs.Denies at) = denies at
sign_view (signs.Opens at) = opens at
sign_view signs.Closes = closes
sign_view signs.Other = other

abbrev pub next_sign : List Token → Sign
next_sign [] = other
next_sign (t ∷ ts) = sign t

abbrev pub terms_view : the_terms.Terms → Terms
terms_view t = record { sum = slot_view t.sum; product = slot_view t.product; lead = t.lead }

abbrev pub tests_view : the_tests.Tests → Tests
tests_view k =
    record {
      disjunction = slot_view k.disjunction;
      conjunction = slot_view k.conjunction;
      relation = slot_view k.relation;
    }

abbrev pub frame_view : the_frame.Frame → Frame
frame_view f = record { opened = f.opened; tests = tests_view f.tests; terms = terms_view f.terms }

abbrev pub stack_view : List the_frame.Frame → List Frame
stack_view frames = reverse (map frame_view frames)

abbrev pub state_at : List Frame → Frame → Option Part → State
state_at ls l None = wants ls l
state_at ls l (Some p) = has ls l (tree_of p.tree.value)

abbrev pub state_view : the_state.State → State
state_view s = state_at (stack_view s.outer.items) (frame_view s.here) s.operand

abbrev pub turn_view : the_turn.Turn → Turn
turn_view (turns.Goes s) = goes (state_view s)
turn_view (turns.Done p) = done (tree_of p.tree.value)
turn_view turns.Stuck = stuck

-- the effect of one token on a state, given the remaining tokens
abbrev pub Advances : Result the_step.Step Stop → State → List Token → Type 0
Advances (Ok (steps.Goes s after)) before ts =
    (run low_trees before ts ≡ run low_trees (state_view s) after.now)
    × (length after.now < length ts)
Advances (Ok (steps.Done e)) before ts = run low_trees before ts ≡ read (tree_of e) ts
Advances (Err stop) before ts = Stops stop (run low_trees before ts)
