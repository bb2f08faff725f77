-- Views of the state that the code keeps while it reads a transition.
use Rattle.std.specs.Prelude.{List, map, reverse}
use Rattle.std.specs.Option.{option_map}
use Rattle.sdl_productions.specs.declared.marked.Marked as the_marked
use Rattle.sdl_productions.specs.declared.marked.Marked.TheVariants as marks
use Rattle.sdl_productions.specs.declared.bodies.Branching as the_branching
use Rattle.sdl_productions.specs.declared.bodies.Body as the_body
use Rattle.sdl_productions.specs.declared.bodies.Reached as the_reached
use Rattle.sdl_productions.specs.declared.bodies.Move as the_move
use Rattle.sdl_productions.specs.declared.bodies.Move.TheVariants as moves
use Rattle.sdl_productions.specs.Bodies.{MarkedBranching, MarkedBody, MarkedReached, MarkedMove}
use Rattle.sdl_productions.specs.Bodies.{reaches, closes}
use Rattle.sdl_productions.specs.Marks.{Marked, kept, too_high}
use Rattle.sdl_ast.specs.Plain.{PlainQuestion, PlainHead}
use Rattle.sdl_productions.specs.declared.bodies.Question.{Question}
use Rattle.sdl_productions.specs.declared.bodies.Head.{Head}
use Rattle.sdl_ast.specs.Views.{tree_of, plain_statement, plain_answer, text_of}

-- the part that was read, or its mark
abbrev pub marked_view : {A B : Type 0} → (A → B) → the_marked.Marked A → Marked B
marked_view f (marks.Kept x) = kept (f x)
marked_view f (marks.TooHigh at) = too_high at

-- the question of a DECISION and the head of an answer
abbrev pub question_of : Question → PlainQuestion
question_of q = record { at = q.at; question = tree_of q.question }

abbrev pub head_of : Head → PlainHead
head_of h = record { at = h.at; ranges = h.ranges.items }

abbrev pub branching_view : the_branching.Branching → MarkedBranching
branching_view b =
    record {
      before = marked_view (λ v. map plain_statement v.items) b.before;
      asked = question_of b.asked;
      answers =
          marked_view (λ v. map plain_answer v.items) b.answers;
    }

abbrev pub body_view : the_body.Body → MarkedBody
body_view b = record { branching = branching_view b.branching; head = option_map head_of b.head }

-- the code keeps the innermost body last, the definition keeps it first
abbrev pub bodies_view : List the_body.Body → List MarkedBody
bodies_view bodies = reverse (map body_view bodies)

abbrev pub reached_view : the_reached.Reached → MarkedReached
reached_view r =
    record {
      outer = bodies_view r.outer.items;
      here = marked_view (λ v. map plain_statement v.items) r.here;
    }

abbrev pub move_view : the_move.Move → MarkedMove
move_view (moves.Reaches r) = reaches (reached_view r)
move_view (moves.Closes t) = closes (marked_view text_of t)
