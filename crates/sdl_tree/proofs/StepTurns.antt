-- The invariant of the loop over the steps of a transition.
use Rattle.std.proofs.Common.{◌≡◌, ◌<◌, List, length, ap, ◌∙◌}
use Rattle.sdl_lex.specs.declared.lexemes.Token.{Token}
use Rattle.sdl_ast.specs.declared.tree.Transition.{Transition}
use Rattle.sdl_productions.specs.declared.bodies.Reached as the_reached
use Rattle.sdl_productions.specs.declared.bodies.Move as the_move
use Rattle.sdl_productions.specs.declared.bodies.Move.TheVariants as moves
use Rattle.sdl_productions.specs.declared.stop.Stop.{Stop}
use Rattle.sdl_productions.specs.declared.stop.Stop.TheVariants.{Unexpected, NoMemory}
use Rattle.sdl_ast.specs.Plain.{Text}
use Rattle.sdl_productions.specs.declared.marked.Marked as the_marked
use Rattle.sdl_productions.specs.Bodies.{MarkedReached, marked_texts}
use Rattle.sdl_productions.specs.Marks.{Marked}
use Rattle.sdl_productions.specs.BodyViews.{marked_view, reached_view, move_view}
use Rattle.sdl_productions.specs.Mirrors.{Stops}
use Rattle.sdl_productions.specs.Readings.{Reading, read}
use Rattle.sdl_productions.specs.Productions.{step_at, steps_from}
use Rattle.sdl_ast.specs.Views.{text_of}
use Rattle.sdl_tree.proofs.StepLemmas.{step_shortens, from_reaches, from_closes, from_fails}

pub step_goes_on : (s : MarkedReached) (ts us : List Token) (m : the_move.Move) (next : the_reached.Reached) (r : Reading (Marked Text)) → m ≡ moves.Reaches next
    → step_at marked_texts s ts ≡ read (move_view m) us → r ≡ steps_from marked_texts s ts → r ≡ steps_from marked_texts (reached_view next) us
step_goes_on s ts us m next r e h k = k ∙ from_reaches marked_texts s (reached_view next) ts us (h ∙ ap (λ n. read (move_view n) us) e)

pub step_smaller : (s : MarkedReached) (ts us : List Token) (m : the_move.Move) (next : the_reached.Reached) → m ≡ moves.Reaches next
    → step_at marked_texts s ts ≡ read (move_view m) us → length us < length ts
step_smaller s ts us m next e h = step_shortens marked_texts s (reached_view next) ts us (h ∙ ap (λ n. read (move_view n) us) e)

pub step_closes : (s : MarkedReached) (ts us : List Token) (m : the_move.Move) (t : the_marked.Marked Transition) (r : Reading (Marked Text)) → m ≡ moves.Closes t
    → step_at marked_texts s ts ≡ read (move_view m) us → r ≡ steps_from marked_texts s ts → r ≡ read (marked_view text_of t) us
step_closes s ts us m t r e h k = k ∙ from_closes marked_texts s ts us (marked_view text_of t) (h ∙ ap (λ n. read (move_view n) us) e)

pub step_stops : (s : MarkedReached) (ts : List Token) (stop : Stop) (r : Reading (Marked Text)) → Stops stop (step_at marked_texts s ts) → r ≡ steps_from marked_texts s ts → Stops stop r
step_stops s ts (Unexpected left) r h k = k ∙ from_fails marked_texts s ts left.now h
step_stops s ts NoMemory r h k = tt
