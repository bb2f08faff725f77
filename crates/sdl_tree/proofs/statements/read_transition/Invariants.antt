use Rattle.std.proofs.Common.{◌≡◌, length}
use Rattle.sdl_productions.specs.BodyViews.{reached_view}
use Rattle.sdl_productions.specs.Bodies.{marked_texts}
use Rattle.sdl_productions.specs.Productions.{steps_from, text_at}
use Rattle.sdl_tree.proofs.statements.read_transition.Given as goal

abbrev pub invariant-steps : goal.invariant-steps
invariant-steps l = text_at marked_texts l.tokens ≡ steps_from marked_texts (reached_view l.reached) l.rest

abbrev pub decreases-steps : goal.decreases-steps
decreases-steps l = length l.rest
