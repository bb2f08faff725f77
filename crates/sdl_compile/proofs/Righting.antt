-- A text that breaks no rule has the right sorts, divisors and receivers.
use Rattle.std.proofs.Common.{List}
use Rattle.sdl_ast.specs.Plain.{Tree, Text, falls, ends, does, decides, Choice, nothing_else, otherwise, answer}
use Rattle.sdl_sound.specs.Statements.{statements_of, choice_statements}
use Rattle.sdl_sound.specs.Actions.{Origin}
use Rattle.sdl_meaning.specs.Outcomes.{Scope}
use Rattle.sdl_sound.proofs.Items.{Each, each_front, each_back}
use Rattle.sdl_compile.proofs.Knowing.{FineStatement}
use Rattle.sdl_compile.proofs.RightTexts.{RightText, RightChoice}

module _ (c : Scope) (is : List Origin) where
  mutual
    pub right_text : (t : Text) → Each (FineStatement c is) (statements_of t) → RightText c is t
    right_text falls fine = tt
    right_text (ends e) fine = tt
    right_text (does a rest) fine = ((fine.0.sorted, fine.0.divided, fine.0.received, fine.0.single), right_text rest fine.1)
    right_text (decides at q choice rest) fine =
        let P = FineStatement c is in (
          (fine.0.sorted, fine.0.divided),
          right_choice q choice (each_front P (choice_statements q choice) (statements_of rest) fine.1),
          right_text rest (each_back P (choice_statements q choice) (statements_of rest) fine.1),
        )

    right_choice : (q : Tree) (choice : Choice) → Each (FineStatement c is) (choice_statements q choice) → RightChoice c is choice
    right_choice q nothing_else fine = tt
    right_choice q (otherwise body) fine = right_text body fine
    right_choice q (answer at rs body others) fine =
        let P = FineStatement c is in
        (right_text body (each_front P (statements_of body) (choice_statements q others) fine.1), right_choice q others (each_back P (statements_of body) (choice_statements q others) fine.1))
