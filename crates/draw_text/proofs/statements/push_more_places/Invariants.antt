use Rattle.std.proofs.Common.{◌≡◌, ◌++◌, drop}
use Rattle.std.specs.List.{flat_map}
use Rattle.std.specs.Prelude.{codes}
use Rattle.sdl_ast.specs.Views.{process_of}
use Rattle.draw_text.specs.Statements.{place_text}
use Rattle.draw_text.proofs.statements.push_more_places.Given as goal

abbrev pub invariant-loop-place : goal.invariant-loop-place
invariant-loop-place l = l.text.items ++ flat_map (λ q. codes ", " ++ place_text (process_of l.process) q) (drop l.place-index l.places) ≡ l.initial.text.items ++ flat_map (λ q. codes ", " ++ place_text (process_of l.process) q) (l.places)
