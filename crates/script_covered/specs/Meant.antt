-- How the path of a turn relates to the meaning of its text: both come to the same end, with the
-- same variables.
use Rattle.std.specs.Prelude.{◌≡◌, Option, None, Some}
use Rattle.std.specs.Option.{option_map}
use Rattle.sdl_ast.specs.declared.tree.End.{End}
use Rattle.sdl_ast.specs.declared.tree.End.TheVariants.{NextState, Stop, Join}
use Rattle.sdl_sound.specs.Longest.{Piece}
use Rattle.sdl_meaning.specs.Act.{Act}
use Rattle.sdl_meaning.specs.Outcomes.{Scope, state_at}
use Rattle.turn_code.specs.Run.{Progress, ended}
use Rattle.turn_code.specs.declared.input.Input.{Input}
use Rattle.turn_code.specs.declared.machine.End as code
use Rattle.turn_code.specs.declared.machine.End.TheVariants as code_end
use Rattle.script_covered.specs.Ways.{Way}
use Rattle.script_covered.specs.Covered.{turn_way}

-- the end of a turn for an end of its text; a JOIN is no end of a turn
abbrev pub meant_end : Scope → End → Option code.End
meant_end c (NextState n) =
    option_map (λ q. code_end.State (record { 0 = q })) (state_at c n.state)
meant_end c (Stop k) = Some code_end.Stop
meant_end c (Join j) = None

-- the path comes to this end, with the variables of this progress
pub record ComesTo (c : Scope) (w : Way) (e : code.End) (s : Progress) : Type 0 where
  pub end : End
  pub is_end : w.end ≡ Some end
  pub is_meant : meant_end c end ≡ Some e
  pub variables : w.values ≡ s.variables

abbrev pub WayLaw : Type 0
WayLaw =
    (c : Scope) (q : Piece) (x : Input) (e : code.End) (s : Progress) → Act c q x ≡ ended e s
    → ComesTo c (turn_way c.process q.places q.text x) e s
