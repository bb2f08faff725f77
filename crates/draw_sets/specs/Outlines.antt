-- Symbols as SDL-GR draws them (Z.100), and lines, in SVG.
use Rattle.std.specs.Prelude.{ℕ, ◌/◌, ◌-◌, ◌==◌, List, [], ◌++◌, codes, if◌then◌else◌}
use Rattle.std.specs.List.{flat_map}
use Rattle.std.specs.Fmt.{decimal}
use Rattle.draw_text.specs.Escapes.{entity}
use Rattle.draw_text.specs.declared.parts.Kind.{Kind}
use Rattle.draw_text.specs.declared.parts.Kind.TheVariants as kinds
use Rattle.draw_sets.specs.declared.frames.Placed.{Placed}
use Rattle.draw_sets.specs.declared.frames.Line.{Line}

abbrev pub numbered : List ℕ → ℕ → List ℕ
numbered before n = before ++ decimal n

-- the point where an outline begins: the upper left corner of its place
abbrev pub corner_text : List ℕ → Placed → List ℕ
corner_text head p = head ++ numbered (codes "M") p.left ++ numbered (codes " ") p.top

abbrev pub box_text : List ℕ → Placed → ℕ → List ℕ
box_text head p round =
    numbered head p.left ++ numbered (codes "\" y=\"") p.top
    ++ numbered (codes "\" width=\"") p.width ++ numbered (codes "\" height=\"") p.height
    ++ numbered (codes "\" rx=\"") round ++ codes "\"/>\n"

-- a box with a notch on its right side
abbrev pub input_text : Placed → List ℕ
input_text p =
    corner_text (codes "<path class=\"input\" d=\"") p ++ numbered (codes "h") p.width
    ++ numbered (codes "l-10 ") (p.height / 2) ++ numbered (codes "l10 ") (p.height / 2)
    ++ numbered (codes "h-") p.width ++ codes "z\"/>\n"

-- a box of this width, with a point on its right side
unfoldable pub pointed_text : Placed → ℕ → List ℕ
pointed_text p across =
    corner_text (codes "<path class=\"output\" d=\"") p ++ numbered (codes "h") across
    ++ numbered (codes "l10 ") (p.height / 2) ++ numbered (codes "l-10 ") (p.height / 2)
    ++ numbered (codes "h-") across ++ codes "z\"/>\n"

abbrev pub output_text : Placed → List ℕ
output_text p = pointed_text p (p.width - 10)

-- a box with slanted sides
abbrev pub save_text : Placed → List ℕ
save_text p =
    corner_text (codes "<path class=\"save\" d=\"") p ++ numbered (codes "l10 ") p.height
    ++ numbered (codes "h") (p.width - 10) ++ numbered (codes "l-10 -") p.height
    ++ codes "z\"/>\n"

-- the upper sides of a box that stands on a corner
unfoldable pub upper_text : Placed → List ℕ
upper_text p =
    corner_text (codes "<path class=\"question\" d=\"") p ++ numbered (codes "m0 ") (p.height / 2)
    ++ numbered (codes "l") (p.width / 2) ++ numbered (codes " -") (p.height / 2)

-- the lower sides of a box that stands on a corner
unfoldable pub lower_text : Placed → List ℕ
lower_text p =
    numbered (codes "l") (p.width / 2) ++ numbered (codes " ") (p.height / 2)
    ++ numbered (codes "l-") (p.width / 2) ++ numbered (codes " ") (p.height / 2)
    ++ codes "z\"/>\n"

-- a box that stands on a corner
abbrev pub question_text : Placed → List ℕ
question_text p = upper_text p ++ lower_text p

-- two crossed lines
abbrev pub stop_text : Placed → List ℕ
stop_text p =
    corner_text (codes "<path class=\"stop\" d=\"") p ++ numbered (codes "l") p.width
    ++ numbered (codes " ") p.height ++ numbered (codes "m0 -") p.height
    ++ numbered (codes "l-") p.width ++ numbered (codes " ") p.height ++ codes "\"/>\n"

abbrev pub state_text : Placed → List ℕ
state_text p = box_text (codes "<rect class=\"state\" x=\"") p 12

abbrev pub join_text : Placed → List ℕ
join_text p = box_text (codes "<rect class=\"join\" x=\"") p (p.width / 2)

-- the outline of a symbol; an answer has none
abbrev pub outline_text : Kind → Placed → List ℕ
outline_text kinds.Start p = state_text p
outline_text kinds.State p = state_text p
outline_text kinds.Connector p = join_text p
outline_text kinds.Input p = input_text p
outline_text kinds.Save p = save_text p
outline_text kinds.Task p = box_text (codes "<rect class=\"task\" x=\"") p 0
outline_text kinds.Output p = output_text p
outline_text kinds.Question p = question_text p
outline_text kinds.Answer p = []
outline_text kinds.NextState p = state_text p
outline_text kinds.Join p = join_text p
outline_text kinds.Stop p = stop_text p
outline_text kinds.Fork p = []
outline_text kinds.Branch p = []
outline_text kinds.Meet p = []

-- a byte of the words in a symbol, as an entity if needed; a line feed begins a new line
abbrev pub letter : ℕ → ℕ → List ℕ
letter middle b =
    if b == 10 then numbered (codes "</tspan><tspan x=\"") middle ++ codes "\" dy=\"14\">"
    else entity b

-- the words written in a symbol
abbrev pub written_text : Placed → List ℕ → List ℕ
written_text p bytes =
    numbered (codes "<text y=\"") p.base ++ numbered (codes "\"><tspan x=\"") p.middle
    ++ codes "\">" ++ flat_map (letter p.middle) bytes ++ codes "</tspan></text>\n"

unfoldable pub line_text : Line → List ℕ
line_text l =
    numbered (codes "<path class=\"line\" d=\"M") l.x ++ numbered (codes " ") l.y
    ++ numbered (codes "L") l.to_x ++ numbered (codes " ") l.to_y ++ codes "\"/>\n"
