-- The drawing of a process in SVG: its parts with their places, no two of which overlap.
use Rattle.std.specs.Prelude.{◌≡◌, ℕ, ◌+◌, ◌==◌, Bool, true, ◌&&◌, ◌||◌, nat_le, List, []}
use Rattle.std.specs.Prelude.{◌∷◌, ◌++◌, map, codes, if◌then◌else◌}
use Rattle.std.specs.List.{flat_map, list_all}
use Rattle.draw_text.specs.Plain.{PlainBlock, PlainProcess}
use Rattle.draw_sets.specs.declared.frames.Placed.{Placed}
use Rattle.draw_sets.specs.declared.frames.Line.{Line}
use Rattle.draw_sets.specs.declared.layout.Drawn.{Drawn}
use Rattle.draw_sets.specs.declared.svg.TheConstants.{STYLE}
use Rattle.draw_text.specs.Parts.{PlainPart, part_of, is_symbol}
use Rattle.draw_text.specs.Pieces.{process_parts}
use Rattle.draw_sets.specs.Outlines.{numbered, outline_text, written_text, line_text}

-- A part with its place.
pub record PlainDrawn : Type 0 where
  pub part : PlainPart
  pub place : Placed

abbrev pub drawn_of : Drawn → PlainDrawn
drawn_of d = record { part = part_of d.part.now; place = d.place }

abbrev pub part_drawn : Drawn → PlainPart
part_drawn d = part_of d.part.now

abbrev pub place_drawn : Drawn → Placed
place_drawn d = d.place

-- ---- places

-- the stretch ends at or before the start of another one
abbrev pub ends_before : ℕ → ℕ → ℕ → Bool
ends_before start length other = nat_le (start + length) other

-- two places share no point except on their edges; a place of no width has no points
abbrev pub are_apart : Placed → Placed → Bool
are_apart p q =
    p.width == 0 || q.width == 0
    || ends_before p.left p.width q.left || ends_before q.left q.width p.left
    || ends_before p.top p.height q.top || ends_before q.top q.height p.top

-- every two of these places are apart
abbrev pub all_apart : List Placed → Bool
all_apart [] = true
all_apart (p ∷ places) = list_all (are_apart p) places && all_apart places

-- ---- SVG

-- a symbol with the words written in it
unfoldable pub drawn_text : PlainDrawn → List ℕ
drawn_text d =
    if is_symbol d.part.kind
    then outline_text d.part.kind d.place ++ written_text d.place d.part.text else []

unfoldable pub svg_text : List ℕ
svg_text = codes "<svg xmlns=\"http://www.w3.org/2000/svg\""

unfoldable pub view_text : ℕ → ℕ → List ℕ
view_text across along =
    numbered (codes "\" viewBox=\"0 0 ") across ++ numbered (codes " ") along ++ codes "\">\n"

-- the size of the page
unfoldable pub head_text : ℕ → ℕ → List ℕ
head_text across along =
    svg_text ++ numbered (codes " width=\"") across ++ numbered (codes "\" height=\"") along
    ++ view_text across along

unfoldable pub page_text : List ℕ
page_text = codes "<rect class=\"page\" width=\"100%\" height=\"100%\"/>\n"

unfoldable pub title_style : List ℕ
title_style = codes "<text class=\"title\" x=\"20\" y=\"26\">PROCESS "

unfoldable pub title_text : List ℕ → List ℕ
title_text process = page_text ++ title_style ++ process ++ codes "</text>\n"

-- a drawing's text: the lines first, then the symbols
abbrev pub drawing_text : List ℕ → List ℕ → ℕ → ℕ → List Line → List PlainDrawn → List ℕ
drawing_text style process across along lines drawn =
    head_text across along ++ style ++ title_text process ++ flat_map line_text lines
    ++ flat_map drawn_text drawn ++ codes "</svg>\n"

-- The bytes are a drawing of the process: exactly its parts, in their order, no two of which
-- overlap, and some lines, on a page of some size.
pub record IsDrawing (b : PlainBlock) (p : PlainProcess) (bytes : List ℕ) : Type 0 where
  pub drawn : List PlainDrawn
  pub lines : List Line
  pub across : ℕ
  pub along : ℕ
  pub complete : map (λ d. d.part) drawn ≡ process_parts b p
  pub apart : all_apart (map (λ d. d.place) drawn) ≡ true
  pub printed : bytes ≡ drawing_text STYLE.now p.name.name across along lines drawn
