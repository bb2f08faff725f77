-- The drawing of a process, composed of its pieces.
use Rattle.std.proofs.Common.{◌≡◌, ◌∙◌, ℕ, true, List, [], ◌∷◌, map, refl, ap}
use Rattle.draw_text.specs.Plain.{PlainBlock, PlainProcess}
use Rattle.draw_sets.specs.declared.frames.Line.{Line}
use Rattle.draw_sets.specs.declared.layout.Drawn.{Drawn}
use Rattle.draw_text.specs.declared.parts.Part.{Part}
use Rattle.draw_sets.specs.declared.svg.TheConstants.{STYLE}
use Rattle.draw_text.specs.Parts.{part_of}
use Rattle.draw_text.specs.Pieces.{process_parts}
use Rattle.draw_sets.specs.Drawing.{drawn_of, part_drawn, place_drawn, all_apart, drawing_text, IsDrawing}

parts_are : (xs : List Drawn) → map (λ d. d.part) (map drawn_of xs) ≡ map part_drawn xs
parts_are [] = refl
parts_are (x ∷ xs) = ap (λ t. part_drawn x ∷ t) (parts_are xs)

places_are : (xs : List Drawn) → map (λ d. d.place) (map drawn_of xs) ≡ map place_drawn xs
places_are [] = refl
places_are (x ∷ xs) = ap (λ t. place_drawn x ∷ t) (places_are xs)

pub drawing : (b : PlainBlock) (p : PlainProcess) (bytes : List ℕ) (parts : List Part) (xs : List Drawn) (lines : List Line) (across along : ℕ)
    → map part_of parts ≡ process_parts b p → map part_drawn xs ≡ map part_of parts → all_apart (map place_drawn xs) ≡ true
    → bytes ≡ drawing_text STYLE.now p.name.name across along lines (map drawn_of xs) → IsDrawing b p bytes
drawing b p bytes parts xs lines across along are_parts placed apart printed = record {
  drawn = map drawn_of xs;
  lines = lines;
  across = across;
  along = along;
  complete = parts_are xs ∙ (placed ∙ are_parts);
  apart = ap all_apart (places_are xs) ∙ apart;
  printed = printed;
}
