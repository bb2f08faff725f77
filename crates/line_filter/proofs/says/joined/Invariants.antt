-- The text so far, and the words not yet joined.
use Rattle.std.proofs.Common.{◌≡◌, ◌++◌, ◌∷◌, drop}
use Rattle.std.specs.Prelude.{string_bytes}
use Rattle.std.specs.List.{flat_map}
use Rattle.script_lines.specs.Lines.{texts}
use Rattle.line_filter.proofs.says.joined.Given as goal

abbrev pub invariant-loop-word : goal.invariant-loop-word
invariant-loop-word l = string_bytes l.text ++ flat_map (λ w. 32 ∷ w) (texts (drop l.word-index l.words)) ≡ l.first ++ flat_map (λ w. 32 ∷ w) (texts l.words)
