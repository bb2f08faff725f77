-- The words written so far, and those still to write.
use Rattle.std.proofs.Common.{◌≡◌, ◌++◌, ◌∷◌, drop}
use Rattle.std.specs.List.{flat_map}
use Rattle.script_lines.specs.Lines.{texts}
use Rattle.script_seen.proofs.fronts.push_spaced.Given as goal

abbrev pub invariant-loop-word : goal.invariant-loop-word
invariant-loop-word l =
    l.text.items ++ flat_map (λ w. 32 ∷ w) (texts (drop l.word-index l.words)) ≡ l.initial.text.items ++ flat_map (λ w. 32 ∷ w) (texts l.words)
