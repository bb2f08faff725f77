-- The values written so far, and those still to write.
use Rattle.std.proofs.Common.{◌≡◌, ◌++◌, ◌∷◌, drop}
use Rattle.std.specs.List.{flat_map}
use Rattle.script_lines.specs.Replies.{value_text}
use Rattle.script_seen.proofs.pushing.push_values.Given as goal

abbrev pub invariant-loop-value : goal.invariant-loop-value
invariant-loop-value l =
    l.line.items ++ flat_map (λ v. 32 ∷ value_text v) (drop l.value-index l.values) ≡ l.initial.line.items ++ flat_map (λ v. 32 ∷ value_text v) l.values
