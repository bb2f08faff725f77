-- The values so far, and the words not yet read.
use Rattle.std.proofs.Common.{◌≡◌, ◌++◌, drop, is_some}
use Rattle.std.specs.List.{list_all, filter_map}
use Rattle.script_lines.specs.Lines.{texts}
use Rattle.script_lines.specs.Numbers.{value_of}
use Rattle.script_lines.proofs.commands.values_in.Given as goal

abbrev pub invariant-loop-word : goal.invariant-loop-word
invariant-loop-word l = record {
  good : list_all (λ w. is_some (value_of w)) (texts (drop l.word-index l.words)) ≡ list_all (λ w. is_some (value_of w)) (texts l.words);
  values : l.values.items ++ filter_map value_of (texts (drop l.word-index l.words)) ≡ filter_map value_of (texts l.words);
}
