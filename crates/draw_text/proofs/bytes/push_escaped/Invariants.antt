use Rattle.std.proofs.Common.{◌≡◌, ◌++◌, drop}
use Rattle.std.specs.List.{flat_map}
use Rattle.draw_text.specs.Escapes.{entity}
use Rattle.draw_text.proofs.bytes.push_escaped.Given as goal

abbrev pub invariant-loop-byte : goal.invariant-loop-byte
invariant-loop-byte l = l.text.items ++ flat_map entity (drop l.byte-index l.bytes) ≡ l.initial.text.items ++ flat_map entity l.bytes
