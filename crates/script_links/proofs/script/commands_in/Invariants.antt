-- The commands so far, and the lines not yet read.
use Rattle.std.proofs.Common.{◌≡◌, ◌++◌, drop, map}
use Rattle.std.specs.Prelude.{find}
use Rattle.std.specs.List.{filter_map}
use Rattle.script_lines.specs.Lines.{plain_line}
use Rattle.script_links.specs.TermScripts.{plain_term_said, is_bad_term, term_said_of}
use Rattle.script_links.proofs.script.commands_in.Given as goal

abbrev pub invariant-loop-line : goal.invariant-loop-line
invariant-loop-line l = record {
  bad : find is_bad_term (map plain_line (drop l.line-index l.lines)) ≡ find is_bad_term (map plain_line l.lines);
  commands : map plain_term_said l.commands.items ++ filter_map term_said_of (map plain_line (drop l.line-index l.lines)) ≡ filter_map term_said_of (map plain_line l.lines);
}
