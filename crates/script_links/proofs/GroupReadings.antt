-- Reading a link set's script, by the length of the text.
use Rattle.std.proofs.Common.{◌≡◌, ℕ, ◌<◌, ◌≤◌, List, length, refl, Err}
use Rattle.std.proofs.lemmas.Bool.{lt-ltb, le-ltb}
use Rattle.plain_text.specs.Reading.{LONGEST}
use Rattle.script_lines.specs.Lines.{lines_of, line_at}
use Rattle.script_links.specs.TermScripts.{any_script_of}
use Rattle.script_links.specs.GroupScripts.{play_in, play_script_of}

pub long : (text : List ℕ) → LONGEST < length text → play_script_of text ≡ Err (line_at text LONGEST)
unfolding play_script_of
long text more = rw (lt-ltb LONGEST (length text) more) refl

pub short : (text : List ℕ) → length text ≤ LONGEST → play_script_of text ≡ play_in (lines_of text) (any_script_of text)
unfolding play_script_of
short text less = rw (le-ltb LONGEST (length text) less) refl
