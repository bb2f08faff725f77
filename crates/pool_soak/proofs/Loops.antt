-- The lines that a loop has read, and the script that a text reads as.
use Rattle.std.proofs.Common.{◌≡◌, ℕ, ◌<◌, ◌≤◌, List, ◌∷◌, map, length, None, Some, Ok, Err, refl}
use Rattle.std.proofs.lemmas.Bool.{lt-ltb, le-ltb}
use Rattle.plain_text.specs.Reading.{LONGEST}
use Rattle.script_lines.specs.declared.lines.Line.{Line}
use Rattle.script_lines.specs.declared.script.ScriptFault.{ScriptFault}
use Rattle.script_lines.specs.declared.script.ScriptFault.TheVariants.{BadLine, NoMemory}
use Rattle.script_lines.specs.Lines.{PlainLine, texts, plain_line, lines_of, line_at}
use Rattle.pool_soak.specs.Scripts.{PlainSoak, empty, added, read, soak_of, IsFaultOf, IsBadAt}

-- ---- one more line

read_on : (s t : PlainSoak) (line : Line) (more : List Line) → added s (texts line.words.items) ≡ Some t
    → read s (map plain_line (line ∷ more)) ≡ read t (map plain_line more)
read_on s t line more is = rw is refl

-- ---- texts

pub long : (text : List ℕ) → LONGEST < length text → soak_of text ≡ Err (line_at text LONGEST)
unfolding soak_of
long text more = rw (lt-ltb LONGEST (length text) more) refl

pub good : (text : List ℕ) (lines : List PlainLine) (s : PlainSoak) (n : ℕ) → length text ≤ LONGEST → lines ≡ lines_of text → read empty lines ≡ Ok s
    → s.links ≡ Some n → soak_of text ≡ Ok s
unfolding soak_of
good text lines s n short are reads some = rw (le-ltb LONGEST (length text) short, ← are, reads, some) refl

pub unknown : (text : List ℕ) (lines : List PlainLine) (s : PlainSoak) → length text ≤ LONGEST → lines ≡ lines_of text → read empty lines ≡ Ok s
    → s.links ≡ None → soak_of text ≡ Err 1
unfolding soak_of
unknown text lines s short are reads none = rw (le-ltb LONGEST (length text) short, ← are, reads, none) refl

pub bad : (text : List ℕ) (lines : List PlainLine) (n : ℕ) → length text ≤ LONGEST → lines ≡ lines_of text → read empty lines ≡ Err n → soak_of text ≡ Err n
unfolding soak_of
bad text lines n short are reads = rw (le-ltb LONGEST (length text) short, ← are, reads) refl

pub fault : (text : List ℕ) (lines : List PlainLine) (f : ScriptFault) → length text ≤ LONGEST → lines ≡ lines_of text → IsBadAt empty lines f → IsFaultOf text f
fault text lines (BadLine n) short are reads = bad text lines n short are reads
fault text lines NoMemory short are reads = tt
