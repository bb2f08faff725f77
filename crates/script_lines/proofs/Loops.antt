-- What a loop over words or lines has read, and what it has yet to read.
use Rattle.std.proofs.Common.{◌≡◌, ℕ, ◌+◌, List, ◌∷◌, map, Option, None, Some, option_map, refl, sym, ap, ◌∙◌, ◌<◌, ◌≤◌, length, drop, get_or, Ok, Err}
use Rattle.std.specs.Prelude.{find}
use Rattle.std.specs.List.{filter_map}
use Rattle.std.proofs.lemmas.List.{drop_more, drop-map}
use Rattle.std.proofs.lemmas.Bool.{lt-ltb, le-ltb}
use Rattle.script_lines.specs.declared.lines.Line.{Line}
use Rattle.script_lines.specs.declared.settings.Settings.{Settings}
use Rattle.script_lines.specs.declared.script.ScriptFault.{ScriptFault}
use Rattle.script_lines.specs.declared.script.ScriptFault.TheVariants.{BadLine, NoMemory}
use Rattle.plain_text.specs.Reading.{LONGEST}
use Rattle.script_lines.specs.Lines.{PlainLine, texts, plain_line, lines_of, line_at}
use Rattle.script_lines.specs.Scripts.{is_bad, said_of, setting_of, defaults, after_head, commands_by, script_of, IsBadLine, IsFaultOf}

-- ---- first lines

pub head-stop : (s : Settings) (line : Line) (more : List Line) → setting_of (texts line.words.items) ≡ None
    → after_head s (map plain_line (line ∷ more)) ≡ (s, map plain_line (line ∷ more))
head-stop s line more none = rw none refl

pub head-stops : (s : Settings) (lines : List Line) (i : ℕ) (line : Line) → i < length lines → line ≡ get_or lines i line → setting_of (texts line.words.items) ≡ None
    → after_head s (map plain_line (drop i lines)) ≡ (s, drop i (map plain_line lines))
head-stops s lines i line within is none =
    let parts : drop i lines ≡ line ∷ drop (i + 1) lines = drop_more lines i line within ∙ ap (λ l. l ∷ drop (i + 1) lines) (sym is) in
    ap (λ ls. after_head s (map plain_line ls)) parts
    ∙ (head-stop s line (drop (i + 1) lines) none
    ∙ (ap (λ ls. (s, map plain_line ls)) (sym parts)
    ∙ ap (λ ls. (s, ls)) (sym (drop-map plain_line i lines))))

-- ---- scripts

pub long : (text : List ℕ) → LONGEST < length text → script_of text ≡ Err (line_at text LONGEST)
unfolding script_of
long text more = rw (lt-ltb LONGEST (length text) more) refl

pub good : (text : List ℕ) (lines rest : List PlainLine) (s : Settings) → length text ≤ LONGEST → lines ≡ lines_of text → after_head defaults lines ≡ (s, rest)
    → find is_bad rest ≡ None → script_of text ≡ Ok (record { settings = s; commands = filter_map said_of rest })
unfolding script_of
good text lines rest s short are head none = rw (le-ltb LONGEST (length text) short, ← are, head, none) refl

by_first : (s : Settings) (rest : List PlainLine) (first : Option PlainLine) (line : ℕ) → option_map (λ (l : PlainLine). l.number) first ≡ Some line
    → commands_by s rest first ≡ Err line
by_first s rest None line there = absurd (cc)
by_first s rest (Some l) line there = ap Err (let e : l.number ≡ line = cc in e)

pub bad : (text : List ℕ) (lines rest : List PlainLine) (s : Settings) (line : ℕ) → length text ≤ LONGEST → lines ≡ lines_of text → after_head defaults lines ≡ (s, rest)
    → option_map (λ (l : PlainLine). l.number) (find is_bad rest) ≡ Some line → script_of text ≡ Err line
unfolding script_of
bad text lines rest s line short are head there = rw (le-ltb LONGEST (length text) short, ← are, head) (by_first s rest (find is_bad rest) line there)

pub fault : (text : List ℕ) (lines rest : List PlainLine) (s : Settings) (f : ScriptFault) → length text ≤ LONGEST → lines ≡ lines_of text → after_head defaults lines ≡ (s, rest)
    → IsBadLine rest f → IsFaultOf text f
fault text lines rest s (BadLine line) short are head there = bad text lines rest s line short are head there
fault text lines rest s NoMemory short are head there = tt
