-- The coverage of a text in the format of lcov (geninfo's tracefiles): transitions are functions,
-- answers of DECISIONs branches.
use Rattle.std.specs.Prelude.{◌≡◌, ◌≤◌, ◌<◌, ◌+◌, ◌==◌, ℕ, nat_lt, List, [], ◌∷◌, ◌++◌}
use Rattle.std.specs.Prelude.{length, map, take, count_by, max, codes, fold, if◌then◌else◌}
use Rattle.std.specs.Prelude.{Option, None, Some, unwrap_or, option_map, option_to_list}
use Rattle.std.specs.Prelude.{slice_index_or}
use Rattle.std.specs.Prelude.{slice_get}
use Rattle.std.specs.List.{flat_map, range_with_len}
use Rattle.std.specs.Fmt.{decimal}
use Rattle.sdl_ast.specs.declared.expression.Identifier.{Identifier}
use Rattle.sdl_ast.specs.Plain.{Text, falls, ends, does, decides, Choice, nothing_else, otherwise}
use Rattle.sdl_ast.specs.Plain.{answer, PlainConnection, PlainInput, PlainProcess, PlainBlock}
use Rattle.sdl_tables.specs.Names.{number_of, signal_names, states_of, timers_of}
use Rattle.sdl_tables.specs.Names.{Input, inputs_by_state, input_parts, processes_of}
use Rattle.turn_machine.specs.Turn.{Turn}
use Rattle.script_covered.specs.Ways.{action_place, end_place}
use Rattle.script_covered.specs.Covered.{times, others, turns_of, taken_by}
use Rattle.script_covered.specs.declared.sections.Section.{Section}
use Rattle.script_covered.specs.declared.marks.Mark.{Mark}
use Rattle.script_covered.specs.declared.marks.Mark.TheVariants.{Begins, Answer, Else}
use Rattle.script_covered.specs.declared.rows.Row.{Row}

-- ---- the marks of a text

abbrev mutual
  -- where its statements, ends and answers begin, and which answers it has
  pub text_marks : Text → List Mark
  text_marks falls = []
  text_marks (ends e) = Begins (end_place e) ∷ []
  text_marks (does a rest) = Begins (action_place a) ∷ text_marks rest
  text_marks (decides k q choice rest) =
      Begins k ∷ (choice_marks k 0 choice ++ text_marks rest)

  -- the answers of the DECISION at place k, from its answer n on
  pub choice_marks : ℕ → ℕ → Choice → List Mark
  choice_marks k n nothing_else = []
  choice_marks k n (otherwise t) = Else k n ∷ text_marks t
  choice_marks k n (answer a rs t others) =
      Answer a k n ∷ (text_marks t ++ choice_marks k (n + 1) others)

abbrev pub input_marks : PlainInput → List Mark
input_marks i = Begins i.at ∷ text_marks i.text

abbrev pub connection_marks : PlainConnection → List Mark
connection_marks c = text_marks c.text

-- each transition once: that of START, those of the INPUTs, those of the CONNECTIONs
abbrev pub process_marks : PlainProcess → List Mark
process_marks p =
    (Begins p.start.at ∷ text_marks p.start.text)
    ++ (flat_map input_marks (input_parts p) ++ flat_map connection_marks p.connections)

abbrev pub block_marks : PlainBlock → List Mark
block_marks b = flat_map process_marks (processes_of b)

-- ---- transitions

-- the place of its INPUT or START, its name, and the number of its turns
pub record Transition : Type 0 where
  pub at : ℕ
  pub name : List ℕ
  pub turns : ℕ

abbrev pub row_of : Row → Transition
row_of r = record { at = r.at; name = r.name.items; turns = r.turns }

abbrev pub named_as : Option ℕ → List Identifier → Option (List ℕ)
named_as None ids = None
named_as (Some n) ids = option_map (λ (i : Identifier). i.name) (slice_get ids n)

-- the name of a signal or of a timer as it is declared
abbrev pub declared_name : List Identifier → List Identifier → Identifier → List ℕ
declared_name signals timers id =
    unwrap_or (named_as (number_of signals id.name) signals)
    (unwrap_or (named_as (number_of timers id.name) timers) id.name)

abbrev pub start_name : PlainProcess → List ℕ
start_name p = p.name.name ++ codes " START"

-- PROCESS STATE/INPUT
abbrev pub input_name : List Identifier → PlainProcess → ℕ → Input → List ℕ
input_name signals p q i =
    p.name.name ++ codes " " ++ unwrap_or (named_as (Some q) (states_of p)) [] ++ codes "/"
    ++ declared_name signals (timers_of p) i.stimulus.name

-- the inputs of state q of process k, from input n on; `h` is the number of turns of each
abbrev pub state_rows :
    (ℕ → Option ℕ → ℕ → ℕ) → List Identifier → PlainProcess → ℕ → ℕ → ℕ → List Input
    → List Transition
state_rows h signals p k q n [] = []
state_rows h signals p k q n (i ∷ is) =
    record { at = i.at; name = input_name signals p q i; turns = h k (Some q) n }
    ∷ state_rows h signals p k q (n + 1) is

-- the inputs of the states from state q on
abbrev pub states_rows :
    (ℕ → Option ℕ → ℕ → ℕ) → List Identifier → PlainProcess → ℕ → ℕ → List (List Input)
    → List Transition
states_rows h signals p k q [] = []
states_rows h signals p k q (is ∷ more) =
    state_rows h signals p k q 0 is ++ states_rows h signals p k (q + 1) more

abbrev pub process_rows :
    (ℕ → Option ℕ → ℕ → ℕ) → List Identifier → ℕ → PlainProcess → List Transition
process_rows h signals k p =
    record { at = p.start.at; name = start_name p; turns = h k None 0 }
    ∷ states_rows h signals p k 0 (inputs_by_state p)

-- the transitions of processes, from process k on
abbrev pub all_rows :
    (ℕ → Option ℕ → ℕ → ℕ) → List Identifier → ℕ → List PlainProcess → List Transition
all_rows h signals k [] = []
all_rows h signals k (p ∷ ps) =
    process_rows h signals k p ++ all_rows h signals (k + 1) ps

-- ---- lines

-- the number of the line that contains a place, from 1
abbrev pub line_at : List ℕ → ℕ → ℕ
line_at text place = count_by (λ (o : ℕ). o == 10) (take place text) + 1

-- the line numbers of a text's places, including its end
pub record AreLines (text lines : List ℕ) : Type 0 where
  pub number : length lines ≡ length text + 1
  pub are : (k : ℕ) → k ≤ length text → slice_get lines k ≡ Some (line_at text k)

-- a word and a number
abbrev pub counted : List ℕ → ℕ → List ℕ
counted word n = word ++ decimal n ++ codes "\n"

-- a word, a number and a name
abbrev pub named_line : List ℕ → ℕ → List ℕ → List ℕ
named_line word n name = word ++ decimal n ++ codes "," ++ name ++ codes "\n"

abbrev pub place_line : List ℕ → Transition → List ℕ
place_line text r = named_line (codes "FN:") (line_at text r.at) r.name

abbrev pub turns_line : Transition → List ℕ
turns_line r = named_line (codes "FNDA:") r.turns r.name

-- the number of items, and the number of those that were taken; `times` has their counts
abbrev pub summary : List ℕ → List ℕ → List ℕ → List ℕ
summary found hit ns =
    counted found (length ns) ++ counted hit (count_by (nat_lt 0) ns)

abbrev pub rows_text : List ℕ → List Transition → List ℕ
rows_text text rows =
    flat_map (place_line text) rows ++ flat_map turns_line rows
    ++ summary (codes "FNF:") (codes "FNH:") (map (λ (r : Transition). r.turns) rows)

-- ---- answers: `f` counts what begins at a place, `g` the ELSE of the DECISION there

-- how often an answer was taken; a dash if its DECISION was never asked
abbrev pub taken_word : ℕ → ℕ → List ℕ
taken_word asked taken = if nat_lt 0 asked then decimal taken else codes "-"

abbrev pub branch_line : ℕ → ℕ → ℕ → List ℕ → List ℕ
branch_line line decision n word =
    codes "BRDA:" ++ decimal line ++ codes "," ++ decimal decision ++ codes "," ++ decimal n
    ++ codes "," ++ word ++ codes "\n"

-- the line of an answer is that of its DECISION, which is identified by its place
abbrev pub mark_line : List ℕ → (ℕ → ℕ) → (ℕ → ℕ) → Mark → List ℕ
mark_line text f g (Begins k) = []
mark_line text f g (Answer a k n) = branch_line (line_at text k) k n (taken_word (f k) (f a))
mark_line text f g (Else k n) = branch_line (line_at text k) k n (taken_word (f k) (g k))

abbrev pub mark_times : (ℕ → ℕ) → (ℕ → ℕ) → Mark → List ℕ
mark_times f g (Begins k) = []
mark_times f g (Answer a k n) = f a ∷ []
mark_times f g (Else k n) = g k ∷ []

abbrev pub answers_text : List ℕ → (ℕ → ℕ) → (ℕ → ℕ) → List Mark → List ℕ
answers_text text f g ms =
    flat_map (mark_line text f g) ms
    ++ summary (codes "BRF:") (codes "BRH:") (flat_map (mark_times f g) ms)

-- ---- lines that were executed

-- the place where something begins; an ELSE has no place
abbrev pub begins_at : Mark → Option ℕ
begins_at (Begins k) = Some k
begins_at (Answer a k n) = Some a
begins_at (Else k n) = None

abbrev pub seen_at : List ℕ → (ℕ → ℕ) → ℕ → Option ℕ → Option ℕ → Option ℕ
seen_at text f line o None = o
seen_at text f line o (Some k) =
    if line_at text k == line then Some (max (unwrap_or o 0) (f k)) else o

abbrev pub seen_on : List ℕ → (ℕ → ℕ) → ℕ → Option ℕ → Mark → Option ℕ
seen_on text f line o m = seen_at text f line o (begins_at m)

-- a mark is counted on its line
pub record Sees (text : List ℕ) (f : ℕ → ℕ) (m : Mark) (old new : List (Option ℕ)) : Type 0 where
  pub number : length new ≡ length old
  pub sees : (line : ℕ) → line < length old
      → slice_index_or new line None ≡ seen_on text f line (slice_index_or old line None) m

-- the highest count of the items that begin on a line; none if nothing begins there
abbrev pub line_count : List ℕ → (ℕ → ℕ) → List Mark → ℕ → Option ℕ
line_count text f ms line = fold (seen_on text f line) None ms

-- the counts of all lines, from line 0 on
abbrev pub line_counts : List ℕ → (ℕ → ℕ) → List Mark → List (Option ℕ)
line_counts text f ms =
    map (line_count text f ms) (range_with_len 0 (line_at text (length text) + 1))

abbrev pub count_line : ℕ → Option ℕ → List ℕ
count_line line None = []
count_line line (Some n) =
    codes "DA:" ++ decimal line ++ codes "," ++ decimal n ++ codes "\n"

abbrev pub count_lines : ℕ → List (Option ℕ) → List ℕ
count_lines line [] = []
count_lines line (o ∷ os) = count_line line o ++ count_lines (line + 1) os

abbrev pub lines_text : List (Option ℕ) → List ℕ
lines_text os =
    count_lines 0 os ++ summary (codes "LF:") (codes "LH:") (flat_map option_to_list os)

-- the lines of a section under way, for items with these counts
pub record IsSection (lines ns : List ℕ) (s : Section) : Type 0 where
  pub text : s.text.items ≡ lines
  pub found : s.found ≡ length ns
  pub hit : s.hit ≡ count_by (nat_lt 0) ns

-- ---- the whole report

abbrev pub report_text :
    List ℕ → List ℕ → List Transition → (ℕ → ℕ) → (ℕ → ℕ) → List Mark → List ℕ
report_text name text rows f g ms =
    codes "TN:scripts\nSF:" ++ name ++ codes "\n" ++ rows_text text rows
    ++ answers_text text f g ms ++ lines_text (line_counts text f ms) ++ codes "end_of_record\n"

-- the coverage of a block's text by these turns, with this file name
abbrev pub lcov_text : List ℕ → List ℕ → PlainBlock → List Turn → List ℕ
lcov_text name text b ts =
    report_text name text (all_rows (turns_of ts) (signal_names b) 0 (processes_of b))
    (times (taken_by b ts)) (others (taken_by b ts)) (block_marks b)
