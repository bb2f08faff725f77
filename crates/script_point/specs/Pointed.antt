-- A place of a text: its line and column, and the lines that point at it.
use Rattle.std.specs.Prelude.{◌≡◌, ℕ, ◌+◌, ◌-◌, ◌<◌, ◌≤◌, ◌==◌, ◌||◌, Bool, if◌then◌else◌, nat_lt}
use Rattle.std.specs.Prelude.{nat_le, List, [], ◌∷◌, ◌++◌, length, map, take, min, max, count_by}
use Rattle.std.specs.Prelude.{slice_index, slice_range, string_bytes, codes}
use Rattle.std.specs.List.{filter}
use Rattle.std.specs.Fmt.{decimal}
use Rattle.script_point.specs.declared.notes.Notes.{Notes}
use Rattle.script_point.specs.declared.shown.Word.{Word}

-- ---- lines and columns

-- A byte begins a character (UTF-8: the bytes 128 to 191 continue one).
abbrev pub begins : ℕ → Bool
begins b = nat_lt b 128 || nat_le 192 b

abbrev pub characters : List ℕ → ℕ
characters bytes = count_by begins bytes

-- The line in which a place lies, from 1: one more than the line feeds before the place.
abbrev pub line_at : List ℕ → ℕ → ℕ
line_at text place = count_by (λ b. b == 10) (take place text) + 1

-- The line of a place begins here: after the last line feed before the place.
pub record IsBegin (text : List ℕ) (place begin : ℕ) : Type 0 where
  pub before : begin ≤ place
  pub whole : (k : ℕ) → begin ≤ k → k < place → slice_index text k ≡ 10 → ⊥
  pub first : 0 < begin → slice_index text (begin - 1) ≡ 10

-- The line of a place ends here: at the next line feed from the place on, or at the text's end.
pub record IsEnd (text : List ℕ) (place end : ℕ) : Type 0 where
  pub behind : place ≤ end
  pub inside : end ≤ length text
  pub whole : (k : ℕ) → place ≤ k → k < end → slice_index text k ≡ 10 → ⊥
  pub last : end < length text → slice_index text end ≡ 10

-- ---- what is printed

-- A byte as it is shown: a control character other than a tab becomes a space.
abbrev pub shown_byte : ℕ → ℕ
shown_byte b = if b == 9 then b else (if nat_lt b 32 || (b == 127) then 32 else b)

-- The character under another one: a tab under a tab, else a space.
abbrev pub blank : ℕ → ℕ
blank b = if b == 9 then b else 32

-- These carets, or one caret if there are none.
abbrev pub one_or_more : List ℕ → List ℕ
one_or_more carets = if length carets == 0 then 94 ∷ [] else carets

-- A caret under each character, and at least one.
abbrev pub carets_under : List ℕ → List ℕ
carets_under word = one_or_more (map (λ b. 94) (filter begins word))

-- as many spaces as a number has digits
abbrev pub margin : ℕ → List ℕ
margin line = map (λ b. 32) (decimal line)

-- A sign and the text, or nothing if the text is empty.
abbrev pub after : List ℕ → List ℕ → List ℕ
after sign text = if length text == 0 then [] else sign ++ text

-- `:LINE:COLUMN: FAULT: SAID`
abbrev pub head_text : ℕ → ℕ → List ℕ → List ℕ → List ℕ
head_text line column fault said =
    codes ":" ++ decimal line ++ codes ":" ++ decimal column ++ codes ": " ++ fault
    ++ after (codes ": ") said ++ 10 ∷ []

-- `: FAULT: SAID`, for a fault without a place.
abbrev pub bare_text : List ℕ → List ℕ → List ℕ
bare_text fault said = codes ": " ++ fault ++ after (codes ": ") said ++ 10 ∷ []

-- `LINE | text`
abbrev pub source_text : ℕ → List ℕ → List ℕ
source_text line source = decimal line ++ codes " | " ++ map shown_byte source ++ 10 ∷ []

-- `     |    ^^^ UNDER`: a space (or tab) for each character before the word, then the carets.
abbrev pub caret_text : ℕ → List ℕ → List ℕ → List ℕ → List ℕ
caret_text line before word under =
    margin line ++ codes " | " ++ map blank (filter begins before) ++ carets_under word
    ++ after (codes " ") under ++ 10 ∷ []

-- `     = HINT`
abbrev pub hint_text : ℕ → List ℕ → List ℕ
hint_text line hint =
    if length hint == 0 then [] else margin line ++ codes " = " ++ hint ++ 10 ∷ []

-- All lines for a word at a place, in a line from `begin` to `end`. The part of the word after that
-- line has no carets.
abbrev pub pointed_text :
    List ℕ → ℕ → ℕ → ℕ → ℕ → List ℕ → List ℕ → List ℕ → List ℕ → List ℕ
pointed_text text place begin end last fault said under hint =
    head_text (line_at text place) (characters (slice_range text begin place) + 1) fault said
    ++ source_text (line_at text place) (slice_range text begin end)
    ++ caret_text (line_at text place) (slice_range text begin place) (slice_range text place last)
    under
    ++ hint_text (line_at text place) hint

-- Where a word of a text begins; a word past the end of the text begins at that end.
abbrev pub place_in : List ℕ → Word → ℕ
place_in text word = min word.start (length text)

-- These lines point at the word: line and column are those of its first character, and the carets
-- are under it in the shown line.
pub record IsPointed (text : List ℕ) (word : Word) (fault : List ℕ) (notes : Notes)
    (lines : List ℕ) : Type 0 where
  pub begin : ℕ
  pub end : ℕ
  pub from : IsBegin text (place_in text word) begin
  pub to : IsEnd text (place_in text word) end
  pub printed : lines
      ≡ pointed_text text (place_in text word) begin end
      (max (min word.end end) (place_in text word)) fault (string_bytes notes.said)
      (string_bytes notes.under) (string_bytes notes.hint)

-- This line states where a place is, and what is wrong there.
pub record IsHead (text : List ℕ) (place : ℕ) (fault said lines : List ℕ) : Type 0 where
  pub begin : ℕ
  pub from : IsBegin text place begin
  pub printed : lines
      ≡ head_text (line_at text place) (characters (slice_range text begin place) + 1) fault said
