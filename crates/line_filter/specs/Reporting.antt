-- How lines are reported.
use Rattle.std.specs.Prelude.{◌≡◌, ℕ, ◌+◌, ◌<◌, ◌==◌, Bool, true, false, List, [], ◌∷◌, ◌++◌}
use Rattle.std.specs.Prelude.{if◌then◌else◌, codes, Option}
use Rattle.std.specs.Fmt.{decimal}
use Rattle.std.specs.List.{list_any, flat_map}
use Rattle.std.specs.Io.KnownBytes.{Appends}
use Rattle.line_filter.specs.declared.reports.Wait.{Wait}
use Rattle.line_filter.specs.declared.reports.Wait.TheVariants.{Never, Message, Answer, Other}

-- ---- lines

-- A reported line with its line feed, and whether it waits while its reader is away.
pub record ToldLine : Type 0 where
  pub wait : Wait
  pub octets : List ℕ

-- The octets of lines, in order.
abbrev pub octets_of : List ToldLine → List ℕ
octets_of lines = flat_map (λ l. l.octets) lines

-- The kinds of lines, as numbers.
abbrev pub kind_of : Wait → ℕ
kind_of Never = 0
kind_of Message = 1
kind_of Answer = 2
kind_of Other = 3

-- The line waits.
abbrev pub has_to_wait : Wait → Bool
has_to_wait Never = false
has_to_wait Message = true
has_to_wait Answer = true
has_to_wait Other = true

-- The number of lines of a kind.
abbrev pub count_in : Wait → List ToldLine → ℕ
count_in wait [] = 0
count_in wait (l ∷ ls) = (if kind_of l.wait == kind_of wait then 1 else 0) + count_in wait ls

-- A line with its millisecond and a text.
abbrev pub kept : Wait → ℕ → List ℕ → List ToldLine
kept wait now text = record { wait = wait; octets = (decimal now ++ 32 ∷ text) ++ 10 ∷ [] } ∷ []

-- A line that doesn't wait.
abbrev pub told : ℕ → List ℕ → List ToldLine
told now text = kept Never now text

-- ---- the report of lost lines

-- The beginning of a line up to its first space: its millisecond.
pub record Begins (line time : List ℕ) : Type 0 where
  pub first : list_any (λ (b : ℕ). b == 32) time ≡ false
  pub rest : List ℕ
  pub parts : line ≡ time ++ 32 ∷ rest

-- The line that reports how many lines were lost, with a millisecond.
abbrev pub loss_line : List ℕ → ℕ → List ℕ
loss_line time lost = ((time ++ codes " lost ") ++ decimal lost) ++ 10 ∷ []

-- That line with the millisecond of the line after it, and the line after it.
pub record IsLossTold (lost : ℕ) (line text : List ℕ) : Type 0 where
  pub time : List ℕ
  pub begins : Begins line time
  pub are : text ≡ loss_line time lost ++ line

-- The bytes to write for a line: the line, and before it the number of lost lines, if any.
pub data IsToGo (lost : ℕ) (line : List ℕ) : List ℕ → Type 0 where
  alone : {text : List ℕ} → lost ≡ 0 → text ≡ line → IsToGo lost line text
  with_loss : {text : List ℕ} → 0 < lost → IsLossTold lost line text → IsToGo lost line text

-- ---- the destination of reports

-- The state of reports. `whole`: all are written, and the text is known or not. `queued`: lines
-- wait or are lost while the reader is away; the text written, the lines that wait after it in
-- order, and the number of lines lost since.
pub data Stand : Type 0 where
  whole : Option (List ℕ) → Stand
  queued : (gone : List ℕ) (waits : List ToldLine) (lost : ℕ) → Stand

-- The number of waiting lines of a kind.
abbrev pub waiting_count : Wait → Stand → ℕ
waiting_count wait (whole known) = 0
waiting_count wait (queued gone waits lost) = count_in wait waits

-- The first of the waiting lines are written.
pub record GoFirst (gone : List ℕ) (waits : List ToldLine) (later : List ℕ)
    (left : List ToldLine) : Type 0 where
  pub first : List ToldLine
  pub parts : waits ≡ first ++ left
  pub goes : later ≡ gone ++ octets_of first

-- A line was reported while the reader may be away. Either all waiting lines are written, and the
-- line after them; or it waits after the others; in both cases after the number of lines lost
-- before it. Or it is a line that doesn't wait, and is lost and counted.
pub data Queues (line : ToldLine) (gone : List ℕ) (waits : List ToldLine) (lost : ℕ)
    (later : List ℕ) (left : List ToldLine) (lost_later : ℕ) : Type 0 where
  went : (text : List ℕ) → IsToGo lost line.octets text
      → later ≡ (gone ++ octets_of waits) ++ text → left ≡ [] → lost_later ≡ 0
      → Queues line gone waits lost later left lost_later
  waits_behind : (text : List ℕ) → IsToGo lost line.octets text → has_to_wait line.wait ≡ true
      → GoFirst gone (waits ++ record { wait = line.wait; octets = text } ∷ []) later left
      → lost_later ≡ 0 → Queues line gone waits lost later left lost_later
  counted : has_to_wait line.wait ≡ false → GoFirst gone waits later left
      → lost_later ≡ lost + 1 → Queues line gone waits lost later left lost_later

-- One more line was reported.
abbrev pub TellsLine : Stand → Stand → ToldLine → Type 0
TellsLine (whole old) (whole new) line = Appends old new line.octets
TellsLine (whole old) (queued gone waits lost) line = ⊥
TellsLine (queued gone waits lost) (whole new) line = ⊥
TellsLine (queued gone waits lost) (queued later left more) line =
    Queues line gone waits lost later left more

-- The first of the waiting lines are written: all, some or none.
abbrev pub MovesOn : Stand → Stand → Type 0
MovesOn (whole old) new = new ≡ whole old
MovesOn (queued gone waits lost) (whole new) = ⊥
MovesOn (queued gone waits lost) (queued later left more) =
    GoFirst gone waits later left × (more ≡ lost)

-- Lines were reported in order while the reader may be away.
pub data GoOn (gone : List ℕ) (waits : List ToldLine) (lost : ℕ) :
    List ToldLine → List ℕ → List ToldLine → ℕ → Type 0 where
  no_line : GoOn gone waits lost [] gone waits lost
  one_line : {lines : List ToldLine} {later : List ℕ} {left : List ToldLine} {more : ℕ}
      (line : ToldLine) (last : List ℕ) (last_left : List ToldLine) (most : ℕ)
      → GoOn gone waits lost lines later left more
      → Queues line later left more last last_left most
      → GoOn gone waits lost (lines ++ line ∷ []) last last_left most
  go_first : {lines : List ToldLine} {later : List ℕ} {left : List ToldLine} {more : ℕ}
      (last : List ℕ) (last_left : List ToldLine)
      → GoOn gone waits lost lines later left more → GoFirst later left last last_left
      → GoOn gone waits lost lines last last_left more

-- These lines were reported: all of them; or, if the reader may be away, those that aren't counted
-- as lost were written or wait.
abbrev pub TellsLines : Stand → Stand → List ToldLine → Type 0
TellsLines (whole old) (whole new) lines = Appends old new (octets_of lines)
TellsLines (whole old) (queued gone waits lost) lines = ⊥
TellsLines (queued gone waits lost) (whole new) lines = ⊥
TellsLines (queued gone waits lost) (queued later left more) lines =
    GoOn gone waits lost lines later left more

-- ---- the law

-- The text written or waiting for reported lines: each line that has to wait once, whole and in
-- order. Each other line is whole in its place too, or lost. Before a line stands the number of
-- lines lost since the line before it.
pub data AreTold (lost : ℕ) : List ToldLine → List ℕ → ℕ → Type 0 where
  none_told : AreTold lost [] [] lost
  goes_on : {lines : List ToldLine} {text : List ℕ} {more : ℕ} (line : ToldLine) (last : List ℕ)
      → AreTold lost lines text more → IsToGo more line.octets last
      → AreTold lost (lines ++ line ∷ []) (text ++ last) 0
  is_lost : {lines : List ToldLine} {text : List ℕ} {more : ℕ} (line : ToldLine)
      → AreTold lost lines text more → has_to_wait line.wait ≡ false
      → AreTold lost (lines ++ line ∷ []) text (more + 1)

-- This holds for all that was written or waits.
pub record GoesOnOrWaits (gone : List ℕ) (waits : List ToldLine) (lost : ℕ) (lines : List ToldLine)
    (later : List ℕ) (left : List ToldLine) (more : ℕ) : Type 0 where
  pub text : List ℕ
  pub told : AreTold lost lines text more
  pub all : later ++ octets_of left ≡ (gone ++ octets_of waits) ++ text
