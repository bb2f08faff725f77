-- The output of one end of a link on its line, for the octets that it read there.
use Rattle.std.specs.Prelude.{◌≡◌, ⊤, ℕ, min, List, [], Option, None, Some, option_map}
use Rattle.link_term.specs.Term.{Term}
use Rattle.line_filter.specs.Orders.{Timed}
use Rattle.line_filter.specs.Runs.{State}
use Rattle.line_filter.specs.Speaking.{IsSilent}
use Rattle.line_filter.specs.Filters.{MOST_AHEAD, Line, Streams, IsOver, IsBegun}
use Rattle.line_filter.specs.Reporting.{Stand}
use Rattle.line_filter.specs.Streams.{orders_of}
use Rattle.line_filter.specs.declared.filter.Bits.{Bits}
use Rattle.line_play.specs.Lines.{end_acts}
use Rattle.line_play.specs.Opening.{IsNewOver}
use Rattle.line_play.specs.declared.link.end.LinkEnd.{LinkEnd}
use Rattle.line_play.specs.declared.link.opening.ChosenLimits.{ChosenLimits}
use Rattle.mtp2_words.specs.declared.ends.LineEnd.{LineEnd}

-- without a path of orders there are none; the orders of a path aren't known
abbrev pub AreGiven : {A : Type 0} → Option A → Option (List ℕ) → Type 0
AreGiven None octets = octets ≡ Some []
AreGiven (Some path) octets = ⊤

-- the orders of the complete lines of these octets, if these are known
abbrev pub ordered_by : Option (List ℕ) → Option (List Timed)
ordered_by octets = option_map orders_of octets

-- the start of a terminal's run: nothing was sent, no report waits, and the orders are those of
-- these octets
pub record IsFirst (octets : Option (List ℕ)) (term : Term) (first : State LinkEnd) : Type 0 where
  pub is_term : first.term.terminal ≡ term
  pub none_held : first.term.held ≡ None
  pub silent : IsSilent first.voice
  pub ordered : first.left ≡ ordered_by octets

-- A terminal spoke from its first octet to its last, with the orders of these octets. Its output is
-- `ahead` octets of silence, followed by what it sent for the octets read. Its reports are those
-- that it had to make.
pub record SpokeBy (octets : Option (List ℕ)) (term : Term) (bits : Bits) (ahead : ℕ)
    (old new : Streams) : Type 0 where
  pub first : State LinkEnd
  pub is_first : IsFirst octets term first
  pub last : State LinkEnd
  pub count : ℕ
  pub over : IsOver end_acts bits ahead 0 first count last old new

-- a terminal spoke, with orders from the named path, or with none
pub record Spoke {A : Type 0} (orders : Option A) (term : Term) (bits : Bits) (ahead : ℕ)
    (old new : Line) : Type 0 where
  pub octets : Option (List ℕ)
  pub given : AreGiven orders octets
  pub told_before : Stand
  pub told : Stand
  pub spoke : SpokeBy octets term bits ahead
      (record { read = old.read; written = old.written; told = told_before })
      (record { read = new.read; written = new.written; told = told })

-- the limits that words choose
abbrev pub chosen_by : LineEnd → ChosenLimits
chosen_by end = record { messages = end.messages; octets = end.octets }

-- a new terminal that runs the set of these bytes spoke, with the chosen limits or its text's
pub record SpokeOver (end : LineEnd) (old new : Line) (bytes : List ℕ) :
    Type 0 where
  pub term : Term
  pub is_new : IsNewOver (chosen_by end) end.mode term bytes
  pub spoke : Spoke end.orders term end.bits (min end.ahead MOST_AHEAD) old new

-- A terminal began to speak: its output is a beginning of `ahead` octets of silence, followed by
-- what it sends for the octets read.
pub record Begun {A : Type 0} (orders : Option A) (term : Term) (bits : Bits) (ahead : ℕ)
    (old new : Line) : Type 0 where
  pub octets : Option (List ℕ)
  pub given : AreGiven orders octets
  pub first : State LinkEnd
  pub is_first : IsFirst octets term first
  pub begun : IsBegun end_acts bits ahead 0 first old new

-- a new terminal that runs the set of these bytes began to speak, with the chosen limits or its
-- text's
pub record BegunOver (end : LineEnd) (old new : Line) (bytes : List ℕ) :
    Type 0 where
  pub term : Term
  pub is_new : IsNewOver (chosen_by end) end.mode term bytes
  pub begun : Begun end.orders term end.bits (min end.ahead MOST_AHEAD) old new

-- nothing was read on the line, or written there
abbrev pub IsUntouched : Line → Line → Type 0
IsUntouched old new = new ≡ old
