-- The octets that a filter reads and writes, and its reports.
use Rattle.std.specs.Prelude.{◌≡◌, ℕ, ◌+◌, Bool, true, List, [], ◌++◌, length, map, replicate}
use Rattle.std.specs.Prelude.{Option}
use Rattle.std.specs.Io.KnownBytes.{Appends, Consumes, IsAtEnd}
use Rattle.std.specs.Int.{w8, reverse_bits}
use Rattle.line_filter.specs.Acts.{Act}
use Rattle.line_filter.specs.Reporting.{Stand, ToldLine, TellsLines}
use Rattle.line_filter.specs.Runs.{State, Runs}
use Rattle.line_filter.specs.declared.filter.Bits.{Bits}
use Rattle.line_filter.specs.declared.filter.Bits.TheVariants.{Low, High}

-- An octet as a byte whose lowest or highest bit is the first on the line; and back.
abbrev pub turned : Bits → ℕ → ℕ
turned Low octet = octet
turned High octet = reverse_bits w8 octet

-- An octet of 1s, which is the same in both bit orders.
abbrev pub SILENCE : ℕ
SILENCE = 255

-- The most octets of silence sent before any octet is received.
abbrev pub MOST_AHEAD : ℕ
MOST_AHEAD = 8000

-- Of the received octets, `come` were exchanged. The others are dropped if an order ended the run.
pub record Goes {T : Type 0} (acts : T → Act → T
    → Type 0) (count :
    ℕ) (s : State T) (octets out :
    List ℕ) (bytes : List ToldLine) (goes_on : Bool) (next : ℕ) (t : State T) : Type 0 where
  pub come : List ℕ
  pub dropped : List ℕ
  pub runs : Runs acts count s come out bytes goes_on t
  pub all : octets ≡ come ++ dropped
  pub none_dropped : goes_on ≡ true → dropped ≡ []
  pub counted : next ≡ count + length come

-- The exchanged octets as bytes read and written.
pub record Serves {T : Type 0} (acts : T → Act → T
    → Type 0) (bits :
    Bits) (count : ℕ) (s : State T) (read written : List ℕ)
    (bytes : List ToldLine) (goes_on : Bool) (next : ℕ) (t : State T) : Type 0 where
  pub out : List ℕ
  pub goes : Goes acts count s (map (turned bits) read) out bytes goes_on next t
  pub written_is : written ≡ map (turned bits) out

-- The input, the output and the reports of a run, before or after it.
pub record Streams : Type 0 where
  pub read : Option (List ℕ)
  pub written : Option (List ℕ)
  pub told : Stand

-- Bytes were read; the output for them, after the octets of silence, and the reports were written.
pub record Served {T : Type 0} (acts : T → Act → T
    → Type 0) (bits :
    Bits) (ahead count :
    ℕ) (s : State T) (goes_on : Bool) (next : ℕ) (t : State T) (old new : Streams)
    : Type 0 where
  pub read : List ℕ
  pub written : List ℕ
  pub bytes : List ToldLine
  pub serves : Serves acts bits count s read written bytes goes_on next t
  pub consumes : Consumes old.read new.read read
  pub appends : Appends old.written new.written (replicate ahead SILENCE ++ written)
  pub tells : TellsLines old.told new.told bytes

-- The run is over: all octets were exchanged, or an order ended it.
pub record IsOver {T : Type 0} (acts : T → Act → T
    → Type 0) (bits :
    Bits) (ahead count :
    ℕ) (s : State T) (next : ℕ) (t : State T) (old new : Streams) : Type 0 where
  pub goes_on : Bool
  pub served : Served acts bits ahead count s goes_on next t old new
  pub end_met : goes_on ≡ true → IsAtEnd new.read

-- A prefix of these bytes is written, or all of them.
pub record WritesPart (old new : Option (List ℕ)) (bytes : List ℕ) : Type 0 where
  pub part : List ℕ
  pub rest : List ℕ
  pub parts : bytes ≡ part ++ rest
  pub appends : Appends old new part

-- The first of the bytes read were exchanged. The octets of silence and the output for these bytes
-- are written, or a prefix of that.
pub record ServesPart {T : Type 0} (acts : T → Act → T
    → Type 0) (bits :
    Bits) (ahead count : ℕ) (s : State T) (read : List ℕ) (old new : Option (List ℕ)) : Type 0 where
  pub come : List ℕ
  pub not_come : List ℕ
  pub all : map (turned bits) read ≡ come ++ not_come
  pub out : List ℕ
  pub bytes : List ToldLine
  pub goes_on : Bool
  pub last : State T
  pub runs : Runs acts count s come out bytes goes_on last
  pub writes : WritesPart old new (replicate ahead SILENCE ++ map (turned bits) out)

-- The rest of the input of the line, and its output.
pub record Line : Type 0 where
  pub read : Option (List ℕ)
  pub written : Option (List ℕ)

-- A run has begun: the output is a prefix of that of a run for octets that were read. It holds
-- however the run ends, even if a call fails.
pub record IsBegun {T : Type 0} (acts : T → Act → T
    → Type 0) (bits : Bits) (ahead count : ℕ) (s : State T) (old new : Line) : Type 0 where
  pub read : List ℕ
  pub consumes : Consumes old.read new.read read
  pub serves : ServesPart acts bits ahead count s read old.written new.written
