-- Limits of sets, links and pools. Each is a choice of this profile: Z.100 and Q.703 set none.
use Rattle.std.specs.Prelude.{ℕ, ◌^◌}

-- ---- a set (S10, V8)

-- how many bytes a name may have
abbrev pub LONGEST_NAME : ℕ
LONGEST_NAME = 32

-- how many processes a set may have
abbrev pub MOST_PROCESSES : ℕ
MOST_PROCESSES = 16

-- how many instances a process may have
abbrev pub MOST_INSTANCES : ℕ
MOST_INSTANCES = 8

-- how many actors a set may have: 8 instances of each of 16 processes
abbrev pub MOST_ACTORS : ℕ
MOST_ACTORS = 128

-- how many states a process may have
abbrev pub MOST_STATES : ℕ
MOST_STATES = 64

-- how many variables a process may have
abbrev pub MOST_VARIABLES : ℕ
MOST_VARIABLES = 32

-- how many timers a process may have
abbrev pub MOST_TIMERS_EACH : ℕ
MOST_TIMERS_EACH = 8

-- how many signals a set may have
abbrev pub MOST_SIGNALS : ℕ
MOST_SIGNALS = 128

-- how many parameters a signal may have
abbrev pub MOST_PARAMETERS : ℕ
MOST_PARAMETERS = 4

-- how many transitions a set may have: a START and the INPUTs of each of its processes
abbrev pub MOST_PIECES : ℕ
MOST_PIECES = 4096

-- how many instructions a transition may have, and how many one turn may run
abbrev pub MOST_INSTRUCTIONS : ℕ
MOST_INSTRUCTIONS = 512

-- how many operands a turn may have at once
abbrev pub MOST_OPERANDS : ℕ
MOST_OPERANDS = 16

-- how many effects a turn may have
abbrev pub MOST_EFFECTS : ℕ
MOST_EFFECTS = 32

-- ---- a link

-- the fewest signals for which a port may be made
abbrev pub LEAST_PORT : ℕ
LEAST_PORT = 1

-- the most signals that a port may hold
abbrev pub MOST_PORT : ℕ
MOST_PORT = 64

-- how many signals a port holds by default
abbrev pub USUAL_PORT : ℕ
USUAL_PORT = 16

-- the fewest signals that may wait for the environment
abbrev pub LEAST_ENVIRONMENT : ℕ
LEAST_ENVIRONMENT = 1

-- the most signals that may wait for the environment
abbrev pub MOST_ENVIRONMENT : ℕ
MOST_ENVIRONMENT = 1024

-- how many signals may wait for the environment by default
abbrev pub USUAL_ENVIRONMENT : ℕ
USUAL_ENVIRONMENT = 64

-- the fewest events for which a journal may be made
abbrev pub LEAST_JOURNAL : ℕ
LEAST_JOURNAL = 16

-- the most events that a journal may hold
abbrev pub MOST_JOURNAL : ℕ
MOST_JOURNAL = 65536

-- how many events a journal holds by default
abbrev pub USUAL_JOURNAL : ℕ
USUAL_JOURNAL = 4096

-- the most ticks that may pass at once
abbrev pub MOST_TICKS : ℕ
MOST_TICKS = 65535

-- the last tick that a clock can show
abbrev pub LAST_TICK : ℕ
LAST_TICK = 2 ^ 62

-- how many turns a link may begin
abbrev pub MOST_TURNS_BEGUN : ℕ
MOST_TURNS_BEGUN = 2 ^ 40

-- a journal takes no event at this place or later
abbrev pub LAST_PLACE : ℕ
LAST_PLACE = 2 ^ 56

-- No place in a journal reaches this number: events that were promised a place before the last one
-- still get theirs.
abbrev pub PAST_PLACES : ℕ
PAST_PLACES = 2 ^ 57

-- ---- a pool

-- the most links that a pool may serve
abbrev pub MOST_LINKS : ℕ
MOST_LINKS = 16

-- the fewest workers that a pool may have
abbrev pub LEAST_WORKERS : ℕ
LEAST_WORKERS = 1

-- the most workers that a pool may have
abbrev pub MOST_WORKERS : ℕ
MOST_WORKERS = 16
