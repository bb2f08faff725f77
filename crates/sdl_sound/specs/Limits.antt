-- S10: the limits of this profile, in the order in which they are checked.
use Rattle.std.specs.Prelude.{ℕ, Bool, ◌||◌, List, [], ◌∷◌, ◌++◌, Option, length, nat_lt, find}
use Rattle.std.specs.Prelude.{sum_by}
use Rattle.std.specs.List.{list_any}
use Rattle.plain_laws.specs.Limits.{MOST_EFFECTS, MOST_INSTANCES, MOST_INSTRUCTIONS}
use Rattle.plain_laws.specs.Limits.{MOST_OPERANDS, MOST_PARAMETERS, MOST_PIECES, MOST_PROCESSES}
use Rattle.plain_laws.specs.Limits.{MOST_SIGNALS, MOST_STATES, MOST_TIMERS_EACH, MOST_VARIABLES}
use Rattle.sdl_tables.specs.Plain.{PlainBlock}
use Rattle.sdl_tables.specs.Names.{signals_of, processes_of, variables_of, timers_of, states_of}
use Rattle.sdl_sound.specs.Longest.{pieces_of, piece_size, piece_depth, piece_effects}
use Rattle.sdl_sound.specs.declared.fault.Limit.{Limit}
use Rattle.sdl_sound.specs.declared.fault.Limit.TheVariants.{Processes, States, Variables, Timers}
use Rattle.sdl_sound.specs.declared.fault.Limit.TheVariants.{Signals, Params, Pieces}
use Rattle.sdl_sound.specs.declared.fault.Limit.TheVariants.{Piece as PieceSize, Depth, Effects}
use Rattle.sdl_sound.specs.declared.fault.Limit.TheVariants.{Instances}

-- fewer than 1 instance, which is impossible in a text, or more than the limit
abbrev pub wrong_instances : ℕ → Bool
wrong_instances n = nat_lt n 1 || nat_lt MOST_INSTANCES n

abbrev pub exceeds : PlainBlock → Limit → Bool
exceeds b Processes = nat_lt MOST_PROCESSES (length (processes_of b))
exceeds b States = list_any (λ p. nat_lt MOST_STATES (length (states_of p))) (processes_of b)
exceeds b Variables =
    list_any (λ p. nat_lt MOST_VARIABLES (length (variables_of p))) (processes_of b)
exceeds b Timers = list_any (λ p. nat_lt MOST_TIMERS_EACH (length (timers_of p))) (processes_of b)
exceeds b Signals = nat_lt MOST_SIGNALS (length (signals_of b))
exceeds b Params = list_any (λ s. nat_lt MOST_PARAMETERS (length s.parameters)) (signals_of b)
exceeds b Pieces = nat_lt MOST_PIECES (sum_by (λ p. length (pieces_of p)) (processes_of b))
exceeds b PieceSize =
    list_any (λ p. list_any (λ q. nat_lt MOST_INSTRUCTIONS (piece_size p q)) (pieces_of p))
    (processes_of b)
exceeds b Depth =
    list_any (λ p. list_any (λ q. nat_lt MOST_OPERANDS (piece_depth p q)) (pieces_of p))
    (processes_of b)
exceeds b Effects =
    list_any (λ p. list_any (λ q. nat_lt MOST_EFFECTS (piece_effects p q)) (pieces_of p))
    (processes_of b)
exceeds b Instances = list_any (λ p. wrong_instances p.instances) (processes_of b)

-- the limits on numbers of processes, states and so on
abbrev pub number_limits : List Limit
number_limits = Processes ∷ States ∷ Variables ∷ Timers ∷ Signals ∷ Params ∷ Pieces ∷ []

-- the limits on a transition, followed by that on instances
abbrev pub later_limits : List Limit
later_limits = PieceSize ∷ Depth ∷ Effects ∷ Instances ∷ []

abbrev pub limits : List Limit
limits = number_limits ++ later_limits

-- the first limit that the block exceeds
abbrev pub first_limit : PlainBlock → Option Limit
first_limit b = find (exceeds b) limits
