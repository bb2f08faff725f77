-- The receivers of signals: OUTPUTs that no party, or more than one, would receive. (Z.100: signal
-- routes, output.)
use Rattle.std.specs.Prelude.{ℕ, Bool, false, not, ◌&&◌, List, [], ◌∷◌, Option, None, Some}
use Rattle.std.specs.Prelude.{if◌then◌else◌, length, nat_lt}
use Rattle.std.specs.List.{list_all, flat_map}
use Rattle.sdl_tables.specs.sdl_ast_types.tree.Party.{Party}
use Rattle.sdl_tables.specs.sdl_ast_types.tree.Party.TheVariants.{Process}
use Rattle.sdl_tables.specs.sdl_ast_types.tree.Destination.{Destination}
use Rattle.sdl_tables.specs.sdl_ast_types.tree.Destination.TheVariants as address
use Rattle.sdl_tables.specs.Plain.{PlainSending, PlainAction, task, output, set_timer, reset_timer}
use Rattle.sdl_tables.specs.Plain.{PlainProcess, PlainBlock}
pub use Rattle.sdl_tables.specs.Routes.{same_party, paths_of, brings, carries, path_receivers}
pub use Rattle.sdl_tables.specs.Routes.{path_senders, add_party, receivers, senders}
use Rattle.sdl_tables.specs.Names.{is_in, processes_of, timers_of}
use Rattle.sdl_sound.specs.Statements.{Statement, acts, asks, covers, finishes}
use Rattle.sdl_sound.specs.Actions.{Origin, begins, takes, in_statements}

-- a process as a party
abbrev pub party_of : PlainProcess → Party
party_of p = Process p.name

-- ---- S5: an OUTPUT that no party would receive

-- A signal sent TO SENDER by the transition of this input arrives: routes carry it to each party
-- that may have sent the input. A timer has no sender.
abbrev pub answers : PlainBlock → PlainProcess → List ℕ → List ℕ → Bool
answers b p s input =
    not (is_in (timers_of p) input)
    && list_all (λ q. carries b (party_of p) q s) (senders b (party_of p) input)

-- a signal sent TO SENDER arrives for this origin; START has no sender
abbrev pub answers_origin : PlainBlock → PlainProcess → List ℕ → Origin → Bool
answers_origin b p s begins = false
answers_origin b p s (takes x) = answers b p s x.name.name

-- A signal sent TO SENDER arrives for all origins of the transitions that reach the statement. It
-- does if there is none.
abbrev pub answers_all : PlainBlock → PlainProcess → List Origin → List ℕ → Bool
answers_all b p from s = list_all (answers_origin b p s) from

-- signal s with this destination arrives at a party
abbrev pub arrives : PlainBlock → PlainProcess → List Origin → Option Destination → List ℕ → Bool
arrives b p from None s = nat_lt 0 (length (receivers b (party_of p) s))
arrives b p from (Some (address.Sender at)) s = answers_all b p from s
arrives b p from (Some (address.Process id)) s = carries b (party_of p) (Process id) s

abbrev pub lost_sending :
    PlainBlock → PlainProcess → List Origin → Option Destination → PlainSending → List ℕ
lost_sending b p from to x = if arrives b p from to x.signal.name then [] else x.signal.at ∷ []

abbrev pub lost_action : PlainBlock → PlainProcess → List Origin → PlainAction → List ℕ
lost_action b p from (task at assignments) = []
lost_action b p from (output at sendings to) = flat_map (lost_sending b p from to) sendings
lost_action b p from (set_timer at delay timer) = []
lost_action b p from (reset_timer at timer) = []

abbrev pub lost_statement : PlainBlock → PlainProcess → List Origin → Statement → List ℕ
lost_statement b p from (acts a) = lost_action b p from a
lost_statement b p from (asks at q c) = []
lost_statement b p from (covers q ranges) = []
lost_statement b p from (finishes e) = []

abbrev pub without_receiver : PlainBlock → List ℕ
without_receiver b = flat_map (λ p. in_statements (lost_statement b p) p) (processes_of b)

-- ---- S6: an OUTPUT without a destination that two or more parties would receive

abbrev pub is_doubtful : PlainBlock → PlainProcess → Option Destination → List ℕ → Bool
is_doubtful b p None s = nat_lt 1 (length (receivers b (party_of p) s))
is_doubtful b p (Some to) s = false

abbrev pub doubtful_sending : PlainBlock → PlainProcess → Option Destination → PlainSending → List ℕ
doubtful_sending b p to x = if is_doubtful b p to x.signal.name then x.signal.at ∷ [] else []

abbrev pub doubtful_action : PlainBlock → PlainProcess → PlainAction → List ℕ
doubtful_action b p (task at assignments) = []
doubtful_action b p (output at sendings to) = flat_map (doubtful_sending b p to) sendings
doubtful_action b p (set_timer at delay timer) = []
doubtful_action b p (reset_timer at timer) = []

abbrev pub doubtful_statement : PlainBlock → PlainProcess → Statement → List ℕ
doubtful_statement b p (acts a) = doubtful_action b p a
doubtful_statement b p (asks at q c) = []
doubtful_statement b p (covers q ranges) = []
doubtful_statement b p (finishes e) = []

abbrev pub with_two_receivers : PlainBlock → List ℕ
with_two_receivers b =
    flat_map (λ p. in_statements (λ from. doubtful_statement b p) p) (processes_of b)
