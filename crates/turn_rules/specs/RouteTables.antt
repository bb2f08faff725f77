-- What the table of the routes of a draft holds.
use Rattle.std.specs.Prelude.{◌≡◌, ℕ, ◌<◌, Bool, false, eqb, ◌&&◌, List, [], map, Contains}
use Rattle.std.specs.Prelude.{slice_index_or}
use Rattle.std.specs.List.{list_any}
use Rattle.plain_laws.specs.Limits.{MOST_PROCESSES}
use Rattle.turn_code.specs.declared.input.Party.{Party}
use Rattle.turn_code.specs.declared.input.Party.TheVariants.{Environment, Process}
use Rattle.turn_code.specs.declared.numbers.SignalNumber.{SignalNumber}
use Rattle.turn_code.specs.declared.draft.DraftRoute.{DraftRoute}
use Rattle.turn_code.specs.Routes.{IsProcess}
use Rattle.turn_rules.specs.Parties.{seat, holds}
use Rattle.turn_rules.specs.declared.party_set.PartySet.{PartySet}
use Rattle.turn_rules.specs.declared.route_table.Ends.{Ends}
use Rattle.turn_rules.specs.declared.route_table.RouteTable.{RouteTable}

-- the empty set of parties
abbrev pub none : PartySet
none = record { 0 = 0 }

-- the set for process p and signal n
abbrev pub listed : Ends → ℕ → ℕ → PartySet
listed e p n = slice_index_or (slice_index_or e.rows p (record { sets = [] })).sets n none

abbrev pub is_process : ℕ → Party → Bool
is_process p Environment = false
is_process p (Process q) = eqb q.0 p

-- a signal that a path brings from one party to another
pub record Mention : Type 0 where
  pub from : Party
  pub to : Party
  pub signal : SignalNumber

-- the signals of a path, each as often as the path lists it
abbrev pub mentions_of : DraftRoute → List Mention
mentions_of r = map (λ n. record { from = r.from; to = r.to; signal = n }) r.signals

-- whether it brings signal n from process p to a party with that bit
abbrev pub is_sent : ℕ → ℕ → ℕ → Mention → Bool
is_sent p n b m = is_process p m.from && (eqb m.signal.0 n && eqb (seat m.to) b)

-- whether it brings signal n to process p from a party with that bit
abbrev pub is_brought : ℕ → ℕ → ℕ → Mention → Bool
is_brought p n b m = is_process p m.to && (eqb m.signal.0 n && eqb (seat m.from) b)

-- the table holds exactly these signals, for as many processes as a set may have
pub record Tells (t : RouteTable) (ms : List Mention) : Type 0 where
  pub receivers :
      (p n b : ℕ) → p < MOST_PROCESSES
      → holds (listed t.receivers p n) b ≡ list_any (is_sent p n b) ms
  pub senders :
      (p n b : ℕ) → p < MOST_PROCESSES
      → holds (listed t.senders p n) b ≡ list_any (is_brought p n b) ms

-- the path brings signal n to process p, from a party with that bit
pub record ComesFrom (b p : ℕ) (n : SignalNumber) (r : DraftRoute) : Type 0 where
  pub from : seat r.from ≡ b
  pub to : IsProcess p r.to
  pub signal : Contains r.signals n
