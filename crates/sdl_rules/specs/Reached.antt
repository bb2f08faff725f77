-- The connections to which the transitions lead that are started by signals of a sender.
use Rattle.std.specs.Prelude.{◌≡◌, ℕ, Bool, false, List, [], ◌∷◌, Option, Some, if◌then◌else◌, map}
use Rattle.std.specs.Prelude.{slice_get}
use Rattle.std.specs.List.{list_any, flat_map}
use Rattle.std.specs.Option.{option_map_or}
use Rattle.std.specs.Global.{Vec}
use Rattle.sdl_ast.specs.declared.expression.Identifier.{Identifier}
use Rattle.sdl_ast.specs.declared.tree.Join.{Join}
use Rattle.sdl_ast.specs.Plain.{PlainInput, PlainConnection, PlainProcess, PlainBlock}
use Rattle.sdl_tables.specs.Names.{input_parts, number_of}
use Rattle.sdl_sound.specs.Statements.{joins_of}
use Rattle.sdl_sound.specs.Joins.{comes, reaches}
use Rattle.sdl_sound.specs.Orders.{targets_of}
use Rattle.sdl_sound.specs.Actions.{connection_origins}
use Rattle.sdl_rules.specs.Distinct.{has_sender, distinct}
use Rattle.sdl_scopes.specs.Known.{AreSenders}
use Rattle.sdl_scopes.specs.Reaches.{PlainSent, sent_of, senders_in, is_marked}
use Rattle.sdl_rules.specs.declared.reaching.Joining.{Joining}
use Rattle.sdl_scopes.specs.declared.sent.Sent.{Sent}
use Rattle.sdl_scopes.specs.declared.sender.Sender.{Sender}
use Rattle.sdl_scopes.specs.declared.sender.Sender.TheVariants.{Nobody}
use Rattle.sdl_rules.specs.declared.sender_table.SenderTable.{SenderTable}

-- The rows of the signals and timers of an INPUT, and the numbers of the connections it joins.
pub record PlainJoining : Type 0 where
  pub rows : List (Option ℕ)
  pub targets : List ℕ

abbrev pub joining_of : Joining → PlainJoining
joining_of j = record { rows = j.rows.items; targets = j.targets.items }

abbrev pub input_joining : List Identifier → PlainProcess → PlainInput → PlainJoining
input_joining names p i =
    record {
      rows = map (λ x. number_of names x.name.name) i.stimuli;
      targets = targets_of p (joins_of i.text);
    }

-- Whether one of these rows is marked.
abbrev pub takes_one : List Bool → List (Option ℕ) → Bool
takes_one marks rows = list_any (λ row. option_map_or (is_marked marks) row false) rows

-- The connections that INPUTs with a marked row join.
abbrev pub starts_with : List Bool → List PlainJoining → List ℕ
starts_with marks js = flat_map (λ j. if takes_one marks j.rows then j.targets else []) js

-- The possible senders of a signal or timer, by the table.
abbrev pub row_at : SenderTable → List ℕ → List Sender
row_at t name =
    option_map_or
    (λ n. option_map_or (λ (row : Vec Sender). row.items) (slice_get t.rows.items n) [])
    (number_of t.names name) []

-- Whether a sender may have sent one of the signals that an INPUT takes.
abbrev pub may_begin : SenderTable → Sender → PlainInput → Bool
may_begin t u i = list_any (λ x. has_sender (row_at t x.name.name) u) i.stimuli

-- The JOINs of all INPUTs that take a signal of this sender.
abbrev pub sent_joins : PlainProcess → SenderTable → Sender → List Join
sent_joins p t u = flat_map (λ i. if may_begin t u i then joins_of i.text else []) (input_parts p)

-- The connections to which these JOINs lead.
abbrev pub sent_reach : PlainProcess → SenderTable → Sender → List Bool
sent_reach p t u =
    map (λ c. list_any (λ j. comes p j.connector.name c.name.name) (sent_joins p t u)) p.connections

abbrev pub sent_by : PlainProcess → SenderTable → Sender → PlainSent
sent_by p t u = record { sender = u; reached = sent_reach p t u }

-- Nobody for START, and all possible senders for the INPUTs.
abbrev pub sent_all : PlainProcess → SenderTable → List PlainSent
sent_all p t =
    record {
      sender = Nobody;
      reached = map (λ c. reaches p p.start.text c.name.name) p.connections;
    }
    ∷ map (sent_by p t) (distinct t.rows.items)

-- `sent` has the possible senders of what starts the transitions that lead to each connection.
abbrev pub AreSent : PlainBlock → PlainProcess → List Sent → Type 0
AreSent b p sent =
    (n : ℕ) (c : PlainConnection) → slice_get p.connections n ≡ Some c
    → AreSenders b p (senders_in (map sent_of sent) n) (connection_origins p c)
