-- The possible senders of each signal that a process takes, with numbers for the parties.
use Rattle.std.specs.Prelude.{◌≡◌, ℕ, List, [], Option, None, Some, length, map, fold, slice_get}
use Rattle.std.specs.Prelude.{All}
use Rattle.std.specs.List.{list_all}
use Rattle.std.specs.Global.{Vec}
use Rattle.sdl_ast.specs.declared.expression.Identifier.{Identifier}
use Rattle.sdl_ast.specs.declared.tree.Stimulus.{Stimulus}
use Rattle.sdl_ast.specs.declared.tree.Party.{Party}
use Rattle.sdl_ast.specs.Plain.{PlainStimulus, PlainInput, PlainProcess, PlainBlock}
use Rattle.sdl_tables.specs.Names.{number_of, add_name, input_parts}
use Rattle.sdl_sound.specs.Receivers.{answers}
use Rattle.sdl_scopes.specs.Parties.{party_number, IsSender, gets_back}
use Rattle.sdl_scopes.specs.declared.sender.Numbered.{Numbered}
use Rattle.sdl_scopes.specs.declared.sender.Sender.{Sender}
use Rattle.sdl_scopes.specs.declared.sender.Sender.TheVariants as sent_by
use Rattle.sdl_rules.specs.declared.sender_table.SenderTable.{SenderTable}

abbrev pub numbered : PlainBlock → Party → Numbered
numbered b q = record { party = q; number = party_number b q }

abbrev pub sender_of : Option Numbered → Sender
sender_of None = sent_by.Nobody
sender_of (Some x) = sent_by.Party x

-- All possible senders of a signal or timer to a process. A signal reaches all of them exactly if
-- `answers` says so.
pub record AreSendersOf (b : PlainBlock) (p : PlainProcess) (name : List ℕ) (row : List Sender) :
    Type 0 where
  pub told : (s : List ℕ) → list_all (gets_back b p s) row ≡ answers b p s name
  pub numbered : All (IsSender b) row

-- The table has a row for each of its names.
pub record Tells (b : PlainBlock) (p : PlainProcess) (t : SenderTable) : Type 0 where
  pub count : length t.rows.items ≡ length t.names
  pub each : (n : ℕ) (id : Identifier) (row : Vec Sender) → slice_get t.names n ≡ Some id
      → slice_get t.rows.items n ≡ Some row
      → AreSendersOf b p id.name row.items

-- The number of the row of each of these signals and timers.
abbrev pub stimulus_rows : List Identifier → List Stimulus → List (Option ℕ)
stimulus_rows names xs = map (λ x. number_of names x.name.name) xs

-- Adds the names of the signals and timers that INPUTs take, each only once.
abbrev pub add_stimulus : List Identifier → PlainStimulus → List Identifier
add_stimulus names x = add_name names x.name

abbrev pub add_input : List Identifier → PlainInput → List Identifier
add_input names i = fold add_stimulus names i.stimuli

-- A row for each signal and timer that a process takes.
pub record ToldAll (b : PlainBlock) (p : PlainProcess) (t : SenderTable) : Type 0 where
  pub tells : Tells b p t
  pub names : t.names ≡ fold add_input [] (input_parts p)
