-- Parties by number, and whether a signal arrives at one.
use Rattle.std.specs.Prelude.{◌≡◌, ℕ, Bool, false, List, Option, Some, length, ⊤}
use Rattle.sdl_ast.specs.declared.tree.Party.{Party}
use Rattle.sdl_ast.specs.declared.tree.Party.TheVariants.{Environment, Process}
use Rattle.sdl_ast.specs.Plain.{PlainProcess, PlainBlock}
use Rattle.sdl_tables.specs.Names.{number_of, process_names}
use Rattle.sdl_sound.specs.Receivers.{party_of, carries}
use Rattle.sdl_scopes.specs.declared.sender.Numbered.{Numbered}
use Rattle.sdl_scopes.specs.declared.sender.Sender.{Sender}
use Rattle.sdl_scopes.specs.declared.sender.Sender.TheVariants as sent_by

-- The number of a party: that of its process, or the number of processes for the environment. An
-- unknown process has none.
abbrev pub party_number : PlainBlock → Party → Option ℕ
party_number b Environment = Some (length (process_names b))
party_number b (Process id) = number_of (process_names b) id.name

abbrev pub IsNumbered : PlainBlock → Numbered → Type 0
IsNumbered b x = x.number ≡ party_number b x.party

-- a signal sent TO SENDER arrives at this sender
abbrev pub gets_back : PlainBlock → PlainProcess → List ℕ → Sender → Bool
gets_back b p s sent_by.Nobody = false
gets_back b p s (sent_by.Party x) = carries b (party_of p) x.party s

abbrev pub IsSender : PlainBlock → Sender → Type 0
IsSender b sent_by.Nobody = ⊤
IsSender b (sent_by.Party x) = IsNumbered b x
