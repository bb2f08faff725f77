-- The contents of the index of the routes of a block.
use Rattle.std.specs.Prelude.{◌≡◌, ℕ, Bool, ◌&&◌, List, [], ◌∷◌, if◌then◌else◌, map}
use Rattle.std.specs.List.{list_any, flat_map}
use Rattle.std.specs.Option.{option_map_or}
use Rattle.indexmap.specs.IndexMap.{get}
use Rattle.indexmap.specs.IndexSet.{contains}
use Rattle.sdl_ast.specs.Spelling.{folded}
use Rattle.sdl_ast.specs.declared.tree.Party.{Party}
use Rattle.sdl_ast.specs.declared.tree.Party.TheVariants.{Environment, Process}
use Rattle.sdl_ast.specs.Plain.{PlainPath}
use Rattle.sdl_tables.specs.Names.{same_name}
use Rattle.sdl_tables.specs.Routes.{same_party, parties_once}
use Rattle.sdl_tables.specs.declared.route_index.Side.{Side}
use Rattle.sdl_tables.specs.declared.route_index.Side.TheVariants as sides
use Rattle.sdl_tables.specs.declared.route_index.End.{End}
use Rattle.sdl_tables.specs.declared.route_index.Passage.{Passage}
use Rattle.sdl_tables.specs.declared.route_index.Ends.{Ends}
use Rattle.sdl_tables.specs.declared.route_index.RouteIndex.{RouteIndex}
use Rattle.sdl_tables.specs.contracts.route_index.SidePartialEq.TheImpl as side_eq
use Rattle.sdl_tables.specs.contracts.route_index.EndPartialEq.TheImpl as end_eq
use Rattle.sdl_tables.specs.contracts.route_index.PassagePartialEq.TheImpl as passage_eq

-- a signal that a path carries from one party to another
pub record Mention : Type 0 where
  pub from : Party
  pub to : Party
  pub signal : List ℕ

-- the signals of a path, with duplicates
abbrev pub mentions_of : PlainPath → List Mention
mentions_of path =
    map (λ id. record { from = path.from; to = path.to; signal = id.name }) path.signals

-- a mention in the reverse direction
abbrev pub turned : Mention → Mention
turned m = record { from = m.to; to = m.from; signal = m.signal }

abbrev pub is_mention : Party → Party → List ℕ → Mention → Bool
is_mention from to s m = same_party from m.from && (same_party to m.to && same_name s m.signal)

-- the parties to which signal s is carried from a party
abbrev pub mention_receivers : Party → List ℕ → Mention → List Party
mention_receivers from s m =
    if same_party from m.from && same_name s m.signal then m.to ∷ [] else []

-- the parties to which signal s is carried from a party, without duplicates
abbrev pub receivers_in : List Mention → Party → List ℕ → List Party
receivers_in ms from s = parties_once (flat_map (mention_receivers from s) ms)

-- keys for parties, and for signals with one or both parties
abbrev pub side_of : Party → Side
side_of Environment = sides.Environment
side_of (Process id) = sides.Process (folded id.name)

abbrev pub end_of : Party → List ℕ → End
end_of own s = record { side = side_of own; signal = folded s }

abbrev pub passage_of : Party → Party → List ℕ → Passage
passage_of from to s = record { from = side_of from; to = side_of to; signal = folded s }

abbrev pub same_side : Side → Side → Bool
same_side x y = (side_eq.ghosts).eq x y

abbrev pub same_end : End → End → Bool
same_end x y = (end_eq.ghosts).eq x y

abbrev pub same_passage : Passage → Passage → Bool
same_passage x y = (passage_eq.ghosts).eq x y

-- the parties in a table for a key
abbrev pub held : Ends → End → List Party
held e k = option_map_or (λ v. v.items) (get same_end e.lists k) []

abbrev pub listed : Ends → Party → List ℕ → List Party
listed e own s = held e (end_of own s)

-- the index has a passage of this signal between two parties
abbrev pub is_carried : RouteIndex → Party → Party → List ℕ → Bool
is_carried i from to s = contains same_passage i.carried (passage_of from to s)

-- the index contains exactly these mentions
pub record Indexes (i : RouteIndex) (ms : List Mention) : Type 0 where
  pub carried :
      (from to : Party) (s : List ℕ) → is_carried i from to s ≡ list_any (is_mention from to s) ms
  pub receivers : (own : Party) (s : List ℕ) → listed i.receivers own s ≡ receivers_in ms own s
  pub senders :
      (own : Party) (s : List ℕ) → listed i.senders own s ≡ receivers_in (map turned ms) own s
