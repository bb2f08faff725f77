-- The connections that transitions reach, by the possible senders of their inputs.
use Rattle.std.specs.Prelude.{ℕ, Bool, false, List, [], ◌∷◌, if◌then◌else◌, slice_get}
use Rattle.std.specs.List.{flat_map}
use Rattle.std.specs.Option.{option_map_or}
use Rattle.sdl_scopes.specs.declared.sender.Sender.{Sender}
use Rattle.sdl_scopes.specs.declared.sent.Sent.{Sent}

-- there is a mark at this index, and it is set
abbrev pub is_marked : List Bool → ℕ → Bool
is_marked marks n = option_map_or (λ b. b) (slice_get marks n) false

-- a possible sender, and a mark for each connection that its transitions reach
pub record PlainSent : Type 0 where
  pub sender : Sender
  pub reached : List Bool

abbrev pub sent_of : Sent → PlainSent
sent_of z = record { sender = z.sender; reached = z.reached.items }

-- the senders whose transitions reach connection n
abbrev pub senders_in : List PlainSent → ℕ → List Sender
senders_in zs n = flat_map (λ z. if is_marked z.reached n then z.sender ∷ [] else []) zs
