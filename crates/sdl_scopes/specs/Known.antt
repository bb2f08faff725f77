-- The senders of the inputs that begin transitions, and the results known of signals sent back.
use Rattle.std.specs.Prelude.{◌≡◌, ℕ, Bool, true, false, List, All}
use Rattle.std.specs.List.{list_all}
use Rattle.sdl_ast.specs.Plain.{PlainProcess, PlainBlock}
use Rattle.sdl_ast.specs.declared.expression.Identifier.{Identifier}
use Rattle.sdl_tables.specs.Names.{is_in}
use Rattle.sdl_sound.specs.Actions.{Origin}
use Rattle.sdl_sound.specs.Receivers.{answers_all}
use Rattle.sdl_scopes.specs.Parties.{IsSender, gets_back}
use Rattle.sdl_scopes.specs.declared.known.KnownSenders.{KnownSenders}
use Rattle.sdl_scopes.specs.declared.sender.Sender.{Sender}

-- The senders stand for all possible senders of these origins: a signal arrives at all of them
-- exactly if it arrives for each origin.
pub record AreSenders (b : PlainBlock) (p : PlainProcess) (senders : List Sender)
    (from : List Origin) : Type 0 where
  pub told : (s : List ℕ) → list_all (gets_back b p s) senders ≡ answers_all b p from s
  pub numbered : All (IsSender b) senders

-- for each of these signals: whether it arrives at all senders of the origins is equal to `back`
unfoldable pub AreAlike : PlainBlock → PlainProcess → List Origin → Bool → List Identifier → Type 0
AreAlike b p from back ids = (s : List ℕ) → is_in ids s ≡ true → answers_all b p from s ≡ back

-- the senders of these origins, and the results known of signals
pub record Knows (b : PlainBlock) (p : PlainProcess) (k : KnownSenders) (from : List Origin) :
    Type 0 where
  pub senders : AreSenders b p k.list.items from
  pub back : AreAlike b p from true k.back
  pub lost : AreAlike b p from false k.lost
