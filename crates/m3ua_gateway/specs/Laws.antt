-- Laws of the table and of a life, each the contract of a public function.
use Rattle.std.specs.Prelude.{◌≡◌, ◌↔◌, ◌&&◌, Bool, true, false, not, List, [], ◌∷◌}
use Rattle.std.specs.List.{list_any}
use Rattle.m3ua_gateway.specs.declared.states.Asp.{Asp}
use Rattle.m3ua_gateway.specs.declared.states.Asp.TheVariants as asp
use Rattle.m3ua_gateway.specs.declared.states.Server.{Server}
use Rattle.m3ua_gateway.specs.declared.states.Server.TheVariants as server
use Rattle.m3ua_gateway.specs.declared.states.State.{State}
use Rattle.m3ua_gateway.specs.declared.states.State.TheVariants as state
use Rattle.m3ua_gateway.specs.declared.table.Action.{Action}
use Rattle.m3ua_gateway.specs.declared.table.Action.TheVariants as action
use Rattle.m3ua_gateway.specs.declared.table.Happening.{Happening}
use Rattle.m3ua_gateway.specs.declared.table.Happening.TheVariants as happening
use Rattle.m3ua_gateway.specs.States.{asp_in, server_in, is_pending, is_active}
use Rattle.m3ua_gateway.specs.Table.{step}
use Rattle.m3ua_gateway.specs.Life.{Deed, is_release, is_loss, life_of, IsUpward, IsInOrder}
use Rattle.m3ua_gateway.specs.Life.{AreFit, IsDownward, IsInOrderDown, IsEachData, IsKept}
use Rattle.m3ua_gateway.specs.Life.{joined}
use Rattle.m3ua_gateway.specs.Life.{account_of, result_of, account_after}

-- ---- tests

abbrev pub is_take : Action → Bool
is_take action.Take = true
is_take _ = false

abbrev pub is_down : Asp → Bool
is_down asp.Down = true
is_down asp.Inactive = false
is_down asp.Active = false

abbrev pub same_server : Server → Server → Bool
same_server server.Down server.Down = true
same_server server.Inactive server.Inactive = true
same_server server.Active server.Active = true
same_server server.Pending server.Pending = true
same_server _ _ = false

abbrev pub is_count : Action → Bool
is_count action.Count = true
is_count _ = false

-- an action tells of this state of the AS
abbrev pub tells : Server → Action → Bool
tells s (action.Notify t) = same_server s t
tells s _ = false

-- ---- laws

-- the ASP is active where the AS is
abbrev pub ActiveTogether : Type 0
ActiveTogether = (s : State) → (asp_in s ≡ asp.Active) ↔ (server_in s ≡ server.Active)

-- nothing is sent for an ERR, and nothing changes
abbrev pub NoErrorForAnError : Type 0
NoErrorForAnError = (s : State) → step s happening.Error ≡ (s, [])

-- DATA is taken only while the AS is active, which it stays
abbrev pub TakenWhileActive : Type 0
TakenWhileActive =
    (s : State) (h : Happening) → list_any is_take (step s h).1 ≡ true
    → (s ≡ state.Active) × ((step s h).0 ≡ state.Active)

-- DATA with a message for level 4 is taken while the AS is active.
abbrev pub takes : State → Happening → Bool
takes state.Active happening.Data = true
takes _ _ = false

-- Other DATA is refused, and all DATA while the AS isn't active.
abbrev pub refuses : State → Happening → Bool
refuses s happening.Data = not (is_active s)
refuses s happening.OtherData = true
refuses s happening.LongData = true
refuses s happening.StrayData = true
refuses s happening.RefusedData = true
refuses _ _ = false

-- What was kept is sent as a pending AS becomes active, and lost as it leaves AS-PENDING otherwise.
-- DATA is taken or counted as refused as above.
abbrev pub MessagesMoved : Type 0
MessagesMoved =
    (s : State) (h : Happening)
    → (list_any is_release (step s h).1 ≡ (is_pending (server_in s) && is_active (step s h).0))
    × (list_any is_loss (step s h).1
    ≡ (is_pending (server_in s)
    && (not (is_pending (server_in (step s h).0)) && not (is_active (step s h).0))))
    × (list_any is_take (step s h).1 ≡ takes s h)
    × (list_any is_count (step s h).1 ≡ refuses s h)

-- An ASP that isn't down is told of each change of its AS (4.3.4.5).
abbrev pub ToldOfChanges : Type 0
ToldOfChanges =
    (s : State) (h : Happening) → same_server (server_in s) (server_in (step s h).0) ≡ false
    → is_down (asp_in (step s h).0) ≡ false
    → list_any (tells (server_in (step s h).0)) (step s h).1 ≡ true

-- An ASP is never told that its AS is down: no status says so (3.8.2).
abbrev pub NeverToldOfDown : Type 0
NeverToldOfDown = (s : State) (h : Happening) → list_any (tells server.Down) (step s h).1 ≡ false

-- the state after happenings, the latest first
abbrev pub state_after : List Happening → State
state_after [] = state.Down
state_after (h ∷ hs) = (step (state_after hs) h).0

-- each state is reached
abbrev pub AllReached : Type 0
AllReached = (s : State) → (hs : List Happening) × (state_after hs ≡ s)

-- Over a life each message that the set delivered was sent, is kept or was lost. Those that were
-- sent or are kept have a label, are for level 4, and are in the order of delivery. Each message
-- that came as DATA was taken by the set, waits or was refused, and each other DATA was refused. In
-- each selection those that were taken or wait are in the order in which they came. Something is
-- kept only while the AS is pending.
abbrev pub Accounted : Type 0
Accounted =
    (ds : List Deed)
    → IsUpward (life_of ds) × IsInOrder (life_of ds) × AreFit (life_of ds)
    × IsDownward (life_of ds) × IsInOrderDown (life_of ds) × IsEachData ds × IsKept (life_of ds)

-- What a gateway knows follows its life: each deed adds what comes of it from the gateway's account
-- on.
abbrev pub Followed : Type 0
Followed =
    (ds : List Deed) (d : Deed)
    → (life_of (d ∷ ds) ≡ joined (life_of ds) (result_of (account_of (life_of ds)) d))
    × (account_of (life_of (d ∷ ds)) ≡ account_after (account_of (life_of ds)) d)
