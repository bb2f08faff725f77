-- The states of an ASP and of its AS (RFC 4666, 4.3.1, 4.3.2), as a gateway with one of each knows
-- them.
use Rattle.std.specs.Prelude.{Bool, true, false}
use Rattle.m3ua_gateway.specs.declared.states.Asp.{Asp}
use Rattle.m3ua_gateway.specs.declared.states.Asp.TheVariants as asp
use Rattle.m3ua_gateway.specs.declared.states.Server.{Server}
use Rattle.m3ua_gateway.specs.declared.states.Server.TheVariants as server
use Rattle.m3ua_gateway.specs.declared.states.State.{State}
use Rattle.m3ua_gateway.specs.declared.states.State.TheVariants as state

abbrev pub asp_in : State → Asp
asp_in state.Down = asp.Down
asp_in state.Inactive = asp.Inactive
asp_in state.Active = asp.Active
asp_in state.DownPending = asp.Down
asp_in state.InactivePending = asp.Inactive

abbrev pub server_in : State → Server
server_in state.Down = server.Down
server_in state.Inactive = server.Inactive
server_in state.Active = server.Active
server_in state.DownPending = server.Pending
server_in state.InactivePending = server.Pending

abbrev pub is_pending : Server → Bool
is_pending server.Down = false
is_pending server.Inactive = false
is_pending server.Active = false
is_pending server.Pending = true

abbrev pub is_active : State → Bool
is_active state.Down = false
is_active state.Inactive = false
is_active state.Active = true
is_active state.DownPending = false
is_active state.InactivePending = false
