-- The table of a gateway (RFC 4666, 4.3): what happens, what is done, and where the ASP and
-- the AS are then.
use Rattle.std.specs.Prelude.{List, [], ◌∷◌}
use Rattle.m3ua_gateway.specs.declared.states.Server.TheVariants as server
use Rattle.m3ua_gateway.specs.declared.states.State.{State}
use Rattle.m3ua_gateway.specs.declared.states.State.TheVariants as state
use Rattle.m3ua_gateway.specs.declared.table.Action.{Action}
use Rattle.m3ua_gateway.specs.declared.table.Action.TheVariants as action
use Rattle.m3ua_gateway.specs.declared.table.Happening.{Happening}
use Rattle.m3ua_gateway.specs.declared.table.Happening.TheVariants as happening

-- the stream ends (4.2.3)
abbrev pub on_ended : State → State × List Action
on_ended state.Down = (state.Down, [])
on_ended state.Inactive = (state.Down, [])
on_ended state.Active = (state.DownPending, [])
on_ended state.DownPending = (state.DownPending, [])
on_ended state.InactivePending = (state.DownPending, [])

-- T(r) runs out (4.3.2)
abbrev pub on_expired : State → State × List Action
on_expired state.Down = (state.Down, [])
on_expired state.Inactive = (state.Inactive, [])
on_expired state.Active = (state.Active, [])
on_expired state.DownPending = (state.Down, action.Lose ∷ [])
on_expired state.InactivePending =
    (state.Inactive, action.Lose ∷ action.Notify server.Inactive ∷ [])

-- ASPUP (4.3.4.1)
abbrev pub on_up : State → State × List Action
on_up state.Down = (state.Inactive, action.UpAck ∷ action.Notify server.Inactive ∷ [])
on_up state.Inactive = (state.Inactive, action.UpAck ∷ [])
on_up state.Active =
    (state.InactivePending, action.UpAck ∷ action.Error 6 ∷ action.Notify server.Pending ∷ [])
on_up state.DownPending = (state.InactivePending, action.UpAck ∷ action.Notify server.Pending ∷ [])
on_up state.InactivePending = (state.InactivePending, action.UpAck ∷ [])

-- ASPDN (4.3.4.2)
abbrev pub on_down : State → State × List Action
on_down state.Down = (state.Down, action.DownAck ∷ [])
on_down state.Inactive = (state.Down, action.DownAck ∷ [])
on_down state.Active = (state.DownPending, action.DownAck ∷ [])
on_down state.DownPending = (state.DownPending, action.DownAck ∷ [])
on_down state.InactivePending = (state.DownPending, action.DownAck ∷ [])

-- ASPAC (4.3.4.3)
abbrev pub on_active : State → State × List Action
on_active state.Down = (state.Down, action.Error 6 ∷ [])
on_active state.Inactive =
    (state.Active, action.ActiveAck ∷ action.Notify server.Active ∷ action.Destinations ∷ [])
on_active state.Active = (state.Active, action.ActiveAck ∷ [])
on_active state.DownPending = (state.DownPending, action.Error 6 ∷ [])
on_active state.InactivePending = (
  state.Active,
  action.ActiveAck ∷ action.Notify server.Active ∷ action.Destinations
      ∷ action.Release ∷ [],
)

-- ASPAC with our routing context and others (4.3.4.3)
abbrev pub on_active_with_others : State → State × List Action
on_active_with_others state.Down = (state.Down, action.Error 6 ∷ [])
on_active_with_others state.Inactive = (
  state.Active,
  action.ActiveAck ∷ action.Error 0x19 ∷ action.Notify server.Active ∷ action.Destinations ∷ [],
)
on_active_with_others state.Active = (state.Active, action.ActiveAck ∷ action.Error 0x19 ∷ [])
on_active_with_others state.DownPending = (state.DownPending, action.Error 6 ∷ [])
on_active_with_others state.InactivePending = (
  state.Active,
  action.ActiveAck ∷ action.Error 0x19 ∷ action.Notify server.Active ∷ action.Destinations
      ∷ action.Release ∷ [],
)

-- ASPIA (4.3.4.4)
abbrev pub on_inactive : State → State × List Action
on_inactive state.Down = (state.Down, action.Error 6 ∷ [])
on_inactive state.Inactive = (state.Inactive, action.InactiveAck ∷ [])
on_inactive state.Active =
    (state.InactivePending, action.InactiveAck ∷ action.Notify server.Pending ∷ [])
on_inactive state.DownPending = (state.DownPending, action.Error 6 ∷ [])
on_inactive state.InactivePending = (state.InactivePending, action.InactiveAck ∷ [])

-- ASPIA with our routing context and others (4.3.4.4)
abbrev pub on_inactive_with_others : State → State × List Action
on_inactive_with_others state.Down = (state.Down, action.Error 6 ∷ [])
on_inactive_with_others state.Inactive =
    (state.Inactive, action.InactiveAck ∷ action.Error 0x19 ∷ [])
on_inactive_with_others state.Active = (
  state.InactivePending,
  action.InactiveAck ∷ action.Error 0x19 ∷ action.Notify server.Pending ∷ [],
)
on_inactive_with_others state.DownPending = (state.DownPending, action.Error 6 ∷ [])
on_inactive_with_others state.InactivePending =
    (state.InactivePending, action.InactiveAck ∷ action.Error 0x19 ∷ [])

-- DATA for level 4 (3.3.1)
abbrev pub on_data : State → State × List Action
on_data state.Down = (state.Down, action.Error 6 ∷ action.Count ∷ [])
on_data state.Inactive = (state.Inactive, action.Error 6 ∷ action.Count ∷ [])
on_data state.Active = (state.Active, action.Take ∷ [])
on_data state.DownPending = (state.DownPending, action.Error 6 ∷ action.Count ∷ [])
on_data state.InactivePending = (state.InactivePending, action.Error 6 ∷ action.Count ∷ [])

-- DATA that no MTP message for level 4 can carry, because of a value in it
abbrev pub on_other_data : State → State × List Action
on_other_data state.Down = (state.Down, action.Error 6 ∷ action.Count ∷ [])
on_other_data state.Inactive = (state.Inactive, action.Error 6 ∷ action.Count ∷ [])
on_other_data state.Active = (state.Active, action.Error 0x11 ∷ action.Count ∷ [])
on_other_data state.DownPending = (state.DownPending, action.Error 6 ∷ action.Count ∷ [])
on_other_data state.InactivePending = (state.InactivePending, action.Error 6 ∷ action.Count ∷ [])

-- DATA with more octets than an MTP message can carry
abbrev pub on_long_data : State → State × List Action
on_long_data state.Down = (state.Down, action.Error 6 ∷ action.Count ∷ [])
on_long_data state.Inactive = (state.Inactive, action.Error 6 ∷ action.Count ∷ [])
on_long_data state.Active = (state.Active, action.Error 0x12 ∷ action.Count ∷ [])
on_long_data state.DownPending = (state.DownPending, action.Error 6 ∷ action.Count ∷ [])
on_long_data state.InactivePending = (state.InactivePending, action.Error 6 ∷ action.Count ∷ [])

-- DATA with another routing context
abbrev pub on_stray_data : State → State × List Action
on_stray_data state.Down = (state.Down, action.Error 6 ∷ action.Count ∷ [])
on_stray_data state.Inactive = (state.Inactive, action.Error 0x19 ∷ action.Count ∷ [])
on_stray_data state.Active = (state.Active, action.Error 0x19 ∷ action.Count ∷ [])
on_stray_data state.DownPending = (state.DownPending, action.Error 6 ∷ action.Count ∷ [])
on_stray_data state.InactivePending = (state.InactivePending, action.Error 0x19 ∷ action.Count ∷ [])

-- octets of DATA that are no message
abbrev pub on_refused_data : State → State × List Action
on_refused_data state.Down = (state.Down, action.Refuse ∷ action.Count ∷ [])
on_refused_data state.Inactive = (state.Inactive, action.Refuse ∷ action.Count ∷ [])
on_refused_data state.Active = (state.Active, action.Refuse ∷ action.Count ∷ [])
on_refused_data state.DownPending = (state.DownPending, action.Refuse ∷ action.Count ∷ [])
on_refused_data state.InactivePending = (state.InactivePending, action.Refuse ∷ action.Count ∷ [])

-- ASPAC and ASPIA without our routing context, DAUD and SCON with another one
abbrev pub on_stray : State → State × List Action
on_stray state.Down = (state.Down, action.Error 6 ∷ [])
on_stray state.Inactive = (state.Inactive, action.Error 0x19 ∷ [])
on_stray state.Active = (state.Active, action.Error 0x19 ∷ [])
on_stray state.DownPending = (state.DownPending, action.Error 6 ∷ [])
on_stray state.InactivePending = (state.InactivePending, action.Error 0x19 ∷ [])

-- ASPAC with a traffic mode that there isn't (3.7.1)
abbrev pub on_other_mode : State → State × List Action
on_other_mode state.Down = (state.Down, action.Error 6 ∷ [])
on_other_mode state.Inactive = (state.Inactive, action.Error 5 ∷ [])
on_other_mode state.Active = (state.Active, action.Error 5 ∷ [])
on_other_mode state.DownPending = (state.DownPending, action.Error 6 ∷ [])
on_other_mode state.InactivePending = (state.InactivePending, action.Error 5 ∷ [])

-- BEAT (4.3.4.6)
abbrev pub on_beat : State → State × List Action
on_beat state.Down = (state.Down, action.BeatAck ∷ [])
on_beat state.Inactive = (state.Inactive, action.BeatAck ∷ [])
on_beat state.Active = (state.Active, action.BeatAck ∷ [])
on_beat state.DownPending = (state.DownPending, action.BeatAck ∷ [])
on_beat state.InactivePending = (state.InactivePending, action.BeatAck ∷ [])

-- DAUD (4.5.3); an ASP that isn't active is told of no destination (4.3.1)
abbrev pub on_audit : State → State × List Action
on_audit state.Down = (state.Down, action.Error 6 ∷ [])
on_audit state.Inactive = (state.Inactive, action.Error 6 ∷ [])
on_audit state.Active = (state.Active, action.Audited ∷ [])
on_audit state.DownPending = (state.DownPending, action.Error 6 ∷ [])
on_audit state.InactivePending = (state.InactivePending, action.Error 6 ∷ [])

-- REG REQ (4.4.1)
abbrev pub on_register : State → State × List Action
on_register state.Down = (state.Down, action.Error 6 ∷ [])
on_register state.Inactive = (state.Inactive, action.Registered ∷ [])
on_register state.Active = (state.Active, action.Registered ∷ [])
on_register state.DownPending = (state.DownPending, action.Error 6 ∷ [])
on_register state.InactivePending = (state.InactivePending, action.Registered ∷ [])

-- SCON, which tells of the ASP (3.4.4)
abbrev pub on_congestion : State → State × List Action
on_congestion state.Down = (state.Down, action.Error 6 ∷ [])
on_congestion state.Inactive = (state.Inactive, [])
on_congestion state.Active = (state.Active, [])
on_congestion state.DownPending = (state.DownPending, action.Error 6 ∷ [])
on_congestion state.InactivePending = (state.InactivePending, [])

-- ERR (3.8.1)
abbrev pub on_error : State → State × List Action
on_error state.Down = (state.Down, [])
on_error state.Inactive = (state.Inactive, [])
on_error state.Active = (state.Active, [])
on_error state.DownPending = (state.DownPending, [])
on_error state.InactivePending = (state.InactivePending, [])

-- any other message
abbrev pub on_other : State → State × List Action
on_other state.Down = (state.Down, action.Error 6 ∷ [])
on_other state.Inactive = (state.Inactive, action.Error 6 ∷ [])
on_other state.Active = (state.Active, action.Error 6 ∷ [])
on_other state.DownPending = (state.DownPending, action.Error 6 ∷ [])
on_other state.InactivePending = (state.InactivePending, action.Error 6 ∷ [])

-- octets that are no message, and neither those of ERR nor of DATA
abbrev pub on_refused : State → State × List Action
on_refused state.Down = (state.Down, action.Refuse ∷ [])
on_refused state.Inactive = (state.Inactive, action.Refuse ∷ [])
on_refused state.Active = (state.Active, action.Refuse ∷ [])
on_refused state.DownPending = (state.DownPending, action.Refuse ∷ [])
on_refused state.InactivePending = (state.InactivePending, action.Refuse ∷ [])

-- the destinations become reached, or are no longer reached (4.5.1)
abbrev pub on_reach : State → State × List Action
on_reach state.Down = (state.Down, [])
on_reach state.Inactive = (state.Inactive, [])
on_reach state.Active = (state.Active, action.Destinations ∷ [])
on_reach state.DownPending = (state.DownPending, [])
on_reach state.InactivePending = (state.InactivePending, [])

-- ---- the table

abbrev pub step : State → Happening → State × List Action
step s happening.Ended = on_ended s
step s happening.Expired = on_expired s
step s happening.Up = on_up s
step s happening.Down = on_down s
step s happening.Active = on_active s
step s happening.ActiveWithOthers = on_active_with_others s
step s happening.Inactive = on_inactive s
step s happening.InactiveWithOthers = on_inactive_with_others s
step s happening.Data = on_data s
step s happening.OtherData = on_other_data s
step s happening.LongData = on_long_data s
step s happening.StrayData = on_stray_data s
step s happening.RefusedData = on_refused_data s
step s happening.Stray = on_stray s
step s happening.OtherMode = on_other_mode s
step s happening.Beat = on_beat s
step s happening.Audit = on_audit s
step s happening.Register = on_register s
step s happening.Congestion = on_congestion s
step s happening.Error = on_error s
step s happening.Other = on_other s
step s happening.Refused = on_refused s
step s happening.Reach = on_reach s
