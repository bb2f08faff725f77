-- What level 3 ordered of links that holds until it orders the opposite, or their link goes down.
use Rattle.std.specs.Prelude.{ℕ, ◌%◌, Bool, true, false, if◌then◌else◌, List, [], ◌∷◌}
use Rattle.std.specs.Prelude.{slice_index_or, slice_set}
use Rattle.link_processes.specs.declared.commands.Command.{Command}
use Rattle.link_processes.specs.declared.commands.Command.TheVariants as command
use Rattle.link_transceiver.specs.declared.signals.LinkStatus.{LinkStatus}
use Rattle.link_transceiver.specs.declared.signals.LinkStatus.TheVariants as status
use Rattle.link_transceiver.specs.declared.signals.Report.{Report}
use Rattle.link_transceiver.specs.declared.signals.Report.TheVariants as report
use Rattle.line_tending.specs.Calling.{Handed}
use Rattle.line_tending.specs.declared.ordered.Ordered.{Ordered}

abbrev pub nothing_ordered : Ordered
nothing_ordered = record { outage = false; busy = false }

-- after one more order
abbrev pub ordered_by : Command → Ordered → Ordered
ordered_by command.PowerOn o = o
ordered_by command.Start o = o
ordered_by command.Stop o = o
ordered_by command.Emergency o = o
ordered_by command.Calm o = o
ordered_by command.Outage o = record o { outage = true }
ordered_by command.Back o = record o { outage = false }
ordered_by command.Busy o = record o { busy = true }
ordered_by command.Free o = record o { busy = false }
ordered_by command.Flush o = o
ordered_by command.Continue o = o
ordered_by command.Overload o = record o { busy = true }

-- Level 3 ordered what a command begins or ends.
abbrev pub is_ordered : Ordered → Command → Bool
is_ordered o command.PowerOn = false
is_ordered o command.Start = false
is_ordered o command.Stop = false
is_ordered o command.Emergency = false
is_ordered o command.Calm = false
is_ordered o command.Outage = o.outage
is_ordered o command.Back = o.outage
is_ordered o command.Busy = o.busy
is_ordered o command.Free = o.busy
is_ordered o command.Flush = false
is_ordered o command.Continue = false
is_ordered o command.Overload = false

-- what was ordered of a link, of up to 16
abbrev pub ordered_of : ℕ → List Ordered → Ordered
ordered_of link all = slice_index_or all (link % 16) nothing_ordered

abbrev pub after_order : ℕ → Command → List Ordered → List Ordered
after_order link command all = slice_set all (link % 16) (ordered_by command (ordered_of link all))

-- ---- the end of an order to be busy

abbrev pub is_down_status : LinkStatus → Bool
is_down_status status.InService = false
is_down_status (status.Down reason) = true
is_down_status status.RemoteOut = false
is_down_status status.RemoteBack = false
is_down_status status.Cleared = false

-- A link reports that it went down.
abbrev pub is_down : Report → Bool
is_down (report.Message m) = false
is_down (report.Status s) = is_down_status s

-- It went down: an order to be busy ends.
abbrev pub after_down : ℕ → List Ordered → List Ordered
after_down link all = slice_set all (link % 16) (record (ordered_of link all) { busy = false })

-- after a report of a link
abbrev pub ordered_after : Handed → List Ordered → List Ordered
ordered_after h all = if is_down h.report then after_down h.link all else all

-- after reports of links
abbrev pub ordered_along : List Ordered → List Handed → List Ordered
ordered_along all [] = all
ordered_along all (h ∷ hs) = ordered_along (ordered_after h all) hs
