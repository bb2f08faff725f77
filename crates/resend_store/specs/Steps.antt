-- A call to send in two steps. First a round of forced retransmission that is over is settled, then
-- one choice serves both modes.
use Rattle.std.specs.Prelude.{◌==◌, ◌&&◌, nat_lt, Bool, true, false, if◌then◌else◌}
use Rattle.resend_store.specs.declared.messages.Mode.{Mode}
use Rattle.resend_store.specs.declared.messages.Mode.TheVariants.{Basic, Cyclic}
use Rattle.resend_store.specs.Window.{Window, Sending, at_limit, round, may_send, repeats}
use Rattle.resend_store.specs.Window.{sends_new, cycles, fill_in}

-- the window without a round that is over
abbrev pub settled : Window → Window
settled w =
    if w.forced && (w.again == 0) then (if at_limit w then round w else record w { forced = false })
    else w

abbrev pub is_cyclic : Mode → Bool
is_cyclic Basic = false
is_cyclic Cyclic = true

-- the unit sent from a settled window
abbrev pub gives : Window → Sending
gives w =
    if nat_lt 0 w.again then repeats w
    else (if may_send w then sends_new w
    else (if is_cyclic w.mode && nat_lt 0 w.sent then cycles w else fill_in w))
