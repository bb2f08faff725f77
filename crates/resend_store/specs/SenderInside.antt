-- The window that the fields of a sender represent.
use Rattle.resend_store.specs.declared.sending.Sender.TheInside.{Inside}
use Rattle.resend_store.specs.Window.{Window, IsWindow}

abbrev pub window_of : Inside → Window
window_of a = record {
  mode = a.mode;
  limits = a.limits;
  kept = a.store.kept;
  sent = a.store.sent;
  first = a.first;
  fib = a.fib;
  again = a.again;
  forced = a.forced;
  turn = a.turn;
}

abbrev pub IsSender : Inside → Type 0
IsSender a = IsWindow (window_of a)
