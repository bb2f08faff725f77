-- The items that a state saves (Z.100, save).
use Rattle.std.specs.Prelude.{ℕ, Bool, ◌&&◌, ◌==◌, nat_lt}
use Rattle.std.specs.Int.{bit_at}
use Rattle.plain_laws.specs.Limits.{MOST_SIGNALS, MOST_TIMERS_EACH}
use Rattle.input_port.specs.declared.save.Saved.{Saved}
use Rattle.input_port.specs.declared.queue.Item.{Item}
use Rattle.input_port.specs.declared.queue.Item.TheVariants.{Signal, Timer}

-- whether a number is in a set of numbers below a limit, each of which has a bit
unfoldable pub has_bit : ℕ → ℕ → ℕ → Bool
has_bit limit bits number = nat_lt number limit && bit_at bits number == 1

-- whether a signal is saved, by its number
abbrev pub saves_signal : Saved → ℕ → Bool
saves_signal saved number = has_bit MOST_SIGNALS saved.signals number

-- whether the signal of a timer is saved, by the timer's number
abbrev pub saves_timer : Saved → ℕ → Bool
saves_timer saved number = has_bit MOST_TIMERS_EACH saved.timers number

-- whether an item is saved
abbrev pub saves : Saved → Item → Bool
saves saved (Signal arrival) = saves_signal saved arrival.signal.0
saves saved (Timer timer) = saves_timer saved timer.0
