-- The meaning of the values that the code returns.
use Rattle.std.specs.Prelude.{ℕ, Option, Some, None, List, [], ◌∷◌, ◌++◌}
use Rattle.arrayvec.specs.ArrayVec.{ArrayVec}
use Rattle.bit_line.specs.Counting.{sixteen_of}
use Rattle.bit_line.specs.Events.{Verdict, Correct, Wrong, Nothing}
use Rattle.bit_line.specs.declared.content.Content.{Content}
use Rattle.bit_line.specs.declared.content.Closed.{Closed}
use Rattle.bit_line.specs.declared.content.Closed.TheVariants as closed
use Rattle.bit_line.specs.declared.counter.Given.{Given}
use Rattle.bit_line.specs.declared.events.LineEvent.{LineEvent}
use Rattle.bit_line.specs.declared.events.LineEvent.TheVariants as events

-- the verdict of a judgement; if it is correct, the content has the unit's octets
abbrev pub verdict_of : Closed → Content → Verdict
verdict_of closed.Correct content = Correct content.data_bits.octets.items
verdict_of closed.Wrong content = Wrong
verdict_of closed.Nothing content = Nothing

-- the report of the content that a flag closed
abbrev pub report_of : Closed → Content → List LineEvent
report_of closed.Correct content =
    events.Unit (record { items = content.data_bits.octets.items }) ∷ []
report_of closed.Wrong content = events.Errored ∷ []
report_of closed.Nothing content = []

-- all reports at a bit
abbrev pub reports_of : Given → Content → List LineEvent
reports_of given content = sixteen_of given.sixteen ++ report_of given.closed content

-- the number of reports of the content that a flag closed
abbrev pub weight_of : Closed → ℕ
weight_of closed.Correct = 1
weight_of closed.Wrong = 1
weight_of closed.Nothing = 0

-- the returned reports, or none
abbrev pub given_of : Option (ArrayVec LineEvent) → List LineEvent
given_of None = []
given_of (Some given) = given.items
