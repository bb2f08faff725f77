use Rattle.std.proofs.Common.{◌∷◌, [], sym, ap, ◌∙◌, List, ℕ}
use Rattle.bit_line.specs.declared.events.LineEvent.TheVariants as events
use Rattle.line_streams.specs.Capturing.{without_check}
use Rattle.line_streams.proofs.Reporting.{first_unit}
use Rattle.line_streams.proofs.closing.unit_in.Goals as goal

pub returns-in-Unit : goal.returns-in-Unit
returns-in-Unit c =
    first_unit c.args.events.now c.loop-event.event-index c.event-item.result (events.Unit c.in-Unit.octets) c.without_check.result.items
    c.loop-event-test.true (sym c.event-item.is ∙ c.in-Unit.is) (ap (λ l. l ∷ []) (sym (c.without_check.ensures ∙ ap without_check c.as_slice.ensures.value))) c.loop-event.invariant
