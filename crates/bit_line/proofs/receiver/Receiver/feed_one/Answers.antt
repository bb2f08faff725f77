use Rattle.std.proofs.Common.{◌++◌, [], sym, ◌∙◌, subst}
use Rattle.std.proofs.lemmas.Bool.{eqb-true}
use Rattle.su_octets.specs.Bits.{low_bits}
use Rattle.bit_line.proofs.EventLaws.{stands_by, events_by}
use Rattle.bit_line.proofs.UntilLaws.{quiet_step, none_given, none_of_length}
use Rattle.bit_line.specs.Deframing.{Stands}
use Rattle.bit_line.specs.declared.receiver.Receiver.{Receiver}
use Rattle.bit_line.proofs.receiver.Receiver.feed_one.Goals as goal

pub returns-then-take_whole-clause-stands : goal.returns-then-take_whole-clause-stands
returns-then-take_whole-clause-stands c bits =
    stands_by bits (low_bits 8 c.args.octet) [] c.args.self.now c.take_whole.new.self
    (λ h es. quiet_step (low_bits 8 c.args.octet) c.args.self.now c.take_whole.new.self (λ g fs. c.take_whole.ensures.taken c.if-take_whole.true g fs) h es)

pub returns-then-take_whole-clause-events : goal.returns-then-take_whole-clause-events
returns-then-take_whole-clause-events c bits events =
    events_by bits (low_bits 8 c.args.octet) [] events c.args.self.now c.take_whole.new.self
    (λ h es. quiet_step (low_bits 8 c.args.octet) c.args.self.now c.take_whole.new.self (λ g fs. c.take_whole.ensures.taken c.if-take_whole.true g fs) h es)

pub returns-then-is_empty-clause-events : goal.returns-then-is_empty-clause-events
returns-then-is_empty-clause-events c bits events stands are =
    let P : Receiver → Type 0 = λ d. Stands bits d in
    none_given (bits ++ low_bits 8 c.args.octet) events c.feed_byte-events.result.items
    (none_of_length c.feed_byte-events.result.items (eqb-true _ 0 (sym c.is_empty.ensures ∙ c.if-is_empty.true)))
    (c.feed_byte-events.ensures.events bits events (subst P (sym (c.take_whole.ensures.left c.if-take_whole.false)) stands) are)
