use Rattle.std.proofs.Common.{List, Bool, subst}
use Rattle.bit_line.specs.Deframing.{Stands}
use Rattle.su_octets.specs.Bits.{bits_of}
use Rattle.line_streams.proofs.Reporting.{one_octet, ends_unit}
use Rattle.line_streams.proofs.closing.ended.Goals as goal

pub returns-clause-stands : goal.returns-clause-stands
returns-clause-stands c = λ octets stands.
    let P : List Bool → Type 0 = λ bits. Stands bits c.feed_byte-events.new.self in
    subst P (one_octet octets c.args.octet) (c.feed_byte-events.ensures.stands (bits_of octets) stands)

pub returns-clause-unit : goal.returns-clause-unit
returns-clause-unit c = λ octets stands.
    ends_unit octets c.args.octet c.args.deframer.now c.feed_byte-events.result.items c.as_slice.result.now _ stands
    c.feed_byte-events.ensures.events c.feed_byte-events.ensures.one c.as_slice.ensures.value c.unit_in.ensures
