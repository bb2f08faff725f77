-- Whether octets are counted, from the deframer's counter.
use Rattle.std.proofs.Common.{◌≡◌, ℕ, Bool, not, Option, Some, None, List, is_some, is_none, sym, ap, ◌∙◌}
use Rattle.bit_line.specs.Counting.{Counts}
use Rattle.bit_line.specs.Deframing.{StandsAt, Stands}
use Rattle.bit_line.specs.Events.{IsCounting}
use Rattle.bit_line.specs.declared.receiver.Receiver.{Receiver}

counted_some : (mode count : Option ℕ) → Counts mode count → is_some mode ≡ not (is_none count)
counted_some (Some n) count e = ap (λ (o : Option ℕ). not (is_none o)) (sym e)
counted_some None count e = ap (λ (o : Option ℕ). not (is_none o)) (sym e)

pub counting_stands : (bits : List Bool) (d : Receiver) (normal : Bool) → normal ≡ is_none d.counter.count → Stands bits d → IsCounting bits (not normal)
unfolding Stands StandsAt
counting_stands bits d normal e stands =
    (stands.1.0, stands.0, stands.1.1, counted_some stands.1.0 d.counter.count stands.1.2.counting ∙ ap (λ (b : Bool). not b) (sym e))
