-- The changes of a deframer by plain octets.
use Rattle.std.specs.Prelude.{◌≡◌, ◌≢◌, ℕ, ◌+◌, ◌*◌, ◌/◌, ◌%◌, ◌^◌, ◌<◌, ◌≤◌, Bool, true, false}
use Rattle.std.specs.Prelude.{None, List, ◌++◌, reverse, length}
use Rattle.su_octets.specs.Bits.{low_bits}
use Rattle.bit_line.specs.Parts.{Packed}
use Rattle.bit_line.specs.Stuffing.{trailing, taken_out}
use Rattle.bit_line.specs.Deframing.{has_six}
use Rattle.bit_line.specs.declared.receiver.Receiver.{Receiver}
use Rattle.bit_line.specs.declared.run.Run.{Run}

-- the deframer with these values in place of its own
abbrev pub with_run : Receiver → Run → List ℕ → Receiver
with_run base run octets = record {
  recent = run.recent;
  gate = record {
    seen = base.gate.seen;
    wait = base.gate.wait;
    content = record {
      ones = run.ones;
      six = base.gate.content.six;
      data_bits =
          record {
            octets = record { items = octets };
            part = run.part;
            over = base.gate.content.data_bits.over;
          };
    };
    wait_fits = base.gate.wait_fits;
  };
  counter = base.counter;
  recent_fits = run.recent_fits;
}

-- a deframer in normal mode that adds each bit to the content
pub record IsCalm (base : Receiver) : Type 0 where
  pub normal : base.counter.count ≡ None
  pub seen : base.gate.seen ≡ true
  pub wait : base.gate.wait ≡ 0
  pub over : base.gate.content.data_bits.over ≡ false

-- A plain octet, none of whose bits follows six 1s: the bits left without inserted zeros, and the
-- octet that they complete in the content, if any.
pub record IsPlainStep (run : Run) (octet : ℕ) (next : Run) (whole : List ℕ) : Type 0 where
  pub plain : (m : ℕ) → m < 8 → (run.recent + octet * 128) / 2 ^ m % 128 ≢ 126
  pub recent : next.recent ≡ (run.recent + octet * 128) / 2 ^ 8 % 128
  pub left : List Bool
  pub few : length left ≤ 8
  pub data_bits :
      (h : List Bool) → run.ones ≡ trailing h
      → taken_out (reverse (low_bits 8 ((run.recent + octet * 128) % 2 ^ 8)) ++ h)
      ≡ left ++ taken_out h
  pub ones : (h : List Bool) → run.ones ≡ trailing h
      → next.ones ≡ trailing (reverse (low_bits 8 ((run.recent + octet * 128) % 2 ^ 8)) ++ h)
  pub six : (h : List Bool) → run.ones ≡ trailing h
      → has_six (reverse (low_bits 8 ((run.recent + octet * 128) % 2 ^ 8)) ++ h) ≡ has_six h
  pub packed :
      (octets : List ℕ) (h : List Bool) → Packed octets run.part.bits run.part.len h
      → Packed (octets ++ whole) next.part.bits next.part.len (left ++ h)
