use Rattle.std.proofs.Common.{◌≤◌, ℕ, List, length, refl, ap, ◌∙◌, subst, arith}
use Rattle.su_octets.specs.Frame.{Frame}
use Rattle.su_octets.specs.Bits.{bits_of}
use Rattle.bit_line.specs.Stuffing.{stuffing_of}
use Rattle.mtp2_frame.proofs.Readings.{no_unit, fits}
use Rattle.mtp2_frame.proofs.command.read.Goals as goal

pub line_bits-line_bits-requires : goal.line_bits-line_bits-requires
line_bits-line_bits-requires c =
    let short : length c.as_slice.result.now ≤ 278 = fits _ _ c.in-Ok-decode.ensures.refused in
    omega (arith, short, ap length c.as_slice.ensures.value, ap length c.as_slice-in-Ok-decode.ensures.value)

pub returns-in-Ok-decode-clause-unit : goal.returns-in-Ok-decode-clause-unit
returns-in-Ok-decode-clause-unit c = record {
  octets = c.in-Ok.octets.items;
  digits = c.in-Ok.ensures.ok;
  frame =
      let P : List ℕ → Type 0 = λ l. Frame l c.in-Ok-decode.unit in
      subst P c.as_slice.ensures.value ((c.in-Ok-decode.ensures.found c.in-Ok-decode.unit).0 refl);
  bits = c.line_bits-line_bits.ensures ∙ ap (λ l. length (stuffing_of (bits_of l))) c.as_slice-in-Ok-decode.ensures.value;
}

pub returns-clause-none : goal.returns-clause-none
returns-clause-none c = no_unit c.args.word.now c.in-Ok.octets.items c.as_slice.result.now c.in-Err-decode.fault c.in-Ok.ensures.ok c.as_slice.ensures.value c.in-Err-decode.ensures.found
