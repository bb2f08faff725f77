use Rattle.std.proofs.Common.{◌++◌, [], ◌∷◌, ℕ, List, reverse, ap, sym, subst, refl}
use Rattle.bit_line.specs.Stuffing.{stuffed}
use Rattle.bit_line.specs.Stuffers.{PlainStuffer, Gave}
use Rattle.bit_line.specs.Parts.{opening}
use Rattle.bit_line.specs.Sending.{line_of}
use Rattle.su_octets.specs.Bits.{bits_of}
use Rattle.bit_line.proofs.SendLaws as laws
use Rattle.bit_line.proofs.stuffer.Stuffer.put_to.Goals as goal

pub invariant_of-self : goal.invariant_of-self
invariant_of-self c =
    let old : PlainStuffer = record { started = c.self.inside.started; part = c.self.inside.part } in
    let given : List ℕ = c.self.invariant.0 in
    let units : List (List ℕ) = c.self.invariant.1 in
    let gave : Gave given units old = c.self.invariant.2 in (
      given ++ c.push_flag.new.line.items,
      units ++ c.encode.new.octets.items ∷ [],
      laws.gave_more given c.push_flag.new.line.items c.encode.new.octets.items units old _ refl gave
          (c.push_flag.ensures.packed given _
          (laws.packed_to _ _ _ _ _ (ap (λ l. stuffed (reverse (bits_of l)) ++ (opening old.started ++ reverse (line_of units))) c.as_slice.ensures.value)
          (c.push_unit.ensures.packed given _ (c.open.ensures.packed given _ (laws.packed_start given c.clear.new.self.items units old c.clear.ensures gave))))),
    )

pub returns-clause-sent : goal.returns-clause-sent
returns-clause-sent c = (
  c.encode.new.octets.items,
  c.encode.ensures.frame,
  c.encode.ensures.spare,
  λ given units before.
      let old : PlainStuffer = record { started = c.self.inside.started; part = c.self.inside.part } in
      let P : PlainStuffer → Type 0 = λ s. Gave given units s in
      let gave : Gave given units old = subst P (sym c.self.view_is) before in
      laws.gave_more given c.push_flag.new.line.items c.encode.new.octets.items units old _ refl gave
      (c.push_flag.ensures.packed given _
      (laws.packed_to _ _ _ _ _ (ap (λ l. stuffed (reverse (bits_of l)) ++ (opening old.started ++ reverse (line_of units))) c.as_slice.ensures.value)
      (c.push_unit.ensures.packed given _ (c.open.ensures.packed given _ (laws.packed_start given c.clear.new.self.items units old c.clear.ensures gave))))),
)
