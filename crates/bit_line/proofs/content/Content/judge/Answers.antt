use Rattle.std.proofs.Common.{ℕ, List, subst}
use Rattle.su_octets.specs.Bits.{AreOctets}
use Rattle.bit_line.specs.Events.{AreUnit}
use Rattle.bit_line.proofs.StuffLaws.{taken_out-none}
use Rattle.bit_line.proofs.ContentLaws.{is_wrong, not_six, not_five, not_over, not_part, not_unit, is_correct}
use Rattle.bit_line.proofs.content.Content.judge.Goals as goal

pub returns-then-is_empty : goal.returns-then-is_empty
returns-then-is_empty c h holds = taken_out-none h (c.if-is_empty.ensures _ holds.gathers)

pub returns-then-self : goal.returns-then-self
returns-then-self c h holds =
    is_wrong h c.args.self.now holds (c.if-is_empty.ensures _ holds.gathers) (λ octets. not_six h c.args.self.now octets holds c.if-self.true)

pub returns-then-self-eq5 : goal.returns-then-self-eq5
returns-then-self-eq5 c h holds =
    is_wrong h c.args.self.now holds (c.if-is_empty.ensures _ holds.gathers) (λ octets. not_five h c.args.self.now octets holds c.if-self-eq5.true)

pub returns-then-self-2 : goal.returns-then-self-2
returns-then-self-2 c h holds =
    is_wrong h c.args.self.now holds (c.if-is_empty.ensures _ holds.gathers) (λ octets. not_over h c.args.self.now octets holds c.if-self-2.true)

pub returns-then-self-ne0 : goal.returns-then-self-ne0
returns-then-self-ne0 c h holds =
    is_wrong h c.args.self.now holds (c.if-is_empty.ensures _ holds.gathers)
    (λ octets. not_part h c.args.self.now octets holds c.if-self-2.false c.if-self-ne0.true c.args.self.now.data_bits.part.len_fits)

pub returns-then-is_unit : goal.returns-then-is_unit
returns-then-is_unit c h holds =
    let fit : AreOctets c.args.self.now.data_bits.octets.items = subst AreOctets c.as_slice.ensures.value c.is_unit.ensures.octets in
    let unit : AreUnit c.args.self.now.data_bits.octets.items = subst AreUnit c.as_slice.ensures.value c.if-is_unit.ensures.unit in
    is_correct h c.args.self.now holds c.if-self.false c.if-self-eq5.false c.if-self-2.false c.if-self-ne0.false fit unit

pub returns-else-is_unit : goal.returns-else-is_unit
returns-else-is_unit c h holds =
    let fit : AreOctets c.args.self.now.data_bits.octets.items = subst AreOctets c.as_slice.ensures.value c.is_unit.ensures.octets in
    let P : List ℕ → Type 0 = λ octets. AreUnit octets → ⊥ in
    let none : AreUnit c.args.self.now.data_bits.octets.items → ⊥ = subst P c.as_slice.ensures.value c.if-is_unit.ensures.unit in
    is_wrong h c.args.self.now holds (c.if-is_empty.ensures _ holds.gathers)
    (λ octets. not_unit h c.args.self.now octets holds c.if-self-2.false c.if-self-ne0.false fit none)
