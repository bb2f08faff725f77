-- How the result of the hexadecimal decoder relates to a word.
use Rattle.std.proofs.Common.{◌≡◌, ℕ, ◌≤◌, List, length, Ok, Err, Result, inl, inr, sym, ◌∙◌, subst}
use Rattle.std.specs.Prelude.{◌↔◌}
use Rattle.std.proofs.lemmas.Bool.{cases_lt}
use Rattle.hex.specs.Hex.{decode_of}
use Rattle.su_octets.specs.Frame.{Frame, Refuses}
use Rattle.su_octets.specs.declared.units.Unit.{Unit as SignalUnit}
use Rattle.su_octets.specs.declared.units.UnitFault.{UnitFault}
use Rattle.su_octets.specs.declared.units.UnitFault.TheVariants.{TooLong}
use Rattle.mtp2_frame.specs.Reading.{Spells}

-- decoded octets number at most 278
pub fits : (octets : List ℕ) (unit : SignalUnit)
    → ((fault : UnitFault) → (let r : Result SignalUnit UnitFault = Ok unit in r ≡ Err fault) ↔ Refuses octets fault) → length octets ≤ 278
fits octets unit refused = elim (cases_lt 278 (length octets)) [
  | inl long ↦ let bad : (let r : Result SignalUnit UnitFault = Ok unit in r ≡ Err TooLong) = (refused TooLong).1 long in absurd (cc)
  | inr short ↦ short
]

ok_same : {A E : Type 0} (a b : A) → (let r : Result A E = Ok a in r ≡ Ok b) → a ≡ b
ok_same a b same = cc

-- a word whose octets are refused spells no signal unit
pub no_unit : (word octets slice : List ℕ) (fault : UnitFault) → decode_of word ≡ Ok octets → slice ≡ octets
    → ((unit : SignalUnit) → (let r : Result SignalUnit UnitFault = Err fault in r ≡ Ok unit) ↔ Frame slice unit) → (unit : SignalUnit) → Spells word unit → ⊥
no_unit word octets slice fault digits same found unit spells =
    let one : octets ≡ spells.octets = ok_same octets spells.octets (sym digits ∙ spells.digits) in
    let P : List ℕ → Type 0 = λ l. Frame l unit in
    let frame : Frame slice unit = subst P (sym (same ∙ one)) spells.frame in
    let bad : (let r : Result SignalUnit UnitFault = Err fault in r ≡ Ok unit) = (found unit).1 frame in absurd (cc)
