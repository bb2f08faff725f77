use Rattle.std.proofs.Common.{◌≡◌, ℕ, ◌+◌, ◌-◌, ◌*◌, ◌/◌, ◌%◌, ◌^◌, List, [], ◌∷◌, ◌++◌, take, reverse, refl, sym, ap, ◌∙◌, arith, subst, append_assoc}
use Rattle.su_octets.specs.Bits.{low_bits, bits_of}
use Rattle.bit_line.specs.Events.{IsCorrect}
use Rattle.bit_line.specs.Laws.{unit_events}
use Rattle.bit_line.specs.Deframing.{StandsAt}
use Rattle.bit_line.specs.declared.events.LineEvent.{LineEvent}
use Rattle.bit_line.proofs.PassLaws.{room_none}
use Rattle.bit_line.proofs.GateLaws.{waiting-inside}
use Rattle.bit_line.proofs.RunLaws.{nothing_run}
use Rattle.bit_line.proofs.ShortLaws as laws
use Rattle.bit_line.proofs.receiver.Receiver.push_short.Goals as goal

pub returns-then-octets-lt7-clause-stands : goal.returns-then-octets-lt7-clause-stands
returns-then-octets-lt7-clause-stands c h before stands = nothing_run h (before ++ c.args.events.now.items) c.args.self.now stands

pub returns-in_default-clause-stands : goal.returns-in_default-clause-stands
returns-in_default-clause-stands c h before stands = nothing_run h (before ++ c.args.events.now.items) c.args.self.now stands

pub returns-in_default-short_before-clause-stands : goal.returns-in_default-short_before-clause-stands
returns-in_default-short_before-clause-stands c h before stands = nothing_run h (before ++ c.args.events.now.items) c.args.self.now stands

pub take_plain-requires-clause-room : goal.take_plain-requires-clause-room
take_plain-requires-clause-room c h lets =
    room_none h (waiting-inside h _ lets (c.is_fresh.ensures.seen c.if-not-is_fresh.false) (λ none. absurd (omega (arith, none))))

pub take_plain-requires-clause-plain : goal.take_plain-requires-clause-plain
take_plain-requires-clause-plain c m less is =
    let word : ℕ = c.seven_of-word.result in
    let all : c.from.result + word * 128 ≡ c.args.self.now.recent + word * 128 = ap (λ n. n + word * 128) c.from.ensures in
    let Alone : ℕ → Type 0 = λ w. (i : ℕ) → (i ≡ c.in-Some.place → ⊥) → w / 2 ^ i % 128 ≡ 126 → ⊥ in
    laws.plain_behind c.args.self.now.recent word c.in-Some.place m c.args.self.now.recent_fits (subst Alone all (λ i. c.in-Some.ensures.alone i))
    (ap (λ w. w / 2 ^ c.in-Some.place % 256) (sym all) ∙ c.in-Some.ensures.flag) (omega (arith, less)) is

pub returns-clause-stands : goal.returns-clause-stands
returns-clause-stands c h before stands =
    let word : ℕ = c.seven_of-word.result in
    let place : ℕ = c.in-Some.place in
    let wait : ℕ = c.args.self.now.gate.wait in
    let unit : List ℕ = c.in-Some-short_before.unit in
    let es : List LineEvent = before ++ c.args.events.now.items in
    let all : c.from.result + word * 128 ≡ c.args.self.now.recent + word * 128 = ap (λ n. n + word * 128) c.from.ensures in
    let Alone : ℕ → Type 0 = λ w. (i : ℕ) → (i ≡ place → ⊥) → w / 2 ^ i % 128 ≡ 126 → ⊥ in
    let Judged : ℕ → Type 0 = λ w. IsCorrect (reverse (low_bits (place - wait) (w % 2 ^ place / 2 ^ wait))) unit in
    let normal = c.is_fresh.ensures.normal c.if-not-is_fresh.false in
    let seen = c.is_fresh.ensures.seen c.if-not-is_fresh.false in
    let next = laws.unit_stands word place unit h es c.args.self.now _ normal normal seen (λ l lets. c.is_fresh.ensures.inside c.if-not-is_fresh.false l lets)
    c.in-Some-short_before.ensures.wait c.in-Some.ensures.few (subst Alone all (λ i. c.in-Some.ensures.alone i))
    (ap (λ w. w / 2 ^ place % 256) (sym all) ∙ c.in-Some.ensures.flag) (subst Judged all c.in-Some-short_before.ensures.unit) refl seen refl stands in
    let gone = laws.behind_flag word place (7 - place % 8) c.args.octets.now h _ c.take_plain.new.self c.in-Some.ensures.few (omega (arith, c.if-octets-lt7.false)) c.seven_of-word.ensures.bits refl
    (c.take_plain.ensures.stands _ _ next) in
    let items : (before ++ c.args.events.now.items) ++ unit_events (unit ∷ []) ≡ before ++ c.push.new.self.items =
    append_assoc before c.args.events.now.items (unit_events (unit ∷ []))
    ∙ ap (λ l. before ++ l) (sym (c.in_ok-push.ensures.items ∙ ap (λ l. c.args.events.now.items ++ l) c.report.ensures)) in
    let P : ℕ → Type 0 = λ n. StandsAt (reverse (bits_of (take (n + 1) c.args.octets.now)) ++ h) (before ++ c.push.new.self.items) c.take_plain.new.self in
    let Q : List LineEvent → Type 0 = λ l. StandsAt (reverse (bits_of (take (place / 8 + 1) c.args.octets.now)) ++ h) l c.take_plain.new.self in
    subst P (sym c.from-2.ensures) (subst Q items gone)
