use Rattle.std.proofs.Common.{◌≡◌, ◌≤◌, ◌-◌, ℕ, List, length, take, drop, sym, ap, ◌∙◌, arith}
use Rattle.std.proofs.lemmas.List.{take_all, drop_all, length-drop}
use Rattle.m3ua_frames.specs.Frame.{told_length}
use Rattle.m3ua_frames.proofs.frames.parameters_of.Goals as goal

pub returns-then-octets-lt8-clause-value : goal.returns-then-octets-lt8-clause-value
returns-then-octets-lt8-clause-value c =
    let octets : List ℕ = c.args.octets.now in
    let few : length octets ≤ 8 = omega arith in
    sym (take_all (told_length octets - 8) (drop 8 octets) (omega (arith, length-drop 8 octets)) ∙ drop_all 8 octets few)

pub returns-then-told-lt8-clause-value : goal.returns-then-told-lt8-clause-value
returns-then-told-lt8-clause-value c =
    let octets : List ℕ = c.args.octets.now in
    let none : 0 ≡ told_length octets - 8 = omega (arith, c.number_4-told.ensures) in
    ap (λ (n : ℕ). take n (drop 8 octets)) none

pub returns-then-told-behind-clause-value : goal.returns-then-told-behind-clause-value
returns-then-told-behind-clause-value c =
    let octets : List ℕ = c.args.octets.now in
    c.split_at.ensures.back ∙ sym (take_all (told_length octets - 8) (drop 8 octets) (omega (arith, length-drop 8 octets, c.number_4-told.ensures)))

pub returns-clause-value : goal.returns-clause-value
returns-clause-value c =
    let octets : List ℕ = c.args.octets.now in
    c.split_at-2.ensures.front ∙ ap (λ (xs : List ℕ). take (c.number_4-told.result - 8) xs) c.split_at.ensures.back ∙ ap (λ (n : ℕ). take (n - 8) (drop 8 octets)) c.number_4-told.ensures
