use Rattle.std.proofs.Common.{◌≡◌, ℕ, Bool, true, false, cond, List, length, Some, None, refl, sym, ap, ◌∙◌, arith}
use Rattle.std.proofs.lemmas.Bool.{le-leb, lt-leb}
use Rattle.m3ua_frames.specs.Numbers.{number_4}
use Rattle.m3ua_gateway.specs.Registering.{identifier_of}
use Rattle.m3ua_gateway.proofs.registering.identifier.Goals as goal

pub returns-then-not-are_parameters : goal.returns-then-not-are_parameters
returns-then-not-are_parameters c =
    (λ ps are. absurd (let both : false ≡ true = sym c.if-not-are_parameters.true ∙ c.are_parameters.ensures.1 (ps, are) in cc), λ _. refl)

pub returns-in-None : goal.returns-in-None
returns-in-None c = (λ ps are. ap identifier_of (c.in-None.ensures ps are), λ none. absurd (none (c.are_parameters.ensures.0 c.if-not-are_parameters.false)))

pub returns-then-number-ge4 : goal.returns-then-number-ge4
returns-then-number-ge4 c =
    let value : List ℕ = c.in-Some.number.now in (
      λ ps are. ap (λ (n : ℕ). Some n) c.number_4.ensures ∙ ap (λ (b : Bool). cond b (Some (number_4 value 0)) None) (sym (le-leb 4 (length value) (omega arith))) ∙ ap identifier_of (c.in-Some.ensures ps are),
      λ none. absurd (none (c.are_parameters.ensures.0 c.if-not-are_parameters.false)),
    )

pub returns-else-number-ge4 : goal.returns-else-number-ge4
returns-else-number-ge4 c =
    let value : List ℕ = c.in-Some.number.now in (
      λ ps are. ap (λ (b : Bool). cond b (Some (number_4 value 0)) None) (sym (lt-leb 4 (length value) (omega arith))) ∙ ap identifier_of (c.in-Some.ensures ps are),
      λ none. absurd (none (c.are_parameters.ensures.0 c.if-not-are_parameters.false)),
    )
