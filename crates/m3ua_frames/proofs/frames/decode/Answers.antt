use Rattle.std.proofs.Common.{◌≡◌, ℕ, true, false, List, sym, ap, subst, ◌∙◌}
use Rattle.m3ua_frames.specs.Parameters.{Parameter, AreParameters}
use Rattle.m3ua_frames.specs.Frame.{IsFrame, body, mandatory, has_all}
use Rattle.m3ua_frames.proofs.ParameterLaws.{Good}
use Rattle.m3ua_frames.proofs.FrameLaws.{all_there, not_all_there, short_length, no_length, none_good_there}
use Rattle.m3ua_frames.proofs.frames.decode.Goals as goal

pub returns-then-octets-lt8-clause-refused : goal.returns-then-octets-lt8-clause-refused
returns-then-octets-lt8-clause-refused c = short_length c.args.octets.now c.if-octets-lt8.true

pub returns-then-not-tells_length-clause-refused : goal.returns-then-not-tells_length-clause-refused
returns-then-not-tells_length-clause-refused c = no_length c.args.octets.now (sym c.tells_length.ensures ∙ c.if-not-tells_length.true)

pub returns-then-not-are_parameters-clause-refused : goal.returns-then-not-are_parameters-clause-refused
returns-then-not-are_parameters-clause-refused c =
    let octets : List ℕ = c.args.octets.now in
    none_good_there octets c.in-Ok.kind (sym c.tells_length.ensures ∙ c.if-not-tells_length.false) c.if-octets-ne1.false (sym c.in-Ok.ensures)
    (λ g. let both : false ≡ true = sym c.if-not-are_parameters.true ∙ c.are_parameters.ensures.1 (subst Good (sym c.parameters_of-parameters.ensures.value) g) in cc)

pub returns-then-not-has_all-clause-refused : goal.returns-then-not-has_all-clause-refused
returns-then-not-has_all-clause-refused c =
    let octets : List ℕ = c.args.octets.now in
    let all : (ps : List Parameter) → AreParameters (body octets) ps → false ≡ has_all (mandatory c.in-Ok.kind) ps =
    λ ps a. sym c.if-not-has_all.true ∙ c.has_all.ensures ps (subst (λ (xs : List ℕ). AreParameters xs ps) (sym c.parameters_of-parameters.ensures.value) a) ∙ ap (λ (ts : List ℕ). has_all ts ps) c.mandatory.ensures in
    not_all_there octets c.in-Ok.kind (sym c.tells_length.ensures ∙ c.if-not-tells_length.false) c.if-octets-ne1.false (sym c.in-Ok.ensures)
    (subst Good c.parameters_of-parameters.ensures.value (c.are_parameters.ensures.0 c.if-not-are_parameters.false)) all

pub returns-clause-found : goal.returns-clause-found
returns-clause-found c =
    let octets : List ℕ = c.args.octets.now in
    let all : (ps : List Parameter) → AreParameters (body octets) ps → true ≡ has_all (mandatory c.in-Ok.kind) ps =
    λ ps a. sym c.if-not-has_all.false ∙ c.has_all.ensures ps (subst (λ (xs : List ℕ). AreParameters xs ps) (sym c.parameters_of-parameters.ensures.value) a) ∙ ap (λ (ts : List ℕ). has_all ts ps) c.mandatory.ensures in
    subst (λ (xs : List ℕ). (ps : List Parameter) × AreParameters xs ps × IsFrame octets (record { kind = c.in-Ok.kind; parameters = ps })) (sym c.parameters_of-parameters.ensures.value)
    (all_there octets c.in-Ok.kind (sym c.tells_length.ensures ∙ c.if-not-tells_length.false) c.if-octets-ne1.false (sym c.in-Ok.ensures)
    (subst Good c.parameters_of-parameters.ensures.value (c.are_parameters.ensures.0 c.if-not-are_parameters.false)) all)
