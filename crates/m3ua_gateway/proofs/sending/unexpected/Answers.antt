use Rattle.std.proofs.Common.{ℕ, List, ◌∷◌, Option, sym, ap, ◌∙◌, arith}
use Rattle.m3ua_frames.specs.declared.kinds.Kind.TheVariants as kind
use Rattle.m3ua_frames.specs.Tags.{ROUTING_CONTEXT, ERROR_CODE}
use Rattle.m3ua_gateway.specs.Sending.{number, same_value, octets_of}
use Rattle.m3ua_gateway.proofs.AskingLaws.{within}
use Rattle.m3ua_gateway.proofs.sending.unexpected.Goals as goal

pub returns-in-None : goal.returns-in-None
returns-in-None c = λ ps are. c.bare_error.ensures ∙ ap (λ (o : Option (List ℕ)). octets_of kind.Error (number ERROR_CODE 0x06 ∷ same_value ROUTING_CONTEXT o)) (c.in-None.ensures ps are)

pub returns-then-value-le-MOST_VALUE : goal.returns-then-value-le-MOST_VALUE
returns-then-value-le-MOST_VALUE c = λ ps are. c.error_with.ensures ∙ ap (λ (o : Option (List ℕ)). octets_of kind.Error (number ERROR_CODE 0x06 ∷ same_value ROUTING_CONTEXT o)) (c.in-Some.ensures ps are)

pub returns-else-value-le-MOST_VALUE : goal.returns-else-value-le-MOST_VALUE
returns-else-value-le-MOST_VALUE c = λ ps are. absurd (omega (arith, within ROUTING_CONTEXT c.args.parameters.now ps c.in-Some.value.now are (sym (c.in-Some.ensures ps are)), c.requires))
