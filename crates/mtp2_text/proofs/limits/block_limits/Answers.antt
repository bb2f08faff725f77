use Rattle.std.proofs.Common.{codes, ap, ◌∙◌}
use Rattle.turn_verify.specs.Meanings.{integer_known}
use Rattle.mtp2_text.proofs.limits.block_limits.Goals as goal

pub returns : goal.returns
returns c = record {
  messages = c.integer_named-messages.ensures ∙ ap (λ k. integer_known k (codes "N1")) c.in_ok-synonyms.ensures;
  octets = c.integer_named-octets.ensures ∙ ap (λ k. integer_known k (codes "N2")) c.in_ok-synonyms.ensures;
}
