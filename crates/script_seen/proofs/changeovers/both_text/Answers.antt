use Rattle.std.proofs.Common.{ap, ◌++◌, ◌∙◌}
use Rattle.script_seen.proofs.changeovers.both_text.Goals as goal

pub returns : goal.returns
returns c = record {
  heard = c.in_ok-text.text.items;
  said = c.in_ok-said.said.items;
  is_heard = c.in_ok-text.ensures;
  is_said = c.in_ok-said.ensures;
  are = c.in_ok-extend_from_slice.ensures.items ∙ ap (λ bs. c.in_ok-text.text.items ++ bs) c.deref.ensures.value;
}
