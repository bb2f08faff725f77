use Rattle.std.proofs.Common.{ap, ◌++◌, ◌∙◌}
use Rattle.std.specs.List.{flat_map}
use Rattle.script_play.specs.Thrown.{throw_line}
use Rattle.script_play.proofs.thrown.Thrown.text.Goals as goal

pub returns : goal.returns
returns c = λ xs known.
    c.in_ok-push_throws.ensures
    ∙ (ap (λ t. t ++ flat_map (throw_line c.args.set.now) c.deref.result.now) c.new-text.ensures.items
    ∙ ap (flat_map (throw_line c.args.set.now)) (c.deref.ensures.value ∙ known))
