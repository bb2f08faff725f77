use Rattle.std.proofs.Common.{sym, ap, ◌∙◌}
use Rattle.std.specs.Option.{option_copied}
use Rattle.input_port.specs.Saves.{saves}
use Rattle.input_port.proofs.Places.{first_here, left_here, first_behind, left_behind}
use Rattle.input_port.proofs.queue.place_of_first.Goals as goal

pub returns-then-not-has-clause-found : goal.returns-then-not-has-clause-found
returns-then-not-has-clause-found c =
    first_here (saves c.args.saved.now) c.args.items.now.items c.loop-place.place c.in_ok-item.item.now (sym c.get.ensures ∙ ap option_copied c.in_ok-item.was) (sym c.has.ensures ∙ c.if-not-has.true) c.loop-place.invariant.first

pub returns-then-not-has-clause-left : goal.returns-then-not-has-clause-left
returns-then-not-has-clause-left c =
    left_here (saves c.args.saved.now) c.args.items.now.items c.loop-place.place c.in_ok-item.item.now (sym c.get.ensures ∙ ap option_copied c.in_ok-item.was) (sym c.has.ensures ∙ c.if-not-has.true) c.loop-place.invariant.left

pub loop-place-preserved : goal.loop-place-preserved
loop-place-preserved c = record {
  first = first_behind (saves c.args.saved.now) c.args.items.now.items c.loop-place.place c.in_ok-item.item.now (sym c.get.ensures ∙ ap option_copied c.in_ok-item.was) (sym c.has.ensures ∙ c.if-not-has.false) c.loop-place.invariant.first;
  left = left_behind (saves c.args.saved.now) c.args.items.now.items c.loop-place.place c.in_ok-item.item.now (sym c.get.ensures ∙ ap option_copied c.in_ok-item.was) (sym c.has.ensures ∙ c.if-not-has.false) c.loop-place.invariant.left;
}
