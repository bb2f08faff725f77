use Rattle.std.proofs.Common.{◌≡◌, false, sym, ap, ◌∙◌}
use Rattle.group_changeover.specs.Bound.{is_bound}
use Rattle.link_group.specs.Set.{LinkSet, points_of}
use Rattle.line_tending.specs.Tended.{Tended}
use Rattle.line_tending.proofs.Filling.{no_room_bound, no_room_full}
use Rattle.line_tending.proofs.tended_set.TendedSet.is_refused.Goals as goal

pub returns-then-is_bound : goal.returns-then-is_bound
returns-then-is_bound c = rw (← c.self.view_is) (no_room_bound c.self.inside.set c.args.msu.now (sym c.is_bound.ensures ∙ c.if-is_bound.true))

pub returns : goal.returns
returns c =
    let set_is : c.self.inside.set ≡ c.args.self.now.set = ap (λ (t : Tended). t.set) c.self.view_is in
    let free : is_bound (points_of c.args.self.now.set) c.args.msu.now ≡ false =
    sym (c.is_bound.ensures ∙ ap (λ (s : LinkSet). is_bound (points_of s) c.args.msu.now) set_is) ∙ c.if-is_bound.false in
    no_room_full c.args.self.now.set c.args.msu.now c.args.label c.lacks_room.result c.requires free c.lacks_room.ensures
