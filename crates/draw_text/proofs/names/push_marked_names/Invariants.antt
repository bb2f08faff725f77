use Rattle.std.proofs.Common.{◌≡◌, ◌++◌, drop}
use Rattle.std.specs.List.{flat_map}
use Rattle.draw_text.specs.Written.{spelled}
use Rattle.draw_text.proofs.names.push_marked_names.Given as goal

abbrev pub invariant-loop-id : goal.invariant-loop-id
invariant-loop-id l = l.text.items ++ flat_map (λ id. l.mark ++ spelled l.names id.name) (drop l.id-index l.ids) ≡ l.initial.text.items ++ flat_map (λ id. l.mark ++ spelled l.names id.name) (l.ids)
