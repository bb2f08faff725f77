use Rattle.std.proofs.Common.{ℕ, ◌<◌}
use Rattle.std.specs.Prelude.{slice_index_or}
use Rattle.turn_code.specs.Routes.{Carries}
use Rattle.turn_code.specs.declared.draft.DraftRoute.{DraftRoute}
use Rattle.turn_check.proofs.answers.some_route_carries.Given as goal

abbrev pub invariant-loop-route : goal.invariant-loop-route
invariant-loop-route l =
    (n : ℕ) (d : DraftRoute) → n < l.route-index → Carries l.from l.to l.signal (slice_index_or l.routes n d) → ⊥
