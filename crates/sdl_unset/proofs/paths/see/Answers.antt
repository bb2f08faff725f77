use Rattle.std.proofs.Common.{◌≡◌, ◌<◌, false, Some, length, rules, refl, ap, ◌∙◌}
use Rattle.std.specs.Prelude.{slice_get}
use Rattle.std.proofs.lemmas.Option.{slice_get_read}
use Rattle.sdl_unset.proofs.Seen.{grows_by}
use Rattle.plain_laws.proofs.Places.{get_set_same}
use Rattle.sdl_unset.proofs.Levels.{order_added}
use Rattle.sdl_unset.proofs.FirstPaths.{kept_added}
use Rattle.sdl_unset.proofs.paths.see.Goals as goal

pub returns-clause-grows : goal.returns-clause-grows
returns-clause-grows c =
    let within : c.args.state < length c.args.seen.now.items = search rules in
    let there : slice_get c.args.seen.now.items c.args.state ≡ Some c.index.result.now =
    slice_get_read c.args.seen.now.items (length c.args.seen.now.items) c.args.state c.index.result.now refl within (search rules) in
    let not_seen : slice_get c.args.seen.now.items c.args.state ≡ Some false = there ∙ ap (λ b. Some b) c.if-index.false in
    grows_by c.args.seen.now.items c.args.visits.now.items c.args.state (record { state = c.args.state; path = c.in_ok-path.path }) _ _ within not_seen refl refl (search rules)

pub returns-clause-seen : goal.returns-clause-seen
returns-clause-seen c = λ h.
    let within : c.args.state < length c.args.seen.now.items = search rules in
    get_set_same _ _ _ within

pub returns-clause-order : goal.returns-clause-order
returns-clause-order c = order_added _ _ _ (record { state = c.args.state; path = c.in_ok-path.path }) (ap length (search rules)) (search rules)

pub returns-clause-kept : goal.returns-clause-kept
returns-clause-kept c = λ q lt. kept_added c.args.path.now c.args.state q c.args.visits.now.items _ (record { state = c.args.state; path = c.in_ok-path.path }) (search rules) refl lt (search rules)
