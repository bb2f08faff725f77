use Rattle.std.proofs.Common.{rules, arith, ◌≤◌, ◌<◌, get_or}
use Rattle.std.proofs.lemmas.List.Elements.{All-get_or}
use Rattle.std.proofs.lemmas.Option.{slice_get-get_or}
use Rattle.sdl_emit.specs.Scopes.{places_by}
use Rattle.sdl_compile.specs.Counts.{measured}
use Rattle.sdl_compile.proofs.Reckoned.{none_filled, one_filled, all_filled}
use Rattle.sdl_compile.proofs.totals.known_counts.Goals as goal

pub loop-number-init : goal.loop-number-init
loop-number-init c = none_filled _ _ _ c.in_ok-known.known.items c.args.length (search rules) (search rules)

pub loop-number-preserved : goal.loop-number-preserved
loop-number-preserved c =
    let targets = c.args.layout.now.targets.now in
    let ns = c.args.layout.now.numbers.now in
    let count = measured c.args.counted c.args.measures.now in
    let i = c.loop-number.number-index in
    let lt = c.loop-number-test.true in
    rw (c.target.ensures, c.measured.ensures)
    (one_filled targets count ns c.loop-number.known.items c.args.length i (get_or ns i 0) c.requires.apart c.loop-number.invariant (slice_get-get_or ns i 0 lt)
    (All-get_or (λ n. places_by targets n < c.args.length) ns i 0 lt c.requires.inside) (All-get_or (λ n. count n ≤ 512) ns i 0 lt c.requires.small))

pub returns-clause-known : goal.returns-clause-known
returns-clause-known c = all_filled _ _ _ _ _ _ c.loop-number.invariant (omega arith)
