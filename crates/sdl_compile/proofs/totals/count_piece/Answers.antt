use Rattle.std.proofs.Common.{length, sym, ap, ◌∙◌, arith}
use Rattle.std.specs.Prelude.{get_or}
use Rattle.std.proofs.lemmas.List.{get_or_default}
use Rattle.sdl_compile.specs.declared.counts.Counted.TheVariants.{Instructions}
use Rattle.sdl_emit.specs.Scopes.{scope_in, piece_in}
use Rattle.sdl_meaning.specs.Code.{connections_place}
use Rattle.sdl_compile.specs.PlaceCounts.{number_at}
use Rattle.sdl_compile.proofs.Reckoned.{place_inside, place_apart, connection_some, counts_small, measured_is, piece_is}
use Rattle.sdl_compile.proofs.totals.count_piece.Goals as goal

pub known_counts-requires-clause-inside : goal.known_counts-requires-clause-inside
known_counts-requires-clause-inside c =
    let s = scope_in c.args.setting.now.names.now in
    let q = piece_in c.args.places.now c.args.transition.now in
    let ns = c.args.layout.now.numbers.now in
    λ k d lt.
    let n = get_or ns k d in
    let h = place_inside s q ns c.requires.placed c.requires.ready.named n (k, lt, get_or_default ns k n d lt) in
    let e = c.requires.targets n in
    let l = ap length c.requires.code in
    omega (arith, h, e, l)

pub known_counts-requires-clause-apart : goal.known_counts-requires-clause-apart
known_counts-requires-clause-apart c =
    let s = scope_in c.args.setting.now.names.now in
    let q = piece_in c.args.places.now c.args.transition.now in
    let ns = c.args.layout.now.numbers.now in
    λ n m h k e.
    place_apart s ns (connections_place s q) n m (connection_some s Instructions q ns c.requires.placed c.requires.ready.named) h k (sym (c.requires.targets n) ∙ e ∙ c.requires.targets m)

pub known_counts-requires-clause-small : goal.known_counts-requires-clause-small
known_counts-requires-clause-small c =
    let s = scope_in c.args.setting.now.names.now in
    let q = piece_in c.args.places.now c.args.transition.now in
    let ns = c.args.layout.now.numbers.now in
    λ k d lt.
    let n = get_or ns k d in
    (measured_is s c.args.counted q ns c.requires.placed c.requires.ready.named c.args.setting.now.measures.now c.requires.setting.measured (counts_small s c.args.counted q c.requires.ready.small) n (k, lt, get_or_default ns k n d lt)).1

pub returns-clause-counts : goal.returns-clause-counts
returns-clause-counts c =
    let s = scope_in c.args.setting.now.names.now in
    let q = piece_in c.args.places.now c.args.transition.now in
    let ns = c.args.layout.now.numbers.now in
    let known = c.in_ok-known.known.items in
    (piece_is s c.args.counted q ns c.requires.placed c.requires.ready.named c.args.code.now known c.count_places.result.items c.requires.code c.count_places.ensures
    (λ n h. sym (ap (number_at known) (c.requires.targets n)) ∙ c.in_ok-known.ensures.known n h
    ∙ (measured_is s c.args.counted q ns c.requires.placed c.requires.ready.named c.args.setting.now.measures.now c.requires.setting.measured (counts_small s c.args.counted q c.requires.ready.small) n h).0)).0

pub returns-clause-first : goal.returns-clause-first
returns-clause-first c =
    let s = scope_in c.args.setting.now.names.now in
    let q = piece_in c.args.places.now c.args.transition.now in
    let ns = c.args.layout.now.numbers.now in
    let known = c.in_ok-known.known.items in
    (piece_is s c.args.counted q ns c.requires.placed c.requires.ready.named c.args.code.now known c.count_places.result.items c.requires.code c.count_places.ensures
    (λ n h. sym (ap (number_at known) (c.requires.targets n)) ∙ c.in_ok-known.ensures.known n h
    ∙ (measured_is s c.args.counted q ns c.requires.placed c.requires.ready.named c.args.setting.now.measures.now c.requires.setting.measured (counts_small s c.args.counted q c.requires.ready.small) n h).0)).1
