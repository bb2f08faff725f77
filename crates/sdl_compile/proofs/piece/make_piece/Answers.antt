use Rattle.std.proofs.Common.{length, ap, ◌∙◌, subst, arith, List, [], ℕ}
use Rattle.std.specs.List.{sum_by}
use Rattle.sdl_emit.specs.Scopes.{scope_in, piece_in}
use Rattle.sdl_meaning.specs.Code.{size_at, piece_code}
use Rattle.turn_code.specs.Rules.{greatest, depths}
use Rattle.sdl_compile.specs.Facts.{shapes_from, piece_sets}
use Rattle.sdl_meaning.specs.Declarations.{drafted_signals}
use Rattle.sdl_compile.specs.Settings.{count_from, effects_from}
use Rattle.sdl_compile.specs.declared.counts.Counted.TheVariants.{Instructions, Effects}
use Rattle.sdl_compile.specs.PlaceCounts.{weight, AreCounts}
use Rattle.sdl_meaning.proofs.Counted.{size_is, size_fits}
use Rattle.sdl_compile.proofs.Making.{placed_within, sets_length, is_deep, made}
use Rattle.sdl_compile.proofs.piece.make_piece.Goals as goal

pub connection_places-requires-clause-there : goal.connection_places-requires-clause-there
connection_places-requires-clause-there c =
    rw c.deref.ensures.value
    (placed_within (scope_in c.args.setting.now.names.now) (piece_in c.args.places.now c.args.body.now.whole.now) c.in_ok-numbers.numbers.items c.requires.ready.named c.in_ok-numbers.ensures)

pub text_size-requires-clause-short : goal.text_size-requires-clause-short
text_size-requires-clause-short c =
    let h = size_fits (scope_in c.args.setting.now.names.now) (piece_in c.args.places.now c.args.body.now.whole.now) c.requires.ready.named c.in_ok-numbers.numbers.items c.in_ok-numbers.ensures c.requires.ready.small.size in
    omega (arith, h)

pub connection_places-requires-clause-short : goal.connection_places-requires-clause-short
connection_places-requires-clause-short c =
    let s = scope_in c.args.setting.now.names.now in
    let h = size_fits s (piece_in c.args.places.now c.args.body.now.whole.now) c.requires.ready.named c.in_ok-numbers.numbers.items c.in_ok-numbers.ensures c.requires.ready.small.size in
    let e = ap (sum_by (size_at s)) c.deref.ensures.value in
    omega (arith, h, e, c.places_length.ensures, c.text_size.ensures)

pub emit_piece-requires-clause-fits : goal.emit_piece-requires-clause-fits
emit_piece-requires-clause-fits c =
    let s = scope_in c.args.setting.now.names.now in
    let h = size_fits s (piece_in c.args.places.now c.args.body.now.whole.now) c.requires.ready.named c.in_ok-numbers.numbers.items c.in_ok-numbers.ensures c.requires.ready.small.size in
    let e = ap (sum_by (size_at s)) c.deref-2.ensures.value in
    omega (arith, h, e)

pub piece_counts-requires-clause-short : goal.piece_counts-requires-clause-short
piece_counts-requires-clause-short c =
    let s = scope_in c.args.setting.now.names.now in
    let l = size_is s (piece_in c.args.places.now c.args.body.now.whole.now) c.requires.ready.named c.in_ok-numbers.numbers.items c.in_ok-numbers.ensures c.in_ok-code.code.items
    (c.in_ok-code.ensures ∙ ap (λ (ns : List ℕ). piece_code s (piece_in c.args.places.now c.args.body.now.whole.now) ns) c.deref-2.ensures.value) in
    let e = ap length c.deref-7.ensures.value in
    omega (arith, l, e, c.requires.ready.small.size)

pub place_facts-requires-clause-sets : goal.place_facts-requires-clause-sets
place_facts-requires-clause-sets c =
    let s = scope_in c.args.setting.now.names.now in
    let q = piece_in c.args.places.now c.args.body.now.whole.now in
    let l = sets_length s c.args.setting.now.entry q c.args.setting.now.order.now c.in_ok-numbers.numbers.items in
    let sets = ap length c.deref-8.ensures.value in
    let made = ap length (c.in_ok-sets.ensures ∙ ap (λ (ns : List ℕ). piece_sets s c.args.setting.now.entry q c.args.setting.now.order.now ns) c.deref-4.ensures.value) in
    let code = ap length (c.deref-11.ensures.value ∙ c.in_ok-code.ensures ∙ ap (λ (ns : List ℕ). piece_code s q ns) c.deref-2.ensures.value) in
    omega (arith, l, sets, made, code)

pub overflow_cast-certificate : goal.overflow_cast-certificate
overflow_cast-certificate c =
    let x = c.args.setting.now in
    let s = scope_in x.names.now in
    let q = piece_in c.args.places.now c.args.body.now.whole.now in
    let ns = c.in_ok-numbers.numbers.items in
    let code = c.in_ok-code.code.items in
    let is = c.in_ok-code.ensures ∙ ap (λ (ns : List ℕ). piece_code s q ns) c.deref-2.ensures.value in
    let shaped = c.in_ok-facts.ensures.shaped ∙ ap (λ code. shapes_from x.signals.now x.variables.now x.parameters.now [] code) c.deref-11.ensures.value
    ∙ ap (λ ss. shapes_from ss x.variables.now x.parameters.now [] code) c.requires.setting.signals ∙ ap (λ xs. shapes_from (drafted_signals s.block) xs x.parameters.now [] code) c.requires.setting.variables in
    let e = is_deep s q x.parameters.now x.entry c.requires.ready ns c.in_ok-numbers.ensures code is c.in_ok-facts.facts.items shaped in
    let f = ap (λ fs. greatest (depths fs)) c.deref-13.ensures.value in
    omega (arith, e, f, c.greatest_depth.ensures, c.requires.ready.small.depth)

pub returns : goal.returns
returns c =
    let x = c.args.setting.now in
    let s = scope_in x.names.now in
    let q = piece_in c.args.places.now c.args.body.now.whole.now in
    let ns = c.in_ok-numbers.numbers.items in
    let code = c.in_ok-code.code.items in
    let is = c.in_ok-code.ensures ∙ ap (λ (ns : List ℕ). piece_code s q ns) c.deref-2.ensures.value in
    let shaped = c.in_ok-facts.ensures.shaped ∙ ap (λ code. shapes_from x.signals.now x.variables.now x.parameters.now [] code) c.deref-11.ensures.value
    ∙ ap (λ ss. shapes_from ss x.variables.now x.parameters.now [] code) c.requires.setting.signals ∙ ap (λ xs. shapes_from (drafted_signals s.block) xs x.parameters.now [] code) c.requires.setting.variables in
    let settled = c.in_ok-facts.ensures.settled ∙ c.deref-8.ensures.value ∙ c.in_ok-sets.ensures ∙ ap (λ (ns : List ℕ). piece_sets s x.entry q x.order.now ns) c.deref-4.ensures.value in
    made s q x.parameters.now x.entry c.requires.ready ns c.in_ok-numbers.ensures code is c.in_ok-facts.facts.items x.order.now c.requires.setting.ordered shaped settled
    c.in_ok-counted.counted.counts.items c.in_ok-counted.counted.effects.items (c.in_ok-facts.ensures.counted ∙ c.deref-9.ensures.value) (c.in_ok-facts.ensures.effected ∙ c.deref-10.ensures.value)
    (subst (λ l. AreCounts (weight Instructions) l c.in_ok-counted.counted.counts.items) c.deref-7.ensures.value c.in_ok-counted.ensures.counts)
    (subst (λ l. AreCounts (weight Effects) l c.in_ok-counted.counted.effects.items) c.deref-7.ensures.value c.in_ok-counted.ensures.effects)
    c.in_ok-counted.ensures.longest c.in_ok-counted.ensures.most
    (record { code = c.from.result; facts = c.from-2.result; certificate = record { budget = c.first_count.result; depth = c.greatest_depth.result; effects = c.first_effects.result } })
    c.from.ensures c.from-2.ensures (c.first_count.ensures ∙ ap count_from c.deref-12.ensures.value) (c.greatest_depth.ensures ∙ ap (λ fs. greatest (depths fs)) c.deref-13.ensures.value)
    (c.first_effects.ensures ∙ ap effects_from c.deref-14.ensures.value)
