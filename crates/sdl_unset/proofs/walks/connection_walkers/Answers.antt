use Rattle.std.proofs.Common.{◌≡◌, ◌∙◌, ℕ, List, length, get_or, sym, ap, arith, subst}
use Rattle.std.proofs.lemmas.List.{length-set, length-map}
use Rattle.std.proofs.lemmas.Option.{slice_get-get_or}
use Rattle.sdl_ast.specs.Views.{connection_of, process_of}
use Rattle.sdl_tables.specs.Names.{states_of}
use Rattle.sdl_sound.specs.Chances.{Chances, last_chances}
use Rattle.sdl_unset.specs.Flows.{Stands, AreTold, text_doings}
use Rattle.sdl_unset.specs.declared.walker.Walker.{Walker}
use Rattle.sdl_unset.proofs.Joiners.{told_first, told_more, told_all, number_within, code_within, code_there}
use Rattle.sdl_unset.proofs.Telling.{fine_process}
use Rattle.sdl_unset.proofs.walks.connection_walkers.Goals as goal

pub loop-number-init : goal.loop-number-init
loop-number-init c =
    let p = process_of c.args.table.now in
    let states : length (states_of p) ≡ c.len.result = sym (c.len.ensures ∙ ap length c.states.ensures) in
    let count : length c.in_ok-walkers.walkers.items ≡ length p.connections =
    c.in_ok-walkers.ensures.count ∙ (sym (length-map c.connections_in-connections.result.now connection_of) ∙ ap length c.connections_in-connections.ensures) in
    (count, told_first p c.args.order.now c.in_ok-walkers.walkers.items count (c.in_ok-walkers.ensures.idle p states))

pub index_mut-requires : goal.index_mut-requires
index_mut-requires c =
    let p = process_of c.args.table.now in
    let within = number_within p c.args.order.now c.loop-number.number-index c.requires.order c.loop-number-test.true in
    omega (arith, within, c.loop-number.invariant.0)

pub loop-number-preserved : goal.loop-number-preserved
loop-number-preserved c =
    let p = process_of c.args.table.now in
    let i = c.loop-number.number-index in
    let n = get_or c.args.order.now i 0 in
    let connections = c.connections_in-connections.result.now in
    let there = code_there p connections n c.index-connections-number.result c.connections_in-connections.ensures (code_within p c.args.order.now i connections c.requires.order c.loop-number-test.true c.connections_in-connections.ensures) c.index-connections-number.is in
    let walked = subst (λ (walkers : List Walker). (told : List ℕ → ℕ → List ℕ → Chances) → AreTold p told walkers
    → Stands p (λ x q. last_chances (text_doings p told (connection_of c.index-connections-number.result).text x q)) c.in_ok-walker.walker)
    c.deref.ensures.value c.in_ok-walker.ensures in (
      length-set c.loop-number.walkers.items n c.in_ok-walker.walker ∙ c.loop-number.invariant.0,
      told_more p c.args.order.now c.loop-number.walkers.items i n (connection_of c.index-connections-number.result) c.in_ok-walker.walker
          (fine_process c.requires.known.0 p c.requires.known.1 c.requires.answered) c.requires.order c.loop-number.invariant.0
          (slice_get-get_or c.args.order.now i 0 c.loop-number-test.true) there walked c.loop-number.invariant.1,
    )

pub returns : goal.returns
returns c = told_all (process_of c.args.table.now) c.args.order.now c.loop-number.walkers.items c.loop-number.number-index c.requires.order c.loop-number-test.false c.loop-number.invariant.0 c.loop-number.invariant.1
