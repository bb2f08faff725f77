use Rattle.std.proofs.Common.{◌&&◌, sym, ap, subst}
use Rattle.std.specs.List.{list_all}
use Rattle.sdl_ast.specs.Views.{block_of, process_of}
use Rattle.sdl_sound.specs.Receivers.{answers}
use Rattle.sdl_scopes.specs.Parties.{gets_back}
use Rattle.sdl_rules.specs.SenderTables.{AreSendersOf}
use Rattle.sdl_rules.proofs.Gathering.{gather_same}
use Rattle.sdl_rules.proofs.sources.Senders.add_row.Goals as goal

pub returns-in_ok-add_all-in-Some : goal.returns-in_ok-add_all-in-Some
returns-in_ok-add_all-in-Some c = λ f g.
    let b = block_of c.args.block.now in
    let p = process_of c.args.process.now in
    let name = c.args.stimulus.now.name.name in
    let row = c.in-Some.senders.now in
    let are : AreSendersOf b p name row = c.in-Some.ensures b p name c.requires.tells c.requires.row in
    gather_same b p c.add_all.new.self (λ s. f s && list_all (gets_back b p s) row) (λ s. f s && answers b p s name)
    (λ s. ap (λ r. f s && r) (are.told s)) (c.in_ok-add_all-in-Some.ensures b p f are.numbered g)

pub returns-in_ok-add_all-in-None : goal.returns-in_ok-add_all-in-None
returns-in_ok-add_all-in-None c = λ f g.
    let b = block_of c.args.block.now in
    let p = process_of c.args.process.now in
    let name = c.args.stimulus.now.name.name in
    let row = c.deref.result.now in
    let are : AreSendersOf b p name row = subst (AreSendersOf b p name) (sym c.deref.ensures.value) c.in_ok-senders-in-None.ensures in
    gather_same b p c.add_all-in-None.new.self (λ s. f s && list_all (gets_back b p s) row) (λ s. f s && answers b p s name)
    (λ s. ap (λ r. f s && r) (are.told s)) (c.in_ok-add_all-in-None.ensures b p f are.numbered g)
