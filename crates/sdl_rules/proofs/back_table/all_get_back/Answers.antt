use Rattle.std.proofs.Common.{◌≡◌, ◌∙◌, ◌&&◌, true, refl, ap, sym, subst, take_all}
use Rattle.std.specs.List.{list_all}
use Rattle.sdl_ast.specs.Views.{block_of, process_of}
use Rattle.sdl_scopes.specs.Parties.{IsSender, gets_back}
use Rattle.sdl_scopes.specs.declared.sender.Sender.{Sender}
use Rattle.sdl_rules.proofs.Gathering.{all_more}
use Rattle.sdl_rules.proofs.back_table.all_get_back.Goals as goal

pub loop-sender-init : goal.loop-sender-init
loop-sender-init c = λ there senders. refl

pub loop-sender-preserved : goal.loop-sender-preserved
loop-sender-preserved c = λ there senders.
    let b = block_of c.args.block.now in
    let gets : Sender → _ = gets_back b (process_of c.args.process.now) c.args.signal in
    let i = c.loop-sender.sender-index in
    let x = c.sender-item.result in
    let is = subst (IsSender b) (sym c.sender-item.is) (senders i x c.loop-sender-test.true) in
    let here : gets x ≡ true = sym (c.gets_back.ensures there is) ∙ c.if-not-gets_back.false in
    all_more gets c.args.from.now i x c.loop-sender-test.true c.sender-item.is ∙ λ k. c.loop-sender.invariant there senders k && here k

pub returns : goal.returns
returns c = λ there senders.
    let gets : Sender → _ = gets_back (block_of c.args.block.now) (process_of c.args.process.now) c.args.signal in
    sym (ap (list_all gets) (sym (take_all c.loop-sender.sender-index c.args.from.now c.loop-sender-test.false)) ∙ c.loop-sender.invariant there senders)
