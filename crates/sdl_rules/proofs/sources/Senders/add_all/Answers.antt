use Rattle.std.proofs.Common.{◌&&◌, List, take, sym, ap, subst, take_all}
use Rattle.std.specs.List.{list_all}
use Rattle.sdl_scopes.specs.Parties.{IsSender, gets_back}
use Rattle.sdl_scopes.specs.declared.sender.Sender.{Sender}
use Rattle.sdl_rules.proofs.Gathering.{gather_same, gather_more, gather_none}
use Rattle.sdl_rules.proofs.sources.Senders.add_all.Goals as goal

pub loop-sender-init : goal.loop-sender-init
loop-sender-init c = λ b p f numbered g. gather_none b p c.args.self.now f g

pub loop-sender-preserved : goal.loop-sender-preserved
loop-sender-preserved c = λ b p f numbered g.
    let i = c.loop-sender.sender-index in
    let x = c.sender-item.result in
    let row = c.args.senders.now in
    gather_more b p row i x c.add.new.self f c.loop-sender-test.true c.sender-item.is
    (c.in_ok-add.ensures b p (λ s. f s && list_all (gets_back b p s) (take i row))
    (subst (IsSender b) (sym c.sender-item.is) (numbered i x c.loop-sender-test.true)) (c.loop-sender.invariant b p f numbered g))

pub returns : goal.returns
returns c = λ b p f numbered g.
    let i = c.loop-sender.sender-index in
    let row = c.args.senders.now in
    gather_same b p c.loop-sender.self (λ s. f s && list_all (gets_back b p s) (take i row)) (λ s. f s && list_all (gets_back b p s) row)
    (λ s. ap (λ (l : List Sender). f s && list_all (gets_back b p s) l) (take_all i row c.loop-sender-test.false))
    (c.loop-sender.invariant b p f numbered g)
