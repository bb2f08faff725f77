use Rattle.std.proofs.Common.{◌≡◌, ◌∙◌, ◌∷◌, List, map, ap, sym, subst, take_all}
use Rattle.std.specs.Global.{Vec}
use Rattle.sdl_ast.specs.Views.{process_of}
use Rattle.sdl_sound.specs.Joins.{reaches}
use Rattle.sdl_sound.specs.Actions.{connection_origins}
use Rattle.sdl_rules.specs.Distinct.{distinct}
use Rattle.sdl_scopes.specs.Known.{AreSenders}
use Rattle.sdl_scopes.specs.Reaches.{PlainSent, sent_of, senders_in}
use Rattle.sdl_rules.specs.Reached.{sent_by, sent_all}
use Rattle.sdl_scopes.specs.declared.sender.Sender.{Sender}
use Rattle.sdl_scopes.specs.declared.sender.Sender.TheVariants.{Nobody}
use Rattle.sdl_rules.proofs.Coming.{sent_are}
use Rattle.sdl_rules.proofs.reaching.find_sent.Goals as goal

pub returns : goal.returns
returns c = λ b told n d here.
    let p = process_of c.args.process.now in
    let t = c.args.table.now in
    let start : PlainSent = record { sender = Nobody; reached = map (λ c. reaches p p.start.text c.name.name) p.connections } in
    let items = c.deref-sender-items.result.now in
    let all : map sent_of c.loop-sender.all.items ≡ sent_all p t =
    c.loop-sender.invariant
    ∙ ap (λ (us : List Sender). start ∷ map (sent_by p t) us)
    (take_all c.loop-sender.sender-index items c.loop-sender-test.false
    ∙ c.deref-sender-items.ensures.value ∙ c.in_ok-senders.ensures ∙ ap (λ (rows : List (Vec Sender)). distinct rows) c.rows.ensures) in
    subst (λ (zs : List PlainSent). AreSenders b p (senders_in zs n) (connection_origins p d)) (sym all) (sent_are b p t told n d here)
