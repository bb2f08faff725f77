use Rattle.std.proofs.Common.{◌∙◌, sym, ap, subst, true≢false, List}
use Rattle.std.specs.Prelude.{All}
use Rattle.std.specs.List.{list_all}
use Rattle.sdl_ast.specs.Views.{block_of, process_of}
use Rattle.sdl_scopes.specs.Parties.{IsSender, gets_back}
use Rattle.sdl_scopes.specs.Known.{AreAlike}
use Rattle.sdl_scopes.specs.declared.sender.Sender.{Sender}
use Rattle.sdl_rules.proofs.known.all_get.Goals as goal

pub returns-then-contains : goal.returns-then-contains
unfolding AreAlike
returns-then-contains c = λ os k. sym (k.back c.args.signal (sym c.contains.ensures ∙ c.if-contains.true))

pub returns-then-contains-2 : goal.returns-then-contains-2
unfolding AreAlike
returns-then-contains-2 c = λ os k. sym (k.lost c.args.signal (sym c.contains-2.ensures ∙ c.if-contains-2.true))

pub returns : goal.returns
returns c = λ os k.
    let b = block_of c.args.block.now in
    let p = process_of c.args.process.now in
    c.all_get_back.ensures (λ q n number there. absurd (true≢false (sym there)))
    (subst (All (IsSender b)) (sym c.deref.ensures.value) k.senders.numbered)
    ∙ (ap (λ (l : List Sender). list_all (gets_back b p c.args.signal) l) c.deref.ensures.value
    ∙ k.senders.told c.args.signal)
