use Rattle.std.proofs.Common.{◌∙◌, ap, subst, sym, List}
use Rattle.std.specs.Prelude.{All}
use Rattle.std.specs.List.{list_all}
use Rattle.sdl_ast.specs.Views.{block_of, process_of}
use Rattle.sdl_scopes.specs.Parties.{IsSender, gets_back}
use Rattle.sdl_scopes.specs.declared.sender.Sender.{Sender}
use Rattle.sdl_rules.proofs.known.all_get_by.Goals as goal

pub returns : goal.returns
returns c = λ os k.
    let b = block_of c.args.block.now in
    let p = process_of c.args.process.now in
    c.all_get.ensures k.0 (subst (All (IsSender b)) (sym c.deref.ensures.value) k.1.senders.numbered)
    ∙ (ap (λ (l : List Sender). list_all (gets_back b p c.args.signal) l) c.deref.ensures.value ∙ k.1.senders.told c.args.signal)
