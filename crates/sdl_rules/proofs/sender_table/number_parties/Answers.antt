use Rattle.std.proofs.Common.{◌++◌, ◌∷◌, [], map, take, sym, ap, ◌∙◌, Option, ℕ}
use Rattle.sdl_ast.specs.declared.tree.Party as tree
use Rattle.sdl_ast.specs.Views.{block_of}
use Rattle.sdl_rules.specs.SenderTables.{numbered}
use Rattle.sdl_scopes.specs.declared.sender.Sender.{Sender}
use Rattle.sdl_scopes.specs.declared.sender.Sender.TheVariants.{Party}
use Rattle.sdl_scopes.specs.declared.sender.Numbered.{Numbered}
use Rattle.sdl_rules.proofs.sender_table.number_parties.Goals as goal
use Rattle.plain_laws.proofs.Lists.{mapped_more}

pub loop-party-preserved : goal.loop-party-preserved
loop-party-preserved c =
    let sent = λ (q : tree.Party). Party (numbered (block_of c.args.block.now) q) in
    let qs = c.args.parties.now in
    let i = c.loop-party.party-index in
    let q = c.party-item.result in
    let with_number = λ (n : Option ℕ). let one : Numbered = record { party = q; number = n } in let s : Sender = Party one in s in
    c.in_ok-push.ensures.items
    ∙ (ap (λ l. l ++ with_number c.party_number-number.result ∷ []) c.loop-party.invariant
    ∙ (ap (λ n. map sent (take i qs) ++ with_number n ∷ []) c.party_number-number.ensures
    ∙ sym (mapped_more sent qs i q c.loop-party-test.true c.party-item.is)))
