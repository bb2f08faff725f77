use Rattle.std.proofs.Common.{◌≡◌, ◌∙◌, not, ◌&&◌, Bool, true, false, List, map, sym, ap, subst}
use Rattle.std.specs.Prelude.{All}
use Rattle.std.specs.List.{list_all}
use Rattle.sdl_ast.specs.Views.{block_of, process_of}
use Rattle.sdl_ast.specs.declared.tree.Party as the_party
use Rattle.sdl_tables.specs.Names.{is_in, timers_of}
use Rattle.sdl_tables.specs.Routes.{senders, parties_once}
use Rattle.sdl_sound.specs.Receivers.{party_of, carries}
use Rattle.sdl_scopes.specs.Parties.{IsSender, gets_back}
use Rattle.sdl_rules.specs.SenderTables.{numbered}
use Rattle.sdl_scopes.specs.declared.sender.Sender.{Sender}
use Rattle.sdl_scopes.specs.declared.sender.Sender.TheVariants.{Party}
use Rattle.sdl_rules.proofs.Gathering.{row_all, row_numbered, nobody_numbered}
use Rattle.sdl_rules.proofs.sender_table.senders_of.Goals as goal

pub returns-then-contains : goal.returns-then-contains
returns-then-contains c =
    let b = block_of c.args.block.now in
    let p = process_of c.args.process.now in
    let name = c.args.name in
    let timer : is_in (timers_of p) name ≡ true = ap (λ ids. is_in ids name) (sym c.timers.ensures) ∙ (sym c.contains.ensures ∙ c.if-contains.true) in
    let is = c.in_ok-nobody.ensures in record {
      told = λ s.
          ap (λ (l : List Sender). list_all (gets_back b p s) l) is
          ∙ ap (λ (t : Bool). not t && list_all (λ q. carries b (party_of p) q s) (senders b (party_of p) name)) (sym timer);
      numbered = subst (All (IsSender b)) (sym is) (nobody_numbered b);
    }

pub returns : goal.returns
returns c =
    let b = block_of c.args.block.now in
    let p = process_of c.args.process.now in
    let name = c.args.name in
    let qs = senders b (party_of p) name in
    let row = c.in_ok-senders.senders.items in
    let no_timer : is_in (timers_of p) name ≡ false = ap (λ ids. is_in ids name) (sym c.timers.ensures) ∙ (sym c.contains.ensures ∙ c.if-contains.false) in
    let is : row ≡ map (λ q. Party (numbered b q)) (parties_once qs) =
    c.in_ok-senders.ensures
    ∙ ap (λ (l : List the_party.Party). map (λ q. Party (numbered b q)) l)
    (c.senders.ensures ∙ ap (λ (own : the_party.Party). parties_once (senders b own name)) c.party_of-own.ensures) in record {
      told = λ s.
          row_all b p qs row is s
          ∙ ap (λ (t : Bool). not t && list_all (λ q. carries b (party_of p) q s) qs) (sym no_timer);
      numbered = row_numbered b p (parties_once qs) row is;
    }
