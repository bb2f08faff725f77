use Rattle.std.proofs.Common.{List, sym, ap, subst}
use Rattle.std.specs.Prelude.{All}
use Rattle.std.specs.List.{list_all}
use Rattle.sdl_scopes.specs.Parties.{IsSender, gets_back}
use Rattle.sdl_scopes.specs.declared.sender.Sender.{Sender}
use Rattle.sdl_rules.proofs.Gathering.{nobody_numbered}
use Rattle.sdl_rules.proofs.sources.start_senders.Goals as goal

pub returns : goal.returns
returns c = λ b p. record {
  told = λ s. ap (λ (l : List Sender). list_all (gets_back b p s) l) c.in_ok-senders.ensures;
  numbered = subst (All (IsSender b)) (sym c.in_ok-senders.ensures) (nobody_numbered b);
}
