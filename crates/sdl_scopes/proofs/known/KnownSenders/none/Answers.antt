use Rattle.std.proofs.Common.{[], List, sym, ap, subst, arith}
use Rattle.std.specs.Prelude.{All}
use Rattle.std.specs.List.{list_all}
use Rattle.sdl_scopes.specs.Parties.{IsSender, gets_back}
use Rattle.sdl_scopes.specs.declared.sender.Sender.{Sender}
use Rattle.sdl_scopes.proofs.known.KnownSenders.none.Goals as goal

pub returns : goal.returns
returns c = λ b p. c.new-2.ensures b p [] record {
  told = λ s. ap (λ (l : List Sender). list_all (gets_back b p s) l) c.new.ensures.items;
  numbered = subst (All (IsSender b)) (sym c.new.ensures.items) (λ i d no. absurd (omega (arith, no)));
}
