use Rattle.std.proofs.Common.{◌&&◌, false, sym, ap, subst}
use Rattle.sdl_sound.specs.Receivers.{party_of, carries}
use Rattle.sdl_scopes.specs.Parties.{IsSender, gets_back}
use Rattle.sdl_scopes.specs.declared.sender.Sender.{Sender}
use Rattle.sdl_rules.proofs.Gathering.{gather_same, gather_nobody}
use Rattle.sdl_rules.proofs.sources.Senders.add.Goals as goal

pub returns-in_ok-put-in-Nobody : goal.returns-in_ok-put-in-Nobody
returns-in_ok-put-in-Nobody c = λ b p f sender g.
    gather_same b p c.put.new.self (λ s. f s && false) (λ s. f s && gets_back b p s c.args.sender.now)
    (λ s. ap (λ (x : Sender). f s && gets_back b p s x) (sym c.in-Nobody.is))
    (gather_nobody b p c.args.self.now c.put.new.self f c.in_ok-put-in-Nobody.ensures.list c.put.ensures.seen g)

pub returns-in_ok-add_party-in-Party : goal.returns-in_ok-add_party-in-Party
returns-in_ok-add_party-in-Party c = λ b p f sender g.
    gather_same b p c.add_party.new.self (λ s. f s && carries b (party_of p) c.in-Party.party.party s) (λ s. f s && gets_back b p s c.args.sender.now)
    (λ s. ap (λ (x : Sender). f s && gets_back b p s x) (sym c.in-Party.is))
    (c.in_ok-add_party-in-Party.ensures b p f (subst (IsSender b) c.in-Party.is sender) g)
