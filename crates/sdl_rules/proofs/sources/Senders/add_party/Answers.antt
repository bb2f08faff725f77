use Rattle.std.proofs.Common.{false, refl}
use Rattle.std.specs.Option.{option_map_or}
use Rattle.sdl_scopes.specs.Reaches.{is_marked}
use Rattle.sdl_rules.proofs.Gathering.{gather_party, gather_there, not_is}
use Rattle.sdl_rules.proofs.sources.Senders.add_party.Goals as goal

pub returns-in_ok-push : goal.returns-in_ok-push
returns-in_ok-push c = λ b p f number g.
    gather_party b p c.args.self.now _ f c.args.party.now number c.mark.ensures.marks c.in_ok-push.ensures.items g

pub returns-else-mark : goal.returns-else-mark
returns-else-mark c = λ b p f number g.
    let o = c.args.party.now.number in
    gather_there b p c.args.self.now _ f c.args.party.now.party o number c.mark.ensures.marks
    (not_is c.mark.result (option_map_or (is_marked c.args.self.now.seen.items) o false) c.mark.ensures.new c.if-mark.false) refl g
