use Rattle.std.proofs.Common.{◌∷◌, false, refl}
use Rattle.line_streams.specs.declared.seen.Seen.{Seen}
use Rattle.script_play.proofs.capturing.LinkSeen.see_unit.Goals as goal

pub returns : goal.returns
returns g c every came ss begun so_far =
    let s : Seen = record { went = false; link = c.args.link; at = c.args.at; octets = c.args.octets } in
    (s ∷ ss, (refl, refl, refl, refl, refl), c.in_ok-see.ensures every came ss begun so_far)
