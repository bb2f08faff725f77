use Rattle.std.proofs.Common.{◌∷◌, true, refl}
use Rattle.line_streams.specs.declared.seen.Seen.{Seen}
use Rattle.script_play.proofs.capturing.LinkSeen.send.Goals as goal

pub returns : goal.returns
returns g c every came ss begun so_far =
    let s : Seen = record { went = true; link = c.args.link; at = c.args.at; octets = c.in_ok-octets.octets } in
    let framed = c.in_ok-octets.ensures in
    (s ∷ ss, record { octets = framed.0; is_frame = framed.1; zero = framed.2; is_unit = (refl, refl, refl, framed.3, refl) }, c.in_ok-see.ensures every came ss begun so_far)
