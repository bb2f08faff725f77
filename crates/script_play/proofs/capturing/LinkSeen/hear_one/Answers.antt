use Rattle.std.proofs.Common.{◌++◌, ◌∷◌, [], None, Some, refl}
use Rattle.script_play.proofs.Capturings.{heard_on, hears_one}
use Rattle.script_play.proofs.capturing.LinkSeen.hear_one.Goals as goal

pub returns-in_ok-see_unit-in-Some : goal.returns-in_ok-see_unit-in-Some
returns-in_ok-see_unit-in-Some g c every came ss begun so_far =
    let more = came ++ c.args.octet ∷ [] in
    let on = heard_on c.args.link every came more ss begun _ c.args.self.now _ (c.ended.ensures.stands came so_far.heard.hears) refl so_far in
    let s = c.in_ok-see_unit-in-Some.ensures every more ss begun on in
    (s.0, hears_one c.args.link c.args.at c.args.octet came (Some c.in-Some.unit.items) ss s.0 (c.in-Some.ensures.unit came so_far.heard.hears) s.1, s.2)

pub returns-in-None : goal.returns-in-None
returns-in-None g c every came ss begun so_far =
    let more = came ++ c.args.octet ∷ [] in
    let on = heard_on c.args.link every came more ss begun _ c.args.self.now _ (c.ended.ensures.stands came so_far.heard.hears) refl so_far in
    (ss, hears_one c.args.link c.args.at c.args.octet came None ss ss (c.in-None.ensures.unit came so_far.heard.hears) refl, on)
