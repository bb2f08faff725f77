use Rattle.std.proofs.Common.{inr}
use Rattle.line_streams.specs.Known.{known_of, left_of}
use Rattle.mtp2_play.proofs.Speaking.{of_term, begun_of}
use Rattle.mtp2_play.proofs.Tracing.{given_to, ordered_to, terminal_of}
use Rattle.mtp2_play.proofs.line.running.speak.Goals as goal

pub speak_plain-requires-clause-given : goal.speak_plain-requires-clause-given
speak_plain-requires-clause-given g c = given_to _ known_of _ _ c.link_desk-desk.ensures.orders_are c.in-Ok.ensures.given

pub speak_plain-requires-clause-ordered : goal.speak_plain-requires-clause-ordered
speak_plain-requires-clause-ordered g c = ordered_to left_of known_of _ _ c.link_desk-desk.ensures.orders_are c.in-Ok.ensures.orders

pub speak_traced-requires-clause-given : goal.speak_traced-requires-clause-given
speak_traced-requires-clause-given g c = given_to _ known_of _ _ c.traced_desk-desk.ensures.orders c.in-Ok.ensures.given

pub speak_traced-requires-clause-ordered : goal.speak_traced-requires-clause-ordered
speak_traced-requires-clause-ordered g c = ordered_to left_of known_of _ _ c.traced_desk-desk.ensures.orders c.in-Ok.ensures.orders

pub returns-clause-spoke : goal.returns-clause-spoke
returns-clause-spoke g c zero =
    of_term _ _ _ _ _ _ _ (terminal_of _ _ _ c.traced_desk-desk.ensures.terminal c.in-Ok-open_traced.ensures.terminal) (c.speak_traced.ensures.spoke zero)

pub returns-clause-begun : goal.returns-clause-begun
returns-clause-begun g c =
    inr (begun_of _ _ _ _ _ _ _ (terminal_of _ _ _ c.traced_desk-desk.ensures.terminal c.in-Ok-open_traced.ensures.terminal) c.speak_traced.ensures.begun)
