use Rattle.std.proofs.Common.{refl}
use Rattle.line_streams.proofs.Waits.{first_octets, no_first}
use Rattle.line_streams.proofs.backlog.Backlog.first.Goals as goal

pub returns-in-Some : goal.returns-in-Some
returns-in-Some c =
    rw (← c.self.view_is)
    (first_octets c.self.inside.lines.items c.in-Some.first.now _ _ c.self.inside.lines.ok.0 (c.in-Some.ensures.variant.0 refl) c.in-Some.ensures.lookup
    c.as_slice.ensures.value)

pub returns-in-None : goal.returns-in-None
returns-in-None c = rw (← c.self.view_is) (no_first c.self.inside.lines.items _ c.self.inside.lines.ok.0 c.in-None.ensures.variant.1)
