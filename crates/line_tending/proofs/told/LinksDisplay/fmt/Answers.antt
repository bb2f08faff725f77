use Rattle.std.proofs.Common.{None, rules}
use Rattle.std.proofs.Output.{has_written_append, has_written_of_eq}
use Rattle.line_tending.specs.Texts.{link_text}
use Rattle.line_tending.proofs.Printing.{more_at}
use Rattle.line_tending.proofs.told.LinksDisplay.fmt.Goals as goal

pub loop-link-preserved : goal.loop-link-preserved
loop-link-preserved g c =
    λ plain.
    let so_far = c.loop-link.invariant plain in
    let one = c.write.ensures.writes so_far.plain (search rules) in
    has_written_of_eq _ _ _ _ _ (more_at link_text c.args.self.now.0.now c.loop-link.link-index None c.loop-link-test.true)
    (has_written_append _ _ _ _ _ _ so_far one)
