use Rattle.std.proofs.Common.{ap, ◌∙◌, ◌++◌}
use Rattle.line_filter.specs.Streams.{left_in}
use Rattle.line_filter.proofs.Looking.{filled}
use Rattle.line_filter.proofs.lines.OrderLines.fill.Goals as goal

pub returns : goal.returns
unfolding left_in
returns c more =
    filled c.args.self.now _ c.args.octets.now more c.requires (c.in_ok-extend_from_slice.ensures.items ∙ ap (λ xs. xs ++ c.args.octets.now) c.clear.ensures.items)
