use Rattle.std.proofs.Common.{refl, ap, ◌+◌}
use Rattle.bit_line.proofs.ContentLaws.{holds-one}
use Rattle.bit_line.proofs.content.Content.push_one.Goals as goal

pub returns : goal.returns
returns c h holds = holds-one h c.args.self.now _ (ap (λ n. n + 1) c.min.ensures) refl (c.push.ensures _ holds.gathers) holds
