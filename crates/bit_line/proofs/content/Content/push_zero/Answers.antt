use Rattle.std.proofs.Common.{refl}
use Rattle.bit_line.proofs.ContentLaws.{holds-zero, holds-inserted}
use Rattle.bit_line.proofs.content.Content.push_zero.Goals as goal

pub returns-then-self-eq5 : goal.returns-then-self-eq5
returns-then-self-eq5 c h holds = holds-inserted h c.args.self.now _ c.if-self-eq5.true refl refl refl holds

pub returns-else-self-eq5 : goal.returns-else-self-eq5
returns-else-self-eq5 c h holds = holds-zero h c.args.self.now _ c.if-self-eq5.false refl refl (c.push.ensures _ holds.gathers) holds
