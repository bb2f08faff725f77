use Rattle.std.proofs.Common.{arith}
use Rattle.std.proofs.lemmas.Bool.{ltb-true}
use Rattle.bit_line.proofs.FewLaws.{gathers-room}
use Rattle.bit_line.proofs.data.Data.has_room.Goals as goal

pub returns-else-self : goal.returns-else-self
returns-else-self c room h gathers =
    gathers-room h c.args.self.now c.if-self.false (omega (arith, ltb-true c.len.result 277 room)) c.args.self.now.part.len_fits gathers
