use Rattle.std.proofs.Common.{rules, ◌≡◌, ◌+◌, ◌-◌, ◌≤◌, length, subst, sym}
use Rattle.turn_code.proofs.Piled.{given_out}
use Rattle.turn_code.proofs.words.Words.output.Goals as goal

pub returns : goal.returns
returns c =
    let w = c.args.self.now in
    let long : length c.args.self.now.operands ≡ 16 = search rules in
    let sum : c.args.self.now.depth - c.args.count + c.args.count ≡ c.args.self.now.depth = search rules in
    let room : c.args.self.now.depth ≤ length c.args.self.now.operands = subst (λ n. c.args.self.now.depth ≤ n) (sym long) c.requires.there.1 in
    given_out w c.give.result (c.args.self.now.depth - c.args.count) c.args.signal c.args.to c.args.count c.taken-words.result c.args.next c.give.ensures
    c.taken-words.ensures sum room
