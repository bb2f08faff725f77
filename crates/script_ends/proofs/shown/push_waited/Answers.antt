use Rattle.std.proofs.Common.{◌≡◌, Some, append_assoc, rules}
use Rattle.script_ends.specs.Shown.{waited_text}
use Rattle.script_ends.proofs.ShownAnswers.{waited_is}
use Rattle.script_ends.proofs.shown.push_waited.Goals as goal

pub returns : goal.returns
returns c =
    let text : c.extend_from_slice.new.self.items ≡ waited_text (Some c.in-Some.ticks) c.args.text.now.items = search (rules, append_assoc) in
    waited_is c.args.waited c.in-Some.ticks c.args.text.now.items c.extend_from_slice.new.self.items (search rules) text
