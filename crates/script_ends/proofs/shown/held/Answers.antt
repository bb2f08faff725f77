use Rattle.std.proofs.Common.{◌≡◌, ◌++◌, append_assoc, rules}
use Rattle.std.specs.Prelude.{codes, slice_get}
use Rattle.std.specs.Fmt.{decimal}
use Rattle.std.proofs.lemmas.Result.{IfOk-weaker}
use Rattle.script_ends.specs.GroupAnswers.{held_line}
use Rattle.script_ends.proofs.ShownAnswers.{held_is}
use Rattle.script_ends.proofs.shown.held.Goals as goal

pub returns : goal.returns
returns c =
    IfOk-weaker c.text_line.result _ (λ v. v.items ≡ held_line (slice_get c.args.group.now.links c.args.link))
    (λ v is.
    let text : v.items ≡ decimal c.in-Some.held ++ codes " sent " ++ decimal c.in-Some-sent.sent = search (rules, append_assoc) in
    held_is (slice_get c.args.group.now.links c.args.link) c.in-Some.held c.in-Some-sent.sent v.items c.in-Some.ensures c.in-Some-sent.ensures text)
    c.text_line.ensures
