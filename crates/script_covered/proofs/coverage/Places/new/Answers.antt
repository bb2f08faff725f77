use Rattle.std.proofs.Common.{◌≡◌, ◌∙◌, ap, get_or, replicate, rules}
use Rattle.script_covered.proofs.Countings.{zero_at}
use Rattle.script_covered.proofs.coverage.Places.new.Goals as goal

pub returns : goal.returns
returns c = λ under k.
    let blank : c.in_ok-times.times.items ≡ replicate c.args.length 0 = search rules in
    ap (λ l. get_or l k 0) blank ∙ zero_at c.args.length k
