use Rattle.std.proofs.Common.{rules}
use Rattle.std.proofs.lemmas.Result.{IfErr-weaker}
use Rattle.turn_code.specs.declared.draft.Draft.{Draft}
use Rattle.turn_code.specs.declared.rule.Rule.{Rule}
use Rattle.turn_code.specs.declared.rule.Rule.TheVariants.{Jump}
use Rattle.turn_rules.specs.Seen.{seen}
use Rattle.turn_rules.specs.First.{EachBefore}
use Rattle.turn_rules.specs.Parts.{Entry}
use Rattle.turn_rules.proofs.entry.check_entry.Goals as goal

pub returns-clause-first : goal.returns-clause-first
returns-clause-first c =
    let t = seen c.args.transition.now in
    let d = c.args.draft.now in
    let here : EachBefore (λ r. Entry r d t) Jump = search rules in
    IfErr-weaker c.check_first_place.result
    (λ (rule : Rule). (d : Draft) → EachBefore (λ r. Entry r d t) Jump → EachBefore (λ r. Entry r d t) rule)
    (λ (rule : Rule). EachBefore (λ r. Entry r d t) rule) (λ rule f. f d here) c.check_first_place.ensures.first
