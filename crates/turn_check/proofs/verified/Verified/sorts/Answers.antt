use Rattle.std.proofs.Common.{rules, ◌≡◌, Some, ap, ◌∙◌, sym, subst}
use Rattle.std.specs.Prelude.{slice_get, slice_index_or}
use Rattle.turn_code.specs.declared.draft.Draft.{Draft}
use Rattle.turn_code.specs.Sorts.{AreSortsOf}
use Rattle.turn_check.proofs.Sorting.{sorted_at}
use Rattle.turn_check.proofs.verified.Verified.sorts.Goals as goal

pub returns : goal.returns
returns c =
    λ p e.
    let is : c.from.result ≡ c.args.process.0 = search rules in
    let there : slice_get c.self.inside.draft.processes c.args.process.0 ≡ Some p =
    subst (λ (d : Draft). slice_get d.processes c.args.process.0 ≡ Some p) (sym c.self.view_is) e in
    let bits : c.bits_at.result ≡ slice_index_or c.self.inside.variables c.args.process.0 0 =
    c.bits_at.ensures ∙ ap (λ n. slice_index_or c.self.inside.variables n 0) is in
    subst (λ (d : Draft). AreSortsOf d.signals p.variables (record { parameters = c.self.inside.parameters; variables = c.bits_at.result })) c.self.view_is
    (sorted_at c.self.inside.draft c.self.inside.parameters c.self.inside.variables c.args.process.0 c.bits_at.result p c.self.invariant there bits)
