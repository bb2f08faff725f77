use Rattle.std.proofs.Common.{◌≡◌, ℕ, List, map, ap, sym, subst, ◌∙◌}
use Rattle.sdl_ast.specs.Views.{block_of}
use Rattle.script_covered.specs.Lcov.{row_of, lcov_text}
use Rattle.script_covered.proofs.Printing.{lcov_is}
use Rattle.script_covered.proofs.lcov.lcov_text.Goals as goal

pub returns : goal.returns
returns c = λ ts covers.
    subst (λ (t : List ℕ). c.extend_from_slice.new.self.items ≡ lcov_text c.args.name.now t (block_of c.args.block.now) ts) c.as_bytes.ensures.value
    (lcov_is c.args.name.now c.as_bytes.result.now (block_of c.args.block.now) ts c.args.coverage.now c.counts-counts.result.now c.deref.result.now c.deref-2.result.now c.turns.result.now _ _ _ c.counts-counts.ensures
    (ap (map row_of) c.deref.ensures.value ∙ c.in_ok-rows.ensures) c.turns.ensures (c.deref-2.ensures.value ∙ c.in_ok-marks.ensures) (sym c.is_over.ensures ∙ c.if-is_over.false)
    c.in_ok-out.ensures c.in_ok-push_report.ensures c.in_ok-extend_from_slice.ensures.items covers)
