use Rattle.std.proofs.Common.{◌∙◌, ap, refl, sym, true≢false}
use Rattle.line_filter.specs.Says.{is_end_order}
use Rattle.line_streams.proofs.watch.Watch.order.Goals as goal

pub returns-then-not-branch : goal.returns-then-not-branch
returns-then-not-branch c = record {
  ends = λ is.
      absurd (true≢false (sym is ∙ (ap is_end_order (sym c.as_str.ensures.value) ∙ (sym c.in_ok-ends_run.ensures ∙ c.if-not-branch.true))));
  others = λ off. refl;
}

pub returns : goal.returns
returns c = record {
  ends = λ is. record { last = _; noted = c.in_ok-push_back.ensures.items; words = refl; since = refl; fresh = refl };
  others = λ off.
      absurd (true≢false (sym (ap is_end_order (sym c.as_str.ensures.value) ∙ (sym c.in_ok-ends_run.ensures ∙ c.if-not-branch.false)) ∙ off));
}
