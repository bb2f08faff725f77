use Rattle.std.proofs.Common.{rules, arith, ◌≡◌, Bool, true, false, get_or, if◌then◌else◌, ap, sym}
use Rattle.std.proofs.lemmas.Option.{get_or_from_slice_get, slice_get-get_or}
use Rattle.sdl_measures.specs.Counting.{measure_at}
use Rattle.sdl_measures.proofs.Passing.{marked_more}
use Rattle.sdl_measures.proofs.limits.marked_size.Goals as goal
use Rattle.sdl_measures.proofs.limits.marked_size.Goals.{then-mark, else-mark}

pub loop-number-preserved : goal.loop-number-preserved
loop-number-preserved c =
    let marks = c.args.marks.now in
    let ms = c.args.measures.now in
    let i = c.loop-number.number in
    let b : Bool = get_or marks i false in
    let own : b ≡ get_or marks i b = sym (get_or_from_slice_get marks i b b (slice_get-get_or marks i false c.loop-number-test.true)) in
    let more = marked_more marks i b ms c.loop-number-test.true own in
    elim c.if-mark.branch [
      | then-mark w ↦
          let marked : b ≡ true = search rules in
          let size : (if b then (measure_at ms i).size else 0) ≡ (measure_at ms i).size = ap (λ x. if x then (measure_at ms i).size else 0) marked in
          rw w.total-is (omega (arith, more, size, c.loop-number.invariant, w.size_at.ensures, w.saturating_add-total.ensures))
      | else-mark w ↦
          let not : b ≡ false = search rules in
          let size : (if b then (measure_at ms i).size else 0) ≡ 0 = ap (λ x. if x then (measure_at ms i).size else 0) not in
          rw w.total-is (omega (arith, more, size, c.loop-number.invariant))
    ]
