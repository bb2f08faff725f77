use Rattle.std.proofs.Common.{rules, slice_set, w32, SFits, to_z-of_z, ◌≡◌, ◌+◌, ◌-◌, ◌++◌, ◌<◌, ◌≤◌, pos, Some, length, take, drop, replicate, length-set, sym, ap, ◌∙◌, subst}
use Rattle.turn_code.proofs.Piled.{one_filled, word_behind, topmost}
use Rattle.turn_code.proofs.words.Words.taken.Goals as goal

pub loop-place-preserved : goal.loop-place-preserved
loop-place-preserved c =
    let ops = c.args.self.now.operands in
    let long : length c.args.self.now.operands ≡ 16 = search rules in
    let within : c.from-first.result + c.loop-place.place < 16 = search rules in
    let below : c.loop-place.place < 4 = search rules in
    let there : c.from-first.result + c.loop-place.place < length ops = subst (λ n. c.from-first.result + c.loop-place.place < n) (sym long) within in
    let fits : SFits w32 c.operand-word.result = search rules in
    subst
    (λ x.
    (length (slice_set c.loop-place.words c.loop-place.place x) ≡ 4)
    × (slice_set c.loop-place.words c.loop-place.place x
    ≡ take (c.loop-place.place + 1) (drop c.from-first.result ops) ++ replicate (4 - (c.loop-place.place + 1)) (pos 0)))
    (sym (to_z-of_z fits)) (
      length-set c.loop-place.words c.loop-place.place c.operand-word.result ∙ c.loop-place.invariant.0,
      one_filled (drop c.from-first.result ops) c.loop-place.words 4 c.loop-place.place c.operand-word.result below
          (word_behind ops c.from-first.result c.loop-place.place there ∙ ap Some (sym c.operand-word.ensures)) c.loop-place.invariant.1,
    )

pub returns : goal.returns
returns c =
    let ops = c.args.self.now.operands in
    let long : length c.args.self.now.operands ≡ 16 = search rules in
    let over : c.loop-place.place ≡ c.args.count = search rules in
    let sum : c.from-first.result + c.args.count ≡ c.args.self.now.depth = search rules in
    let within : c.args.self.now.depth ≤ 16 = c.requires.there.1 in
    let there : c.args.self.now.depth ≤ length ops = subst (λ n. c.args.self.now.depth ≤ n) (sym long) within in
    subst (λ u. c.loop-place.words ≡ take u (drop c.from-first.result ops) ++ replicate (4 - u) (pos 0)) over c.loop-place.invariant.1
    ∙ ap (λ u. u ++ replicate (4 - c.args.count) (pos 0)) (sym (topmost ops c.from-first.result c.args.count c.args.self.now.depth sum there))
