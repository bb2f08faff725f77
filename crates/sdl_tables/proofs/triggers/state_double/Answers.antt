use Rattle.std.proofs.Common.{◌≡◌, ◌+◌, ◌++◌, [], List, take, get_or, sym, ap, ◌∙◌, subst}
use Rattle.std.specs.List.{flat_map}
use Rattle.std.proofs.lemmas.List.{take_more}
use Rattle.sdl_ast.specs.declared.expression.Identifier.{Identifier}
use Rattle.sdl_tables.specs.Scopes.{Marks, repeats}
use Rattle.sdl_tables.specs.Triggers.{taken_by, Stamped, Covers}
use Rattle.sdl_tables.proofs.Repeats.{repeats-append}
use Rattle.sdl_tables.proofs.Numbers.{joined_push, covers_last}
use Rattle.sdl_tables.proofs.triggers.state_double.Goals as goal

pub loop-number-preserved : goal.loop-number-preserved
loop-number-preserved c =
    let told = taken_by c.args.parts.now in
    let ns = c.args.numbers.now in
    let i = c.loop-number.number-index in
    let done = flat_map told (take i ns) in
    let more : flat_map told (take (i + 1) ns) ≡ done ++ told (get_or ns i 0) =
    ap (flat_map told) (take_more ns i 0 c.loop-number-test.true) ∙ joined_push told (take i ns) (get_or ns i 0) in
    record {
      double = λ names old all.
          subst (Marks c.earlier-double.result) (sym (ap (repeats []) more ∙ repeats-append [] done (told (get_or ns i 0))))
          (c.earlier-double.ensures (repeats [] done) (repeats done (told (get_or ns i 0))) (c.loop-number.invariant.double names old all)
          (c.stamp_next.ensures.double names done (c.loop-number.invariant.stamped names old all) all c.loop-number.invariant.covers));
      stamped = λ names old all.
          subst (Stamped names c.stamp_next.new.seen.items c.args.stamp) (sym more)
          (c.stamp_next.ensures.stamped names done (c.loop-number.invariant.stamped names old all) all c.loop-number.invariant.covers);
      covers = subst (λ (l : List Identifier). Covers l (told (get_or ns i 0))) (sym more) (covers_last done (told (get_or ns i 0)));
      below = λ bound lt h. c.stamp_next.ensures.below bound lt (c.loop-number.invariant.below bound lt h);
      len = c.stamp_next.ensures.len ∙ c.loop-number.invariant.len;
    }
