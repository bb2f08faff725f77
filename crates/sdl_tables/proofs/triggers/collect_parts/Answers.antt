use Rattle.std.proofs.Common.{◌≡◌, ◌<◌, ◌+◌, ◌++◌, ℕ, List, Some, length, map, take, get_or, arith, refl, sym, ap, ◌∙◌}
use Rattle.std.specs.Prelude.{slice_get}
use Rattle.std.specs.List.{flat_map}
use Rattle.std.specs.Option.{option_map}
use Rattle.std.proofs.lemmas.Option.{slice_get_read, slice_get-map}
use Rattle.sdl_ast.specs.Views.{state_of}
use Rattle.sdl_ast.specs.declared.tree.StatePart.{StatePart}
use Rattle.sdl_ast.specs.declared.expression.Identifier.{Identifier}
use Rattle.sdl_tables.specs.Names.{given_to, part_triggers}
use Rattle.sdl_tables.specs.Rows.{row_at}
use Rattle.sdl_tables.specs.Triggers.{taken_in, AreTaken}
use Rattle.sdl_tables.proofs.Numbers.{joined_push, given_as}
use Rattle.sdl_tables.proofs.triggers.collect_parts.Goals as goal
use Rattle.plain_laws.proofs.Lists.{mapped_more}

-- One more STATE part.
part_more : (of_part : ℕ → List Identifier) (parts : List StatePart) (i : ℕ) (part : StatePart) (states : List Identifier) (s : ℕ) (now old : List Identifier)
    → i < length parts → part ≡ get_or parts i part → AreTaken of_part (map state_of parts)
    → now ≡ old ++ given_to (λ _. of_part i) states s (state_of part)
    → old ≡ flat_map (given_to part_triggers states s) (map state_of (take i parts))
    → now ≡ flat_map (given_to part_triggers states s) (map state_of (take (i + 1) parts))
part_more of_part parts i part states s now old lt is taken more before =
    let f = given_to part_triggers states s in
    let done = map state_of (take i parts) in
    let at : slice_get (map state_of parts) i ≡ Some (state_of part) =
    slice_get-map state_of parts i ∙ ap (option_map state_of) (slice_get_read parts (length parts) i part refl lt is) in
    let told : of_part i ≡ part_triggers (state_of part) = taken i (state_of part) at in
    more ∙ (ap (λ r. r ++ given_to (λ _. of_part i) states s (state_of part)) before
    ∙ (ap (λ r. flat_map f done ++ r) (given_as part_triggers (of_part i) states s (state_of part) told)
    ∙ (sym (joined_push f done (state_of part)) ∙ ap (flat_map f) (sym (mapped_more state_of parts i part lt is)))))

pub loop-number-preserved : goal.loop-number-preserved
loop-number-preserved c = (
  c.in_ok-push_states.ensures.len ∙ c.loop-number.invariant.0,
  λ of_part taken s lt.
      part_more of_part c.args.parts.now c.loop-number.number c.index-parts-number.result c.args.states.now s _ (row_at (taken_in of_part) c.loop-number.rows.items s)
      c.loop-number-test.true c.index-parts-number.is taken (c.in_ok-push_states.ensures.rows of_part s (omega (arith, lt, c.loop-number.invariant.0)))
      (c.loop-number.invariant.1 of_part taken s lt),
)
