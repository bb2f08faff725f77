use Rattle.std.proofs.Common.{rules, ℕ, List, ◌≡◌, ◌<◌, ◌≤◌, ◌+◌, length, get_or, pos, arith, sym, ap, ◌∙◌, subst}
use Rattle.turn_code.specs.Bare.{HasWords, bare_of, bare_act}
use Rattle.turn_code.specs.declared.instruction.Instruction.{Instruction}
use Rattle.turn_code.specs.declared.instruction.Instruction.TheVariants.{Int}
use Rattle.turn_code.proofs.Stepping.{inside_it, short, wanted_here, followed_here}
use Rattle.turn_code.proofs.step.step_bare.Goals as goal

pub bounds-code-place : goal.bounds-code-place
bounds-code-place c =
    subst (λ (u : List Instruction). c.args.place < length u) (sym c.code-code.ensures.value)
    (inside_it c.args.piece.now c.args.place c.args.words.now c.code-code.ensures.valid c.requires)

pub offset_bounds-code-place : goal.offset_bounds-code-place
offset_bounds-code-place c =
    let place : c.args.place < length c.args.piece.now.code = inside_it c.args.piece.now c.args.place c.args.words.now c.code-code.ensures.valid c.requires in
    let most : length c.args.piece.now.code ≤ 512 = short c.args.piece.now c.args.place c.args.words.now c.code-code.ensures.valid c.requires in
    omega arith

pub overflow_add-place : goal.overflow_add-place
overflow_add-place c =
    let place : c.args.place < length c.args.piece.now.code = inside_it c.args.piece.now c.args.place c.args.words.now c.code-code.ensures.valid c.requires in
    let most : length c.args.piece.now.code ≤ 512 = short c.args.piece.now c.args.place c.args.words.now c.code-code.ensures.valid c.requires in
    omega arith

pub act-requires : goal.act-requires
act-requires c =
    subst (λ (u : List Instruction). HasWords (get_or u c.args.place (Int (pos 0))) (bare_of c.args.words.now)) (sym c.code-code.ensures.value)
    (wanted_here c.args.piece.now c.args.place c.args.words.now c.code-code.ensures.valid c.requires (Int (pos 0)))

pub returns : goal.returns
returns c =
    λ d t x os s h.
    let wide : length c.args.words.now.variables ≡ 32 = search rules in
    followed_here d t c.args.piece.now c.args.place c.args.words.now x os s h (Int (pos 0)) c.act.new.self c.act.result wide
    (c.act.ensures
    ∙ ap (λ (u : List Instruction). bare_act (get_or u c.args.place (Int (pos 0))) (c.args.place + 1) (bare_of c.args.words.now)) c.code-code.ensures.value)
