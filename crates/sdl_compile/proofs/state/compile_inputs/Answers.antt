use Rattle.std.proofs.Common.{take, sym, subst}
use Rattle.std.specs.List.{AllZip, flat_map}
use Rattle.sdl_sound.specs.Standing.{taken_by}
use Rattle.sdl_sound.proofs.Spread.{flat_more}
use Rattle.sdl_emit.specs.Scopes.{scope_in}
use Rattle.sdl_compile.specs.Drafts.{IsInputOf}
use Rattle.sdl_compile.proofs.Zips.{ready_within}
use Rattle.sdl_compile.proofs.state.compile_inputs.Goals as goal

pub push_input-requires-clause-ready : goal.push_input-requires-clause-ready
push_input-requires-clause-ready c =
    ready_within (scope_in c.args.context.now.names.now) taken_by c.args.inputs.now c.loop-input.input-index c.input-item.result c.loop-input-test.true c.input-item.is c.requires.ready

pub loop-input-preserved : goal.loop-input-preserved
loop-input-preserved c =
    let s = scope_in c.args.context.now.names.now in
    let all = c.args.inputs.now in
    let i = c.loop-input.input-index in
    subst (λ is. AllZip (IsInputOf s c.args.entry) is c.push_input.new.drafts.items) (sym (flat_more taken_by all i c.input-item.result c.loop-input-test.true c.input-item.is))
    (c.in_ok-push_input.ensures (flat_map taken_by (take i all)) c.loop-input.invariant)
