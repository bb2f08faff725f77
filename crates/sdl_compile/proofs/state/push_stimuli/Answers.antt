use Rattle.std.proofs.Common.{List, ◌++◌, ◌+◌, ◌∙◌, map, take, ap, sym, subst, append-nil, take_all}
use Rattle.std.specs.List.{AllZip}
use Rattle.turn_code.specs.declared.draft.DraftInput.{DraftInput}
use Rattle.sdl_emit.specs.Scopes.{scope_in, input_by}
use Rattle.sdl_compile.specs.Drafts.{IsInputOf, AreReady}
use Rattle.sdl_compile.proofs.Zips.{ready_at, stimuli_taken}
use Rattle.sdl_compile.proofs.state.push_stimuli.Goals as goal
use Rattle.plain_laws.proofs.Pairwise.{zip_behind}

pub loop-stimulus-init : goal.loop-stimulus-init
loop-stimulus-init c = λ before h. subst (λ is. AllZip (IsInputOf (scope_in c.args.context.now.names.now) c.args.entry) is c.args.drafts.now.items) (sym (append-nil before)) h

pub compile_input-requires-clause-ready : goal.compile_input-requires-clause-ready
compile_input-requires-clause-ready c =
    let s = scope_in c.args.context.now.names.now in
    let f = input_by c.args.input.now in
    let all = c.deref-stimulus-items.result.now in
    ready_at s f all c.loop-stimulus.stimulus-index c.stimulus-item.result c.loop-stimulus-test.true c.stimulus-item.is
    (subst (AreReady s) (stimuli_taken c.args.input.now ∙ ap (map f) (sym c.deref-stimulus-items.ensures.value)) c.requires.ready)

pub loop-stimulus-preserved : goal.loop-stimulus-preserved
loop-stimulus-preserved c = λ before old.
    let R = IsInputOf (scope_in c.args.context.now.names.now) c.args.entry in
    let f = input_by c.args.input.now in
    let all = c.deref-stimulus-items.result.now in
    let i = c.loop-stimulus.stimulus-index in
    subst (λ (ds : List DraftInput). AllZip R (before ++ map f (take (i + 1) all)) ds) (sym c.in_ok-push.ensures.items)
    (zip_behind R f before all i c.stimulus-item.result c.loop-stimulus.drafts.items c.in_ok-compile_input.field-0 c.loop-stimulus-test.true c.stimulus-item.is
    (c.loop-stimulus.invariant before old) c.in_ok-compile_input.ensures)

pub returns : goal.returns
returns c = λ before old.
    let R = IsInputOf (scope_in c.args.context.now.names.now) c.args.entry in
    let f = input_by c.args.input.now in
    let all = c.deref-stimulus-items.result.now in
    let taken = ap (map f) (take_all c.loop-stimulus.stimulus-index all c.loop-stimulus-test.false ∙ c.deref-stimulus-items.ensures.value) ∙ sym (stimuli_taken c.args.input.now) in
    subst (λ is. AllZip R (before ++ is) c.loop-stimulus.drafts.items) taken (c.loop-stimulus.invariant before old)
