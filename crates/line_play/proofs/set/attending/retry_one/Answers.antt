use Rattle.std.proofs.Common.{◌≡◌, true, false, refl, ap, rules, ◌∙◌}
use Rattle.line_play.specs.SetDoing.{stood}
use Rattle.line_play.specs.SetQueues.{waited_of, selection_in, is_blocked}
use Rattle.line_play.proofs.SetQueues.{first_waits_behind, first_went, first_waits}
use Rattle.line_play.proofs.set.attending.retry_one.Goals as goal

pub returns-then-is_behind : goal.returns-then-is_behind
returns-then-is_behind g c =
    let read : is_blocked c.args.blocked.now c.selection-selection.result ≡ true = search (rules, c.if-is_behind.true) in
    first_waits_behind c.put.result _ (stood c.args.state.now) (waited_of c.args.first) _ _ _ c.selection-selection.result _ refl
    (c.selection-selection.ensures.value ∙ ap selection_in c.as_slice.ensures.value) c.selection-selection.ensures.small read c.put.ensures

pub returns-then-went : goal.returns-then-went
returns-then-went g c =
    let read : is_blocked c.args.blocked.now c.selection-selection.result ≡ false = search (rules, c.if-is_behind.false) in
    first_went _ (stood c.args.state.now) (stood c.retry.new.self) (waited_of c.args.first) _ _ c.selection-selection.result _ _ _ refl
    (c.selection-selection.ensures.value ∙ ap selection_in c.as_slice.ensures.value) c.selection-selection.ensures.small read c.if-went.true c.in_ok-went.ensures

pub returns : goal.returns
returns g c =
    let read : is_blocked c.args.blocked.now c.selection-selection.result ≡ false = search (rules, c.if-is_behind.false) in
    first_waits c.put-2.result _ _ (stood c.args.state.now) (stood c.retry.new.self) (waited_of c.args.first) _ _ _ c.selection-selection.result _ _ _ refl
    (c.selection-selection.ensures.value ∙ ap selection_in c.as_slice.ensures.value) c.selection-selection.ensures.small read c.if-went.false refl c.in_ok-went.ensures c.put-2.ensures
