use Rattle.std.proofs.Common.{arith, sym, ap, string_bytes, ◌∙◌}
use Rattle.line_play.specs.SetDoing.{stood}
use Rattle.line_play.specs.SetQueues.{selection_in, waiting_in}
use Rattle.line_play.proofs.SetQueues.{send_late, send_crowded, send_behind, takes_text, none_so, many_so, few_so, some_so}
use Rattle.line_play.proofs.set.attending.take_send.Goals as goal

pub returns-then-not-stays : goal.returns-then-not-stays
returns-then-not-stays g c =
    takes_text c.refuse.result (string_bytes c.args.text) _ c.args.octets.items (stood c.args.state.now) (stood c.args.state.now) _ _ _ _ c.as_str.ensures.value
    (send_late c.refuse.result _ c.args.octets.items (stood c.args.state.now) _ _ _ (sym c.stays.ensures ∙ c.if-not-stays.true) c.refuse.ensures)

pub send_now-requires : goal.send_now-requires
send_now-requires g c =
    none_so c.args.octets.items (waiting_in c.args.queue.now) c.selection.result c.count-count.result (c.selection.ensures.value ∙ ap selection_in c.as_slice.ensures.value) c.count-count.ensures c.if-none_wait.true

pub returns-then-are_many : goal.returns-then-are_many
returns-then-are_many g c =
    takes_text c.refuse-then-are_many.result (string_bytes c.args.text) _ c.args.octets.items (stood c.args.state.now) (stood c.args.state.now) _ _ _ _ c.as_str-then-are_many.ensures.value
    (send_crowded c.refuse-then-are_many.result _ c.args.octets.items (stood c.args.state.now) _ _ _
    (many_so c.args.octets.items (waiting_in c.args.queue.now) c.selection.result c.count-count.result (c.selection.ensures.value ∙ ap selection_in c.as_slice.ensures.value) c.count-count.ensures
    (omega (arith, c.if-are_many.true)))
    c.refuse-then-are_many.ensures)

pub returns : goal.returns
returns g c =
    send_behind c.wait.result (string_bytes c.args.text) c.args.octets.items (stood c.args.state.now) _ _ _
    (some_so c.args.octets.items (waiting_in c.args.queue.now) c.selection.result c.count-count.result (c.selection.ensures.value ∙ ap selection_in c.as_slice.ensures.value) c.count-count.ensures c.if-none_wait.false)
    (few_so c.args.octets.items (waiting_in c.args.queue.now) c.selection.result c.count-count.result (c.selection.ensures.value ∙ ap selection_in c.as_slice.ensures.value) c.count-count.ensures
    (omega (arith, c.if-are_many.false)))
    c.wait.ensures
