use Rattle.std.proofs.Common.{string_bytes}
use Rattle.line_play.specs.SetDoing.{stood}
use Rattle.line_play.proofs.SetQueues.{send_goes, send_waits, tried_as}
use Rattle.line_play.proofs.set.attending.send_now.Goals as goal

pub returns-then-went : goal.returns-then-went
returns-then-went g c =
    send_goes (string_bytes c.args.text) c.args.octets.items (stood c.args.state.now) (stood c.try_send.new.self) _ c.in_ok-went.went _ _ c.requires c.if-went.true
    (tried_as (string_bytes c.args.text) _ c.args.octets.items _ (stood c.args.state.now) (stood c.try_send.new.self) c.in_ok-went.went _ _ c.as_str.ensures.value
    c.as_slice.ensures.value c.in_ok-went.ensures)

pub returns : goal.returns
returns g c =
    send_waits c.wait.result (string_bytes c.args.text) c.args.octets.items (stood c.args.state.now) (stood c.try_send.new.self) _ _ c.in_ok-went.went _ _ c.requires c.if-went.false
    (tried_as (string_bytes c.args.text) _ c.args.octets.items _ (stood c.args.state.now) (stood c.try_send.new.self) c.in_ok-went.went _ _ c.as_str.ensures.value
    c.as_slice.ensures.value c.in_ok-went.ensures)
    c.wait.ensures
