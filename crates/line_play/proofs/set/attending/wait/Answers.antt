use Rattle.std.proofs.Common.{OnOk, List, [], string_bytes, subst, ◌≡◌, ◌∷◌, ◌++◌, ◌∙◌}
use Rattle.line_play.specs.SetQueues.{Waited, waiting_in}
use Rattle.line_play.proofs.set.attending.wait.Goals as goal

pub returns : goal.returns
returns c =
    subst (λ (w : Waited). OnOk c.put.result (waiting_in c.put.new.queue ≡ waiting_in c.args.queue.now ++ w ∷ []))
    (λ i. record {
      mark = (c.in_ok-mark.ensures ∙ c.as_str.ensures.value) i;
      text = string_bytes c.args.text;
      octets = c.args.octets.items;
      since = c.now-since.ensures i;
    })
    c.put.ensures
