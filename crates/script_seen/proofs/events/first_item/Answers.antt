use Rattle.std.proofs.Common.{sym, ◌∙◌, arith}
use Rattle.actor_machine.specs.Looking.{is_saved}
use Rattle.script_seen.proofs.Items.{saved_on, unsaved_here, no_past}
use Rattle.script_seen.proofs.events.first_item.Goals.{in-Some+else-not-is_saved, in-None}
use Rattle.script_seen.proofs.events.first_item.Goals as goal

pub returns-then-not-is_saved : goal.returns-then-not-is_saved
returns-then-not-is_saved c =
    sym (c.loop-place.invariant
    ∙ unsaved_here (is_saved c.args.set.now c.args.process.0 c.args.state.0) c.args.port.now.items c.loop-place.place c.in-Some.item.now (sym c.in-Some.ensures)
    (sym c.is_saved.ensures ∙ c.if-not-is_saved.true))

pub loop-place-preserved : goal.loop-place-preserved
loop-place-preserved c =
    c.loop-place.invariant
    ∙ elim c.match-get.branch [
      | in-Some+else-not-is_saved w ↦
          saved_on (is_saved c.args.set.now c.args.process.0 c.args.state.0) c.args.port.now.items c.loop-place.place w.in-Some.item.now (sym w.in-Some.ensures)
          (sym w.is_saved.ensures ∙ w.if-not-is_saved.false)
      | in-None w ↦ absurd (no_past c.args.port.now.items c.loop-place.place (omega (arith, c.loop-place-test.true, c.len-place-end.ensures.value)) (sym w.in-None.ensures))
    ]
