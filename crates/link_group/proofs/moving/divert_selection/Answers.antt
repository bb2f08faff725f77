use Rattle.std.proofs.Common.{rules}
use Rattle.link_group.proofs.Turning.{of-none, off-none, room-left, more-items, more-taken, all-items, all-taken}
use Rattle.link_group.proofs.moving.divert_selection.Goals as goal

pub loop-turn-init : goal.loop-turn-init
loop-turn-init c = (off-none c.args.selection c.args.messages.now.items, of-none c.args.selection c.args.terminal.now, c.requires.whole)

pub turn_one-requires-clause-room : goal.turn_one-requires-clause-room
turn_one-requires-clause-room c =
    room-left c.args.selection c.loop-turn._turn c.args.messages.now.items c.loop-turn.messages.items c.args.terminal.now c.loop-turn.terminal
    c.loop-turn.invariant.0 c.loop-turn.invariant.1 c.requires.room

pub loop-turn-preserved : goal.loop-turn-preserved
loop-turn-preserved c = (
  more-items c.args.selection c.loop-turn._turn c.args.messages.now.items c.loop-turn.messages.items c.turn_one.new.messages.items (search rules)
      c.loop-turn.invariant.0 c.turn_one.ensures.messages,
  more-taken c.args.selection c.loop-turn._turn c.args.messages.now.items c.loop-turn.messages.items c.args.terminal.now c.loop-turn.terminal c.turn_one.new.terminal (search rules)
      c.loop-turn.invariant.0 c.loop-turn.invariant.1 c.turn_one.ensures.terminal,
  c.turn_one.ensures.whole,
)

pub turn_one-requires-clause-whole : goal.turn_one-requires-clause-whole
turn_one-requires-clause-whole c = c.loop-turn.invariant.2

pub returns-clause-terminal : goal.returns-clause-terminal
returns-clause-terminal c = all-taken c.args.selection c.loop-turn._turn c.args.messages.now.items c.args.terminal.now c.loop-turn.terminal (search rules) c.loop-turn.invariant.1

pub returns-clause-messages : goal.returns-clause-messages
returns-clause-messages c = all-items c.args.selection c.loop-turn._turn c.args.messages.now.items c.loop-turn.messages.items (search rules) c.loop-turn.invariant.0

pub returns-clause-whole : goal.returns-clause-whole
returns-clause-whole c = c.loop-turn.invariant.2
