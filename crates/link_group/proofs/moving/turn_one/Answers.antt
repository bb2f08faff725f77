use Rattle.std.proofs.Common.{rules}
use Rattle.link_group.proofs.Turning.{on-terminal, on-rest, other-terminal, other-rest, none-terminal, none-rest, whole-first, whole-rest, room-one}
use Rattle.std.proofs.lemmas.List.Elements.{All-push}
use Rattle.resend_store.specs.Messages.{IsMessage}
use Rattle.link_group.proofs.moving.turn_one.Goals as goal

pub returns-then-selection_of-selection-clause-terminal :
    goal.returns-then-selection_of-selection-clause-terminal
returns-then-selection_of-selection-clause-terminal c =
    on-terminal c.args.selection c.in-Some.msu c.args.messages.now.items c.pop_front.new.self.items c.args.terminal.now c.give.new.terminal c.in-Some.ensures.items (search rules) c.give.ensures

pub returns-then-selection_of-selection-clause-messages :
    goal.returns-then-selection_of-selection-clause-messages
returns-then-selection_of-selection-clause-messages c =
    on-rest c.args.selection c.in-Some.msu c.args.messages.now.items c.pop_front.new.self.items c.in-Some.ensures.items (search rules)

pub returns-then-selection_of-selection-clause-whole :
    goal.returns-then-selection_of-selection-clause-whole
returns-then-selection_of-selection-clause-whole c =
    whole-rest c.args.messages.now.items c.pop_front.new.self.items c.in-Some.msu c.in-Some.ensures.items c.requires.whole

pub returns-else-selection_of-selection-clause-terminal :
    goal.returns-else-selection_of-selection-clause-terminal
returns-else-selection_of-selection-clause-terminal c =
    other-terminal c.args.selection c.in-Some.msu c.args.messages.now.items c.pop_front.new.self.items c.args.terminal.now c.in-Some.ensures.items (search rules)

pub returns-else-selection_of-selection-clause-messages :
    goal.returns-else-selection_of-selection-clause-messages
returns-else-selection_of-selection-clause-messages c =
    other-rest c.args.selection c.in-Some.msu c.args.messages.now.items c.pop_front.new.self.items c.push_back_reserved.new.self.items c.in-Some.ensures.items (search rules) c.push_back_reserved.ensures.items

pub returns-else-selection_of-selection-clause-whole :
    goal.returns-else-selection_of-selection-clause-whole
returns-else-selection_of-selection-clause-whole c =
    rw c.push_back_reserved.ensures.items
    (All-push IsMessage c.pop_front.new.self.items c.in-Some.msu
    (whole-rest c.args.messages.now.items c.pop_front.new.self.items c.in-Some.msu c.in-Some.ensures.items c.requires.whole)
    (whole-first c.args.messages.now.items c.pop_front.new.self.items c.in-Some.msu c.in-Some.ensures.items c.requires.whole))

pub returns-in-None-clause-terminal : goal.returns-in-None-clause-terminal
returns-in-None-clause-terminal c = none-terminal c.args.selection c.args.messages.now.items c.args.terminal.now (search rules)

pub returns-in-None-clause-messages : goal.returns-in-None-clause-messages
returns-in-None-clause-messages c = none-rest c.args.selection c.args.messages.now.items c.pop_front.new.self.items (search rules) (search rules)

pub give-requires-clause-room : goal.give-requires-clause-room
give-requires-clause-room c =
    room-one c.args.selection _ c.in-Some.msu c.args.messages.now.items c.pop_front.new.self.items c.in-Some.ensures.items (search rules) c.requires.room
