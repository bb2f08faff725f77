use Rattle.std.proofs.Common.{◌≡◌, ◌∙◌, ap, refl, ◌++◌, if◌then◌else◌, [], ◌∷◌}
use Rattle.sdl_tables.specs.declared.route_index.Passage.{Passage}
use Rattle.sdl_tables.specs.RouteIndexes.{Mention, held, same_end, passage_of}
use Rattle.sdl_tables.proofs.Indexing.{index_known, index_new}
use Rattle.sdl_tables.proofs.route_index.RouteIndex.add.Goals as goal

pub returns-in_ok-add-2 : goal.returns-in_ok-add-2
returns-in_ok-add-2 c = λ ms indexed.
    let m : Mention = record { from = c.args.from.now; to = c.args.to.now; signal = c.args.signal } in
    let key : Passage = record { from = c.side_of.result; to = c.side_of-2.result; signal = c.folded.result } in
    let way : key ≡ passage_of m.from m.to m.signal = λ i. record { from = c.side_of.ensures i; to = c.side_of-2.ensures i; signal = c.folded.ensures i } in
    index_new c.args.self.now (record { carried = c.insert.new.self; receivers = c.add.new.self; senders = c.add-then-branch.new.self }) ms m key c.in_ok-insert.field-0
    way indexed c.in_ok-insert.ensures.added c.in_ok-insert.ensures.updates.0 c.if-branch.true
    (λ k. c.in_ok-add.ensures k ∙ ap (λ e. held c.args.self.now.receivers k ++ (if same_end e k then m.to ∷ [] else [])) c.end_of.ensures)
    (λ k. c.in_ok-add-2.ensures k ∙ ap (λ e. held c.args.self.now.senders k ++ (if same_end e k then m.from ∷ [] else [])) c.end_of-then-branch.ensures)

pub returns-else-branch : goal.returns-else-branch
returns-else-branch c = λ ms indexed.
    let m : Mention = record { from = c.args.from.now; to = c.args.to.now; signal = c.args.signal } in
    let key : Passage = record { from = c.side_of.result; to = c.side_of-2.result; signal = c.folded.result } in
    let way : key ≡ passage_of m.from m.to m.signal = λ i. record { from = c.side_of.ensures i; to = c.side_of-2.ensures i; signal = c.folded.ensures i } in
    index_known c.args.self.now (record { carried = c.insert.new.self; receivers = c.args.self.now.receivers; senders = c.args.self.now.senders }) ms m key c.in_ok-insert.field-0
    way indexed c.in_ok-insert.ensures.added c.in_ok-insert.ensures.updates.0 c.if-branch.false refl refl
