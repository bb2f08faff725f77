use Rattle.std.proofs.Common.{sym}
use Rattle.actor_book.proofs.Meant.{finishes_by_text}
use Rattle.actor_book.proofs.Putting.{is_ending, ends_there}
use Rattle.actor_book.proofs.book.Book.end_there.Goals as goal

pub end_by-requires : goal.end_by-requires
end_by-requires c = is_ending c.args.self.now c.args.room.now c.args.actor c.ended.result.now c.requires c.ended.ensures

pub returns-clause-ends : goal.returns-clause-ends
returns-clause-ends c =
    ends_there c.args.self.now c.end_by.new.self c.args.room.now c.args.actor c.end_by.result c.requires c.end_by.ensures.book c.end_by.ensures.answer
    (finishes_by_text c.text_law.ensures c.args.self.now c.args.actor c.end_by.result c.end_by.new.self c.keeps.ensures c.end_by.ensures.book (sym c.end_by.ensures.answer))
    c.end_by.ensures.within
