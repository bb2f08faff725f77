use Rattle.std.proofs.Common.{Some, ◌≡◌}
use Rattle.clap.specs.Words.{found_of, rows_of, subcommand_rows_of}
use Rattle.mtp2_words.proofs.Asking.{entered, asked_by, all_ask_nothing}
use Rattle.mtp2_words.proofs.words.request_of.Goals as goal

entered_here : (c : goal.After-asked) → subcommand_rows_of c.args.matches.now ≡ Some (c.in-Some.name.now, rows_of (found_of c.in-Some.given.now))
entered_here c = entered c.args.matches.now c.in-Some.given.now c.in-Some.name.now c.in-Some.ensures.name c.in-Some.ensures.rows

pub returns-in-Some-clause-asked : goal.returns-in-Some-clause-asked
returns-in-Some-clause-asked c = asked_by c.args.matches.now c.in-Some.given.now c.in-Some.name.now (entered_here c) c.asked.result
    c.asked.ensures.named c.asked.ensures.asked c.asked.ensures.all

pub returns-in-Some-clause-none : goal.returns-in-Some-clause-none
returns-in-Some-clause-none c = all_ask_nothing c.args.matches.now c.in-Some.given.now c.in-Some.name.now (entered_here c) c.asked.result c.asked.ensures.none
