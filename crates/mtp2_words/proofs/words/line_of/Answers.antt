use Rattle.std.proofs.Common.{sym, inr, ap, ◌∙◌}
use Rattle.mtp2_words.specs.Words.{says_true}
use Rattle.mtp2_words.specs.declared.ends.LineWords.{LineWords}
use Rattle.mtp2_words.specs.Asked.{given_by, AreUnderIds}
use Rattle.mtp2_words.proofs.Asking.{ends}
use Rattle.mtp2_words.proofs.words.line_of.Goals as goal

abbrev words : goal.After-line_end → LineWords
words c = record {
  mode = c.in_ok-mode.mode;
  n1 = c.get_str-2.result;
  n2 = c.get_str-3.result;
  orders = c.get_str-4.result;
  reports = c.get_str-5.result;
  bits = c.get_str-6.result;
  ahead = c.get_str-7.result;
  capture = c.get_str-8.result;
  trace = c.get_str-9.result;
  every = c.is_given.result;
  measures = c.get_str-11.result;
}

under_ids : (c : goal.After-line_end) → AreUnderIds (given_by c.args.given.now) (words c)
under_ids c = record {
  mode = sym c.in_ok-mode.ensures;
  n1 = sym c.get_str-2.ensures;
  n2 = sym c.get_str-3.ensures;
  orders = sym c.get_str-4.ensures;
  reports = sym c.get_str-5.ensures;
  bits = sym c.get_str-6.ensures;
  ahead = sym c.get_str-7.ensures;
  capture = sym c.get_str-8.ensures;
  trace = sym c.get_str-9.ensures;
  every = ap says_true (sym c.get_str-10.ensures) ∙ sym c.is_given.ensures;
  measures = sym c.get_str-11.ensures;
}

pub returns-clause-some : goal.returns-clause-some
returns-clause-some c = ends (given_by c.args.given.now) (words c) (under_ids c) c.line_end.result c.line_end.ensures.some

pub returns-clause-none : goal.returns-clause-none
returns-clause-none c = λ n. inr (record { words = words c; under_ids = under_ids c; no_end = c.line_end.ensures.none n })
