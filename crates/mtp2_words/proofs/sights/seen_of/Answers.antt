use Rattle.std.proofs.Common.{sym, ap, ◌∙◌}
use Rattle.mtp2_words.specs.Words.{says_true}
use Rattle.mtp2_words.specs.declared.seeing.SeeingWords.{SeeingWords}
use Rattle.mtp2_words.specs.Asked.{given_by, AreSeenUnder}
use Rattle.mtp2_words.proofs.Asking.{sees}
use Rattle.mtp2_words.proofs.sights.seen_of.Goals as goal

abbrev words : goal.After-seen_by → SeeingWords
words c = record {
  echo = c.is_given.result;
  trace = c.get_str-2.result;
  chart = c.get_str-3.result;
  turns = c.get_str-4.result;
  coverage = c.get_str-5.result;
  thrown = c.get_str-6.result;
  capture = c.get_str-7.result;
  every = c.is_given-2.result;
}

under_ids : (c : goal.After-seen_by) → AreSeenUnder (given_by c.args.given.now) (words c)
under_ids c = record {
  echo = ap says_true (sym c.get_str.ensures) ∙ sym c.is_given.ensures;
  trace = sym c.get_str-2.ensures;
  chart = sym c.get_str-3.ensures;
  turns = sym c.get_str-4.ensures;
  coverage = sym c.get_str-5.ensures;
  thrown = sym c.get_str-6.ensures;
  capture = sym c.get_str-7.ensures;
  every = ap says_true (sym c.get_str-8.ensures) ∙ sym c.is_given-2.ensures;
}

pub returns-clause-some : goal.returns-clause-some
returns-clause-some c = sees (given_by c.args.given.now) (words c) c.seen_by.result (under_ids c) c.seen_by.ensures.some

pub returns-clause-none : goal.returns-clause-none
returns-clause-none c = λ n. record { words = words c; under_ids = under_ids c; none = c.seen_by.ensures.none n }
