use Rattle.std.proofs.Common.{◌≡◌, ℕ, List, None, refl}
use Rattle.std.specs.Prelude.{◌≢◌, codes}
use Rattle.script_links.specs.TermCommands.{term_verb_of}
use Rattle.script_lines.proofs.NumberLemmas.{bytes_ne}
use Rattle.script_links.proofs.verbs.term_verb_in.Goals as goal

pub returns-in-command : goal.returns-in-command
unfolding term_verb_of
returns-in-command c = rw c.in-command.is refl

pub returns-in-unit : goal.returns-in-unit
unfolding term_verb_of
returns-in-unit c = rw c.in-unit.is refl

pub returns-in-line : goal.returns-in-line
unfolding term_verb_of
returns-in-line c = rw c.in-line.is refl

pub returns-in-msu : goal.returns-in-msu
unfolding term_verb_of
returns-in-msu c = rw c.in-msu.is refl

pub returns-in-out : goal.returns-in-out
unfolding term_verb_of
returns-in-out c = rw c.in-out.is refl

pub returns-in-errors : goal.returns-in-errors
unfolding term_verb_of
returns-in-errors c = rw c.in-errors.is refl

pub returns-in-retrieve : goal.returns-in-retrieve
unfolding term_verb_of
returns-in-retrieve c = rw c.in-retrieve.is refl

pub returns-in-measure : goal.returns-in-measure
unfolding term_verb_of
returns-in-measure c = rw c.in-measure.is refl

-- A word that is none of the verbs.
no_verb : (word : List ℕ)
    → word ≢ codes "command"
    → word ≢ codes "unit"
    → word ≢ codes "line"
    → word ≢ codes "msu"
    → word ≢ codes "out"
    → word ≢ codes "errors"
    → word ≢ codes "retrieve"
    → word ≢ codes "measure"
    → None ≡ term_verb_of word
unfolding term_verb_of
no_verb word n_command n_unit n_line n_msu n_out n_errors n_retrieve n_measure =
    rw (
      bytes_ne word (codes "command") n_command,
      bytes_ne word (codes "unit") n_unit,
      bytes_ne word (codes "line") n_line,
      bytes_ne word (codes "msu") n_msu,
      bytes_ne word (codes "out") n_out,
      bytes_ne word (codes "errors") n_errors,
      bytes_ne word (codes "retrieve") n_retrieve,
      bytes_ne word (codes "measure") n_measure,
    ) refl

pub returns-in_default : goal.returns-in_default
returns-in_default c = no_verb c.args.word.now c.in_default.not-command c.in_default.not-unit c.in_default.not-line c.in_default.not-msu c.in_default.not-out c.in_default.not-errors
    c.in_default.not-retrieve c.in_default.not-measure
