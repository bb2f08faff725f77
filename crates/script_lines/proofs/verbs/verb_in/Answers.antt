use Rattle.std.proofs.Common.{◌≡◌, ℕ, List, None, refl}
use Rattle.std.specs.Prelude.{◌≢◌, codes}
use Rattle.script_lines.specs.Commands.{verb_of}
use Rattle.script_lines.proofs.NumberLemmas.{bytes_ne}
use Rattle.script_lines.proofs.verbs.verb_in.Goals as goal

pub returns-in-offer : goal.returns-in-offer
unfolding verb_of
returns-in-offer c = rw c.in-offer.is refl

pub returns-in-begin : goal.returns-in-begin
unfolding verb_of
returns-in-begin c = rw c.in-begin.is refl

pub returns-in-finish : goal.returns-in-finish
unfolding verb_of
returns-in-finish c = rw c.in-finish.is refl

pub returns-in-skip : goal.returns-in-skip
unfolding verb_of
returns-in-skip c = rw c.in-skip.is refl

pub returns-in-state : goal.returns-in-state
unfolding verb_of
returns-in-state c = rw c.in-state.is refl

pub returns-in-tick : goal.returns-in-tick
unfolding verb_of
returns-in-tick c = rw c.in-tick.is refl

pub returns-in-env : goal.returns-in-env
unfolding verb_of
returns-in-env c = rw c.in-env.is refl

pub returns-in-rest : goal.returns-in-rest
unfolding verb_of
returns-in-rest c = rw c.in-rest.is refl

pub returns-in-flood : goal.returns-in-flood
unfolding verb_of
returns-in-flood c = rw c.in-flood.is refl

pub returns-in-value : goal.returns-in-value
unfolding verb_of
returns-in-value c = rw c.in-value.is refl

pub returns-in-expect : goal.returns-in-expect
unfolding verb_of
returns-in-expect c = rw c.in-expect.is refl

-- A word that is none of the verbs.
no_verb : (word : List ℕ)
    → word ≢ codes "offer"
    → word ≢ codes "begin"
    → word ≢ codes "finish"
    → word ≢ codes "skip"
    → word ≢ codes "state"
    → word ≢ codes "tick"
    → word ≢ codes "env"
    → word ≢ codes "rest"
    → word ≢ codes "flood"
    → word ≢ codes "value"
    → word ≢ codes "expect"
    → None ≡ verb_of word
unfolding verb_of
no_verb word n_offer n_begin n_finish n_skip n_state n_tick n_env n_rest n_flood n_value n_expect =
    rw (
      bytes_ne word (codes "offer") n_offer,
      bytes_ne word (codes "begin") n_begin,
      bytes_ne word (codes "finish") n_finish,
      bytes_ne word (codes "skip") n_skip,
      bytes_ne word (codes "state") n_state,
      bytes_ne word (codes "tick") n_tick,
      bytes_ne word (codes "env") n_env,
      bytes_ne word (codes "rest") n_rest,
      bytes_ne word (codes "flood") n_flood,
      bytes_ne word (codes "value") n_value,
      bytes_ne word (codes "expect") n_expect,
    ) refl

pub returns-in_default : goal.returns-in_default
returns-in_default c = no_verb c.args.word.now c.in_default.not-offer c.in_default.not-begin c.in_default.not-finish c.in_default.not-skip c.in_default.not-state c.in_default.not-tick c.in_default.not-env c.in_default.not-rest c.in_default.not-flood c.in_default.not-value c.in_default.not-expect
