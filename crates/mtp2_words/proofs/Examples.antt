-- Command lines for which the clauses of `read` determine the request.
use Rattle.std.proofs.Common.{◌≡◌, [], ◌∷◌, true, refl, codes}
use Rattle.clap.specs.Words.{takes}
use Rattle.clap.proofs.OnLiterals.{clap_on_literals}
use Rattle.mtp2_words.specs.Commands.{all_commands}

-- the commands accept a check of one set, and a check of two
pub one_is_taken : takes all_commands (codes "mtp2_play" ∷ codes "check" ∷ codes "standard" ∷ []) ≡ true
unfolding clap_on_literals
one_is_taken = refl

pub two_are_taken : takes all_commands (codes "mtp2_play" ∷ codes "check" ∷ codes "standard" ∷ codes "monitors" ∷ []) ≡ true
unfolding clap_on_literals
two_are_taken = refl
