use Rattle.std.proofs.Common.{rules, ◌≡◌, pos, w32, SFits, to_z-of_z, ap, ◌∙◌}
use Rattle.turn_code.specs.declared.value.Value.TheVariants.{Int}
use Rattle.turn_code.specs.Bare.{bare_of, pushed}
use Rattle.trials_texts.proofs.Putting.{put_one}
use Rattle.trials_texts.proofs.wording.+put_all.Goals as goal

pub returns-in-len1-up-clause-words : goal.returns-in-len1-up-clause-words
returns-in-len1-up-clause-words t c =
    let fits : SFits w32 c.word_of.result = search rules in
    let put : bare_of c.push.new.words ≡ pushed (bare_of c.put_all.new.words) c.word_of.result =
    c.push.ensures ∙ ap (λ z. pushed (bare_of c.put_all.new.words) z) (to_z-of_z fits) in
    λ vs ps h.
    put_one c.args.operands.now (Int (pos 0)) (bare_of c.put_all.new.words) (bare_of c.push.new.words) c.word_of.result vs ps c.in-len1-up.len_at_least
    (c.put_all.ensures.words vs ps h) put c.word_of.ensures
