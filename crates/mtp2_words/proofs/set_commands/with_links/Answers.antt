use Rattle.std.proofs.Common.{codes, refl}
use Rattle.std.proofs.lemmas.Result.{IfOk-weaker}
use Rattle.clap.specs.Words.{app_of}
use Rattle.mtp2_words.specs.Commands.{option_word, needed_word, needed_words, IsCommand}
use Rattle.mtp2_words.proofs.Building.{with_word}
use Rattle.mtp2_words.proofs.set_commands.with_links.Goals as goal

pub returns : goal.returns
returns c = λ local.
    let begun : IsCommand (app_of c.args.command) c.args.command = record { app_is = refl; local = local } in
    let link = with_word _ (needed_words (codes "link")) _ c.needed_words-link.result c.in_ok-arg.field-0 begun
    c.needed_words-link.ensures.rule c.needed_words-link.ensures.local c.in_ok-arg.ensures in
    let own = with_word _ (needed_word (codes "own")) _ c.needed_word-own.result c.in_ok-arg-2.field-0 link
    c.needed_word-own.ensures.rule c.needed_word-own.ensures.local c.in_ok-arg-2.ensures in
    let peer = with_word _ (needed_word (codes "peer")) _ c.needed_word-peer.result c.in_ok-arg-3.field-0 own
    c.needed_word-peer.ensures.rule c.needed_word-peer.ensures.local c.in_ok-arg-3.ensures in
    let network = with_word _ (option_word (codes "network")) _ c.option_word-network.result c.in_ok-arg-4.field-0 peer
    c.option_word-network.ensures.rule c.option_word-network.ensures.local c.in_ok-arg-4.ensures in
    IfOk-weaker c.arg-5.result _ _ (λ r a. with_word _ (option_word (codes "set")) _ c.option_word-set.result r network
    c.option_word-set.ensures.rule c.option_word-set.ensures.local a) c.arg-5.ensures
