use Rattle.std.proofs.Common.{List, map, string_bytes, inl, inr}
use Rattle.std.proofs.lemmas.Result.{err_from_is_err_and}
use Rattle.clap.specs.Words.{Text}
use Rattle.mtp2_words.proofs.Building.{reads, refuses, says_nothing, has_no_fault, has_fault}
use Rattle.mtp2_words.proofs.Asking.{asked_some, said_none}
use Rattle.mtp2_words.proofs.words.read.Goals as goal

pub returns-in_err-matches-clause-refused : goal.returns-in_err-matches-clause-refused
returns-in_err-matches-clause-refused c =
    let words : List Text = map string_bytes c.args.given.now in
    let p = err_from_is_err_and c.from_residual-in_err-matches.result c.from_residual-in_err-matches.ensures.1 in
    rw (p.1, p.2) (has_fault c.in_ok-commands.commands words _ c.in_ok-commands.ensures c.in_err-matches.ensures.kinds)

pub returns-in_err-matches-clause-in_vain : goal.returns-in_err-matches-clause-in_vain
returns-in_err-matches-clause-in_vain c =
    let words : List Text = map string_bytes c.args.given.now in
    let p = err_from_is_err_and c.from_residual-in_err-matches.result c.from_residual-in_err-matches.ensures.1 in
    rw (p.1, p.2) (λ t. inl (refuses c.in_ok-commands.commands words _ c.in_ok-commands.ensures c.in_err-matches.ensures.passes t))

pub returns-in-Some-clause-taken : goal.returns-in-Some-clause-taken
returns-in-Some-clause-taken c =
    let words : List Text = map string_bytes c.args.given.now in
    has_no_fault c.in_ok-commands.commands words c.in_ok-commands.ensures c.in_ok-matches.ensures.kinds

pub returns-in-Some-clause-asked : goal.returns-in-Some-clause-asked
returns-in-Some-clause-asked c =
    let words : List Text = map string_bytes c.args.given.now in
    reads c.in_ok-commands.commands words c.in_ok-matches.matches c.in-Some.request c.in_ok-commands.ensures c.in_ok-matches.ensures.ok.2
    (asked_some c.in_ok-request.request c.in-Some.request _ c.in-Some.is c.in_ok-request.ensures.asked)

pub returns-clause-refused : goal.returns-clause-refused
returns-clause-refused c =
    let words : List Text = map string_bytes c.args.given.now in
    inr (inr (
      has_no_fault c.in_ok-commands.commands words c.in_ok-commands.ensures c.in_ok-matches.ensures.kinds,
      c.in_ok-error-in-None.ensures.kind,
      says_nothing c.in_ok-commands.commands words c.in_ok-matches.matches c.in_ok-commands.ensures
          c.in_ok-matches.ensures.ok.2 (said_none c.in_ok-request.request _ c.in-None.is c.in_ok-request.ensures.none),
    ))

pub returns-clause-in_vain : goal.returns-clause-in_vain
returns-clause-in_vain c =
    let words : List Text = map string_bytes c.args.given.now in
    λ t. inr (
      c.in_ok-error-in-None.ensures.kind,
      says_nothing c.in_ok-commands.commands words c.in_ok-matches.matches c.in_ok-commands.ensures
          c.in_ok-matches.ensures.ok.2 (said_none c.in_ok-request.request _ c.in-None.is c.in_ok-request.ensures.none),
    )
