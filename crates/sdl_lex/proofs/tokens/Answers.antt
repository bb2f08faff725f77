-- The result is the text's one answer.
use Rattle.std.proofs.Common.{◌<◌, length}
use Rattle.sdl_lex.specs.Limits.{LONGEST_TEXT}
use Rattle.sdl_lex.specs.Lexed.{over_long}
use Rattle.sdl_lex.proofs.OneLemmas.{agreed, found_in_room, fault_in_room, one_answer_lem}
use Rattle.sdl_lex.proofs.tokens.Goals as goal

pub returns-then-bytes-gt-MAX_TEXT-clause-fault : goal.returns-then-bytes-gt-MAX_TEXT-clause-fault
returns-then-bytes-gt-MAX_TEXT-clause-fault c = rw (← c.as_bytes-bytes.ensures.value) (over_long c.if-bytes-gt-MAX_TEXT.true)

pub returns-then-bytes-gt-MAX_TEXT-clause-exact : goal.returns-then-bytes-gt-MAX_TEXT-clause-exact
returns-then-bytes-gt-MAX_TEXT-clause-exact c = λ answer is.
    let long : LONGEST_TEXT < length c.args.text.now = rw (← c.as_bytes-bytes.ensures.value) c.if-bytes-gt-MAX_TEXT.true in
    one_answer_lem c.args.text.now answer _ is (over_long long)

pub returns-clause-lexed : goal.returns-clause-lexed
returns-clause-lexed c =
    let same = c.as_bytes-bytes.ensures.value in
    rw (← same) (found_in_room c.as_bytes-bytes.result.now c.all_tokens.result c.if-bytes-gt-MAX_TEXT.false c.all_tokens.ensures.lexed)

pub returns-clause-fault : goal.returns-clause-fault
returns-clause-fault c =
    let same = c.as_bytes-bytes.ensures.value in
    rw (← same) (fault_in_room c.as_bytes-bytes.result.now c.all_tokens.result c.if-bytes-gt-MAX_TEXT.false c.all_tokens.ensures.fault)

pub returns-clause-exact : goal.returns-clause-exact
returns-clause-exact c =
    let same = c.as_bytes-bytes.ensures.value in
    rw (← same)
    (agreed c.as_bytes-bytes.result.now c.all_tokens.result
    (found_in_room c.as_bytes-bytes.result.now c.all_tokens.result c.if-bytes-gt-MAX_TEXT.false c.all_tokens.ensures.lexed)
    (fault_in_room c.as_bytes-bytes.result.now c.all_tokens.result c.if-bytes-gt-MAX_TEXT.false c.all_tokens.ensures.fault))
