-- The run of name bytes that begins at a letter is spelled as a name.
use Rattle.std.proofs.Common.{inl, refl}
use Rattle.sdl_lex.proofs.SliceLemmas.{run_spelled}
use Rattle.sdl_lex.proofs.items.word_item.Goals as goal

pub word_or_name-requires : goal.word_or_name-requires
word_or_name-requires c =
    run_spelled c.args.bytes.now c.args.at c.name_end-end.result c.name_end-end.ensures c.requires.begins

pub returns-in-None-clause-err : goal.returns-in-None-clause-err
returns-in-None-clause-err c =
    let spelled = run_spelled c.args.bytes.now c.args.at c.name_end-end.result c.name_end-end.ensures c.requires.begins in
    (inl (c.name_end-end.result, spelled, c.in-None.ensures.none), refl)
