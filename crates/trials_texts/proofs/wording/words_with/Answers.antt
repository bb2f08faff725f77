use Rattle.trials_texts.proofs.wording.words_with.Goals as goal

pub returns : goal.returns
returns c = c.put_all.ensures.words c.args.input.now.variables.items c.args.input.now.parameters.items c.words_of-words.ensures.words
