use Rattle.trials_texts.proofs.of_slots.by_hand.Given as goal

abbrev pub ghosts-stepped : goal.ghosts-stepped
ghosts-stepped a = record { name = a.blank.name; parts = a.blank.parts }
