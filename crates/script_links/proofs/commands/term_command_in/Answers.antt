use Rattle.std.proofs.Common.{◌≡◌, ◌∙◌}
use Rattle.std.specs.Prelude.{option_map}
use Rattle.std.proofs.lemmas.Result.{IfOk-weaker}
use Rattle.script_lines.specs.Lines.{texts}
use Rattle.script_links.specs.TermCommands.{plain_term_command, term_command_of}
use Rattle.script_links.proofs.Spelled.{other_command}
use Rattle.script_links.proofs.commands.term_command_in.Goals as goal

pub returns-in-len3-up : goal.returns-in-len3-up
returns-in-len3-up c =
    IfOk-weaker c.words_in.result _ (λ r. option_map plain_term_command r ≡ term_command_of (texts c.args.words.now))
    (λ r is. is ∙ other_command c.args.words.now c.in-len3-up.len_at_least) c.words_in.ensures
