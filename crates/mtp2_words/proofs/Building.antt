-- How commands are built with clap.
use Rattle.std.proofs.Common.{◌≡◌, ◌∙◌, ◌||◌, Bool, true, false, List, [], Option, refl, sym, ap, ap₂, subst, inl, inr, ◌⊎◌}
use Rattle.clap.specs.Words.{App, HasMatchesOf, IsAmong, Row, Rule, Text, app_of, fault_of, is_simple, is_simple_and_free, rule_of, subcommand_of, subcommand_rows_of, takes, with_rule, with_subcommand, AddsArg, AddsSubcommand}
use Rattle.clap.specs.declared.builder.command.Command.{Command}
use Rattle.clap.specs.declared.builder.arg.Arg.{Arg}
use Rattle.clap.specs.declared.parser.matches.ArgMatches.{ArgMatches}
use Rattle.clap.specs.declared.error.kind.ErrorKind.{ErrorKind}
use Rattle.clap.specs.declared.error.kind.ErrorKind.TheVariants.{OutOfMemory}
use Rattle.mtp2_words.specs.Asked.{IsAskedBy, SaysNothing}
use Rattle.mtp2_words.specs.Commands.{all_commands, IsCommand}
use Rattle.mtp2_words.specs.TurnedDown.{IsTurnedDown}
use Rattle.mtp2_words.specs.declared.requests.Request.{Request}

neither : (a b c : Bool) → a ≡ (b || c) → b ≡ false → c ≡ false → a ≡ false
neither a b c e f g = e ∙ ap₂ (λ x y. x || y) f g

-- one more word
pub with_word : (app : App) (rule : Rule) (old : Command) (arg : Arg) (new : Command) → IsCommand app old → rule_of arg ≡ rule → arg.global ≡ false
    → AddsArg old arg new → IsCommand (with_rule app rule) new
with_word app rule old arg new c r g a = record {
  app_is = a.shape g ∙ ap₂ with_rule c.app_is r;
  local = neither _ _ _ a.globals c.local g;
}

-- one more command
pub with_command : (app sub : App) (old command new : Command) → IsCommand app old → IsCommand sub command → AddsSubcommand old command new
    → IsCommand (with_subcommand app sub.top) new
with_command app sub old command new c s a = record {
  app_is = a.shape s.local ∙ ap₂ with_subcommand c.app_is (ap (λ (x : App). x.top) s.app_is);
  local = neither _ _ _ a.globals c.local s.local;
}

-- ---- the result of parsing words

are_simple : is_simple all_commands ≡ true
are_simple = refl

rows_are : (commands : Command) (words : List Text) (matches : ArgMatches) → IsCommand all_commands commands
    → HasMatchesOf (app_of commands) words matches → subcommand_rows_of matches ≡ subcommand_of all_commands words
rows_are commands words matches c h = (h (ap is_simple c.app_is ∙ are_simple)).1 ∙ ap (λ a. subcommand_of a words) c.app_is

pub reads : (commands : Command) (words : List Text) (matches : ArgMatches) (request : Request) → IsCommand all_commands commands
    → HasMatchesOf (app_of commands) words matches → IsAskedBy (subcommand_rows_of matches) request
    → IsAskedBy (subcommand_of all_commands words) request
reads commands words matches request c h a =
    let P : Option (Text × List Row) → Type 0 = λ o. IsAskedBy o request in subst P (rows_are commands words matches c h) a

pub says_nothing : (commands : Command) (words : List Text) (matches : ArgMatches) → IsCommand all_commands commands
    → HasMatchesOf (app_of commands) words matches → SaysNothing (subcommand_rows_of matches) → SaysNothing (subcommand_of all_commands words)
says_nothing commands words matches c h s =
    let P : Option (Text × List Row) → Type 0 = λ o. SaysNothing o in subst P (rows_are commands words matches c h) s

pub refuses : (commands : Command) (words : List Text) (kind : ErrorKind) → IsCommand all_commands commands
    → (takes (app_of commands) words ≡ true → kind ≡ OutOfMemory) → takes all_commands words ≡ true → kind ≡ OutOfMemory
refuses commands words kind c h t = h (ap (λ a. takes a words) c.app_is ∙ t)

-- ---- the faults that a parse reports

are_free : is_simple_and_free all_commands ≡ true
are_free = refl

-- accepted words have no fault
pub has_no_fault : (commands : Command) (words : List Text) → IsCommand all_commands commands
    → (is_simple_and_free (app_of commands) ≡ true → fault_of (app_of commands) words ≡ []) → fault_of all_commands words ≡ []
has_no_fault commands words c h =
    ap (λ a. fault_of a words) (sym c.app_is) ∙ h (ap is_simple_and_free c.app_is ∙ are_free)

turned_down_by : (words : List Text) (kind : ErrorKind) → (kind ≡ OutOfMemory) ⊎ IsAmong kind (fault_of all_commands words) → IsTurnedDown words kind
turned_down_by words kind (inl wanting) = inl wanting
turned_down_by words kind (inr among) = inr (inl among)

-- refused words have the reported fault
pub has_fault : (commands : Command) (words : List Text) (kind : ErrorKind) → IsCommand all_commands commands
    → (is_simple_and_free (app_of commands) ≡ true → (kind ≡ OutOfMemory) ⊎ IsAmong kind (fault_of (app_of commands) words)) → IsTurnedDown words kind
has_fault commands words kind c h =
    let P : App → Type 0 = λ a. (kind ≡ OutOfMemory) ⊎ IsAmong kind (fault_of a words) in
    turned_down_by words kind (subst P c.app_is (h (ap is_simple_and_free c.app_is ∙ are_free)))
