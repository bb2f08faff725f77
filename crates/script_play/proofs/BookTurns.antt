-- What a script does on a book is a list of events, and so as the text says.
use Rattle.std.proofs.Common.{◌≡◌, List, [], ◌++◌, refl, sym, ap, ◌∙◌}
use Rattle.turn_code.specs.Valid.{IsValid}
use Rattle.turn_code.specs.declared.draft.Draft.{Draft}
use Rattle.actor_machine.specs.Kept.{opened_book}
use Rattle.actor_machine.specs.Laws.{SetLaw}
use Rattle.actor_machine.specs.Ledger.{Ledger, runs, after_by}
use Rattle.actor_machine.specs.declared.event.Event.{Event}
use Rattle.link_whole.specs.Laws.{EventsLaw}
use Rattle.script_lines.specs.declared.settings.Settings.{Settings}
use Rattle.script_book.specs.Played.{first_book}
use Rattle.script_book.proofs.Growing.{IsGrown, grown_goes}
use Rattle.script_play.specs.Turns.{HasTurns, limits_in}

first_set : (d : Draft) (s : Settings) → (first_book d s).set ≡ d
unfolding opened_book
first_set d s = refl

first_journal : (d : Draft) (s : Settings) → (first_book d s).journal ≡ []
unfolding opened_book
first_journal d s = refl

pub has_turns : EventsLaw → SetLaw → (d : Draft) → IsValid d → HasTurns d
has_turns law sets d valid b sound s commands lines now last range goes =
    let first : Ledger = first_book d s in
    let g : IsGrown first now = grown_goes sets first commands lines now last goes in
    let events : now.journal ≡ g.events = g.journal ∙ ap (λ (es : List Event). es ++ g.events) (first_journal d s) in
    let book : now ≡ after_by (runs d) first now.journal =
    g.book ∙ ap (λ (x : Draft). after_by (runs x) first g.events) (first_set d s) ∙ ap (λ (es : List Event). after_by (runs d) first es) (sym events) in
    law b d (limits_in s) now.journal now sound valid range.most_journal book
