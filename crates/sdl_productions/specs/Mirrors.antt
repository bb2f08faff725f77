-- How the results of the code's readers correspond to readings.
use Rattle.std.specs.Prelude.{◌≡◌, List, Result, Ok, Err}
use Rattle.std.specs.Borrow.{Bor}
use Rattle.sdl_lex.specs.declared.lexemes.Token.{Token}
use Rattle.sdl_productions.specs.declared.stop.Stop.{Stop}
use Rattle.sdl_productions.specs.declared.stop.Stop.TheVariants.{Unexpected, NoMemory}
use Rattle.sdl_productions.specs.Readings.{Reading, read, fails}

-- The reader stops at the token where the reading fails. `NoMemory` states nothing.
abbrev pub Stops : {B : Type 0} → Stop → Reading B → Type 0
Stops (Unexpected left) r = r ≡ fails left.now
Stops NoMemory r = Unit {0}

-- the reader returns the value and the remaining tokens, or stops where the reading fails
abbrev pub Mirrors :
    {A B : Type 0} → (A → B) → Result (A × Bor (List Token)) Stop → Reading B → Type 0
Mirrors view (Ok found) r = r ≡ read (view found.0) found.1.now
Mirrors view (Err stop) r = Stops stop r

abbrev pub same : {A : Type 0} → A → A
same x = x
