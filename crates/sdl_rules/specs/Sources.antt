-- The senders gathered so far: which signals reach all of them, and which parties and rows are
-- marked.
use Rattle.std.specs.Prelude.{◌≡◌, ◌⊎◌, ℕ, Bool, true, Option, Some, List, All}
use Rattle.std.specs.List.{list_all}
use Rattle.sdl_ast.specs.Plain.{PlainProcess, PlainBlock}
use Rattle.sdl_ast.specs.declared.expression.Identifier.{Identifier}
use Rattle.sdl_tables.specs.Names.{number_of}
use Rattle.sdl_sound.specs.Receivers.{party_of, carries, answers}
use Rattle.sdl_scopes.specs.Parties.{party_number, IsSender, gets_back}
use Rattle.sdl_scopes.specs.Reaches.{is_marked}
use Rattle.sdl_ast.specs.declared.tree.Party as the_party
use Rattle.sdl_rules.specs.declared.gathered.Gathered.{Gathered}
use Rattle.sdl_rules.specs.declared.sources.Senders.{Senders}

-- The signals that reach all gathered senders are those that f allows. They also reach each party
-- whose number is marked.
pub record Gathers (b : PlainBlock) (p : PlainProcess) (g : Senders) (f : List ℕ → Bool) :
    Type 0 where
  pub told : (s : List ℕ) → list_all (gets_back b p s) g.list.items ≡ f s
  pub seen : (s : List ℕ) → f s ≡ true → (q : the_party.Party) (n : ℕ) → party_number b q ≡ Some n
      → is_marked g.seen.items n ≡ true
      → carries b (party_of p) q s ≡ true
  pub numbered : All (IsSender b) g.list.items

-- As `Gathers`, when rows are added. A signal that f allows also reaches all possible senders of
-- each signal and timer whose row is marked.
pub record Asks (b : PlainBlock) (p : PlainProcess) (names : List Identifier) (g : Gathered)
    (f : List ℕ → Bool) : Type 0 where
  pub gathers : Gathers b p g.senders f
  pub asked :
      (s : List ℕ) → f s ≡ true → (name : List ℕ) (n : ℕ) → number_of names name ≡ Some n
      → is_marked g.asked.items n ≡ true
      → answers b p s name ≡ true

-- Each number with a mark now had one before, or is this number.
abbrev pub Marks : Option ℕ → List Bool → List Bool → Type 0
Marks number old new =
    (n : ℕ) → is_marked new n ≡ true → (number ≡ Some n) ⊎ (is_marked old n ≡ true)
