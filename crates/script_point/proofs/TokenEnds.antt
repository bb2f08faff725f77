-- The token that begins at a place, searched from the first token on.
use Rattle.std.proofs.Common.{◌≡◌, ◌∙◌, ℕ, ◌+◌, ◌<◌, ◌==◌, Bool, true, false, if◌then◌else◌, List, ◌∷◌, length, drop, get_or, sym, ap, eq-eqb, ne_eqb}
use Rattle.std.proofs.lemmas.List.{at_drop_more}
use Rattle.sdl_lex.specs.declared.lexemes.Token.{Token}
use Rattle.script_point.specs.Pointing.{token_end}

token_more : (tokens : List Token) (place i : ℕ) (t : Token) → i < length tokens → t ≡ get_or tokens i t
    → token_end (drop i tokens) place ≡ (if t.start == place then t.end else token_end (drop (i + 1) tokens) place)
token_more tokens place i t within is =
    at_drop_more (λ ts. token_end ts place) tokens i t within
    ∙ ap (λ (x : Token). if x.start == place then x.end else token_end (drop (i + 1) tokens) place) (sym is)

pub skipped : (tokens : List Token) (place i : ℕ) (t : Token) → i < length tokens → t ≡ get_or tokens i t → (t.start ≡ place → ⊥)
    → token_end (drop i tokens) place ≡ token_end tokens place → token_end (drop (i + 1) tokens) place ≡ token_end tokens place
skipped tokens place i t within is other h =
    sym (token_more tokens place i t within is
    ∙ ap (λ (b : Bool). if b then t.end else token_end (drop (i + 1) tokens) place) (ne_eqb t.start place other)) ∙ h

pub found : (tokens : List Token) (place i : ℕ) (t : Token) → i < length tokens → t ≡ get_or tokens i t → t.start ≡ place
    → token_end (drop i tokens) place ≡ token_end tokens place → t.end ≡ token_end tokens place
found tokens place i t within is same h =
    sym (token_more tokens place i t within is
    ∙ ap (λ (b : Bool). if b then t.end else token_end (drop (i + 1) tokens) place) (eq-eqb t.start place same)) ∙ h
