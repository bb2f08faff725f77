-- The tokens of a text without the word SYNONYM.
use Rattle.std.proofs.Common.{◌≡◌, ℕ, Bool, true, false, ◌||◌, List, [], ◌∷◌, Ok, map, refl, sym, ap, ◌∙◌, subst}
use Rattle.std.specs.List.{list_any}
use Rattle.sdl_lex.specs.Lexed.{Answers, in_room, Lexed, is_synonym, marked}
use Rattle.sdl_lex.specs.declared.lexemes.Token.{Token}
use Rattle.sdl_ast.specs.Synonymless.{EachOf}
use Rattle.sdl_tree.specs.PlainTokens.{IsPlainToken}

lexed_of : (text : List ℕ) (tokens : List Token) → Answers text (Ok tokens) → Lexed text tokens
lexed_of text tokens (in_room small gives) = gives

-- a mark leaves the lexemes
marks_same : (b : Bool) (ts : List Token) → list_any is_synonym (map (marked b) ts) ≡ list_any is_synonym ts
marks_same b [] = refl
marks_same b (t ∷ ts) = ap (λ r. is_synonym t || r) (marks_same b ts)

neither : (a b : Bool) → a || b ≡ false → (a ≡ false) × (b ≡ false)
neither true b h = absurd (let k : ⊥ = cc in k)
neither false b h = (refl, h)

plain_marked : (b : Bool) (ts : List Token) → b ≡ false → list_any is_synonym ts ≡ false → EachOf IsPlainToken (map (marked b) ts)
plain_marked b [] h none = tt
plain_marked b (t ∷ ts) h none =
    let parts = neither (is_synonym t) (list_any is_synonym ts) none in
    ((h, parts.0), plain_marked b ts h parts.1)

pub plain_tokens : (text : List ℕ) (tokens : List Token) → Answers text (Ok tokens) → list_any is_synonym tokens ≡ false → EachOf IsPlainToken tokens
plain_tokens text tokens answers none =
    let l = lexed_of text tokens answers in
    let mark = list_any is_synonym l.0 in
    let unmarked : list_any is_synonym l.0 ≡ false = sym (marks_same mark l.0) ∙ (sym (ap (list_any is_synonym) l.2) ∙ none) in
    subst (λ (ts : List Token). EachOf IsPlainToken ts) (sym l.2) (plain_marked mark l.0 unmarked unmarked)
