-- Senders by the marks of their numbers: one more sender, and a sender that is looked for.
use Rattle.std.proofs.Common.{◌≡◌, ◌<◌, ℕ, zero, suc, Bool, true, false, ◌||◌, List, [], ◌∷◌, ◌++◌, Option, Some, None, length, arith, refl, sym, ap, ◌∙◌}
use Rattle.std.specs.Prelude.{nat_eq, slice_set}
use lib.Dec.{eqb-zero-suc, eqb-suc-zero, eqb-suc-suc}
use Rattle.std.proofs.lemmas.Bool.{eq-eqb}
use Rattle.std.specs.List.{list_any}
use Rattle.std.specs.Option.{option_map_or}
use Rattle.std.proofs.lemmas.List.Folds.{list_any-append}
use Rattle.std.proofs.lemmas.Option.{none-some}
use Rattle.sdl_tables.specs.Routes.{same_party}
use Rattle.sdl_rules.specs.Distinct.{same_numbers, same_sender, sender_number, has_number, HaveMarks}
use Rattle.sdl_scopes.specs.Reaches.{is_marked}
use Rattle.sdl_scopes.specs.declared.sender.Sender.{Sender}
use Rattle.sdl_scopes.specs.declared.sender.Sender.TheVariants.{Nobody, Party}

or_none : (b : Bool) → b ≡ (b || false)
or_none true = refl
or_none false = refl

or_all : (b : Bool) → true ≡ (b || true)
or_all true = refl
or_all false = refl

-- ---- marks

marked_more : (marks : List Bool) (m n : ℕ) → m < length marks → is_marked (slice_set marks m true) n ≡ (is_marked marks n || nat_eq m n)
marked_more [] m n lt = absurd (omega (arith, lt))
marked_more (b ∷ marks) zero zero lt = or_all b ∙ ap (λ t. b || t) (sym (eq-eqb 0 0 refl))
marked_more (b ∷ marks) zero (suc n) lt = or_none (is_marked marks n) ∙ ap (λ t. is_marked marks n || t) (sym (eqb-zero-suc n))
marked_more (b ∷ marks) (suc m) zero lt = or_none b ∙ ap (λ t. b || t) (sym (eqb-suc-zero m))
marked_more (b ∷ marks) (suc m) (suc n) lt = marked_more marks m n (omega (arith, lt)) ∙ ap (λ t. is_marked marks n || t) (sym (eqb-suc-suc m n))

-- ---- one more sender

numbered_so : (n : ℕ) (u : Sender) (o : Option ℕ) → sender_number u ≡ o → has_number n u ≡ option_map_or (λ m. nat_eq m n) o false
numbered_so n u o e = ap (λ (k : Option ℕ). option_map_or (λ m. nat_eq m n) k false) e

pub noted_one : (xs : List Sender) (marks grown new : List Bool) (u : Sender) (m : ℕ) → sender_number u ≡ Some m
    → ((n : ℕ) → is_marked grown n ≡ is_marked marks n) → m < length grown → new ≡ slice_set grown m true → HaveMarks xs marks → HaveMarks (xs ++ u ∷ []) new
noted_one xs marks grown new u m e same lt is have = λ n.
    ap (λ l. is_marked l n) is
    ∙ (marked_more grown m n lt
    ∙ (ap (λ b. b || nat_eq m n) (same n ∙ have n)
    ∙ (ap (λ b. list_any (has_number n) xs || b) (or_none (nat_eq m n) ∙ ap (λ b. b || false) (sym (numbered_so n u (Some m) e)))
    ∙ sym (list_any-append (has_number n) xs (u ∷ [])))))

-- ---- the sender that is looked for

by_number : (o : Option ℕ) (n : ℕ) (named : Bool) → option_map_or (λ m. nat_eq m n) o false ≡ same_numbers o (Some n) named
by_number None n named = refl
by_number (Some m) n named = refl

one_is : (x u : Sender) (n : ℕ) → sender_number u ≡ Some n → has_number n x ≡ same_sender x u
one_is x Nobody n e = absurd (none-some n e)
one_is Nobody (Party y) n e = refl
one_is (Party x) (Party y) n e =
    by_number x.number n (same_party x.party y.party)
    ∙ ap (λ (o : Option ℕ). same_numbers x.number o (same_party x.party y.party)) (sym e)
