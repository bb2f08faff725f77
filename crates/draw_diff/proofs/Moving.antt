-- An item that has a number on one side has the number of its namesake on the other side.
use Rattle.std.proofs.Common.{◌≡◌, ◌∙◌, ℕ, List, Option, Some, None, position, sym, ap}
use Rattle.std.specs.Prelude.{slice_get}
use Rattle.draw_diff.specs.Names.{same_name, octet, numbered, moved}

pub none_moved : {A : Type 0} (name : A → List ℕ) (olds news : List A) (n : ℕ) (r : Option ℕ) → slice_get olds n ≡ None → r ≡ None
    → r ≡ moved name olds news n
none_moved name olds news n r e h = h ∙ sym (ap (λ o. numbered name news o) e)

pub some_moved : {A : Type 0} (name : A → List ℕ) (olds news : List A) (n : ℕ) (x : A) (b : List ℕ) (p r : Option ℕ) → slice_get olds n ≡ Some x
    → b ≡ name x → p ≡ position (λ y. same_name b (name y)) news → r ≡ octet p → r ≡ moved name olds news n
some_moved name olds news n x b p r e k h i =
    i ∙ (ap octet (h ∙ ap (λ b. position (λ y. same_name b (name y)) news) k) ∙ sym (ap (λ o. numbered name news o) e))
