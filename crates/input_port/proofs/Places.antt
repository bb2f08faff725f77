-- The item at an index, and the first item that isn't saved.
use Rattle.std.proofs.Common.{◌≡◌, ℕ, zero, suc, ◌+◌, Bool, true, false, cond, List, [], ◌∷◌, ◌++◌, take, drop, Option, Some, None, IfSome, refl, sym, ap, subst, ◌∙◌, arith, append_assoc}
use Rattle.std.specs.List.{slice_get, remove}
use Rattle.input_port.specs.declared.queue.Item.{Item}
use Rattle.std.proofs.lemmas.Option.{same_Some}
use Rattle.input_port.specs.Queue.{first_unsaved, without_first, Takes}

one_more : (i : ℕ) → i + 1 ≡ suc i
one_more i = omega arith

one_behind : (k : ℕ) → suc k + 1 ≡ suc (k + 1)
one_behind k = omega arith

-- the items from an index on, and the items before the next index
here : (items : List Item) (i : ℕ) (x : Item) → slice_get items i ≡ Some x → (drop i items ≡ x ∷ drop (suc i) items) × (take (i + 1) items ≡ take i items ++ x ∷ [])
here items i x e = at items i x e
  where
    at : (xs : List Item) (k : ℕ) (y : Item) → slice_get xs k ≡ Some y → (drop k xs ≡ y ∷ drop (suc k) xs) × (take (k + 1) xs ≡ take k xs ++ y ∷ [])
    at [] k y h = absurd (cc)
    at (z ∷ xs) zero y h = (ap (λ v. v ∷ xs) (same_Some z y h), ap (λ v. v ∷ []) (same_Some z y h))
    at (z ∷ xs) (suc k) y h = let on = at xs k y h in (on.0, ap (λ n. take n (z ∷ xs)) (one_behind k) ∙ ap (λ ys. z ∷ ys) on.1)

-- an item at an index after only saved items
module _ (saved : Item → Bool) (items : List Item) (i : ℕ) (x : Item) (there : slice_get items i ≡ Some x) where
  -- it isn't saved, so it is the first
  pub first_here : saved x ≡ false → first_unsaved saved (drop i items) ≡ first_unsaved saved items → slice_get items i ≡ first_unsaved saved items
  first_here out passed =
      there
      ∙ sym (ap (first_unsaved saved) (here items i x there).0 ∙ ap (λ b. cond b (first_unsaved saved (drop (suc i) items)) (Some x)) out)
      ∙ passed

  pub left_here : saved x ≡ false → take i items ++ without_first saved (drop i items) ≡ without_first saved items → remove items i ≡ without_first saved items
  left_here out passed =
      ap (λ ys. take i items ++ ys) (sym (ap (without_first saved) (here items i x there).0 ∙ ap (λ b. cond b (x ∷ without_first saved (drop (suc i) items)) (drop (suc i) items)) out))
      ∙ passed

  -- it is saved too
  pub first_behind : saved x ≡ true → first_unsaved saved (drop i items) ≡ first_unsaved saved items → first_unsaved saved (drop (i + 1) items) ≡ first_unsaved saved items
  first_behind is_saved passed =
      ap (λ n. first_unsaved saved (drop n items)) (one_more i)
      ∙ sym (ap (first_unsaved saved) (here items i x there).0 ∙ ap (λ b. cond b (first_unsaved saved (drop (suc i) items)) (Some x)) is_saved)
      ∙ passed

  pub left_behind : saved x ≡ true → take i items ++ without_first saved (drop i items) ≡ without_first saved items
      → take (i + 1) items ++ without_first saved (drop (i + 1) items) ≡ without_first saved items
  left_behind is_saved passed =
      let rest = without_first saved (drop (suc i) items) in
      ap (λ n. take (i + 1) items ++ without_first saved (drop n items)) (one_more i)
      ∙ ap (λ ys. ys ++ rest) (here items i x there).1
      ∙ append_assoc (take i items) (x ∷ []) rest
      ∙ ap (λ ys. take i items ++ ys) (sym (ap (without_first saved) (here items i x there).0 ∙ ap (λ b. cond b (x ∷ rest) (drop (suc i) items)) is_saved))
      ∙ passed

first_taken : (saved : Item → Bool) (x : Item) (items : List Item) (item : Item) → ((e : first_unsaved saved items ≡ Some item) → Takes saved items item (without_first saved items)) → first_unsaved saved (x ∷ items) ≡ Some item → Takes saved (x ∷ items) item (without_first saved (x ∷ items))
first_taken saved x items item later =
    elim (saved x) as (λ b. saved x ≡ b → cond b (first_unsaved saved items) (Some x) ≡ Some item → Takes saved (x ∷ items) item (cond b (x ∷ without_first saved items) items)) [
      | true ↦ λ is_saved e.
          let t = later e in
          record {
            before = x ∷ t.before;
            after = t.after;
            stood = ap (λ ys. x ∷ ys) t.stood;
            saved_before = (is_saved, t.saved_before);
            not_saved = t.not_saved;
            stays = ap (λ ys. x ∷ ys) t.stays;
          }
      | false ↦ λ not_saved e.
          let same : x ≡ item = same_Some x item e in
          record {
            before = [];
            after = items;
            stood = ap (λ y. y ∷ items) same;
            saved_before = tt;
            not_saved = ap saved (sym same) ∙ not_saved;
            stays = refl;
          }
    ] refl

-- the first item that isn't saved, and the list without it, satisfy `Takes`
pub Takes-first : (saved : Item → Bool) (items : List Item) (item : Item) → first_unsaved saved items ≡ Some item → Takes saved items item (without_first saved items)
Takes-first saved [] item e = absurd (cc)
Takes-first saved (x ∷ items) item e = first_taken saved x items item (Takes-first saved items item) e

-- the item taken and the items left satisfy `Takes`
pub order_of : (saved : Item → Bool) (items left : List Item) (found : Option Item) → found ≡ first_unsaved saved items → left ≡ without_first saved items
    → IfSome found (λ item. Takes saved items item left)
order_of saved items left None e same = tt
order_of saved items left (Some item) e same = subst (Takes saved items item) (sym same) (Takes-first saved items item (sym e))
