-- The rows of a table of possible senders.
use Rattle.std.proofs.Common.{◌≡◌, ℕ, zero, suc, ◌+◌, ◌&&◌, not, List, [], ◌∷◌, ◌++◌, if◌then◌else◌, length, None, Some, refl, sym, ap, ◌∙◌, subst, arith, length-append}
use Rattle.std.specs.Prelude.{slice_get}
use Rattle.std.specs.List.{list_all, flat_map}
use Rattle.std.specs.Global.{Vec}
use Rattle.sdl_lex.specs.Spelling.{folded}
use Rattle.sdl_ast.specs.declared.expression.Identifier.{Identifier}
use Rattle.sdl_ast.specs.declared.tree.Party.{Party}
use Rattle.sdl_ast.specs.Plain.{PlainPath, PlainProcess, PlainBlock}
use Rattle.sdl_tables.specs.Names.{number_of, timers_of}
use Rattle.sdl_tables.specs.Routes.{same_party, paths_of, path_senders, senders}
use Rattle.sdl_sound.specs.Receivers.{party_of, carries, answers}
use Rattle.sdl_rules.specs.SenderTables.{AreSendersOf, Tells}
use Rattle.sdl_scopes.specs.declared.sender.Sender.{Sender}
use Rattle.sdl_rules.specs.declared.sender_table.SenderTable.{SenderTable}
use Rattle.sdl_sound.proofs.Numbered.{number_names, same_folded, in_alike}
use Rattle.std.proofs.lemmas.Option.{same_Some as some_same}

-- A signal has the same senders in any spelling.
sent_alike : (paths : List PlainPath) (own : Party) (s t : List ℕ) → folded s ≡ folded t
    → flat_map (path_senders own s) paths ≡ flat_map (path_senders own t) paths
sent_alike [] own s t e = refl
sent_alike (path ∷ paths) own s t e =
    λ i. (if same_party own path.to && in_alike path.signals s t e i then path.from ∷ [] else []) ++ sent_alike paths own s t e i

pub senders_alike : (b : PlainBlock) (own : Party) (s t : List ℕ) → folded s ≡ folded t → senders b own s ≡ senders b own t
senders_alike b own s t e = sent_alike (paths_of b) own s t e

pub answers_alike : (b : PlainBlock) (p : PlainProcess) (s x y : List ℕ) → folded x ≡ folded y → answers b p s x ≡ answers b p s y
answers_alike b p s x y e =
    λ i. not (in_alike (timers_of p) x y e i) && list_all (λ q. carries b (party_of p) q s) (senders_alike b (party_of p) x y e i)

-- A relation between two lists also holds with one more element in each.
pub pushed_at : {A B : Type 0} (R : A → B → Type 0) (xs : List A) (ys : List B) (x : A) (y : B) → length ys ≡ length xs
    → ((n : ℕ) (a : A) (b : B) → slice_get xs n ≡ Some a → slice_get ys n ≡ Some b → R a b) → R x y
    → (n : ℕ) (a : A) (b : B) → slice_get (xs ++ x ∷ []) n ≡ Some a → slice_get (ys ++ y ∷ []) n ≡ Some b → R a b
pushed_at {A = A} R [] [] x y same before last zero a b e f =
    subst (λ (u : A). R u b) (some_same x a e) (subst (R x) (some_same y b f) last)
pushed_at R [] [] x y same before last (suc n) a b e f = let bad : None ≡ Some a = e in absurd (cc)
pushed_at R [] (v ∷ ys) x y same before last n a b e f = absurd (omega (arith, same))
pushed_at R (u ∷ xs) [] x y same before last n a b e f = absurd (omega (arith, same))
pushed_at R (u ∷ xs) (v ∷ ys) x y same before last zero a b e f = before zero a b e f
pushed_at R (u ∷ xs) (v ∷ ys) x y same before last (suc n) a b e f =
    pushed_at R xs ys x y (omega (arith, same)) (λ m. before (suc m)) last n a b e f

module _ (b : PlainBlock) (p : PlainProcess) where
  pub tells_none : (t : SenderTable) → t.names ≡ [] → t.rows.items ≡ [] → Tells b p t
  tells_none t names rows = record {
    count = ap length rows ∙ sym (ap length names);
    each = λ n id row at there. let bad : None ≡ Some id = ap (λ (l : List Identifier). slice_get l n) (sym names) ∙ at in absurd (cc);
  }

  pub tells_more : (t new : SenderTable) (id : Identifier) (row : Vec Sender) → AreSendersOf b p id.name row.items → new.names ≡ t.names ++ id ∷ []
      → new.rows.items ≡ t.rows.items ++ row ∷ [] → Tells b p t → Tells b p new
  tells_more t new id row are names rows old = record {
    count =
        let one : length new.rows.items ≡ length t.rows.items + 1 = ap length rows ∙ length-append t.rows.items (row ∷ []) in
        let other : length new.names ≡ length t.names + 1 = ap length names ∙ length-append t.names (id ∷ []) in
        omega (arith, one, other, old.count);
    each = λ n i r at there.
        pushed_at (λ (j : Identifier) (v : Vec Sender). AreSendersOf b p j.name v.items) t.names t.rows.items id row old.count old.each are n i r
        (ap (λ (l : List Identifier). slice_get l n) (sym names) ∙ at) (ap (λ (l : List (Vec Sender)). slice_get l n) (sym rows) ∙ there);
  }

  -- The row of a name, in any spelling.
  pub tells_at : (t : SenderTable) (name : List ℕ) (n : ℕ) (row : Vec Sender) → number_of t.names name ≡ Some n → slice_get t.rows.items n ≡ Some row
      → Tells b p t → AreSendersOf b p name row.items
  tells_at t name n row number stands tells =
      let id = number_names t.names name n number in
      let there : AreSendersOf b p id.0.name row.items = tells.each n id.0 row id.1 stands in
      let same : folded id.0.name ≡ folded name = sym (same_folded name id.0.name id.2) in record {
        told = λ s. there.told s ∙ answers_alike b p s id.0.name name same;
        numbered = there.numbered;
      }
