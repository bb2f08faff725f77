-- The parties that signals sent back can reach: marks by party.
use Rattle.std.proofs.Common.{◌≡◌, inl, inr, Option, Some, None, ℕ, zero, suc, ◌+◌, ◌<◌, Bool, true, false, ◌&&◌, List, [], ◌∷◌, ◌++◌, if◌then◌else◌, length, get_or, refl, sym, ap, ◌∙◌, arith, length-append, true≢false}
use Rattle.std.specs.Prelude.{slice_get, replicate}
use Rattle.std.specs.List.{list_any, list_all, flat_map}
use Rattle.std.specs.Option.{option_map_or}
use Rattle.std.specs.Global.{Vec}
use Rattle.std.proofs.lemmas.Bool.{or_left, or_right}
use Rattle.sdl_ast.specs.declared.expression.Identifier.{Identifier}
use Rattle.sdl_ast.specs.declared.tree.Party.{Party}
use Rattle.sdl_ast.specs.declared.tree.Party.TheVariants.{Environment, Process}
use Rattle.sdl_ast.specs.Plain.{PlainPath, PlainProcess, PlainBlock}
use Rattle.sdl_tables.specs.Names.{is_in, number_of}
use Rattle.sdl_tables.specs.Routes.{same_party, paths_of, brings, carries, path_receivers, receivers}
use Rattle.sdl_sound.specs.Receivers.{party_of}
use Rattle.sdl_sound.proofs.Numbered.{number_names, same_folded, folded_same}
use Rattle.sdl_scopes.specs.Parties.{party_number}
use Rattle.sdl_scopes.specs.Reaches.{is_marked}
use Rattle.sdl_rules.specs.Sources.{Marks}
use Rattle.sdl_rules.specs.Backs.{GetThere, Brings}
use Rattle.sdl_rules.specs.declared.back_table.BackTable.{BackTable}
use Rattle.sdl_rules.proofs.Gathering.{carried_same, same_number, none_marked, once_all}
use Rattle.sdl_scopes.proofs.Knowing.{brought_alike}
use Rattle.sdl_rules.proofs.SenderRows.{pushed_at}
use Rattle.plain_laws.proofs.Truths.{and_first as and_left, and_second as and_right}

pub itself : (q : Party) → same_party q q ≡ true
itself Environment = refl
itself (Process id) = folded_same id.name id.name refl

-- A signal reaches the receivers of the paths that carry it.
brought_all : (all : List PlainPath) (own : Party) (s : List ℕ) (paths : List PlainPath)
    → ((q : Party) → list_any (brings own q s) paths ≡ true → list_any (brings own q s) all ≡ true)
    → list_all (λ q. list_any (brings own q s) all) (flat_map (path_receivers own s) paths) ≡ true
brought_all all own s [] h = refl
brought_all all own s (path ∷ paths) h =
    by_test (same_party own path.from) (is_in path.signals s) refl refl
    (brought_all all own s paths (λ q e. h q (or_right (brings own q s path) (list_any (brings own q s) paths) e)))
  where
    by_test : (t u : Bool) → same_party own path.from ≡ t → is_in path.signals s ≡ u
        → list_all (λ q. list_any (brings own q s) all) (flat_map (path_receivers own s) paths) ≡ true
        → list_all (λ q. list_any (brings own q s) all) ((if t && u then path.to ∷ [] else []) ++ flat_map (path_receivers own s) paths) ≡ true
    by_test true true from there rest =
        let here : brings own path.to s path ≡ true = λ i. from i && (itself path.to i && there i) in
        ap (λ r. r && list_all (λ q. list_any (brings own q s) all) (flat_map (path_receivers own s) paths))
        (h path.to (or_left (brings own path.to s path) (list_any (brings own path.to s) paths) here))
        ∙ rest
    by_test true false from there rest = rest
    by_test false u from there rest = rest

pub received : (b : PlainBlock) (own : Party) (s : List ℕ) → list_all (λ q. carries b own q s) (receivers b own s) ≡ true
received b own s =
    once_all b own s (flat_map (path_receivers own s) (paths_of b)) ∙ brought_all (paths_of b) own s (paths_of b) (λ q e. e)

-- What holds of all elements holds of one.
pub all_at : {A : Type 0} (P : A → Bool) (xs : List A) (i : ℕ) (x : A) → i < length xs → x ≡ get_or xs i x → list_all P xs ≡ true → P x ≡ true
all_at P [] i x lt is h = absurd (omega (arith, lt))
all_at P (y ∷ ys) zero x lt is h = ap P is ∙ and_left (P y) (list_all P ys) h
all_at P (y ∷ ys) (suc i) x lt is h = all_at P ys i x (omega (arith, lt)) is (and_right (P y) (list_all P ys) h)

module _ (b : PlainBlock) (p : PlainProcess) where
  pub there_none : (s : List ℕ) (marks : List Bool) (k : ℕ) → marks ≡ replicate k false → GetThere b p s marks
  there_none s marks k is q n number there = absurd (none_marked k n (ap (λ l. is_marked l n) (sym is) ∙ there))

  -- One more party.
  pub there_more : (s : List ℕ) (old new : List Bool) (q : Party) (o : Option ℕ) → o ≡ party_number b q → carries b (party_of p) q s ≡ true
      → Marks o old new → GetThere b p s old → GetThere b p s new
  there_more s old new q o number gets marks before r n other there = elim (marks n there) [
    | inl e ↦ sym (carried_same b (party_of p) q r s (same_number b q r n (sym number ∙ e) other)) ∙ gets
    | inr was ↦ before r n other was
  ]

  -- A party that is marked.
  pub there_is : (s : List ℕ) (marks : List Bool) (q : Party) (o : Option ℕ) → o ≡ party_number b q → option_map_or (is_marked marks) o false ≡ true
      → GetThere b p s marks → carries b (party_of p) q s ≡ true
  there_is s marks q None number there h = absurd (true≢false (sym there))
  there_is s marks q (Some n) number there h = h q n (sym number) there

  pub brings_none : (t : BackTable) → t.names ≡ [] → t.rows.items ≡ [] → Brings b p t
  brings_none t names rows = record {
    count = ap length rows ∙ sym (ap length names);
    each = λ n id row at there. let bad : None ≡ Some id = ap (λ (l : List Identifier). slice_get l n) (sym names) ∙ at in absurd (cc);
  }

  pub brings_more : (t new : BackTable) (id : Identifier) (row : Vec Bool) → GetThere b p id.name row.items → new.names ≡ t.names ++ id ∷ []
      → new.rows.items ≡ t.rows.items ++ row ∷ [] → Brings b p t → Brings b p new
  brings_more t new id row are names rows old = record {
    count =
        let one : length new.rows.items ≡ length t.rows.items + 1 = ap length rows ∙ length-append t.rows.items (row ∷ []) in
        let other : length new.names ≡ length t.names + 1 = ap length names ∙ length-append t.names (id ∷ []) in
        omega (arith, one, other, old.count);
    each = λ n i r at there.
        pushed_at (λ (j : Identifier) (v : Vec Bool). GetThere b p j.name v.items) t.names t.rows.items id row old.count old.each are n i r
        (ap (λ (l : List Identifier). slice_get l n) (sym names) ∙ at) (ap (λ (l : List (Vec Bool)). slice_get l n) (sym rows) ∙ there);
  }

  -- The marks of a name, in any spelling.
  pub brings_at : (t : BackTable) (name : List ℕ) (n : ℕ) (row : Vec Bool) → number_of t.names name ≡ Some n → slice_get t.rows.items n ≡ Some row
      → Brings b p t → GetThere b p name row.items
  brings_at t name n row number stands brings q k other there =
      let id = number_names t.names name n number in
      brought_alike (paths_of b) (party_of p) q name id.0.name (same_folded name id.0.name id.2)
      ∙ brings.each n id.0 row id.1 stands q k other there
