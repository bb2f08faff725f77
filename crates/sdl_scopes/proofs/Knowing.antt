-- The results known of signals sent TO SENDER. A name stands for all its spellings.
use Rattle.std.proofs.Common.{◌≡◌, ℕ, Bool, true, false, not, ◌&&◌, ◌||◌, List, [], ◌∷◌, ◌++◌, if◌then◌else◌, refl, sym, ap, ◌∙◌, true≢false}
use Rattle.std.specs.List.{list_any, list_all}
use Rattle.std.proofs.lemmas.List.Folds.{list_any-append}
use Rattle.std.proofs.lemmas.Slice.Eq.{bytes_eq-Decides}
use Rattle.std.proofs.Math.Bool.{or-false}
use Rattle.sdl_lex.specs.Spelling.{folded}
use Rattle.sdl_ast.specs.declared.expression.Identifier.{Identifier}
use Rattle.sdl_ast.specs.declared.tree.Party.{Party}
use Rattle.sdl_ast.specs.Plain.{PlainPath, PlainProcess, PlainBlock}
use Rattle.sdl_tables.specs.Names.{same_name, is_in, add_name, timers_of}
use Rattle.sdl_sound.specs.Actions.{Origin, begins, takes}
use Rattle.sdl_sound.specs.Receivers.{party_of, same_party, paths_of, brings, carries, senders, answers_origin, answers_all}
use Rattle.sdl_scopes.specs.Known.{AreAlike}
use Rattle.sdl_sound.proofs.Numbered.{in_alike}

pub brought_alike : (paths : List PlainPath) (own q : Party) (s t : List ℕ) → folded s ≡ folded t → list_any (brings own q s) paths ≡ list_any (brings own q t) paths
brought_alike [] own q s t e = refl
brought_alike (path ∷ paths) own q s t e =
    λ i. (same_party own path.from && (same_party q path.to && in_alike path.signals s t e i)) || brought_alike paths own q s t e i

all_alike : (b : PlainBlock) (own : Party) (qs : List Party) (s t : List ℕ) → folded s ≡ folded t
    → list_all (λ q. carries b own q s) qs ≡ list_all (λ q. carries b own q t) qs
all_alike b own [] s t e = refl
all_alike b own (q ∷ qs) s t e = λ i. brought_alike (paths_of b) own q s t e i && all_alike b own qs s t e i

origin_alike : (b : PlainBlock) (p : PlainProcess) (o : Origin) (s t : List ℕ) → folded s ≡ folded t → answers_origin b p s o ≡ answers_origin b p t o
origin_alike b p begins s t e = refl
origin_alike b p (takes x) s t e =
    λ i. not (is_in (timers_of p) x.name.name) && all_alike b (party_of p) (senders b (party_of p) x.name.name) s t e i

-- Whether a signal arrives doesn't depend on its spelling.
answers_alike : (b : PlainBlock) (p : PlainProcess) (os : List Origin) (s t : List ℕ) → folded s ≡ folded t → answers_all b p os s ≡ answers_all b p os t
answers_alike b p [] s t e = refl
answers_alike b p (o ∷ os) s t e = λ i. origin_alike b p o s t e i && answers_alike b p os s t e i

module _ (b : PlainBlock) (p : PlainProcess) (os : List Origin) (back : Bool) where
  -- One more name.
  pub alike_more : (ids : List Identifier) (id : Identifier) → AreAlike b p os back ids → answers_all b p os id.name ≡ back → AreAlike b p os back (add_name ids id)
  unfolding AreAlike
  alike_more ids id h e = λ s there. by_test s (is_in ids id.name) there
    where
      last : (s : List ℕ) → is_in ids s ≡ false → is_in (ids ++ id ∷ []) s ≡ true → same_name s id.name ≡ true
      last s f there =
          sym (or-false (same_name s id.name))
          ∙ (ap (λ r. r || (same_name s id.name || false)) (sym f)
          ∙ (sym (list_any-append (λ (x : Identifier). same_name s x.name) ids (id ∷ [])) ∙ there))

      by_part : (s : List ℕ) (u : Bool) → is_in ids s ≡ u → is_in (ids ++ id ∷ []) s ≡ true → answers_all b p os s ≡ back
      by_part s true f there = h s f
      by_part s false f there = answers_alike b p os s id.name ((bytes_eq-Decides (folded s) (folded id.name)).0 (last s f there)) ∙ e

      by_test : (s : List ℕ) (t : Bool) → is_in (if t then ids else ids ++ id ∷ []) s ≡ true → answers_all b p os s ≡ back
      by_test s true there = h s there
      by_test s false there = by_part s (is_in ids s) refl there

  -- The statement holds for an empty list of names.
  pub alike_none : (ids : List Identifier) → ids ≡ [] → AreAlike b p os back ids
  unfolding AreAlike
  alike_none ids e = λ s there. absurd (true≢false (sym there ∙ ap (λ l. is_in l s) e))
