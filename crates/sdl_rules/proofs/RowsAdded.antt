-- Rows of a table, each added once: the possible senders of what starts transitions.
use Rattle.std.proofs.Common.{◌≡◌, inl, inr, Option, Some, None, ℕ, Bool, true, false, ◌&&◌, List, sym, ap, ◌∙◌, subst, true≢false}
use Rattle.std.specs.Prelude.{replicate}
use Rattle.std.specs.Option.{option_map_or}
use Rattle.sdl_lex.specs.Spelling.{folded}
use Rattle.sdl_ast.specs.declared.expression.Identifier.{Identifier}
use Rattle.sdl_ast.specs.Plain.{PlainProcess, PlainBlock}
use Rattle.sdl_tables.specs.Names.{number_of}
use Rattle.sdl_sound.specs.Receivers.{answers}
use Rattle.sdl_scopes.specs.Reaches.{is_marked}
use Rattle.sdl_rules.specs.Sources.{Gathers, Asks, Marks}
use Rattle.sdl_rules.specs.declared.sources.Senders.{Senders}
use Rattle.sdl_rules.specs.declared.gathered.Gathered.{Gathered}
use Rattle.sdl_sound.proofs.Numbered.{number_names, same_folded}
use Rattle.sdl_rules.proofs.SenderRows.{answers_alike}
use Rattle.sdl_rules.proofs.Gathering.{absorbed, none_marked, gather_same}
use Rattle.plain_laws.proofs.Truths.{and_first as and_left, and_second as and_right}
use Rattle.std.proofs.Math.Bool.{and-true}
use Rattle.std.proofs.lemmas.Option.{same_Some as some_same}

module _ (b : PlainBlock) (p : PlainProcess) (names : List Identifier) where
  -- Names with the same row are alike, and so are their possible senders.
  row_alike : (x y : List ℕ) (n : ℕ) → number_of names x ≡ Some n → number_of names y ≡ Some n → folded x ≡ folded y
  row_alike x y n e f =
      let one = number_names names x n e in
      let other = number_names names y n f in
      let same : one.0 ≡ other.0 = some_same one.0 other.0 (sym one.1 ∙ other.1) in
      same_folded x one.0.name one.2 ∙ (ap (λ (id : Identifier). folded id.name) same ∙ sym (same_folded y other.0.name other.2))

  -- No row yet.
  pub asks_none : (g : Gathered) (k : ℕ) → Gathers b p g.senders (λ s. true) → g.asked.items ≡ replicate k false → Asks b p names g (λ s. true)
  asks_none g k gathers is = record {
    gathers = gathers;
    asked = λ s e name n number there. absurd (none_marked k n (ap (λ l. is_marked l n) (sym is) ∙ there));
  }

  pub asks_same : (g : Gathered) (f h : List ℕ → Bool) → ((s : List ℕ) → f s ≡ h s) → Asks b p names g f → Asks b p names g h
  asks_same g f h same old = record {
    gathers = gather_same b p g.senders f h same old.gathers;
    asked = λ s e. old.asked s (same s ∙ e);
  }

  -- One more row is marked.
  asked_more : (g n : Gathered) (f : List ℕ → Bool) (x : List ℕ) (o : Option ℕ) → o ≡ number_of names x → Marks o g.asked.items n.asked.items
      → Asks b p names g f → (s : List ℕ) → (f s && answers b p s x) ≡ true → (name : List ℕ) (k : ℕ) → number_of names name ≡ Some k
      → is_marked n.asked.items k ≡ true → answers b p s name ≡ true
  asked_more g n f x o row marks old s e name k number there = elim (marks k there) [
    | inl new ↦ answers_alike b p s name x (row_alike name x k number (sym row ∙ new)) ∙ and_right (f s) (answers b p s x) e
    | inr was ↦ old.asked s (and_left (f s) (answers b p s x) e) name k number was
  ]

  pub asks_new : (g n : Gathered) (f : List ℕ → Bool) (x : List ℕ) (o : Option ℕ) → o ≡ number_of names x → Marks o g.asked.items n.asked.items
      → Gathers b p n.senders (λ s. f s && answers b p s x) → Asks b p names g f → Asks b p names n (λ s. f s && answers b p s x)
  asks_new g n f x o row marks gathers old = record {
    gathers = gathers;
    asked = asked_more g n f x o row marks old;
  }

  -- A row that was added.
  there_answers : (g : Gathered) (f : List ℕ → Bool) (x : List ℕ) (o : Option ℕ) → o ≡ number_of names x
      → option_map_or (is_marked g.asked.items) o false ≡ true → Asks b p names g f → (s : List ℕ) → f s ≡ true → answers b p s x ≡ true
  there_answers g f x None row there old s e = absurd (true≢false (sym there))
  there_answers g f x (Some k) row there old s e = old.asked s e x k (sym row) there

  pub asks_there : (g n : Gathered) (f : List ℕ → Bool) (x : List ℕ) (o : Option ℕ) → o ≡ number_of names x → Marks o g.asked.items n.asked.items
      → option_map_or (is_marked g.asked.items) o false ≡ true → n.senders ≡ g.senders → Asks b p names g f
      → Asks b p names n (λ s. f s && answers b p s x)
  asks_there g n f x o row marks there senders old = record {
    gathers =
        subst (λ (v : Senders). Gathers b p v (λ s. f s && answers b p s x)) (sym senders)
        (gather_same b p g.senders f (λ s. f s && answers b p s x)
        (λ s. absorbed (f s) (answers b p s x) (there_answers g f x o row there old s)) old.gathers);
    asked = asked_more g n f x o row marks old;
  }

  -- Nothing is added.
  pub asks_nothing : (g : Gathered) (f : List ℕ → Bool) → Asks b p names g f → Asks b p names g (λ s. f s && true)
  asks_nothing g f h = asks_same g f (λ s. f s && true) (λ s. sym (and-true (f s))) h
