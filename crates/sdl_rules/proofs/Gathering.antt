-- The possible senders of what starts transitions, gathered one after another.
use Rattle.std.proofs.Common.{◌≡◌, inl, inr, arith, Option, Some, None, ℕ, zero, suc, ◌+◌, ◌<◌, Bool, true, false, not, ◌&&◌, ◌||◌, List, [], ◌∷◌, ◌++◌, if◌then◌else◌, fold, map, take, length, get_or, bytes_eq, refl, sym, ap, ◌∙◌, subst, true≢false}
use Rattle.std.specs.Prelude.{All, replicate}
use Rattle.std.specs.Option.{option_map_or}
use Rattle.std.specs.List.{list_any, list_all}
use Rattle.std.proofs.lemmas.List.{take_more}
use Rattle.std.proofs.lemmas.List.Folds.{list_all-append, list_all-map}
use Rattle.std.proofs.lemmas.List.Elements.{All-map, All-push}
use Rattle.std.proofs.lemmas.Option.{slice_get_within, same_Some as some_same}
use Rattle.std.proofs.lemmas.Slice.Eq.{bytes_eq-Decides}
use Rattle.sdl_lex.specs.Spelling.{folded}
use Rattle.sdl_ast.specs.declared.tree.Party.{Party}
use Rattle.sdl_ast.specs.declared.tree.Party.TheVariants.{Environment, Process}
use Rattle.sdl_ast.specs.Plain.{PlainPath, PlainProcess, PlainBlock}
use Rattle.sdl_tables.specs.Names.{is_in, process_names}
use Rattle.sdl_ast.specs.declared.expression.Identifier.{Identifier}
use Rattle.sdl_tables.specs.Routes.{parties_once}
use Rattle.sdl_sound.specs.Receivers.{party_of, same_party, paths_of, brings, carries, add_party, answers, answers_origin, answers_all}
use Rattle.sdl_ast.specs.declared.tree.Stimulus.{Stimulus}
use Rattle.sdl_ast.specs.Views.{stimulus_of}
use Rattle.sdl_sound.specs.Actions.{takes}
use Rattle.sdl_scopes.specs.Parties.{party_number, IsNumbered, IsSender, gets_back}
use Rattle.sdl_rules.specs.SenderTables.{numbered}
use Rattle.sdl_scopes.specs.declared.sender.Numbered.{Numbered}
use Rattle.sdl_scopes.specs.declared.sender.Sender.{Sender}
use Rattle.sdl_scopes.specs.declared.sender.Sender.TheVariants.{Nobody, Party as By}
use Rattle.sdl_sound.proofs.Numbered.{number_names, same_folded, folded_same}
use Rattle.sdl_scopes.specs.Reaches.{is_marked}
use Rattle.sdl_rules.specs.Sources.{Gathers, Marks}
use Rattle.sdl_rules.specs.declared.sources.Senders.{Senders}
use Rattle.plain_laws.proofs.Truths.{and_first as and_left, and_second as and_right}
use Rattle.std.proofs.Math.Bool.{and_assoc, and-true, and-false}

-- ---- parties

left_same : (q r x : Party) → same_party q r ≡ true → same_party q x ≡ same_party r x
left_same Environment Environment x h = refl
left_same Environment (Process r) x h = absurd (true≢false (sym h))
left_same (Process q) Environment x h = absurd (true≢false (sym h))
left_same (Process q) (Process r) Environment h = refl
left_same (Process q) (Process r) (Process x) h = ap (λ k. bytes_eq k (folded x.name)) ((bytes_eq-Decides (folded q.name) (folded r.name)).0 h)

brought : (paths : List PlainPath) (own q r : Party) (s : List ℕ) → same_party q r ≡ true → list_any (brings own q s) paths ≡ list_any (brings own r s) paths
brought [] own q r s h = refl
brought (path ∷ paths) own q r s h =
    λ i. (same_party own path.from && (left_same q r path.to h i && is_in path.signals s)) || brought paths own q r s h i

-- A signal reaches a party in any spelling of the party's name.
pub carried_same : (b : PlainBlock) (own q r : Party) (s : List ℕ) → same_party q r ≡ true → carries b own q s ≡ carries b own r s
carried_same b own q r s h = brought (paths_of b) own q r s h

-- ---- truth values

pub absorbed : (a b : Bool) → (a ≡ true → b ≡ true) → a ≡ (a && b)
absorbed true b h = sym (h refl)
absorbed false b h = refl

pub not_is : (a b : Bool) → a ≡ not b → a ≡ false → b ≡ true
not_is a true h e = refl
not_is a false h e = absurd (true≢false (sym h ∙ e))

module _ (b : PlainBlock) (own : Party) (s : List ℕ) where
  -- A signal that reaches all of some parties reaches each of them.
  one_of : (ps : List Party) (q : Party) → list_any (same_party q) ps ≡ true → list_all (λ q. carries b own q s) ps ≡ true → carries b own q s ≡ true
  one_of [] q there all = absurd (true≢false (sym there))
  one_of (p ∷ ps) q there all =
      by_test (same_party q p) refl (λ e. one_of ps q (sym (ap (λ t. t || list_any (same_party q) ps) e) ∙ there) (and_right (carries b own p s) (list_all (λ q. carries b own q s) ps) all))
    where
      by_test : (t : Bool) → same_party q p ≡ t → (same_party q p ≡ false → carries b own q s ≡ true) → carries b own q s ≡ true
      by_test true e rest = carried_same b own q p s e ∙ and_left (carries b own p s) (list_all (λ q. carries b own q s) ps) all
      by_test false e rest = rest e

  added : (ps : List Party) (q : Party) → list_all (λ q. carries b own q s) (add_party ps q) ≡ (list_all (λ q. carries b own q s) ps && carries b own q s)
  added ps q = by_test (list_any (same_party q) ps) refl
    where
      by_test : (t : Bool) → list_any (same_party q) ps ≡ t
          → list_all (λ q. carries b own q s) (if t then ps else ps ++ q ∷ []) ≡ (list_all (λ q. carries b own q s) ps && carries b own q s)
      by_test true e = absorbed (list_all (λ q. carries b own q s) ps) (carries b own q s) (one_of ps q e)
      by_test false e = list_all-append (λ q. carries b own q s) ps (q ∷ []) ∙ ap (λ r. list_all (λ q. carries b own q s) ps && r) (and-true (carries b own q s))

  folded_all : (ps xs : List Party) → list_all (λ q. carries b own q s) (fold add_party ps xs) ≡ (list_all (λ q. carries b own q s) ps && list_all (λ q. carries b own q s) xs)
  folded_all ps [] = sym (and-true (list_all (λ q. carries b own q s) ps))
  folded_all ps (x ∷ xs) =
      folded_all (add_party ps x) xs
      ∙ (ap (λ r. r && list_all (λ q. carries b own q s) xs) (added ps x)
      ∙ and_assoc (list_all (λ q. carries b own q s) ps) (carries b own x s) (list_all (λ q. carries b own q s) xs))

  -- A signal reaches all parties exactly if it reaches each of them once.
  pub once_all : (xs : List Party) → list_all (λ q. carries b own q s) (parties_once xs) ≡ list_all (λ q. carries b own q s) xs
  once_all xs = folded_all [] xs

pub same_number : (b : PlainBlock) (q r : Party) (n : ℕ) → party_number b q ≡ Some n → party_number b r ≡ Some n → same_party q r ≡ true
same_number b Environment Environment n e f = refl
same_number b Environment (Process r) n e f =
    let there = number_names (process_names b) r.name n f in
    let last : length (process_names b) ≡ n = some_same (length (process_names b)) n e in
    absurd (omega (arith, last, slice_get_within (process_names b) n there.0 there.1))
same_number b (Process q) Environment n e f =
    let there = number_names (process_names b) q.name n e in
    let last : length (process_names b) ≡ n = some_same (length (process_names b)) n f in
    absurd (omega (arith, last, slice_get_within (process_names b) n there.0 there.1))
same_number b (Process q) (Process r) n e f =
    let one = number_names (process_names b) q.name n e in
    let other = number_names (process_names b) r.name n f in
    let same : one.0 ≡ other.0 = some_same one.0 other.0 (sym one.1 ∙ other.1) in
    folded_same q.name r.name
    (same_folded q.name one.0.name one.2 ∙ (ap (λ (id : Identifier). folded id.name) same ∙ sym (same_folded r.name other.0.name other.2)))

pub all_more : {A : Type 0} (P : A → Bool) (row : List A) (i : ℕ) (x : A) → i < length row → x ≡ get_or row i x
    → list_all P (take (i + 1) row) ≡ (list_all P (take i row) && P x)
all_more P row i x lt is =
    ap (list_all P) (take_more row i x lt)
    ∙ (list_all-append P (take i row) (get_or row i x ∷ [])
    ∙ (ap (λ r. list_all P (take i row) && r) (and-true (P (get_or row i x)))
    ∙ ap (λ y. list_all P (take i row) && P y) (sym is)))

-- ---- marks

pub none_marked : (n k : ℕ) → is_marked (replicate n false) k ≡ true → ⊥
none_marked zero k e = true≢false (sym e)
none_marked (suc n) zero e = true≢false (sym e)
none_marked (suc n) (suc k) e = none_marked n k e

-- ---- senders

pub nobody_numbered : (b : PlainBlock) → All (IsSender b) (Nobody ∷ [])
nobody_numbered b = All-push (IsSender b) [] Nobody (λ i d no. absurd (omega (arith, no))) tt

module _ (b : PlainBlock) (p : PlainProcess) where
  pub gather_same : (g : Senders) (f h : List ℕ → Bool) → ((s : List ℕ) → f s ≡ h s) → Gathers b p g f → Gathers b p g h
  gather_same g f h same old = record {
    told = λ s. old.told s ∙ same s;
    seen = λ s e. old.seen s (same s ∙ e);
    numbered = old.numbered;
  }

  -- START or a timer, which nobody sends.
  pub gather_nobody : (g n : Senders) (f : List ℕ → Bool) → n.list.items ≡ g.list.items ++ Nobody ∷ [] → n.seen ≡ g.seen → Gathers b p g f
      → Gathers b p n (λ s. f s && false)
  gather_nobody g n f list seen old = record {
    told = λ s.
        ap (list_all (gets_back b p s)) list
        ∙ (list_all-append (gets_back b p s) g.list.items (Nobody ∷ []) ∙ ap (λ r. r && false) (old.told s));
    seen = λ s e. absurd (true≢false (sym e ∙ and-false (f s)));
    numbered = subst (All (IsSender b)) (sym list) (All-push (IsSender b) g.list.items Nobody old.numbered tt);
  }

  -- A party is marked, and the signals that f allows reach it.
  seen_more : (g n : Senders) (f : List ℕ → Bool) (q : Party) (o : Option ℕ) → o ≡ party_number b q → Marks o g.seen.items n.seen.items
      → Gathers b p g f → (s : List ℕ) → (f s && carries b (party_of p) q s) ≡ true → (r : Party) (k : ℕ) → party_number b r ≡ Some k
      → is_marked n.seen.items k ≡ true → carries b (party_of p) r s ≡ true
  seen_more g n f q o number marks old s e r k other there = elim (marks k there) [
    | inl new ↦
        sym (carried_same b (party_of p) q r s (same_number b q r k (sym number ∙ new) other))
        ∙ and_right (f s) (carries b (party_of p) q s) e
    | inr was ↦ old.seen s (and_left (f s) (carries b (party_of p) q s) e) r k other was
  ]

  -- One more party.
  pub gather_party : (g n : Senders) (f : List ℕ → Bool) (x : Numbered) → IsNumbered b x → Marks x.number g.seen.items n.seen.items
      → n.list.items ≡ g.list.items ++ By x ∷ [] → Gathers b p g f → Gathers b p n (λ s. f s && carries b (party_of p) x.party s)
  gather_party g n f x number marks list old = record {
    told = λ s.
        ap (list_all (gets_back b p s)) list
        ∙ (list_all-append (gets_back b p s) g.list.items (By x ∷ [])
        ∙ (ap (λ r. list_all (gets_back b p s) g.list.items && r) (and-true (carries b (party_of p) x.party s))
        ∙ ap (λ r. r && carries b (party_of p) x.party s) (old.told s)));
    seen = seen_more g n f x.party x.number number marks old;
    numbered = subst (All (IsSender b)) (sym list) (All-push (IsSender b) g.list.items (By x) old.numbered number);
  }

  -- A party whose number is marked.
  there_gets : (g : Senders) (f : List ℕ → Bool) (q : Party) (o : Option ℕ) → o ≡ party_number b q → option_map_or (is_marked g.seen.items) o false ≡ true
      → Gathers b p g f → (s : List ℕ) → f s ≡ true → carries b (party_of p) q s ≡ true
  there_gets g f q None number there old s e = absurd (true≢false (sym there))
  there_gets g f q (Some k) number there old s e = old.seen s e q k (sym number) there

  pub gather_there : (g n : Senders) (f : List ℕ → Bool) (q : Party) (o : Option ℕ) → o ≡ party_number b q → Marks o g.seen.items n.seen.items
      → option_map_or (is_marked g.seen.items) o false ≡ true → n.list.items ≡ g.list.items → Gathers b p g f
      → Gathers b p n (λ s. f s && carries b (party_of p) q s)
  gather_there g n f q o number marks there list old = record {
    told = λ s.
        ap (list_all (gets_back b p s)) list
        ∙ (old.told s ∙ absorbed (f s) (carries b (party_of p) q s) (there_gets g f q o number there old s));
    seen = seen_more g n f q o number marks old;
    numbered = subst (All (IsSender b)) (sym list) old.numbered;
  }

  -- One more sender of a row.
  pub gather_more : (row : List Sender) (i : ℕ) (x : Sender) (g : Senders) (f : List ℕ → Bool) → i < length row → x ≡ get_or row i x
      → Gathers b p g (λ s. (f s && list_all (gets_back b p s) (take i row)) && gets_back b p s x)
      → Gathers b p g (λ s. f s && list_all (gets_back b p s) (take (i + 1) row))
  gather_more row i x g f lt is h =
      gather_same g (λ s. (f s && list_all (gets_back b p s) (take i row)) && gets_back b p s x) (λ s. f s && list_all (gets_back b p s) (take (i + 1) row))
      (λ s. and_assoc (f s) (list_all (gets_back b p s) (take i row)) (gets_back b p s x)
      ∙ ap (λ r. f s && r) (sym (all_more (gets_back b p s) row i x lt is))) h

  -- One more signal or timer that an INPUT takes.
  asked_stimuli : (s : List ℕ) (xs : List Stimulus) → answers_all b p (map takes (map stimulus_of xs)) s ≡ list_all (λ x. answers b p s x.name.name) xs
  asked_stimuli s xs =
      list_all-map (answers_origin b p s) takes (map stimulus_of xs)
      ∙ list_all-map (λ y. answers_origin b p s (takes y)) stimulus_of xs

  pub stimulus_more : (xs : List Stimulus) (i : ℕ) (x : Stimulus) (f : List ℕ → Bool) → i < length xs → x ≡ get_or xs i x → (s : List ℕ)
      → ((f s && answers_all b p (map takes (map stimulus_of (take i xs))) s) && answers b p s x.name.name)
      ≡ (f s && answers_all b p (map takes (map stimulus_of (take (i + 1) xs))) s)
  stimulus_more xs i x f lt is s =
      and_assoc (f s) (answers_all b p (map takes (map stimulus_of (take i xs))) s) (answers b p s x.name.name)
      ∙ ap (λ r. f s && r)
      (ap (λ r. r && answers b p s x.name.name) (asked_stimuli s (take i xs))
      ∙ (sym (all_more (λ y. answers b p s y.name.name) xs i x lt is) ∙ sym (asked_stimuli s (take (i + 1) xs))))

  -- Nothing is added.
  pub gather_none : (g : Senders) (f : List ℕ → Bool) → Gathers b p g f → Gathers b p g (λ s. f s && true)
  gather_none g f h = gather_same g f (λ s. f s && true) (λ s. sym (and-true (f s))) h

  -- The row of a signal: its senders, each only once.
  pub row_all : (qs : List Party) (row : List Sender) → row ≡ map (λ q. By (numbered b q)) (parties_once qs) → (s : List ℕ)
      → list_all (gets_back b p s) row ≡ list_all (λ q. carries b (party_of p) q s) qs
  row_all qs row is s =
      ap (list_all (gets_back b p s)) is
      ∙ (list_all-map (gets_back b p s) (λ q. By (numbered b q)) (parties_once qs) ∙ once_all b (party_of p) s qs)

  pub row_numbered : (qs : List Party) (row : List Sender) → row ≡ map (λ q. By (numbered b q)) qs → All (IsSender b) row
  row_numbered qs row is = subst (All (IsSender b)) (sym is) (All-map (IsSender b) (λ q. By (numbered b q)) qs (λ k d within. refl))
