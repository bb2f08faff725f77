-- A party that receives a signal by the text's routes receives it by the draft's.
use Rattle.std.proofs.Common.{◌≡◌, ℕ, zero, suc, ◌<◌, Bool, true, false, not, cond, ◌&&◌, List, [], ◌∷◌, ◌++◌, length, map, Option, Some, None, IsSome, refl, sym, ap, ◌∙◌, subst, arith, nat_lt}
use Rattle.std.specs.Prelude.{slice_get, All, Contains, Any, fold, option_map}
use Rattle.std.specs.List.{list_any, list_all, flat_map}
use Rattle.std.proofs.lemmas.Bool.Decides.{nat_tests}
use Rattle.std.proofs.lemmas.List.Elements.{All-nil, All-cons, All-head, All-tail, All-weaker, All-contains}
use Rattle.sdl_ast.specs.declared.expression.Identifier.{Identifier}
use Rattle.sdl_ast.specs.declared.tree.Party.{Party}
use Rattle.sdl_ast.specs.declared.tree.Party.TheVariants.{Environment, Process}
use Rattle.sdl_ast.specs.declared.tree.Destination.{Destination}
use Rattle.sdl_ast.specs.declared.tree.Destination.TheVariants as address
use Rattle.sdl_ast.specs.Plain.{PlainStimulus, PlainPath, PlainBlock}
use Rattle.turn_code.specs.declared.numbers.SignalNumber.{SignalNumber}
use Rattle.turn_code.specs.declared.numbers.ProcessNumber.{ProcessNumber}
use Rattle.turn_code.specs.declared.input.Party as code_party
use Rattle.turn_code.specs.declared.input.Address as code_address
use Rattle.turn_code.specs.declared.input.Party.TheVariants as code_parties
use Rattle.turn_code.specs.declared.draft.Draft.{Draft}
use Rattle.turn_code.specs.declared.draft.DraftRoute.{DraftRoute}
use Rattle.turn_code.specs.declared.draft.DraftProcess.{DraftProcess}
use Rattle.turn_code.specs.declared.draft.Trigger.{Trigger}
use Rattle.turn_code.specs.Routes.{IsProcess, IsPartyOf, the_process, Takes, Reaches, Answers}
use Rattle.turn_code.specs.Rules.{ReachesReceiver, AnswersSender}
use Rattle.sdl_tables.specs.Names.{same_name, is_in, number_of, signal_names, process_names, timers_of}
use Rattle.sdl_sound.specs.Receivers.{same_party, party_of, paths_of, brings, carries, path_receivers, path_senders, add_party, receivers, senders, answers, answers_all, arrives, is_doubtful}
use Rattle.sdl_meaning.specs.Act.{numbered, the_one, addressed, if_named, to_sender}
use Rattle.sdl_meaning.specs.Outcomes.{Scope}
use Rattle.sdl_meaning.specs.Code.{number_or_zero, party_or_environment, receiver_code}
use Rattle.sdl_meaning.specs.Named.{HasReceiver, IsSentIf, IsSentTo}
use Rattle.sdl_sound.specs.Actions.{Origin}
use Rattle.sdl_meaning.specs.Declarations.{trigger_with, trigger_of}
use Rattle.sdl_compile.specs.Drafts.{IsTrigger}
use Rattle.sdl_compile.specs.Blocks.{drafted_party, drafted_path}
use Rattle.sdl_compile.specs.Routes.{KnownParty, IsKnown, IsKnownPath}
use Rattle.sdl_sound.proofs.Items.{Each, each_append, each_with, all_items}
use Rattle.sdl_meaning.proofs.Numbers.{AreNumbered, number_there}
use Rattle.sdl_sound.proofs.Numbered.{same_trans as trans_name, number_alike, same_back as same_other_way}
use Rattle.std.proofs.lemmas.Bool.{or_left as or_one, or_right as or_other, and_from as and_both}
use Rattle.turn_code.proofs.Lists.{first_of as contains_here}
use Rattle.sdl_meaning.proofs.Reached.{or_split}
use Rattle.sdl_tables.proofs.Mentions.{party_self as same_party_self}
use Rattle.plain_laws.proofs.Truths.{and_second as and_right, and_first as and_left}
use Rattle.plain_laws.proofs.Lists.{contains_there}

-- ---- lists

any_here : {A : Type 0} (P : A → Type 0) (x : A) (xs : List A) → P x → Any P (x ∷ xs)
any_here P x xs h = (0, x, omega arith, refl, h)

any_there : {A : Type 0} (P : A → Type 0) (y : A) (xs : List A) → Any P xs → Any P (y ∷ xs)
any_there P y xs h = let l = h.2 in (suc h.0, h.1, omega (arith, l), h.3, h.4)

pub all_front : {A : Type 0} (f : A → Bool) (a b : List A) → list_all f (a ++ b) ≡ true → list_all f a ≡ true
all_front f [] b e = refl
all_front f (x ∷ a) b e = and_both (f x) (list_all f a) (and_left (f x) (list_all f (a ++ b)) e) (all_front f a b (and_right (f x) (list_all f (a ++ b)) e))

pub all_back : {A : Type 0} (f : A → Bool) (a b : List A) → list_all f (a ++ b) ≡ true → list_all f b ≡ true
all_back f [] b e = e
all_back f (x ∷ a) b e = all_back f a b (and_right (f x) (list_all f (a ++ b)) e)

same_place : (ids : List Identifier) (v w : ℕ) (x y : Identifier) → slice_get ids v ≡ Some x → slice_get ids w ≡ Some y → v ≡ w → x ≡ y
same_place ids v w x y e f g =
    let h : Some x ≡ Some y = sym e ∙ ap (slice_get ids) g ∙ f in
    cc

-- ---- parties

-- A path leads to each receiver.
each_received : (from : Party) (s : List ℕ) (paths : List PlainPath) → Each (λ q. list_any (brings from q s) paths ≡ true) (flat_map (path_receivers from s) paths)
each_received from s [] = tt
each_received from s (path ∷ paths) =
    each_append (λ q. list_any (brings from q s) (path ∷ paths) ≡ true) (path_receivers from s path) (flat_map (path_receivers from s) paths)
    (by_test (same_party from path.from && is_in path.signals s) refl)
    (each_with (λ q. list_any (brings from q s) paths ≡ true) (λ q. list_any (brings from q s) (path ∷ paths) ≡ true) (λ q e. or_other (brings from q s path) (list_any (brings from q s) paths) e) (flat_map (path_receivers from s) paths) (each_received from s paths))
  where
    by_test : (t : Bool) → same_party from path.from && is_in path.signals s ≡ t → Each (λ q. list_any (brings from q s) (path ∷ paths) ≡ true) (cond t (path.to ∷ []) [])
    by_test false e = tt
    by_test true e = (
      or_one (brings from path.to s path) (list_any (brings from path.to s) paths)
          (and_both (same_party from path.from) (same_party path.to path.to && is_in path.signals s) (and_left (same_party from path.from) (is_in path.signals s) e)
          (and_both (same_party path.to path.to) (is_in path.signals s) (same_party_self path.to) (and_right (same_party from path.from) (is_in path.signals s) e))),
      tt,
    )

each_added : (P : Party → Type 0) (seen : List Party) (q : Party) → Each P seen → P q → Each P (add_party seen q)
each_added P seen q h k = by_test (list_any (same_party q) seen)
  where
    by_test : (t : Bool) → Each P (cond t seen (seen ++ q ∷ []))
    by_test true = h
    by_test false = each_append P seen (q ∷ []) h (k, tt)

each_folded : (P : Party → Type 0) (seen qs : List Party) → Each P seen → Each P qs → Each P (fold add_party seen qs)
each_folded P seen [] h k = h
each_folded P seen (q ∷ qs) h k = each_folded P (add_party seen q) qs (each_added P seen q h k.0) k.1

received : (b : PlainBlock) (from : Party) (s : List ℕ) → Each (λ q. carries b from q s ≡ true) (receivers b from s)
received b from s = each_folded (λ q. carries b from q s ≡ true) [] (flat_map (path_receivers from s) (paths_of b)) tt (each_received from s (paths_of b))

-- What holds of all senders holds of the sender of each path.
each_sender : (f : Party → Bool) (to : Party) (s : List ℕ) (paths : List PlainPath) → list_all f (flat_map (path_senders to s) paths) ≡ true → Each (λ (path : PlainPath). same_party to path.to && is_in path.signals s ≡ true → f path.from ≡ true) paths
each_sender f to s [] e = tt
each_sender f to s (path ∷ paths) e =
    let rest = flat_map (path_senders to s) paths in (
      λ h. by_test (same_party to path.to && is_in path.signals s) h (all_front f (path_senders to s path) rest e),
      each_sender f to s paths (all_back f (path_senders to s path) rest e),
    )
  where
    by_test : (t : Bool) → t ≡ true → list_all f (cond t (path.from ∷ []) []) ≡ true → f path.from ≡ true
    by_test true h k = and_left (f path.from) true k
    by_test false h k = absurd (let k : ⊥ = cc in k)

module _ (c : Scope) (n : ℕ) (numbers : AreNumbered (process_names c.block)) (here : slice_get (process_names c.block) n ≡ Some c.process.name)
    (known : Each (IsKnownPath c.block) (paths_of c.block)) where
  abbrev names : List Identifier
  names = process_names c.block

  abbrev sigs : List Identifier
  sigs = signal_names c.block

  abbrev sig : List ℕ → SignalNumber
  sig x = record { 0 = number_or_zero (number_of sigs x) }

  abbrev own : Party
  own = party_of c.process

  own_number : number_of names c.process.name.name ≡ Some n
  own_number = numbers n c.process.name here

  -- The same party under two spellings of its name.
  same_draft : (q r : Party) → same_party q r ≡ true → drafted_party names q ≡ drafted_party names r
  same_draft Environment Environment e = refl
  same_draft Environment (Process y) e = absurd (let k : ⊥ = cc in k)
  same_draft (Process x) Environment e = absurd (let k : ⊥ = cc in k)
  same_draft (Process x) (Process y) e = ap (λ o. (let k : ProcessNumber = record { 0 = number_or_zero o } in code_parties.Process k)) (number_alike names x.name y.name e)

  from_here : (q : Party) → same_party own q ≡ true → drafted_party names q ≡ the_process n
  from_here Environment e = absurd (let k : ⊥ = cc in k)
  from_here (Process y) e = ap (λ o. the_process (number_or_zero o)) (sym (number_alike names c.process.name.name y.name e) ∙ own_number)

  contains_signal : (ids : List Identifier) (x : List ℕ) → is_in ids x ≡ true → Contains (map (λ (id : Identifier). sig id.name) ids) (sig x)
  contains_signal [] x e = absurd (let k : ⊥ = cc in k)
  contains_signal (id ∷ ids) x e =
      or_split (same_name x id.name) (is_in ids x) e
      (λ f. subst (λ s. Contains (sig id.name ∷ map (λ (id : Identifier). sig id.name) ids) s) (ap (λ o. (let k : SignalNumber = record { 0 = number_or_zero o } in k)) (sym (number_alike sigs x id.name f))) (contains_here (sig id.name) (map (λ (id : Identifier). sig id.name) ids)))
      (λ f. contains_there (sig id.name) (sig x) (map (λ (id : Identifier). sig id.name) ids) (contains_signal ids x f))

  takes_path : (q : Party) (x : List ℕ) (path : PlainPath) → brings own q x path ≡ true → Takes n (drafted_party names q) (sig x) (drafted_path c.block path)
  takes_path q x path e =
      let rest = and_right (same_party own path.from) (same_party q path.to && is_in path.signals x) e in
      record {
        from = from_here path.from (and_left (same_party own path.from) (same_party q path.to && is_in path.signals x) e);
        to = sym (same_draft q path.to (and_left (same_party q path.to) (is_in path.signals x) rest));
        signal = contains_signal path.signals x (and_right (same_party q path.to) (is_in path.signals x) rest);
      }

  reached : (q : Party) (x : List ℕ) (paths : List PlainPath) → list_any (brings own q x) paths ≡ true → Any (Takes n (drafted_party names q) (sig x)) (map (drafted_path c.block) paths)
  reached q x [] e = absurd (let k : ⊥ = cc in k)
  reached q x (path ∷ paths) e =
      or_split (brings own q x path) (list_any (brings own q x) paths) e
      (λ f. any_here (Takes n (drafted_party names q) (sig x)) (drafted_path c.block path) (map (drafted_path c.block) paths) (takes_path q x path f))
      (λ f. any_there (Takes n (drafted_party names q) (sig x)) (drafted_path c.block path) (map (drafted_path c.block) paths) (reached q x paths f))

  known_alike : (q r : Party) → same_party q r ≡ true → KnownParty names r → KnownParty names q
  known_alike Environment Environment e k = tt
  known_alike Environment (Process y) e k = tt
  known_alike (Process x) Environment e k = absurd (let k : ⊥ = cc in k)
  known_alike (Process x) (Process y) e k = subst IsSome (sym (number_alike names x.name y.name e)) k

  known_reached : (q : Party) (x : List ℕ) (paths : List PlainPath) → Each (IsKnownPath c.block) paths → list_any (brings own q x) paths ≡ true → KnownParty names q
  known_reached q x [] k e = absurd (let k : ⊥ = cc in k)
  known_reached q x (path ∷ paths) k e =
      or_split (brings own q x path) (list_any (brings own q x) paths) e
      (λ f. known_alike q path.to (and_left (same_party q path.to) (is_in path.signals x) (and_right (same_party own path.from) (same_party q path.to && is_in path.signals x) f)) k.0.to)
      (λ f. known_reached q x paths k.1 f)

  numbered_known : (q : Party) → KnownParty names q → party_or_environment (numbered c q) ≡ drafted_party names q
  numbered_known Environment k = refl
  numbered_known (Process id) k = by_number (number_of names id.name) k
    where
      by_number : (o : Option ℕ) → IsSome o → party_or_environment (option_map (λ k. (let m : ProcessNumber = record { 0 = k } in code_parties.Process m)) o) ≡ (let m : ProcessNumber = record { 0 = number_or_zero o } in code_parties.Process m)
      by_number None k = absurd (let k : ⊥ = cc in k)
      by_number (Some v) k = refl

  is_party : (ps : List DraftProcess) → length ps ≡ length names → (q : Party) → KnownParty names q → IsPartyOf ps (drafted_party names q)
  is_party ps l Environment k = tt
  is_party ps l (Process id) k = by_number (number_of names id.name) refl k
    where
      by_number : (o : Option ℕ) → number_of names id.name ≡ o → IsSome o → number_or_zero o < length ps
      by_number None e k = absurd (let k : ⊥ = cc in k)
      by_number (Some v) e k = let h = (number_there names id.name v e).within in omega (arith, h, l)

  -- ---- what the compiler requires of a receiver

  some_numbered : (q : Party) → KnownParty names q → IsSome (numbered c q)
  some_numbered Environment k = refl
  some_numbered (Process id) k = by_number (number_of names id.name) k
    where
      by_number : (o : Option ℕ) → IsSome o → IsSome (option_map (λ k. (let m : ProcessNumber = record { 0 = k } in code_parties.Process m)) o)
      by_number None k = absurd (let k : ⊥ = cc in k)
      by_number (Some v) k = refl

  some_addressed : (o : Option code_party.Party) → IsSome o → IsSome (addressed o)
  some_addressed None h = absurd (let k : ⊥ = cc in k)
  some_addressed (Some p) h = refl

  one_numbered : (x : List ℕ) (qs : List Party) → Each (λ q. carries c.block own q x ≡ true) qs → nat_lt 0 (length qs) ≡ true → nat_lt 1 (length qs) ≡ false → IsSome (the_one c qs)
  one_numbered x [] h e f = absurd (let k : 0 < 0 = grind (arith, nat_tests) in omega (arith, k))
  one_numbered x (q ∷ []) h e f = some_numbered q (known_reached q x (paths_of c.block) known h.0)
  one_numbered x (q ∷ r ∷ qs) h e f = absurd (let k : length (q ∷ r ∷ qs) < 2 = grind (arith, nat_tests) in omega (arith, k))

  pub has_receiver : (is : List Origin) (to : Option Destination) (x : Identifier) → arrives c.block c.process is to x.name ≡ true → is_doubtful c.block c.process to x.name ≡ false → HasReceiver c to x
  has_receiver is None x e f =
      some_addressed (the_one c (receivers c.block own x.name)) (one_numbered x.name (receivers c.block own x.name) (received c.block own x.name) e f)
  has_receiver is (Some (address.Process id)) x e f =
      subst (λ b. IsSome (addressed (cond b (numbered c (Process id)) None))) (sym e)
      (some_addressed (numbered c (Process id)) (some_numbered (Process id) (known_reached (Process id) x.name (paths_of c.block) known e)))
  has_receiver is (Some (address.Sender at)) x e f = tt

  -- ---- answers to the sender

  trans_party : (q r s : Party) → same_party q r ≡ true → same_party r s ≡ true → same_party q s ≡ true
  trans_party Environment Environment s e f = f
  trans_party Environment (Process y) s e f = absurd (let k : ⊥ = cc in k)
  trans_party (Process x) Environment s e f = absurd (let k : ⊥ = cc in k)
  trans_party (Process x) (Process y) Environment e f = f
  trans_party (Process x) (Process y) (Process z) e f = trans_name x.name y.name z.name e f

  carries_alike : (q r : Party) (s : List ℕ) (paths : List PlainPath) → same_party q r ≡ true → list_any (brings own r s) paths ≡ true → list_any (brings own q s) paths ≡ true
  carries_alike q r s [] e h = h
  carries_alike q r s (path ∷ paths) e h =
      or_split (brings own r s path) (list_any (brings own r s) paths) h
      (λ f.
      let rest = and_right (same_party own path.from) (same_party r path.to && is_in path.signals s) f in
      or_one (brings own q s path) (list_any (brings own q s) paths)
      (and_both (same_party own path.from) (same_party q path.to && is_in path.signals s) (and_left (same_party own path.from) (same_party r path.to && is_in path.signals s) f)
      (and_both (same_party q path.to) (is_in path.signals s) (trans_party q r path.to e (and_left (same_party r path.to) (is_in path.signals s) rest)) (and_right (same_party r path.to) (is_in path.signals s) rest))))
      (λ f. or_other (brings own q s path) (list_any (brings own q s) paths) (carries_alike q r s paths e f))

  carried_back : (q : Party) (x s : List ℕ) (paths : List PlainPath) → Each (λ (path : PlainPath). same_party own path.to && is_in path.signals x ≡ true → carries c.block own path.from s ≡ true) paths
      → list_any (brings q own x) paths ≡ true → carries c.block own q s ≡ true
  carried_back q x s [] h e = absurd (let k : ⊥ = cc in k)
  carried_back q x s (path ∷ paths) h e =
      or_split (brings q own x path) (list_any (brings q own x) paths) e
      (λ f. carries_alike q path.from s (paths_of c.block) (and_left (same_party q path.from) (same_party own path.to && is_in path.signals x) f) (h.0 (and_right (same_party q path.from) (same_party own path.to && is_in path.signals x) f)))
      (λ f. carried_back q x s paths h.1 f)

  in_there : (ids : List Identifier) (x : List ℕ) (v : ℕ) (id : Identifier) → slice_get ids v ≡ Some id → same_name x id.name ≡ true → is_in ids x ≡ true
  in_there [] x v id e h = absurd (let k : ⊥ = cc in k)
  in_there (y ∷ ids) x zero id e h =
      let f : y ≡ id = cc in
      or_one (same_name x y.name) (is_in ids x) (subst (λ (i : Identifier). same_name x i.name ≡ true) (sym f) h)
  in_there (y ∷ ids) x (suc v) id e h = or_other (same_name x y.name) (is_in ids x) (in_there ids x v id e h)

  is_in_some : (ids : List Identifier) (x : List ℕ) → IsSome (number_of ids x) → is_in ids x ≡ true
  is_in_some ids x some = by_number (number_of ids x) refl some
    where
      by_number : (o : Option ℕ) → number_of ids x ≡ o → IsSome o → is_in ids x ≡ true
      by_number None e k = absurd (let k : ⊥ = cc in k)
      by_number (Some v) e k = let h = number_there ids x v e in in_there ids x v h.id h.there h.same

  not_both : (b : Bool) → b ≡ true → not b ≡ true → ⊥
  not_both true e f = let k : ⊥ = cc in k
  not_both false e f = let k : ⊥ = cc in k

  -- The answer reaches each possible sender of this input.
  pub answers_sender : (i : PlainStimulus) (x : Identifier) → IsTrigger c i.name → answers c.block c.process x.name i.name.name ≡ true → (sender : Option code_address.Address) → IsSentTo c (Some i.name) sender → IsSome (to_sender c x sender)
  answers_sender i x trigger e sender sent = by_number (number_of sigs i.name.name) refl sender sent
    where
      timers : List Identifier
      timers = timers_of c.process

      no_timer : not (is_in timers i.name.name) ≡ true
      no_timer = and_left (not (is_in timers i.name.name)) (list_all (λ q. carries c.block own q x.name) (senders c.block own i.name.name)) e

      all : list_all (λ q. carries c.block own q x.name) (senders c.block own i.name.name) ≡ true
      all = and_right (not (is_in timers i.name.name)) (list_all (λ q. carries c.block own q x.name) (senders c.block own i.name.name)) e

      by_number : (o : Option ℕ) → number_of sigs i.name.name ≡ o → (sender : Option code_address.Address) → IsSentIf c i.name o sender → IsSome (to_sender c x sender)
      by_number None f s h = absurd (not_both (is_in timers i.name.name) (is_in_some timers i.name.name (trigger f)) no_timer)
      by_number (Some v) f None h = absurd h
      by_number (Some v) f (Some p) h =
          let back = carried_back h.0 i.name.name x.name (paths_of c.block) (each_sender (λ q. carries c.block own q x.name) own i.name.name (paths_of c.block) all) h.2 in
          subst (λ o. IsSome (if_named c x o p)) (sym h.1) (subst (λ b. IsSome (cond b (Some p) None)) (sym back) refl)

  module _ (d : Draft) (routes : d.routes ≡ map (drafted_path c.block) (paths_of c.block)) (count : length d.processes ≡ length names) where
    -- A route of the draft carries the signal where a route of the text does.
    carried : (q : Party) (x : List ℕ) → carries c.block own q x ≡ true → IsPartyOf d.processes (drafted_party names q) × Reaches d.routes n (drafted_party names q) (sig x)
    carried q x e = (
      is_party d.processes count q (known_reached q x (paths_of c.block) known e),
      subst (λ (rs : List DraftRoute). Any (Takes n (drafted_party names q) (sig x)) rs) (sym routes) (reached q x (paths_of c.block) e),
    )

    to_known : (q : Party) (x : List ℕ) → carries c.block own q x ≡ true → IsPartyOf d.processes (party_or_environment (numbered c q)) × Reaches d.routes n (party_or_environment (numbered c q)) (sig x)
    to_known q x e =
        let f = numbered_known q (known_reached q x (paths_of c.block) known e) in
        subst (λ (r : code_party.Party). IsPartyOf d.processes r × Reaches d.routes n r (sig x)) (sym f) (carried q x e)

    -- The only receiver.
    to_one : (x : List ℕ) (qs : List Party) → Each (λ q. carries c.block own q x ≡ true) qs → nat_lt 0 (length qs) ≡ true → nat_lt 1 (length qs) ≡ false
        → IsPartyOf d.processes (party_or_environment (the_one c qs)) × Reaches d.routes n (party_or_environment (the_one c qs)) (sig x)
    to_one x [] h e f = absurd (let k : 0 < 0 = grind (arith, nat_tests) in omega (arith, k))
    to_one x (q ∷ []) h e f = to_known q x h.0
    to_one x (q ∷ r ∷ qs) h e f = absurd (let k : length (q ∷ r ∷ qs) < 2 = grind (arith, nat_tests) in omega (arith, k))

    -- ---- the sender

    own_party : (q : Party) → KnownParty names q → IsProcess n (drafted_party names q) → same_party own q ≡ true
    own_party Environment k e = absurd e
    own_party (Process id) k e = by_number (number_of names id.name) refl k e
      where
        by_number : (o : Option ℕ) → number_of names id.name ≡ o → IsSome o → number_or_zero o ≡ n → same_name c.process.name.name id.name ≡ true
        by_number None f k e = absurd (let k : ⊥ = cc in k)
        by_number (Some v) f k e =
            let h = number_there names id.name v f in
            let g : h.id ≡ c.process.name = same_place names v n h.id c.process.name h.there here e in
            same_other_way id.name c.process.name.name (subst (λ (i : Identifier). same_name id.name i.name ≡ true) g h.same)

    same_signal : (x y : List ℕ) (v : ℕ) → number_of sigs x ≡ Some v → IsSome (number_of sigs y) → number_or_zero (number_of sigs y) ≡ v → same_name x y ≡ true
    same_signal x y v e some f = by_number (number_of sigs y) refl some f
      where
        by_number : (o : Option ℕ) → number_of sigs y ≡ o → IsSome o → number_or_zero o ≡ v → same_name x y ≡ true
        by_number None g k f = absurd (let k : ⊥ = cc in k)
        by_number (Some w) g k f =
            let a = number_there sigs x v e in
            let b = number_there sigs y w g in
            let i : b.id ≡ a.id = same_place sigs w v b.id a.id b.there a.there f in
            trans_name x a.id.name y a.same (same_other_way y a.id.name (subst (λ (i : Identifier). same_name y i.name ≡ true) i b.same))

    signal_among : (x : List ℕ) (v : ℕ) → number_of sigs x ≡ Some v → (ids : List Identifier) → All (IsKnown sigs) ids → All (λ (k : SignalNumber). k ≡ (let m : SignalNumber = record { 0 = v } in m) → is_in ids x ≡ true) (map (λ (id : Identifier). sig id.name) ids)
    signal_among x v e [] h = All-nil (λ (k : SignalNumber). k ≡ (let m : SignalNumber = record { 0 = v } in m) → is_in [] x ≡ true)
    signal_among x v e (id ∷ ids) h =
        All-cons (λ (k : SignalNumber). k ≡ (let m : SignalNumber = record { 0 = v } in m) → is_in (id ∷ ids) x ≡ true) (sig id.name) (map (λ (id : Identifier). sig id.name) ids)
        (λ f. or_one (same_name x id.name) (is_in ids x) (same_signal x id.name v e (All-head (IsKnown sigs) id ids h) (ap (λ (k : SignalNumber). k.0) f)))
        (All-weaker (λ (k : SignalNumber). k ≡ (let m : SignalNumber = record { 0 = v } in m) → is_in ids x ≡ true) (λ (k : SignalNumber). k ≡ (let m : SignalNumber = record { 0 = v } in m) → is_in (id ∷ ids) x ≡ true)
        (λ k g f. or_other (same_name x id.name) (is_in ids x) (g f)) (map (λ (id : Identifier). sig id.name) ids) (signal_among x v e ids (All-tail (IsKnown sigs) id ids h)))

    answered : (x s : List ℕ) (v : ℕ) → number_of sigs x ≡ Some v → (paths : List PlainPath) → Each (IsKnownPath c.block) paths
        → Each (λ (path : PlainPath). same_party own path.to && is_in path.signals x ≡ true → carries c.block own path.from s ≡ true) paths
        → Each (Answers d.processes d.routes n (let m : SignalNumber = record { 0 = v } in m) (sig s)) (map (drafted_path c.block) paths)
    answered x s v e [] k h = tt
    answered x s v e (path ∷ paths) k h = (
      λ to there. (
          let mine = own_party path.to k.0.to to in
          let among = All-contains (λ (k : SignalNumber). k ≡ (let m : SignalNumber = record { 0 = v } in m) → is_in path.signals x ≡ true) (map (λ (id : Identifier). sig id.name) path.signals) (let m : SignalNumber = record { 0 = v } in m) (signal_among x v e path.signals k.0.signals) there refl in
          (carried path.from s (h.0 (and_both (same_party own path.to) (is_in path.signals x) mine among)))
          ),
      answered x s v e paths k.1 h.1,
    )

    -- A signal TO SENDER for this input arrives.
    pub answers_input : (i : PlainStimulus) (s : List ℕ) → IsTrigger c i.name → answers c.block c.process s i.name.name ≡ true → AnswersSender d n (sig s) (Some (trigger_of c i.name))
    answers_input i s trigger e = by_number (number_of sigs i.name.name) refl
      where
        timers : List Identifier
        timers = timers_of c.process

        no_timer : not (is_in timers i.name.name) ≡ true
        no_timer = and_left (not (is_in timers i.name.name)) (list_all (λ q. carries c.block own q s) (senders c.block own i.name.name)) e

        all : list_all (λ q. carries c.block own q s) (senders c.block own i.name.name) ≡ true
        all = and_right (not (is_in timers i.name.name)) (list_all (λ q. carries c.block own q s) (senders c.block own i.name.name)) e

        by_number : (o : Option ℕ) → number_of sigs i.name.name ≡ o → AnswersSender d n (sig s) (Some (trigger_with o (number_or_zero (number_of timers i.name.name))))
        by_number None f = absurd (not_both (is_in timers i.name.name) (is_in_some timers i.name.name (trigger f)) no_timer)
        by_number (Some v) f =
            let each = each_sender (λ q. carries c.block own q s) own i.name.name (paths_of c.block) all in
            let m : SignalNumber = record { 0 = v } in
            subst (λ (rs : List DraftRoute). All (Answers d.processes d.routes n m (sig s)) rs) (sym routes)
            (all_items (Answers d.processes d.routes n m (sig s)) (map (drafted_path c.block) (paths_of c.block)) (answered i.name.name s v f (paths_of c.block) known each))

    -- A signal that arrives by the text's routes reaches its receiver.
    pub arriving : (is : List Origin) (trigger : Option Trigger) → ((s : List ℕ) → answers_all c.block c.process is s ≡ true → AnswersSender d n (sig s) trigger)
        → (to : Option Destination) (x : Identifier) → arrives c.block c.process is to x.name ≡ true → is_doubtful c.block c.process to x.name ≡ false
        → ReachesReceiver d n (sig x.name) trigger (receiver_code c to x)
    arriving is trigger sender None x e f = to_one x.name (receivers c.block own x.name) (received c.block own x.name) e f
    arriving is trigger sender (Some (address.Process id)) x e f = to_known (Process id) x.name e
    arriving is trigger sender (Some (address.Sender at)) x e f = sender x.name e
