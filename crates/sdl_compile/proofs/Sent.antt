-- A party that sends a signal to a process by the draft's routes may have sent it by the text's.
use Rattle.std.proofs.Common.{◌≡◌, ℕ, zero, suc, Bool, true, false, ◌||◌, ◌&&◌, List, [], ◌∷◌, map, Option, Some, None, IsSome, refl, sym, ap, ◌∙◌, subst, arith}
use Rattle.std.specs.Prelude.{slice_get, Any, All, Contains, bytes_eq}
use Rattle.std.proofs.lemmas.List.Elements.{All-head, All-tail}
use Rattle.std.specs.List.{list_any}
use Rattle.sdl_lex.specs.Spelling.{folded}
use Rattle.sdl_ast.specs.declared.expression.Identifier.{Identifier}
use Rattle.sdl_ast.specs.declared.tree.Party as tree_party
use Rattle.sdl_ast.specs.declared.tree.Party.TheVariants as tree_parties
use Rattle.sdl_ast.specs.Plain.{PlainPath, PlainProcess, PlainBlock}
use Rattle.turn_code.specs.declared.numbers.SignalNumber.{SignalNumber}
use Rattle.turn_code.specs.declared.input.Party.{Party}
use Rattle.turn_code.specs.declared.input.Address.{Address}
use Rattle.turn_code.specs.Routes.{IsProcess, Brings}
use Rattle.sdl_tables.specs.Names.{same_name, is_in, number_of, signal_names, process_names}
use Rattle.sdl_sound.specs.Receivers.{same_party, party_of, brings, paths_of}
use Rattle.sdl_meaning.specs.Act.{scope_of, named}
use Rattle.sdl_meaning.specs.Outcomes.{signal_at}
use Rattle.sdl_meaning.specs.Code.{number_or_zero}
use Rattle.sdl_meaning.specs.Named.{IsBroughtBy}
use Rattle.sdl_compile.specs.Blocks.{drafted_party, drafted_path}
use Rattle.sdl_compile.specs.Routes.{KnownParty, IsKnown, IsKnownPath, signal_numbered}
use Rattle.sdl_sound.proofs.Items.{Each}
use Rattle.sdl_meaning.proofs.Numbers.{number_there}
use Rattle.sdl_sound.proofs.Numbered.{same_folded as folded_alike, same_back as same_other_way}

names_alike : (x y z : List ℕ) → same_name x y ≡ true → same_name x z ≡ same_name y z
names_alike x y z h = ap (λ f. bytes_eq f (folded z)) (folded_alike x y h)

-- A known name has the spelling of the identifier at its number.
record Spelled (ids : List Identifier) (x : List ℕ) (n : ℕ) : Type 0 where
  id : Identifier
  there : slice_get ids n ≡ Some id
  same : same_name x id.name ≡ true

spelled : (ids : List Identifier) (x : List ℕ) (n : ℕ) → IsSome (number_of ids x) → number_or_zero (number_of ids x) ≡ n → Spelled ids x n
spelled ids x n some e = by_number (number_of ids x) refl some e
  where
    by_number : (o : Option ℕ) → number_of ids x ≡ o → IsSome o → number_or_zero o ≡ n → Spelled ids x n
    by_number None f h e = absurd (let k : ⊥ = cc in k)
    by_number (Some v) f h e =
        let t = number_there ids x n (f ∙ ap Some e) in
        record { id = t.id; there = t.there; same = t.same }

-- The party with the number of a known one.
record Names (b : PlainBlock) (p : PlainProcess) (q : tree_party.Party) (sender : Party) : Type 0 where
  party : tree_party.Party
  named_so : named (scope_of b p) sender ≡ Some party
  same : same_party party q ≡ true

name_of : (b : PlainBlock) (p : PlainProcess) (q : tree_party.Party) (sender : Party) → KnownParty (process_names b) q → drafted_party (process_names b) q ≡ sender → Names b p q sender
name_of b p tree_parties.Environment sender known e =
    subst (Names b p tree_parties.Environment) e (record { party = tree_parties.Environment; named_so = refl; same = refl })
name_of b p (tree_parties.Process id) sender known e =
    let n = number_or_zero (number_of (process_names b) id.name) in
    let t = spelled (process_names b) id.name n known refl in
    subst (Names b p (tree_parties.Process id)) e (record {
      party = tree_parties.Process t.id;
      named_so = ap (λ (o : Option Identifier). as_party o) t.there;
      same = same_other_way id.name t.id.name t.same;
    })
  where
    as_party : Option Identifier → Option tree_party.Party
    as_party None = None
    as_party (Some id) = Some (tree_parties.Process id)

-- The process with this number is this one.
own_party : (b : PlainBlock) (p : PlainProcess) (n : ℕ) (q : tree_party.Party) → slice_get (process_names b) n ≡ Some p.name → KnownParty (process_names b) q → IsProcess n (drafted_party (process_names b) q) → same_party (party_of p) q ≡ true
own_party b p n tree_parties.Environment at known h = absurd h
own_party b p n (tree_parties.Process id) at known h =
    let t = spelled (process_names b) id.name n known h in
    let e : Some t.id ≡ Some p.name = sym t.there ∙ at in
    let f : t.id ≡ p.name = cc in
    same_other_way id.name p.name.name (ap (λ (i : Identifier). same_name id.name i.name) (sym f) ∙ t.same)

-- A signal with this number is among those of a path.
in_signals : (b : PlainBlock) (x : List ℕ) (m : SignalNumber) → number_of (signal_names b) x ≡ Some m.0 → (ids : List Identifier) → All (IsKnown (signal_names b)) ids
    → Contains (map (signal_numbered (signal_names b)) ids) m → is_in ids x ≡ true
in_signals b x m e [] known h = absurd (let l = h.1 in omega (arith, l))
in_signals b x m e (id ∷ ids) known (zero, l, f) =
    let names = signal_names b in
    let t = spelled names id.name m.0 (All-head (IsKnown names) id ids known) (ap (λ (n : SignalNumber). n.0) f) in
    let u = number_there names x m.0 e in
    let g : Some t.id ≡ Some u.id = sym t.there ∙ u.there in
    let i : t.id ≡ u.id = cc in
    let same : same_name x id.name ≡ true =
    names_alike x u.id.name id.name u.same
    ∙ ap (λ (i : Identifier). same_name i.name id.name) (sym i) ∙ same_other_way id.name t.id.name t.same in
    ap (λ t. t || is_in ids x) same
in_signals b x m e (id ∷ ids) known (suc k, l, f) =
    let rest = in_signals b x m e ids (All-tail (IsKnown (signal_names b)) id ids known) (k, omega (arith, l), f) in
    or_true (same_name x id.name) (is_in ids x) rest
  where
    or_true : (s t : Bool) → t ≡ true → s || t ≡ true
    or_true true t e = refl
    or_true false t e = e

-- The sender by the draft's routes is one by the text's.
pub record IsNamed (b : PlainBlock) (p : PlainProcess) (x : List ℕ) (sender : Party) (paths : List PlainPath) : Type 0 where
  pub party : tree_party.Party
  pub named_so : named (scope_of b p) sender ≡ Some party
  pub brought : list_any (brings party (party_of p) x) paths ≡ true

path_brings : (b : PlainBlock) (p : PlainProcess) (n : ℕ) (x : List ℕ) (m : SignalNumber) (sender : Party) (path : PlainPath) (paths : List PlainPath)
    → slice_get (process_names b) n ≡ Some p.name → number_of (signal_names b) x ≡ Some m.0 → IsKnownPath b path → Brings sender n m (drafted_path b path) → IsNamed b p x sender (path ∷ paths)
path_brings b p n x m sender path paths at e known h =
    let q = name_of b p path.from sender known.from h.from in
    let own = own_party b p n path.to at known.to (subst (IsProcess n) (sym h.to) refl) in
    let signal = in_signals b x m e path.signals known.signals h.signal in
    record {
      party = q.party;
      named_so = q.named_so;
      brought = ap (λ t. (t && (same_party (party_of p) path.to && is_in path.signals x)) || list_any (brings q.party (party_of p) x) paths) q.same
          ∙ ap (λ t. (t && is_in path.signals x) || list_any (brings q.party (party_of p) x) paths) own
          ∙ ap (λ t. t || list_any (brings q.party (party_of p) x) paths) signal;
    }

paths_bring : (b : PlainBlock) (p : PlainProcess) (n : ℕ) (x : List ℕ) (m : SignalNumber) (sender : Party) (paths : List PlainPath)
    → slice_get (process_names b) n ≡ Some p.name → number_of (signal_names b) x ≡ Some m.0 → Each (IsKnownPath b) paths → Any (Brings sender n m) (map (drafted_path b) paths) → IsNamed b p x sender paths
paths_bring b p n x m sender [] at e known h = absurd (let l = h.2 in omega (arith, l))
paths_bring b p n x m sender (path ∷ paths) at e known (zero, r, l, f, h) =
    path_brings b p n x m sender path paths at e known.0 (subst (Brings sender n m) (sym f) h)
paths_bring b p n x m sender (path ∷ paths) at e known (suc k, r, l, f, h) =
    let rest = paths_bring b p n x m sender paths at e known.1 (k, r, omega (arith, l), f, h) in
    record {
      party = rest.party;
      named_so = rest.named_so;
      brought = or_true (brings rest.party (party_of p) x path) (list_any (brings rest.party (party_of p) x) paths) rest.brought;
    }
  where
    or_true : (s t : Bool) → t ≡ true → s || t ≡ true
    or_true true t e = refl
    or_true false t e = e

-- A sender with a draft's route for the signal may have sent it.
pub sent_by : (b : PlainBlock) (p : PlainProcess) (n : ℕ) (id : Identifier) (m : SignalNumber) (sender : Address)
    → slice_get (process_names b) n ≡ Some p.name → signal_at (scope_of b p) id ≡ Some m.0 → Each (IsKnownPath b) (paths_of b) → Any (Brings sender.party n m) (map (drafted_path b) (paths_of b)) → IsBroughtBy (scope_of b p) id (Some sender)
sent_by b p n id m sender at e known h =
    let r = paths_bring b p n id.name m sender.party (paths_of b) at e known h in
    (r.party, r.named_so, r.brought)
