-- The names of actors stay as the effects of a turn take place.
use Rattle.std.proofs.Common.{◌≡◌, ℕ, List, Option, Some, refl, sym, ap, ◌∙◌}
use Rattle.std.specs.Prelude.{slice_get}
use Rattle.turn_code.specs.declared.value.Value.{Value}
use Rattle.turn_code.specs.declared.effect.Effect.{Effect}
use Rattle.turn_code.specs.declared.effect.Effect.TheVariants.{Output, Set, Reset}
use Rattle.turn_code.specs.declared.effect.Sending.{Sending}
use Rattle.turn_code.specs.declared.input.Party.{Party}
use Rattle.turn_code.specs.declared.input.Party.TheVariants.{Environment, Process}
use Rattle.turn_code.specs.declared.numbers.InstanceNumber.{InstanceNumber}
use Rattle.turn_code.specs.declared.draft.DraftProcess.{DraftProcess}
use Rattle.actor_machine.specs.Names.{actors_of, place_of, number_for}
use Rattle.actor_machine.specs.declared.name.ActorName.{ActorName}
use Rattle.actor_machine.specs.Core.{Core, change, names_in}
use Rattle.actor_machine.specs.Effects.{arrival_of, receives, drops, delivered, laid}
use Rattle.actor_machine.specs.declared.actor.Actor.{Actor}
use Rattle.actor_machine.proofs.Numbering.{actors_law}
use Rattle.actor_machine.proofs.FitsLists.{NamesStay, names_change, names_found}
use Rattle.actor_machine.proofs.FitsActors.{receives_stay, drops_stay}
use Rattle.actor_state.specs.Outcomes.{with_variables}

-- the name at a number of the set's actors has its first place there
pub placed_at : (ps : List DraftProcess) (names : List ActorName) (n : ℕ) (x : ActorName) → names ≡ actors_of ps → slice_get names n ≡ Some x
    → place_of x names ≡ Some n
placed_at ps names n x same there =
    ap (place_of x) same ∙ (actors_law.numbers ps n x).0 (ap (λ (xs : List ActorName). slice_get xs n) (sym same) ∙ there)

delivered_names : (me : ActorName) (w : Core) (s : Sending) (p : Party) (k : Option InstanceNumber) → names_in (delivered me w s p k).actors ≡ names_in w.actors
delivered_names me w s Environment k = refl
delivered_names me w s (Process p) k =
    names_found w.actors (number_for (names_in w.actors) me p k) (receives (arrival_of me s)) (receives_stay (arrival_of me s))

laid_names : (n : ℕ) (me : ActorName) (w : Core) (e : Effect) → names_in (laid n me w e).actors ≡ names_in w.actors
laid_names n me w (Output s) = delivered_names me w s s.receiver.party s.receiver.instance
laid_names n me w (Set t z) = names_change w.actors n (drops t.0) (drops_stay t.0)
laid_names n me w (Reset t) = names_change w.actors n (drops t.0) (drops_stay t.0)

-- an effect leaves the names unchanged
pub laid_kept : (ps : List DraftProcess) (n : ℕ) (me : ActorName) (w v : Core) (e : Effect) → v ≡ laid n me w e → names_in w.actors ≡ actors_of ps
    → names_in v.actors ≡ actors_of ps
laid_kept ps n me w v e made names = ap (λ (x : Core). names_in x.actors) made ∙ laid_names n me w e ∙ names

variables_stay : (vs : List (Option Value)) → NamesStay (with_variables vs)
unfolding NamesStay
variables_stay vs a = refl

-- setting the variables of an actor leaves the names unchanged
pub settled_kept : (ps : List DraftProcess) (n : ℕ) (vs : List (Option Value)) (xs ys : List Actor) → ys ≡ change xs n (with_variables vs)
    → names_in xs ≡ actors_of ps → names_in ys ≡ actors_of ps
settled_kept ps n vs xs ys made names = ap names_in made ∙ names_change xs n (with_variables vs) (variables_stay vs) ∙ names
