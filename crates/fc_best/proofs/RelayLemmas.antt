-- What a listener hears of several searches, where one of them is heard.
use Rattle.std.proofs.Common.{◌≡◌, ◌∙◌, sym, ap, subst, refl, List, [], ◌∷◌}
use Rattle.std.specs.Prelude.{All}
use Rattle.std.proofs.lemmas.List.Elements.{All-nil, All-cons}
use Rattle.fc_position.specs.Board.{Board}
use Rattle.fc_moves.specs.GameRules.{GameRules}
use Rattle.fc_search.specs.Watch.{Far, Report, HearsAll, HearsFar, TellFloors}
use Rattle.fc_search.specs.declared.listeners.Progress.{Progress}
use Rattle.fc_best.specs.declared.relays.Relay.{Relay}
use Rattle.fc_best.specs.inner.Watch.{HearsFurther, IsFurther, IsFurtherTold, IsJoined, Relays}

-- what was told is told after itself
pub further_same : (far : Progress) → IsFurther far far
further_same far = record { budget = refl; shortest = refl; at_least = refl }

-- and so is what is told while a further search goes on
further_joined : (before : Progress) (one : Progress) (far : Progress) → IsJoined before one far → IsFurther before far
further_joined before one far joined = record { budget = joined.budget; shortest = joined.shortest; at_least = joined.at_least }

module _ {L : Type 0} (hears : L → Report → L → Type 0) where
  -- what a relay that hears a search does
  abbrev pub relays : Relay L → Progress → Relay L → Type 0
  relays = HearsFar (Relays hears)

  -- the relay is still of the same listener, which heard these, all told after what was told before; and so is what was told last
  pub record Passes (before : Progress) (old new : Relay L) : Type 0 where
    pub name : new.listener.ghost_name ≡ old.listener.ghost_name
    pub told : List Report
    pub hearing : HearsAll hears old.listener.now told new.listener.now
    pub further : All (IsFurtherTold before) told
    pub last : IsFurther before new.last

  passes : (before : Progress) (old : Relay L) (heard : List Progress) (new : Relay L) → HearsAll relays old heard new
      → old.before ≡ before → IsFurther before old.last → Passes before old new
  passes before old [] new same kept last = record {
    name = ap (λ (r : Relay L). r.listener.ghost_name) same;
    told = [];
    hearing = ap (λ (r : Relay L). r.listener.now) same;
    further = All-nil (IsFurtherTold before);
    last = subst (λ (r : Relay L). IsFurther before r.last) (sym same) last;
  }
  passes before old (far ∷ later) new (mid, (name, stays, joined, hearing), rest) kept last =
      let one = further_joined before far mid.last (subst (λ f. IsJoined f far mid.last) kept joined) in
      let more = passes before mid later new rest (stays ∙ kept) one in
      record {
        name = more.name ∙ name;
        told = Far mid.last ∷ more.told;
        hearing = (mid.listener.now, hearing, more.hearing);
        further = All-cons (IsFurtherTold before) (Far mid.last) more.told one more.further;
        last = more.last;
      }

  -- what the listener heard, where it ends as the relay left it
  pub passed_on : (g : GameRules) (b : Board) (given : L) (old new : Relay L)
      → (old.listener.ghost_name ≡ new.listener.ghost_name → given ≡ new.listener.now)
      → ((heard : List Progress) × HearsAll relays old heard new × TellFloors g b heard) → old.last ≡ old.before
      → HearsFurther hears old.before old.listener.now given
  passed_on g b given old new lent (heard, hearing, floors) same =
      let all = passes old.before old heard new hearing refl (subst (IsFurther old.before) (sym same) (further_same old.before)) in
      (all.told, subst (HearsAll hears old.listener.now all.told) (sym (lent (sym all.name))) all.hearing, all.further)

  pub told_last : (g : GameRules) (b : Board) (old new : Relay L)
      → ((heard : List Progress) × HearsAll relays old heard new × TellFloors g b heard) → old.last ≡ old.before → IsFurther old.before new.last
  told_last g b old new (heard, hearing, floors) same =
      (passes old.before old heard new hearing refl (subst (IsFurther old.before) (sym same) (further_same old.before))).last
