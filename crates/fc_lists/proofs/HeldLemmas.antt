-- Lists that people write, word by word.
use Rattle.std.proofs.Common.{◌≡◌, ◌∙◌, ℕ, Option, Some, None, Result, Ok, Err, true, false, List, [], ◌∷◌, ◌++◌, refl, sym, subst}
use Rattle.std.specs.Prelude.{IfErr, IfNone, IfOk, IfSome, OnOk}
use Rattle.fc_cards.specs.declared.places.Place.{Place}
use Rattle.fc_moves.specs.declared.steps.Move.{Move}
use Rattle.fc_text.specs.Fault.{IsNoCard}
use Rattle.fc_lists.specs.Word.{IsMoveWord, IsNoMoveWord, NamesNoPlace, NamesPlace, after_links, is_link, words_of}
use Rattle.fc_lists.specs.Written.{AreEntries, BeginsNoPlace, IsEntriesFault, ReadsEntries, begins, goes_on, goes_to, moves}
use Rattle.fc_lists.specs.inner.Held.{IsHeld, IsMoveIfAny, IsPending, IsPushFault}
use Rattle.fc_lists.specs.declared.people.EntriesFault.{EntriesFault}
use Rattle.fc_lists.specs.declared.people.EntriesFault.TheVariants.{NoMove, Memory}
use Rattle.fc_lists.specs.declared.people.Held.{Held}
use Rattle.fc_lists.specs.declared.written_entries.Entry.{Entry}
use Rattle.fc_lists.specs.declared.written_entries.Entry.TheVariants.{Move as of_move, Card as of_card}
use Rattle.fc_lists.proofs.WordLemmas.{links_end, links_more}

-- the move of a word, or none
pub move_if_any : (word : List ℕ) (m : Option Move) → IfSome m (IsMoveWord word) → IfNone m (IsNoMoveWord word) → IsMoveIfAny word m
move_if_any word None read refused = refused
move_if_any word (Some m) read refused = read

-- a move was pushed
abbrev pub Pushes : Option Move → List Entry → List Entry → Type 0
Pushes m old new = (n : Move) × (m ≡ Some n) × (new ≡ old ++ of_move n ∷ [])

-- a word that is a move and no card
pub moved : (word : List ℕ) (m : Option Move) (old new : List Entry) → IsNoCard word → IfSome m (IsMoveWord word) → Pushes m old new
    → (words rest : List (List ℕ)) → ReadsEntries words old (word ∷ rest) → ReadsEntries words new rest
moved word m old new none read (n, is, pushed) words rest so =
    subst (λ es. ReadsEntries words es rest) (sym pushed) (moves old word rest n so none (subst (λ o. IfSome o (IsMoveWord word)) is read))

-- a word that is neither
pub unmoved : (word : List ℕ) (m : Option Move) (old : List Entry) (fault : EntriesFault) → IsNoCard word → IfNone m (IsNoMoveWord word) → IsPushFault m old fault
    → (words rest : List (List ℕ)) → ReadsEntries words old (word ∷ rest) → IsEntriesFault words fault
unmoved word m old (NoMove step) none refused (is, place) words rest so = record {
  entries = old;
  rest = word ∷ rest;
  read = so;
  none = (subst (λ o. IfNone o (IsNoMoveWord word)) is refused, λ c spells. absurd (none c spells));
  place = place;
}
unmoved word m old Memory none refused why words rest so = tt

-- a link behind a card
pub link_passed : (word : List ℕ) (held : Held) (old : List Entry) → is_link word ≡ true
    → (words rest : List (List ℕ)) → IsHeld words held old (word ∷ rest) → IsHeld words held old rest
link_passed word held old link words rest so = record {
  word = so.word;
  behind = so.behind;
  read = so.read;
  card = so.card;
  as_move = so.as_move;
  links = so.links ∙ links_more word rest link;
}

-- a place behind a card
pub placed : (word : List ℕ) (to : Place) (held : Held) (old new : List Entry) → is_link word ≡ false → NamesPlace word to → new ≡ old ++ of_card held.card to ∷ []
    → (words rest : List (List ℕ)) → IsHeld words held old (word ∷ rest) → ReadsEntries words new rest
placed word to held old new link names pushed words rest so =
    subst (λ es. ReadsEntries words es rest) (sym pushed)
    (goes_to old so.word word so.behind rest held.card to so.read so.card (so.links ∙ links_end word rest link) names)

-- no place behind a card, whose name is a move
released : (held : Held) (old new : List Entry) (words next : List (List ℕ)) → after_links next ≡ next → BeginsNoPlace next → Pushes held.m old new
    → IsHeld words held old next → ReadsEntries words new next
released held old new words next same none (n, is, pushed) so =
    let left : after_links so.behind ≡ next = so.links ∙ same in
    subst (λ es. ReadsEntries words es next) (sym pushed)
    (subst (λ l. ReadsEntries words (old ++ of_move n ∷ []) l) left
    (goes_on old so.word so.behind held.card n so.read so.card (subst BeginsNoPlace (sym left) none) (subst (IsMoveIfAny so.word) is so.as_move)))

-- or none
unreleased : (held : Held) (old : List Entry) (fault : EntriesFault) (words next : List (List ℕ)) → after_links next ≡ next → BeginsNoPlace next → IsPushFault held.m old fault
    → IsHeld words held old next → IsEntriesFault words fault
unreleased held old (NoMove step) words next same none (is, place) so = record {
  entries = old;
  rest = so.word ∷ so.behind;
  read = so.read;
  none = (subst (IsMoveIfAny so.word) is so.as_move, λ c spells. subst BeginsNoPlace (sym (so.links ∙ same)) none);
  place = place;
}
unreleased held old Memory words next same none why so = tt

-- with another word behind it
pub released_word : (word : List ℕ) (held : Held) (old new : List Entry) → is_link word ≡ false → NamesNoPlace word → Pushes held.m old new
    → (words rest : List (List ℕ)) → IsHeld words held old (word ∷ rest) → ReadsEntries words new (word ∷ rest)
released_word word held old new link none pushed words rest so = released held old new words (word ∷ rest) (links_end word rest link) none pushed so

pub unreleased_word : (word : List ℕ) (held : Held) (old : List Entry) (fault : EntriesFault) → is_link word ≡ false → NamesNoPlace word → IsPushFault held.m old fault
    → (words rest : List (List ℕ)) → IsHeld words held old (word ∷ rest) → IsEntriesFault words fault
unreleased_word word held old fault link none why words rest so = unreleased held old fault words (word ∷ rest) (links_end word rest link) none why so

-- with nothing behind it
pub released_last : (held : Held) (old new : List Entry) → Pushes held.m old new → (words : List (List ℕ)) → IsHeld words held old [] → AreEntries words new
released_last held old new pushed words so = released held old new words [] refl tt pushed so

pub unreleased_last : (held : Held) (old : List Entry) (fault : EntriesFault) → IsPushFault held.m old fault
    → (words : List (List ℕ)) → IsHeld words held old [] → IsEntriesFault words fault
unreleased_last held old fault why words so = unreleased held old fault words [] refl tt why so

-- what is read behind a card is read behind the list so far
module _ (word : List ℕ) (held : Held) (old mid new : List Entry)
    (released_on : (words rest : List (List ℕ)) → IsHeld words held old (word ∷ rest) → ReadsEntries words mid (word ∷ rest)) where
  pub read_on : (r : Result (Option Held) EntriesFault)
      → IfOk r (λ now. (words rest : List (List ℕ)) → ReadsEntries words mid (word ∷ rest) → IsPending words now new rest)
      → IfOk r (λ now. (words rest : List (List ℕ)) → IsHeld words held old (word ∷ rest) → IsPending words now new rest)
  read_on (Ok now) so = λ words rest is. so words rest (released_on words rest is)
  read_on (Err fault) so = tt

  pub refused_on : (r : Result (Option Held) EntriesFault)
      → IfErr r (λ fault. (words rest : List (List ℕ)) → ReadsEntries words mid (word ∷ rest) → IsEntriesFault words fault)
      → IfErr r (λ fault. (words rest : List (List ℕ)) → IsHeld words held old (word ∷ rest) → IsEntriesFault words fault)
  refused_on (Ok now) so = tt
  refused_on (Err fault) so = λ words rest is. so words rest (released_on words rest is)

-- the end of a list
pub ended : (r : Result (Unit {0}) EntriesFault) (held : Option Held) (before : Held) (old new : List Entry) → held ≡ Some before → OnOk r (Pushes before.m old new)
    → OnOk r ((words : List (List ℕ)) → IsPending words held old [] → AreEntries words new)
ended (Ok done) held before old new is pushed = λ words so. released_last before old new pushed words (subst (λ h. IsPending words h old []) is so)
ended (Err fault) held before old new is pushed = tt

pub unended : (r : Result (Unit {0}) EntriesFault) (held : Option Held) (before : Held) (old : List Entry) → held ≡ Some before → IfErr r (IsPushFault before.m old)
    → IfErr r (λ fault. (words : List (List ℕ)) → IsPending words held old [] → IsEntriesFault words fault)
unended (Ok done) held before old is why = tt
unended (Err fault) held before old is why = λ words so. unreleased_last before old fault why words (subst (λ h. IsPending words h old []) is so)

-- before the first word
pub begun : (list rest : List ℕ) (entries : List Entry) → entries ≡ [] → rest ≡ list → ReadsEntries (words_of list) entries (words_of rest)
begun list rest entries none same =
    subst (λ es. ReadsEntries (words_of list) es (words_of rest)) (sym none) (subst (λ r. ReadsEntries (words_of list) [] (words_of r)) (sym same) begins)
