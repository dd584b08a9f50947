-- The code of what a board settles to: the cards that went home have the state 1, and the others keep theirs.
use Rattle.std.proofs.Common.{◌≡◌, ◌≢◌, ℕ, ◌+◌, ◌*◌, ◌/◌, ◌<◌, ◌≤◌, ◌⊎◌, List, [], ◌∷◌, length, get_or, set, refl, sym, ◌∙◌, ap, subst, inl, inr, ⊎_elim, arith}
use Rattle.std.specs.Prelude.{slice_index, Option, Some, None}
use Rattle.std.specs.Option.{IsSome}
use Rattle.std.proofs.lemmas.List.{get_or-set_same, get_or-set_other, length-set}
use Rattle.std.proofs.lemmas.Bool.{cases_eq, cases_lt}
use Rattle.fc_cards.specs.Card.{rank, suit}
use Rattle.fc_cards.specs.Suit.{suit_index}
use Rattle.fc_cards.specs.declared.suits.Suit.{Suit}
use Rattle.fc_cards.specs.declared.suits.Suit.TheVariants.{C, D, H, S}
use Rattle.fc_position.specs.Board.{Board, IsHome}
use Rattle.fc_position.specs.Position.{IsPosition}
use Rattle.fc_position.proofs.BoardLemmas.{homes-lifted}
use Rattle.fc_moves.specs.declared.steps.Move.{Move}
use Rattle.fc_moves.specs.GameRules.{GameRules, IsGame}
use Rattle.fc_codes.specs.Moved.{Moves}
use Rattle.fc_codes.specs.State.{IsStateOf, IsCodeOf}
use Rattle.fc_codes.proofs.LandedLemmas.{home_code}
use Rattle.fc_codes.proofs.StateLemmas.{home_state, state_home}
use Rattle.fc_home.specs.Settles.{SettlesBy, sent_home}
use Rattle.fc_home.proofs.CountLemmas.{home-kept}
use Rattle.fc_home.proofs.SettleLemmas.{first_step, goes_next, sent_position}
use Rattle.fc_space.specs.inner.Codes.{IsSent, IsBetween, WentHome}

-- a card that is home stays home while a board settles
stays_home : (g : GameRules) (rule : ℕ) (b q : Board) (ms : List Move) (c : ℕ) → IsPosition b → SettlesBy g rule b ms q
    → IsHome b.homes c → IsHome q.homes c
stays_home g rule b q [] c p (same, none) home = subst (λ x. IsHome x.homes c) (sym same) home
stays_home g rule b q (m ∷ ms) c p (u, first, to, rest) home =
    let next = sent_home b m.from u in
    let lifted = homes-lifted b m.from in
    let kept : IsHome next.homes c =
    subst (λ h. IsHome (set h (suit u) (rank u)) c) (sym lifted) (home-kept b.homes u c p.homes (goes_next rule g b.homes u first.goes) home) in
    stays_home g rule next q ms c (sent_position rule g b m.from u p first) rest kept

-- what holds of the state, where the code after it has 1 for the cards that are home
sent_state : (s b : Board) (c old state : ℕ) → IsPosition b → c < 52 → IsStateOf s b c old → IsSent (IsHome b.homes c) old state
    → IsStateOf s b c state
sent_state s b c old state p below is sent =
    ⊎_elim (λ (one, home). subst (IsStateOf s b c) (home_state s b c old p home is ∙ sym one) is)
    (λ (same, away). subst (IsStateOf s b c) (sym same) is) sent

-- the code of where the moves led has the state 1 for the cards that are home there
sent_code : (g : GameRules) (rule : ℕ) (s b q : Board) (ms : List Move) (k l : List ℕ) → IsGame g → IsPosition b
    → IsCodeOf s b k → SettlesBy g rule b ms q → length l ≡ 52
    → ((c : ℕ) → c < 52 → IsSent (IsHome q.homes c) (slice_index k c) (slice_index l c)) → IsCodeOf s q l
sent_code g rule s b q [] k l game pb is (same, none) long sent = record {
  count = long;
  states = λ c below.
      subst (λ x. IsStateOf s x c (slice_index l c)) (sym same)
      (sent_state s b c (slice_index k c) (slice_index l c) pb below (is.states c below)
      (subst (λ x. IsSent (IsHome x.homes c) (slice_index k c) (slice_index l c)) same (sent c below)));
}
sent_code g rule s b q (m ∷ ms) k l game pb is (u, first, to, rest) long sent =
    let next = sent_home b m.from u in
    let moves : Moves s k u b m next = record {
      position = pb;
      coded = is;
      playable = first.there;
      game = g;
      sound = game;
      step = first_step rule g b m u first to;
    } in
    let after : IsCodeOf s next (set k u 1) = home_code s b next k u m moves to in
    let pn = sent_position rule g b m.from u pb first in
    sent_code g rule s next q ms (set k u 1) l game pn after rest long
    (λ c below.
    ⊎_elim
    (λ same. let one : slice_index (set k u 1) c ≡ 1 =
    ap (λ n. get_or (set k u 1) n 0) same ∙ get_or-set_same k u 1 0 (omega (arith, same, below, is.count)) in
    let here : IsHome next.homes c = state_home s next c (slice_index (set k u 1) c) (after.states c below) one in
    let home = stays_home g rule next q ms c pn rest here in
    ⊎_elim (λ (state, _). inl (state, home)) (λ (_, away). absurd (away home)) (sent c below))
    (λ other. subst (λ n. IsSent (IsHome q.homes c) n (slice_index l c)) (sym (get_or-set_other k u c 1 0 other)) (sent c below))
    (cases_eq c u))

-- so has the code that has it for the cards that went home
pub settled_code : (g : GameRules) (rule : ℕ) (s b q : Board) (ms : List Move) (k l : List ℕ) → IsGame g → IsPosition b
    → IsCodeOf s b k → SettlesBy g rule b ms q → (length k ≡ 52 → length l ≡ 52)
    → ((c : ℕ) → c < 52 → IsSent (WentHome b.homes q.homes c) (slice_index k c) (slice_index l c)) → IsCodeOf s q l
settled_code g rule s b q ms k l game pb coded settles long sent =
    sent_code g rule s b q ms k l game pb coded settles (long coded.count)
    (λ c below.
    ⊎_elim (λ (one, went). inl (one, went.0))
    (λ (same, stays). ⊎_elim
    (λ away. inr (same, λ home. stays (home, λ before. omega (arith, before, away))))
    (λ le. let before : IsHome b.homes c = omega (arith, le) in
    inl (same ∙ home_state s b c (slice_index k c) pb before (coded.states c below), stays_home g rule b q ms c pb settles before))
    (cases_lt (slice_index b.homes (suit c)) (rank c)))
    (sent c below))

-- two times the state 1 for some cards
sent_both : (P Q : Type 0) (old mid new : ℕ) → IsSent P old mid → IsSent Q mid new → IsSent (P ⊎ Q) old new
sent_both P Q old mid new one two =
    ⊎_elim (λ (state, q). inl (state, inr q))
    (λ (same, not_q). ⊎_elim (λ (state, p). inl (same ∙ state, inl p))
    (λ (kept, not_p). inr (same ∙ kept, λ either. ⊎_elim not_p not_q either)) one) two

sent_alike : (P Q : Type 0) (old new : ℕ) → (P → Q) → (Q → P) → IsSent P old new → IsSent Q old new
sent_alike P Q old new to back sent =
    ⊎_elim (λ (state, p). inl (state, to p)) (λ (same, none). inr (same, λ q. none (back q))) sent

-- the cards of a suit between the counts of that suit went home
between_went : (before homes : List ℕ) (u low high c : ℕ) → low ≡ slice_index before u → high ≡ slice_index homes u
    → IsBetween u low high c → WentHome before homes c
between_went before homes u low high c l h b =
    let x : slice_index before (suit c) ≡ low = ap (slice_index before) b.suited ∙ sym l in
    let y : slice_index homes (suit c) ≡ high = ap (slice_index homes) b.suited ∙ sym h in
    (omega (arith, y, b.most), λ home. omega (arith, home, x, b.above))

went_between : (before homes : List ℕ) (u low high c : ℕ) → low ≡ slice_index before u → high ≡ slice_index homes u
    → suit c ≡ u → WentHome before homes c → IsBetween u low high c
went_between before homes u low high c l h is (home, away) =
    let x : slice_index before (suit c) ≡ low = ap (slice_index before) is ∙ sym l in
    let y : slice_index homes (suit c) ≡ high = ap (slice_index homes) is ∙ sym h in
    record {
      suited = is;
      above = ⊎_elim (λ lt. lt) (λ le. absurd (away (omega (arith, le, x)))) (cases_lt low (rank c));
      most = omega (arith, home, y);
    }

-- the counts of one suit before and after
pub record Counts (before homes : List ℕ) (u low high : ℕ) : Type 0 where
  pub low_is : low ≡ slice_index before u
  pub high_is : high ≡ slice_index homes u

module _ (before homes : List ℕ) (l0 h0 l1 h1 l2 h2 l3 h3 : ℕ) (one : Counts before homes 0 l0 h0) (two : Counts before homes 1 l1 h1)
    (three : Counts before homes 2 l2 h2) (four : Counts before homes 3 l3 h3) where
  of_some : (c : ℕ) → ((IsBetween 0 l0 h0 c ⊎ IsBetween 1 l1 h1 c) ⊎ IsBetween 2 l2 h2 c) ⊎ IsBetween 3 l3 h3 c → WentHome before homes c
  of_some c some =
      ⊎_elim
      (λ x. ⊎_elim (λ y. ⊎_elim (λ z. between_went before homes 0 l0 h0 c one.low_is one.high_is z)
      (λ z. between_went before homes 1 l1 h1 c two.low_is two.high_is z) y)
      (λ y. between_went before homes 2 l2 h2 c three.low_is three.high_is y) x)
      (λ x. between_went before homes 3 l3 h3 c four.low_is four.high_is x) some

  some_of : (c : ℕ) → WentHome before homes c → ((IsBetween 0 l0 h0 c ⊎ IsBetween 1 l1 h1 c) ⊎ IsBetween 2 l2 h2 c) ⊎ IsBetween 3 l3 h3 c
  some_of c went =
      ⊎_elim (λ e. inl (inl (inl (went_between before homes 0 l0 h0 c one.low_is one.high_is e went))))
      (λ n0. ⊎_elim (λ e. inl (inl (inr (went_between before homes 1 l1 h1 c two.low_is two.high_is e went))))
      (λ n1. ⊎_elim (λ e. inl (inr (went_between before homes 2 l2 h2 c three.low_is three.high_is e went)))
      (λ n2. inr (went_between before homes 3 l3 h3 c four.low_is four.high_is (omega (arith, n0, n1, n2)) went)) (cases_eq (suit c) 2))
      (cases_eq (suit c) 1)) (cases_eq (suit c) 0)

  -- suit by suit the cards that went home get the state 1
  pub sent_all : (c k0 k1 k2 k3 k4 : ℕ) → IsSent (IsBetween 0 l0 h0 c) k0 k1 → IsSent (IsBetween 1 l1 h1 c) k1 k2
      → IsSent (IsBetween 2 l2 h2 c) k2 k3 → IsSent (IsBetween 3 l3 h3 c) k3 k4 → IsSent (WentHome before homes c) k0 k4
  sent_all c k0 k1 k2 k3 k4 a b d e =
      let ab = sent_both (IsBetween 0 l0 h0 c) (IsBetween 1 l1 h1 c) k0 k1 k2 a b in
      let abd = sent_both (IsBetween 0 l0 h0 c ⊎ IsBetween 1 l1 h1 c) (IsBetween 2 l2 h2 c) k0 k2 k3 ab d in
      let all = sent_both ((IsBetween 0 l0 h0 c ⊎ IsBetween 1 l1 h1 c) ⊎ IsBetween 2 l2 h2 c) (IsBetween 3 l3 h3 c) k0 k3 k4 abd e in
      sent_alike (((IsBetween 0 l0 h0 c ⊎ IsBetween 1 l1 h1 c) ⊎ IsBetween 2 l2 h2 c) ⊎ IsBetween 3 l3 h3 c) (WentHome before homes c) k0 k4
      (of_some c) (some_of c) all

-- the cards of a suit above one rank and up to another have the state 1, and the others their old one
pub record SoFar (code now : List ℕ) (u low rank : ℕ) : Type 0 where
  pub value : (c : ℕ) → c < 52 → IsSent (IsBetween u low rank c) (slice_index code c) (slice_index now c)
  pub count : length now ≡ length code

pub none_yet : (code : List ℕ) (u low : ℕ) → SoFar code code u low low
none_yet code u low = record { value = λ c below. inr (refl, λ b. omega (arith, b.above, b.most)); count = refl }

up_to : (c card u r : ℕ) → c ≢ card → card ≡ r * 4 + u → u < 4 → suit c ≡ u → rank c ≤ r + 1 → rank c ≤ r
up_to c card u r other is small suited most =
    ⊎_elim (λ e. absurd (other (omega (arith, e, is, small, suited)))) (λ ne. omega (arith, ne, most)) (cases_eq (c / 4) r)

-- one rank more
pub one_rank : (code now : List ℕ) (u low r card : ℕ) → length now ≡ 52 → u < 4 → low ≤ r → r < 13 → card ≡ r * 4 + u
    → SoFar code now u low r → SoFar code (set now card 1) u low (r + 1)
one_rank code now u low r card long suit_ from most is s = record {
  value = λ c below.
      ⊎_elim
      (λ same. let state : slice_index (set now card 1) c ≡ 1 =
      ap (λ n. get_or (set now card 1) n 0) same ∙ get_or-set_same now card 1 0 (omega (arith, same, below, long)) in
      inl (state, record { suited = omega (arith, same, is, suit_); above = omega (arith, same, is, suit_, from); most = omega (arith, same, is, suit_) }))
      (λ other. let kept = get_or-set_other now card c 1 0 other in
      ⊎_elim (λ (state, b). inl (kept ∙ state, record { suited = b.suited; above = b.above; most = omega (arith, b.most) }))
      (λ (state, none). inr (
        kept ∙ state,
        λ b.
            none (record { suited = b.suited; above = b.above; most = up_to c card u r other is suit_ b.suited b.most }),
      )) (s.value c below))
      (cases_eq c card);
  count = length-set now card 1 ∙ s.count;
}

-- all ranks
pub all_ranks : (code now : List ℕ) (u low high rank_ c : ℕ) → SoFar code now u low rank_ → high ≤ rank_
    → (low ≤ high → rank_ ≤ high) → (high ≤ low → rank_ ≡ low) → c < 52
    → IsSent (IsBetween u low high c) (slice_index code c) (slice_index now c)
all_ranks code now u low high r c s far near empty below =
    sent_alike (IsBetween u low r c) (IsBetween u low high c) (slice_index code c) (slice_index now c)
    (λ b. record {
      suited = b.suited;
      above = b.above;
      most = ⊎_elim (λ lt. absurd (let same = empty (omega (arith, lt)) in omega (arith, same, b.above, b.most)))
          (λ le. let most = near le in omega (arith, most, b.most)) (cases_lt high low);
    })
    (λ b. record { suited = b.suited; above = b.above; most = omega (arith, b.most, far) }) (s.value c below)

pub suit_below : (u : Suit) → suit_index u < 4
suit_below C = omega arith
suit_below D = omega arith
suit_below H = omega arith
suit_below S = omega arith

pub not_none : {X : Type 0} (o : Option X) → IsSome o → o ≡ None → ⊥
not_none None some none = cc
not_none (Some x) some none = cc
