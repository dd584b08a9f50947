-- Every board settles, whether or not each card has one place: a card that goes home leaves one card less to go.
use Rattle.std.proofs.Common.{◌≡◌, ℕ, zero, suc, ◌+◌, ◌<◌, ◌≤◌, ◌⊎◌, Some, None, List, [], ◌∷◌, ◌++◌, length, refl, sym, ◌∙◌, ap, subst, inl, inr, ⊎_elim, length-append, arith}
use Rattle.std.specs.Prelude.{sum_by}
use Rattle.std.proofs.lemmas.Bool.{cases_lt}
use Rattle.std.proofs.lemmas.List.Sums.{sum_by-set}
use Rattle.fc_cards.specs.declared.places.Place.{Place}
use Rattle.fc_cards.specs.declared.places.Place.TheVariants.{Column, Cell, Home}
use Rattle.fc_position.specs.Board.{Board, column, cell, playable, front_of}
use Rattle.fc_position.proofs.BoardLemmas.{front_last, column_there, cell_there}
use Rattle.fc_moves.specs.declared.steps.Move.{Move}
use Rattle.fc_moves.specs.GameRules.{GameRules}
use Rattle.fc_moves.proofs.Rearrange.{one_full}
use Rattle.fc_home.specs.HomeRule.{GoesHome}
use Rattle.fc_home.specs.Settles.{IsFirstHome, NoneGoesHome, SettlesBy, sent_home}
use Rattle.fc_home.proofs.WayLemmas.{decide_goes}
use Rattle.fc_home.specs.Laws.{EveryBoardSettles}

-- of the playable cards of some places the one that goes home first is known, or none of them goes
abbrev Known : ℕ → GameRules → Board → (Place → Type 0) → Type 0
Known rule g b Seen =
    ((from : Place) × (c : ℕ) × (playable b from ≡ Some c) × GoesHome rule g b.homes c
    × ((other : Place) (d : ℕ) → Seen other → playable b other ≡ Some d → GoesHome rule g b.homes d → c ≤ d))
    ⊎ ((other : Place) (d : ℕ) → Seen other → playable b other ≡ Some d → GoesHome rule g b.homes d → ⊥)

module _ (rule : ℕ) (g : GameRules) (b : Board) where
  known_within : (Seen Fewer : Place → Type 0) → ((p : Place) → Fewer p → Seen p) → Known rule g b Seen → Known rule g b Fewer
  known_within Seen Fewer within known =
      ⊎_elim (λ (from, c, there, goes, least). inl (from, c, there, goes, λ other d seen. least other d (within other seen)))
      (λ none. inr (λ other d seen. none other d (within other seen))) known

  -- a place more, of which it is known whether its card goes
  same_card : (p other : Place) (k d : ℕ) → other ≡ p → playable b p ≡ Some k → playable b other ≡ Some d → d ≡ k
  same_card p other k d same here there =
      let one : playable b other ≡ playable b p = ap (playable b) same in cc (one, here, there)

  known_goer : (Seen : Place → Type 0) (p : Place) (k : ℕ) → playable b p ≡ Some k → GoesHome rule g b.homes k
      → Known rule g b Seen → Known rule g b (λ q. Seen q ⊎ (q ≡ p))
  known_goer Seen p k here goes known =
      ⊎_elim
      (λ (from, c, there, also, least).
      ⊎_elim
      (λ lt. inl (
        p,
        k,
        here,
        goes,
        λ other d seen at off. ⊎_elim
            (λ before. let most = least other d before at off in omega (arith, most, lt))
            (λ same. let e = same_card p other k d same here at in omega (arith, e)) seen,
      ))
      (λ le. inl (
        from,
        c,
        there,
        also,
        λ other d seen at off. ⊎_elim
            (λ before. least other d before at off)
            (λ same. let e = same_card p other k d same here at in omega (arith, e, le)) seen,
      ))
      (cases_lt k c))
      (λ none. inl (
        p,
        k,
        here,
        goes,
        λ other d seen at off. ⊎_elim
            (λ before. absurd (none other d before at off))
            (λ same. let e = same_card p other k d same here at in omega (arith, e)) seen,
      ))
      known

  known_stayer : (Seen : Place → Type 0) (p : Place) → ((d : ℕ) → playable b p ≡ Some d → GoesHome rule g b.homes d → ⊥)
      → Known rule g b Seen → Known rule g b (λ q. Seen q ⊎ (q ≡ p))
  known_stayer Seen p stays known =
      ⊎_elim
      (λ (from, c, there, also, least). inl (
        from,
        c,
        there,
        also,
        λ other d seen at off. ⊎_elim
            (λ before. least other d before at off)
            (λ same. absurd (stays d (ap (playable b) (sym same) ∙ at) off)) seen,
      ))
      (λ none. inr (λ other d seen at off. ⊎_elim
      (λ before. none other d before at off)
      (λ same. stays d (ap (playable b) (sym same) ∙ at) off) seen))
      known

  known_more : (Seen : Place → Type 0) (p : Place) → Known rule g b Seen → Known rule g b (λ q. Seen q ⊎ (q ≡ p))
  known_more Seen p known =
      elim (playable b p) as (λ x. playable b p ≡ x → Known rule g b (λ q. Seen q ⊎ (q ≡ p))) [
        | None ↦ λ e. known_stayer Seen p (λ d at off. absurd (cc (e, at))) known
        | Some k ↦ λ e. ⊎_elim (λ goes. known_goer Seen p k e goes known)
            (λ stuck. known_stayer Seen p (λ d at off. let same : d ≡ k = cc (e, at) in stuck (subst (GoesHome rule g b.homes) same off)) known)
            (decide_goes rule g b.homes k)
      ] refl

  known_first : (at : ℕ → Place) (n : ℕ) (Seen : Place → Type 0) → Known rule g b Seen
      → Known rule g b (λ q. Seen q ⊎ ((k : ℕ) × (k < n) × (q ≡ at k)))
  known_first at zero Seen known =
      known_within Seen (λ q. Seen q ⊎ ((k : ℕ) × (k < 0) × (q ≡ at k)))
      (λ q seen. ⊎_elim (λ before. before) (λ (k, below, e). absurd (omega (arith, below))) seen) known
  known_first at (suc n) Seen known =
      known_within (λ q. (Seen q ⊎ ((k : ℕ) × (k < n) × (q ≡ at k))) ⊎ (q ≡ at n))
      (λ q. Seen q ⊎ ((k : ℕ) × (k < suc n) × (q ≡ at k)))
      (λ q seen. ⊎_elim (λ before. inl (inl before))
      (λ (k, below, e). ⊎_elim (λ lt. inl (inr (k, lt, e)))
      (λ le. let last : k ≡ n = omega (arith, below, le) in inr (e ∙ ap at last)) (cases_lt k n)) seen)
      (known_more (λ q. Seen q ⊎ ((k : ℕ) × (k < n) × (q ≡ at k))) (at n) (known_first at n Seen known))

  -- the columns and the cells are all places of playable cards
  known_all : Known rule g b (λ q. (d : ℕ) × (playable b q ≡ Some d))
  known_all =
      known_within
      (λ q. (⊥ ⊎ ((k : ℕ) × (k < length b.columns) × (q ≡ Column k))) ⊎ ((k : ℕ) × (k < length b.cells) × (q ≡ Cell k)))
      (λ q. (d : ℕ) × (playable b q ≡ Some d)) (λ q (d, there). seen_there q d there)
      (known_first (λ k. Cell k) (length b.cells) (λ q. ⊥ ⊎ ((k : ℕ) × (k < length b.columns) × (q ≡ Column k)))
      (known_first (λ k. Column k) (length b.columns) (λ q. ⊥) (inr (λ other d seen at off. seen))))
    where
      seen_there : (q : Place) (d : ℕ) → playable b q ≡ Some d
          → (⊥ ⊎ ((k : ℕ) × (k < length b.columns) × (q ≡ Column k))) ⊎ ((k : ℕ) × (k < length b.cells) × (q ≡ Cell k))
      seen_there (Column i) d there = inl (inr (i, column_there b i d there, refl))
      seen_there (Cell i) d there = inr (i, cell_there b i d there, refl)
      seen_there Home d there = absurd (cc there)

-- how many cards lie in columns and cells
abbrev lying : Board → ℕ
lying b = sum_by length b.columns + sum_by one_full b.cells

sent_lying : (b : Board) (from : Place) (c : ℕ) → playable b from ≡ Some c → lying (sent_home b from c) + 1 ≡ lying b
sent_lying b (Column i) c there =
    let changed = sum_by-set length b.columns i (front_of (column b i)) [] (column_there b i c there) in
    let whole : length (column b i) ≡ length (front_of (column b i) ++ c ∷ []) = ap length (front_last (column b i) c there) in
    let parts : length (front_of (column b i) ++ c ∷ []) ≡ length (front_of (column b i)) + 1 =
    length-append (front_of (column b i)) (c ∷ []) in
    omega (arith, changed, whole, parts)
sent_lying b (Cell i) c there =
    let changed = sum_by-set one_full b.cells i None None (cell_there b i c there) in
    let held : one_full (cell b i) ≡ 1 = ap one_full there in
    omega (arith, changed, held)
sent_lying b Home c there = absurd (cc there)

first_or_none : (rule : ℕ) (g : GameRules) (b : Board) → ((from : Place) × (c : ℕ) × IsFirstHome rule g b from c) ⊎ NoneGoesHome rule g b
first_or_none rule g b =
    ⊎_elim (λ (from, c, there, goes, least). inl (from, c, record { there = there; goes = goes; least = λ other d at off. least other d (d, at) at off }))
    (λ none. inr (λ from c at off. none from c (c, at) at off)) (known_all rule g b)

every_within : (n rule : ℕ) (g : GameRules) (b : Board) → lying b ≤ n → (ms : List Move) × (q : Board) × SettlesBy g rule b ms q
every_within zero rule g b few =
    ⊎_elim (λ f. let less = sent_lying b f.0 f.1 f.2.there in absurd (omega (arith, less, few)))
    (λ none. ([], b, (refl, none))) (first_or_none rule g b)
every_within (suc n) rule g b few =
    ⊎_elim
    (λ f. let m : Move = record { from = f.0; to = Home } in
    let less = sent_lying b f.0 f.1 f.2.there in
    let rest = every_within n rule g (sent_home b f.0 f.1) (omega (arith, less, few)) in
    (m ∷ rest.0, rest.1, (f.1, f.2, refl, rest.2)))
    (λ none. ([], b, (refl, none))) (first_or_none rule g b)

pub every_settles : EveryBoardSettles
every_settles g rule b = let s = every_within (lying b) rule g b (omega arith) in (length s.0, s.1, (s.0, refl, s.2))
