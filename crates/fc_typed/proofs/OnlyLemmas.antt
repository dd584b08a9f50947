-- No other foundation line makes a text a board.
use Rattle.std.proofs.Common.{◌≡◌, Bool, Some, None, rules, ℕ, zero, suc, ◌+◌, ◌-◌, ◌*◌, ◌<◌, ◌≤◌, ◌==◌, false, cond, List, [], ◌∷◌, ◌++◌, length, map, take, drop, inl, inr, refl, sym, ◌∙◌, ap, subst, ⊎_elim, arith}
use Rattle.std.specs.Prelude.{All, Contains, codes, slice_index}
use Rattle.std.specs.List.{slice_split}
use Rattle.std.proofs.lemmas.List.{append_assoc, drop_more, take-append-drop}
use Rattle.std.proofs.lemmas.List.Elements.{All-cons, All-nil}
use Rattle.std.proofs.lemmas.List.Splits.{length-slice_split, slice_split_at}
use Rattle.std.proofs.lemmas.Bool.{cases_order, cond-false, le-leb, lt-leb}
use Rattle.std.proofs.lemmas.Bool.Decides.{nat_tests}
use Rattle.fc_cards.specs.Card.{rank, suit}
use Rattle.fc_cards.specs.Texts.{IsRank, rank_letter, suit_letter, with_line_end}
use Rattle.fc_cards.proofs.EachRank.{by_rank, by_suit}
use Rattle.fc_cards.proofs.TextLemmas.{rank_letter-upper, suit_letter-upper}
use Rattle.fc_position.specs.Board.{Board, count_at_home, home}
use Rattle.fc_text.specs.Board.{Spells}
use Rattle.fc_text.specs.Line.{Line, after_blanks, after_name, board_lines, cell_names, foundation_names, is_line_end, line_of, lines_of, parts_of, sorted_line, without_return}
use Rattle.fc_text.specs.Printed.{count_letter, entries_text, home_text}
use Rattle.fc_text.specs.Spelling.{SpellsCount, SpellsHome, SpellsHomeIn, is_foundations}
use Rattle.fc_text.specs.Spot.{HasCard, TellsNowhere}
use Rattle.fc_text.proofs.OnceLemmas.{board_once, no_twice}
use Rattle.fc_text.proofs.PrintedPieces.{AllAbove, ArePrinted, IsPrinted, above-append, entries-above, tokens_of-entries}
use Rattle.fc_typed.specs.Guess.{AreCounts, LacksFirst, LacksFirstOfEach, foundation_line, with_foundations}
use Rattle.fc_typed.proofs.LineLemmas.{parts-split, trimmed, trimmed-cons}
use Rattle.fc_typed.proofs.StandLemmas.{dealt, line_stands, stands_in, told_at}

-- one number of cards is lacked
more_lacked : (text : List ℕ) (s n m : ℕ) → s < 4 → LacksFirst text s n → LacksFirst text s m → n < m → ⊥
more_lacked text s n m few p q less =
    let c = 4 * n + s in
    let most = q.most in
    let up : rank c ≡ n + 1 = omega arith in
    let same : suit c ≡ s = omega arith in
    p.next c (omega arith) same up (q.lacks c (omega arith) same (omega arith))

pub lacks_once : (text : List ℕ) (s n m : ℕ) → s < 4 → LacksFirst text s n → LacksFirst text s m → n ≡ m
lacks_once text s n m few p q = ⊎_elim
    (λ e. e)
    (⊎_elim (λ lt. absurd (more_lacked text s n m few p q lt)) (λ gt. absurd (more_lacked text s m n few q p gt)))
    (cases_order n m)

-- the foundation line, by four numbers
abbrev line_by : ℕ → ℕ → ℕ → ℕ → List ℕ
line_by c d h s = foundation_line (c ∷ d ∷ h ∷ s ∷ [])

pub line_once : (text xs ys : List ℕ) → LacksFirstOfEach text xs → LacksFirstOfEach text ys → foundation_line xs ≡ foundation_line ys
line_once text xs ys p q =
    let same : (s : ℕ) → s < 4 → slice_index xs s ≡ slice_index ys s =
    λ s few. lacks_once text s (slice_index xs s) (slice_index ys s) few (p s few) (q s few) in
    ap (λ x. line_by x (slice_index xs 1) (slice_index xs 2) (slice_index xs 3)) (same 0 (omega arith))
    ∙ ap (λ x. line_by (slice_index ys 0) x (slice_index xs 2) (slice_index xs 3)) (same 1 (omega arith))
    ∙ ap (λ x. line_by (slice_index ys 0) (slice_index ys 1) x (slice_index xs 3)) (same 2 (omega arith))
    ∙ ap (λ x. line_by (slice_index ys 0) (slice_index ys 1) (slice_index ys 2) x) (same 3 (omega arith))

-- what the line has is printed
rank_above : (r : ℕ) → IsRank r → 32 < rank_letter r
rank_above = by_rank (λ r. 32 < rank_letter r)
    (omega arith) (omega arith) (omega arith) (omega arith) (omega arith) (omega arith) (omega arith)
    (omega arith) (omega arith) (omega arith) (omega arith) (omega arith) (omega arith)

suit_above : (s : ℕ) → s < 4 → 32 < suit_letter s
suit_above = by_suit (λ s. 32 < suit_letter s) (omega arith) (omega arith) (omega arith) (omega arith)

count_above : (n : ℕ) → n ≤ 13 → 32 < count_letter n
count_above zero most = omega arith
count_above (suc r) most = rank_above (suc r) (record { least = omega arith; greatest = omega arith })

home_printed : (s n : ℕ) → s < 4 → n ≤ 13 → IsPrinted (home_text s n)
home_printed s n below most = (suit_above s below, (omega arith, (count_above n most, tt)))

count_spelled : (n : ℕ) → n ≤ 13 → SpellsCount (count_letter n ∷ []) n
count_spelled zero most = inl (refl, refl)
count_spelled (suc r) most =
    let ranked : IsRank (suc r) = record { least = omega arith; greatest = omega arith } in
    inr (ranked, inl (rank_letter (suc r), refl, rank_letter-upper (suc r) ranked))

home_spelled : (s n : ℕ) → s < 4 → n ≤ 13 → SpellsHome (home_text s n) s n
home_spelled s n below most = record {
  suit_part = suit_letter s;
  rank_part = count_letter n ∷ [];
  parts = refl;
  suit = suit_letter-upper s below;
  count = count_spelled n most;
}

foundations_above : AllAbove 31 (codes "Foundations:")
foundations_above = search rules

abbrev IsBody : ℕ → Type 0
IsBody b = is_line_end b ≡ false

above_body : (b : ℕ) → 31 < b → is_line_end b ≡ false
above_body b above = grind (arith, nat_tests)

bodies : (bytes : List ℕ) → AllAbove 31 bytes → All IsBody bytes
bodies [] p = All-nil IsBody
bodies (b ∷ bytes) p = All-cons IsBody b bytes (above_body b p.0) (bodies bytes p.1)

no_return : (bytes : List ℕ) (i : ℕ) → AllAbove 31 bytes → (slice_index bytes i == 13) ≡ false
no_return [] i p = refl
no_return (b ∷ bytes) zero p = let above = p.0 in grind (arith, nat_tests)
no_return (b ∷ bytes) (suc i) p = no_return bytes i p.1

-- what is made of a list's elements is made of one of them
listed_map : {A B : Type 0} (f : A → B) (xs : List A) (y : B) → Contains (map f xs) y → (x : A) × (f x ≡ y)
listed_map f [] y found = absurd (omega (arith, found.1))
listed_map f (x ∷ xs) y (zero, within, same) = (x, same)
listed_map f (x ∷ xs) y (suc k, within, same) = listed_map f xs y (k, omega arith, same)

-- a card of a line that is no foundation line is in the lines behind it
in_behind : (text : List ℕ) (first line : Line) (c : ℕ) → (HasCard c first → ⊥) → Contains (first ∷ board_lines text) line → HasCard c line
    → TellsNowhere text c → ⊥
in_behind text first line c homes (zero, within, same) has nowhere = homes (subst (HasCard c) (sym same) has)
in_behind text first line c homes (suc k, within, same) has nowhere = nowhere line (k, omega arith, same) has

module _ (counts text : List ℕ) (most : AreCounts counts) where
  abbrev entries : List (List ℕ)
  entries = map (λ s. home_text s (slice_index counts s)) (2 ∷ 0 ∷ 1 ∷ 3 ∷ [])

  abbrev homes_line : Line
  homes_line = sorted_line (Some (entries_text entries)) None (foundation_line counts)

  printed : ArePrinted entries
  printed = (
    home_printed 2 (slice_index counts 2) (omega arith) (most 2 (omega arith)),
    (
      home_printed 0 (slice_index counts 0) (omega arith) (most 0 (omega arith)),
      (
        home_printed 1 (slice_index counts 1) (omega arith) (most 1 (omega arith)),
        (home_printed 3 (slice_index counts 3) (omega arith) (most 3 (omega arith)), tt),
      ),
    ),
  )

  above : AllAbove 31 (foundation_line counts)
  above = above-append 31 (codes "Foundations:") (entries_text entries) foundations_above (entries-above entries printed)

  -- the lines of the text behind it
  lines_behind : board_lines (with_foundations counts text) ≡ line_of (foundation_line counts) ∷ board_lines text
  lines_behind =
      let line = foundation_line counts in
      let pieces = slice_split is_line_end text in
      let whole : with_foundations counts text ≡ line ++ 10 ∷ text = append_assoc line (10 ∷ []) text in
      let cut : parts_of is_line_end (with_foundations counts text) ≡ line ∷ parts_of is_line_end text =
      ap (parts_of is_line_end) whole ∙ parts-split is_line_end (line ++ 10 ∷ text)
      ∙ ap trimmed (slice_split_at is_line_end line 10 text (bodies line above) refl)
      ∙ trimmed-cons line pieces (omega (arith, length-slice_split is_line_end text))
      ∙ ap (λ ls. line ∷ ls) (sym (parts-split is_line_end text)) in
      let body : without_return line ≡ line = cond-false _ _ line (no_return line (length line - 1) above) in
      ap (λ ps. map line_of (map without_return ps)) cut ∙ ap (λ l. line_of l ∷ board_lines text) body

  told : line_of (foundation_line counts) ≡ homes_line
  told = refl

  tokens : (line_of (foundation_line counts)).tokens ≡ entries
  tokens = tokens_of-entries entries printed

  -- the board that they spell has these counts
  module _ (n : ℕ) (game : n ≤ 4) (b : Board) (spells : Spells n (with_foundations counts text) b) where
    abbrev four : List ℕ
    four = slice_index counts 0 ∷ slice_index counts 1 ∷ slice_index counts 2 ∷ slice_index counts 3 ∷ []

    abbrev is_homes : Line → Bool
    is_homes l = is_foundations l.kind

    four_spelled : (s : ℕ) → s < 4 → SpellsHomeIn entries s (slice_index four s)
    four_spelled =
        by_suit (λ s. SpellsHomeIn entries s (slice_index four s))
        (inl (home_text 0 (slice_index counts 0), (1, omega arith, refl), home_spelled 0 (slice_index counts 0) (omega arith) (most 0 (omega arith))))
        (inl (home_text 1 (slice_index counts 1), (2, omega arith, refl), home_spelled 1 (slice_index counts 1) (omega arith) (most 1 (omega arith))))
        (inl (home_text 2 (slice_index counts 2), (0, omega arith, refl), home_spelled 2 (slice_index counts 2) (omega arith) (most 2 (omega arith))))
        (inl (home_text 3 (slice_index counts 3), (3, omega arith, refl), home_spelled 3 (slice_index counts 3) (omega arith) (most 3 (omega arith))))

    with_four : Board
    with_four = record b { homes = four }

    four_homes : (s : ℕ) → s < 4 → SpellsHomeIn (told_at is_homes (board_lines (with_foundations counts text)) 0) s (slice_index four s)
    four_homes s few =
        let line = line_of (foundation_line counts) in
        let first : SpellsHomeIn line.tokens s (slice_index four s) =
        subst (λ ts. SpellsHomeIn ts s (slice_index four s)) (sym tokens) (four_spelled s few) in
        subst (λ ls. SpellsHomeIn (told_at is_homes ls 0) s (slice_index four s)) (sym lines_behind) first

    board_same : with_four ≡ b
    unfolding with_four
    board_same =
        board_once (board_lines (with_foundations counts text)) with_four b (no_twice n (board_lines (with_foundations counts text)) spells.sound)
        (record {
          shape = record { columns = spells.position.columns; cells = spells.position.cells; homes = refl };
          columns = λ i few. spells.spelled.columns i few;
          cells = λ i few. spells.spelled.cells i few;
          homes = four_homes;
        })
        spells.spelled

    homes_are : (s : ℕ) → s < 4 → slice_index counts s ≡ home b s
    unfolding with_four
    homes_are =
        by_suit (λ s. slice_index counts s ≡ home b s) (ap (λ x. home x 0) board_same) (ap (λ x. home x 1) board_same)
        (ap (λ x. home x 2) board_same) (ap (λ x. home x 3) board_same)

    -- a card in a line of the text stands
    told_stands : (c : ℕ) (line : Line) → Contains (board_lines text) line → HasCard c line → 0 < dealt b c
    told_stands c line found has =
        let lines = board_lines text in
        let first = line_of (foundation_line counts) in
        let k = found.0 in
        let cut : lines ≡ take k lines ++ line ∷ drop (k + 1) lines =
        sym (take-append-drop k lines)
        ∙ ap (λ ls. take k lines ++ ls) (drop_more lines k line found.1 ∙ ap (λ l. l ∷ drop (k + 1) lines) found.2) in
        let part = listed_map line_of (lines_of text) line found in
        let body = part.0 in
        let whole : board_lines (with_foundations counts text) ≡ (first ∷ take k lines) ++ line_of body ∷ drop (k + 1) lines =
        lines_behind ∙ ap (λ ls. first ∷ ls) cut ∙ ap (λ l. (first ∷ take k lines) ++ l ∷ drop (k + 1) lines) (sym part.1) in
        line_stands n (with_foundations counts text) b game spells (after_name foundation_names (after_blanks body))
        (after_name cell_names (after_blanks body)) (after_blanks body) (first ∷ take k lines) (drop (k + 1) lines) c whole
        (subst (HasCard c) (sym part.1) has)

    -- a card that stands is in a line of the text
    stands_told : (c : ℕ) → 0 < dealt b c → TellsNowhere text c → ⊥
    stands_told c some' nowhere =
        let at = stands_in n (with_foundations counts text) b game spells c some' in
        let found : Contains (line_of (foundation_line counts) ∷ board_lines text) at.0 =
        subst (λ ls. Contains ls at.0) lines_behind at.1 in
        in_behind text (line_of (foundation_line counts)) at.0 c (λ has. has.0 refl) found at.2 nowhere

    -- so of each suit the text lacks those that are home
    pub only_counts : LacksFirstOfEach text counts
    only_counts s few =
        let same_home = homes_are s few in
        record {
          most = most s few;
          lacks = λ c below same up line found has.
              let whole = spells.position.once c below in
              let there = ap (slice_index b.homes) same in
              let at_home : count_at_home c b.homes ≡ 1 =
              ap (λ t. cond t 1 0) (le-leb (rank c) (slice_index b.homes (suit c)) (omega (arith, up, same_home, there))) in
              let stands = told_stands c line found has in
              omega (arith, whole, at_home, stands);
          next = λ c below same up.
              let whole = spells.position.once c below in
              let there = ap (slice_index b.homes) same in
              let not_home : count_at_home c b.homes ≡ 0 =
              ap (λ t. cond t 1 0) (lt-leb (rank c) (slice_index b.homes (suit c)) (omega (arith, up, same_home, there))) in
              stands_told c (omega (arith, whole, not_home));
        }

-- where the text behind the line of what it lacks spells no position, it spells none behind any line
pub no_line : (n : ℕ) (text given : List ℕ) → n ≤ 4 → LacksFirstOfEach text given
    → ((b : Board) → Spells n (with_foundations given text) b → ⊥)
    → (counts : List ℕ) (b : Board) → AreCounts counts → Spells n (with_foundations counts text) b → ⊥
no_line n text given game lacks none counts b most spells =
    let same = line_once text counts given (only_counts counts text most n game b spells) lacks in
    none b (subst (λ line. Spells n (with_line_end line ++ text) b) same spells)
